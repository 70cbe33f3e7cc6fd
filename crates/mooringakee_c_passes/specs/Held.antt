-- What a pointer owns.
use Rattle.std.specs.Prelude.{Option, Some, None}
use base.Fml.{Fml, fex, ftrue}
use denote.RattleType.{RattleType}
use denote.RawPtr.{Ptr}
use Rattle.std.specs.Global.{Global}
use Rattle.std.specs.Box.Ownership.{box_owns}
use Rattle.std_heap.specs.contracts.GlobalAllocator.TheImpl.{ghosts}

-- a box with this value, which has the property, or nothing
unfoldable pub held_box : Global → (R : RattleType) → (R.Denot → Type 0) → Option R.Denot → Ptr → Fml
held_box heap R P (Some x) at = fex (P x) (λ _. box_owns (ghosts.dealloc_token heap) R at x)
held_box heap R P None at = ftrue
