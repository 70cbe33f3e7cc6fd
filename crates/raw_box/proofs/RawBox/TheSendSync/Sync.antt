-- A reference to a raw box shows nothing of its value.
use denote.RattleType.{RattleType}
use denote.Param.Send.{IsSend, IsSync, Frees, part_keyless}
use Rattle.core.specs.declared.alloc.Allocator.{Ghosts}
use Rattle.raw_box.specs.contracts.RawBox.{the_row}
use Rattle.raw_box.proofs.RawBox.TheSendSync.Send.{send}

pub sync : (T A : RattleType) (g : Ghosts A.Denot) → IsSend T → IsSend A → Frees g g.dealloc_token → IsSync (the_row T A g)
sync T A g s sa f = record { shared = λ d b o ν q. part_keyless (the_row T A g) (send T A g s sa f) q d b o }
