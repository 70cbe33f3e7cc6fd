-- A discipline in the small: each agent has a root of its own, that of its number, which it alone changes.
use Rattle.std.specs.Prelude.{List, Option, Some, false, ℕ, ◌≡◌}
use Rattle.orc_heap.specs.Heap.{HeapNumbers}
use Rattle.orc_heap.specs.Journals.{FitsAfter, IsLawful}
use Rattle.orc_heap.specs.declared.events.Act.{Act}
use Rattle.orc_heap.specs.declared.events.Act.TheVariants.{Move}
use Rattle.orc_heap.specs.declared.events.Event.{Event}
use Rattle.orc_heap.specs.declared.events.Place.TheVariants.{Next, Root, Side}

-- if the act is a Move: it is of the agent's own root, makes an unmarked link, and is noted with the agent's number
abbrev pub IsOwnMove : ℕ → Act → Option ℕ → Type 0
IsOwnMove agent (Move (Root r) from to) noted = (r ≡ agent) × (to.mark ≡ false) × (noted ≡ Some agent)
IsOwnMove agent (Move (Next id) from to) noted = ⊥
IsOwnMove agent (Move (Side id) from to) noted = ⊥
IsOwnMove agent act noted = Unit {0}

-- the events are lawful
abbrev pub OwnRootsHolds : HeapNumbers → List (Event ℕ) → Type 0
OwnRootsHolds n seen = IsLawful n seen

-- the event fits, and if it is a Move it is of the agent's own root
abbrev pub OwnRootsMay : HeapNumbers → List (Event ℕ) → Event ℕ → Type 0
OwnRootsMay n seen e = FitsAfter n seen e × IsOwnMove e.agent e.act e.note
