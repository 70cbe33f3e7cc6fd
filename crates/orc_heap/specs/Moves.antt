-- Moves and Gives in a list of events, and the list from an agent's first event on.
use Rattle.std.specs.List.{list_all}
use Rattle.std.specs.Prelude.{Bool, List, Some, [], false, if◌then◌else◌, true, ℕ, ◌+◌, ◌==◌, ◌∷◌, ◌≡◌, ◌≤◌, ◌⊎◌}
use Rattle.orc_heap.specs.Allowed.{IsLinkedNode}
use Rattle.orc_heap.specs.Heap.{Heap, HeapNumbers, shown}
use Rattle.orc_heap.specs.Seats.{Seat, heap_of}
use Rattle.orc_heap.specs.declared.events.Act.{Act}
use Rattle.orc_heap.specs.declared.events.Act.TheVariants.{Give, Move}
use Rattle.orc_heap.specs.declared.events.Event.{Event}
use Rattle.orc_heap.specs.declared.events.Link.{Link}
use Rattle.orc_heap.specs.declared.events.Place.{Place}
use Rattle.orc_heap.specs.declared.events.Place.TheVariants.{Next, Root, Side}

-- 1 for a Move, and 0 for any other act
abbrev pub move_with : Act → ℕ
move_with (Move place from to) = 1
move_with act = 0

-- how many Moves stand in the events
abbrev pub moves_in : {N : Type 0} → List (Event N) → ℕ
moves_in [] = 0
moves_in (e ∷ es) = move_with e.act + moves_in es

-- 1 for a Give, and 0 for any other act
abbrev pub give_with : Act → ℕ
give_with Give = 1
give_with act = 0

-- how many Gives stand in the events
abbrev pub gives_in : {N : Type 0} → List (Event N) → ℕ
gives_in [] = 0
gives_in (e ∷ es) = give_with e.act + gives_in es

-- the events from the agent's first one on
abbrev pub from_own : {N : Type 0} → ℕ → List (Event N) → List (Event N)
from_own agent [] = []
from_own agent (e ∷ es) = if e.agent == agent then e ∷ es else from_own agent es

-- each event is the agent's
abbrev pub AllOwn : {N : Type 0} → ℕ → List (Event N) → Type 0
AllOwn agent es = list_all (λ e. e.agent == agent) es ≡ true

-- a root, or a link of a once linked node
abbrev pub IsLinkedPlace : Place → Heap → Type 0
IsLinkedPlace (Root r) h = Unit {0}
IsLinkedPlace (Next id) h = IsLinkedNode h id
IsLinkedPlace (Side id) h = IsLinkedNode h id

-- the two places are the same
abbrev pub is_at : Place → Place → Bool
is_at (Root r) (Root q) = r == q
is_at (Next i) (Next j) = i == j
is_at (Side i) (Side j) = i == j
is_at one two = false

-- the act is a Move of this place
abbrev pub moves_place : Place → Act → Bool
moves_place place (Move at from to) = is_at at place
moves_place place act = false

-- the place still shows the link, or a Move stands in what is new, after an own event
abbrev pub ShowsOrMoved : {N : Type 0} → HeapNumbers → Place → Link → (s t : Seat N) → List (Event N) → Type 0
ShowsOrMoved n place link s t part = (shown (heap_of n t) place ≡ Some link) ⊎ (1 ≤ moves_in (from_own s.agent part))
