-- Lists of events over a heap.
use Rattle.std.specs.Prelude.{Bool, List, None, Option, Some, [], false, ℕ, ◌++◌, ◌==◌, ◌∷◌, ◌≡◌}
use Rattle.std.specs.List.{list_any}
use Rattle.orc_heap.specs.Acts.{Fits, heap_after}
use Rattle.orc_heap.specs.Heap.{Heap, HeapNumbers, new_heap}
use Rattle.orc_heap.specs.declared.events.Act.{Act}
use Rattle.orc_heap.specs.declared.events.Act.TheVariants.{Aim, AimSide, Move}
use Rattle.orc_heap.specs.declared.events.Event.{Event}

-- an act of this agent with this note
abbrev pub event_by : {N : Type 0} → ℕ → Act → Option N → Event N
event_by agent act noted = record { agent = agent; act = act; note = noted }

-- the entries that the notes of the events enter in a history, where `entries_in` says which a note enters
abbrev pub noted_entries : {N E : Type 0} → (Option N → List E) → List (Event N) → List E
noted_entries entries_in [] = []
noted_entries entries_in (e ∷ es) = entries_in e.note ++ noted_entries entries_in es

-- the heap after these events
abbrev pub run_from : {N : Type 0} → Heap → List (Event N) → Heap
run_from h [] = h
run_from h (e ∷ es) = run_from (heap_after e.agent e.act h) es

-- the same, from a new heap on
abbrev pub run_heap : {N : Type 0} → HeapNumbers → List (Event N) → Heap
run_heap n es = run_from (new_heap n) es

-- each event fits where it stands
abbrev pub IsLawfulFrom : {N : Type 0} → Heap → List (Event N) → Type 0
IsLawfulFrom h [] = Unit {0}
IsLawfulFrom h (e ∷ es) = Fits e.agent e.act h × IsLawfulFrom (heap_after e.agent e.act h) es

-- the same, from a new heap on
abbrev pub IsLawful : {N : Type 0} → HeapNumbers → List (Event N) → Type 0
IsLawful n es = IsLawfulFrom (new_heap n) es

-- the event fits after these events
abbrev pub FitsAfter : {N : Type 0} → HeapNumbers → List (Event N) → Event N → Type 0
FitsAfter n es e = Fits e.agent e.act (run_heap n es)

-- the target is this node
abbrev pub names_node : Option ℕ → ℕ → Bool
names_node None id = false
names_node (Some i) id = i == id

-- the act is a Move that makes a link to the node
abbrev pub moves_to : Act → ℕ → Bool
moves_to (Move place from to) id = names_node to.to id
moves_to act id = false

-- the act is an Aim, an AimSide or a Move that makes a link to the node
abbrev pub points_to : Act → ℕ → Bool
points_to (Aim i to) id = names_node to id
points_to (AimSide i to) id = names_node to id
points_to act id = moves_to act id

-- some Move made a link to the node
abbrev pub is_once_linked : {N : Type 0} → List (Event N) → ℕ → Bool
is_once_linked es id = list_any (λ e. moves_to e.act id) es

-- some Aim, AimSide or Move made a link to the node
abbrev pub is_once_named : {N : Type 0} → List (Event N) → ℕ → Bool
is_once_named es id = list_any (λ e. points_to e.act id) es

-- neither a Move, nor an Aim or AimSide with a target
abbrev pub IsPlainAct : Act → Type 0
IsPlainAct (Aim id (Some to)) = ⊥
IsPlainAct (AimSide id (Some to)) = ⊥
IsPlainAct (Move place from to) = ⊥
IsPlainAct act = Unit {0}

-- the event has no note, and makes no link
abbrev pub IsPlain : {N : Type 0} → Event N → Type 0
IsPlain e = (e.note ≡ None) × IsPlainAct e.act
