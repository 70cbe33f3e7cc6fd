-- What a search in split order has seen.
use Rattle.std.specs.Prelude.{Bool, Err, List, None, Ok, Option, Result, Some, false, length, true, ℕ, ◌==◌, ◌≡◌, ◌≢◌, ◌≤◌, ◌⊎◌}
use Rattle.orc_fault.specs.declared.Again.{Again as AgainFault}
use Rattle.orc_heap.specs.Heap.{Heap, HeapNumbers}
use Rattle.orc_heap.specs.Moves.{from_own, moves_in}
use Rattle.orc_heap.specs.Seats.{Seat, heap_of}
use Rattle.orc_heap.specs.Slots.{Hold}
use Rattle.orc_heap.specs.declared.events.Event.{Event}
use Rattle.orc_heap.specs.declared.events.Place.{Place}
use Rattle.orc_ordered_search.specs.Reading.{Manner, Reading, reading_by}
use Rattle.orc_ordered_search.specs.Searches.{Begins, FindsMoved, Quiet}
use Rattle.orc_ordered_search.specs.Turns.{Tires}
use Rattle.orc_split_rule.specs.SplitDiscipline.{IsDummy, IsSize, entries_in, greatest, size_of}
use Rattle.orc_split_rule.specs.SplitOrder.{dummy_place, key_place, split_order}
use Rattle.orc_split_rule.specs.declared.split.SplitNote.{SplitNote}
use Rattle.orc_split_set.specs.declared.order.SplitPlace.{SplitPlace}

-- the second value of a node says that it has a key
abbrev pub says_key : Option ℕ → Bool
says_key None = false
says_key (Some second) = second == 1

-- the events of a split-ordered set, where nodes with keys are counted
abbrev pub split_manner : HeapNumbers → Manner SplitNote
split_manner n = record { order = split_order; entries_in = entries_in; counts = λ first second. says_key second }

abbrev pub split_reading : HeapNumbers → Reading SplitNote
split_reading n = reading_by n split_manner

-- a place in split order as a number
abbrev pub split_place : ℕ → Bool → ℕ
split_place value true = key_place value
split_place value false = dummy_place value

abbrev pub rank_of_place : SplitPlace → ℕ
rank_of_place place = split_place place.value place.has_key

-- the node is a dummy, if there is one
abbrev pub IsDummyIfAny : Heap → Option Hold → ℕ → Type 0
IsDummyIfAny h None id = Unit {0}
IsDummyIfAny h (Some hold) id = (bucket : ℕ) × IsDummy h id bucket

-- a search begins at root 0, or at the link of a dummy in hand
pub record BeginsAt (n : HeapNumbers) (start : Place) (wanted : ℕ) (left : Option Hold) (s t : Seat SplitNote) : Type 0 where
  pub begins : Begins (split_reading n) start wanted left s t
  pub dummy : IsDummyIfAny (heap_of n t) left begins.left_id

-- a read of the size: two Looks at the most, and the pass holds what it held; or the link moved meanwhile
pub record SizeRead (n : HeapNumbers) (size : ℕ) (s t : Seat SplitNote) : Type 0 where
  pub own : List (Event SplitNote)
  pub quiet : Quiet (split_reading n) s own t
  pub few : length own ≤ 2
  pub slots : t.slots ≡ s.slots
  pub is_size : IsSize (greatest n) size
  -- there were so many buckets at a moment of the read
  pub was : (size_of n s.seen ≤ size) × (size ≤ size_of n t.seen)
  -- and there still are, or a Move stands after an own event
  pub still : (size_of n t.seen ≡ size) ⊎ (1 ≤ moves_in (from_own s.agent quiet.puts.part))

abbrev pub ReadsSize : HeapNumbers → Seat SplitNote → Option ℕ → Seat SplitNote → Type 0
ReadsSize n s None t = FindsMoved (split_reading n) s t
ReadsSize n s (Some size) t = SizeRead n size s t

-- turns of which the last read the size: the pass made only loads, and holds what it held
pub record SizeFound (n : HeapNumbers) (size : ℕ) (s t : Seat SplitNote) : Type 0 where
  pub own : List (Event SplitNote)
  pub quiet : Quiet (split_reading n) s own t
  pub slots : t.slots ≡ s.slots
  pub is_size : IsSize (greatest n) size
  pub was : (size_of n s.seen ≤ size) × (size ≤ size_of n t.seen)

-- at most so many turns of a read of the size
abbrev pub ReadsSizeIn : HeapNumbers → ℕ → Seat SplitNote → Result ℕ AgainFault → Seat SplitNote → Type 0
ReadsSizeIn n turns s (Ok size) t = (turns ≢ 0) × SizeFound n size s t
ReadsSizeIn n turns s (Err again) t = Tires (split_reading n) turns s t
