-- The keys that stand before a key in its bucket, and what an insert tells of them whose pass saw no other agent's event. After Shalev and
-- Shavit 2006.
use Rattle.std.specs.Prelude.{List, filter, length, min, nat_lt, ℕ, ◌&&◌, ◌++◌, ◌≡◌, ◌≤◌}
use Rattle.orc_heap.specs.Heap.{Heap, HeapNumbers}
use Rattle.orc_heap.specs.Moves.{AllOwn}
use Rattle.orc_heap.specs.Seats.{Seat}
use Rattle.orc_heap.specs.declared.events.Event.{Event}
use Rattle.orc_heap.specs.declared.events.Place.{Place}
use Rattle.orc_heap.specs.declared.events.Place.TheVariants.{Next, Root, Side}
use Rattle.orc_split_rule.specs.SplitDiscipline.{IsDummy, set_after, size_of}
use Rattle.orc_split_rule.specs.SplitOrder.{bucket_of, dummy_place, key_place}
use Rattle.orc_split_rule.specs.declared.split.SplitNote.{SplitNote}

-- of these keys, those that stand in split order between the start of a bucket and a key
abbrev pub keys_between : ℕ → ℕ → List ℕ → List ℕ
keys_between bucket key keys = filter (λ k. nat_lt (dummy_place bucket) (key_place k) && nat_lt (key_place k) (key_place key)) keys

-- the keys of the set after the events that stand between the start of the key's bucket and the key
abbrev pub keys_before : HeapNumbers → ℕ → List (Event SplitNote) → List ℕ
keys_before n key es = keys_between (bucket_of key (size_of n es)) key (set_after es)

-- all that the pass has newly seen are its own events
pub record SeesOwn (s t : Seat SplitNote) : Type 0 where
  pub part : List (Event SplitNote)
  pub is : t.seen ≡ s.seen ++ part
  pub own : AllOwn s.agent part

-- the seat once these events were seen besides
abbrev pub seat_after : Seat SplitNote → List (Event SplitNote) → Seat SplitNote
seat_after s gap = record { agent = s.agent; seen = s.seen ++ gap; slots = s.slots; fresh = s.fresh }

-- a search begins at root 0, or at the dummy of a bucket that begins no later than this one
abbrev pub BeginsBy : Heap → Place → ℕ → Type 0
BeginsBy h (Root r) bucket = r ≡ 0
BeginsBy h (Next id) bucket = (old : ℕ) × IsDummy h id old × (dummy_place old ≤ dummy_place bucket)
BeginsBy h (Side id) bucket = ⊥

-- where the pass saw only own events, so many nodes passed are no fewer than the keys of the set between the start of the bucket and the
-- key, up to 9
abbrev pub CountsFrom : ℕ → ℕ → Seat SplitNote → ℕ → Seat SplitNote → Type 0
CountsFrom bucket key s passed t = SeesOwn s t → min (length (keys_between bucket key (set_after s.seen))) 9 ≤ passed

-- the same of the key's bucket
abbrev pub CountsKeys : HeapNumbers → ℕ → Seat SplitNote → ℕ → Seat SplitNote → Type 0
CountsKeys n key s passed t = SeesOwn s t → min (length (keys_before n key s.seen)) 9 ≤ passed
