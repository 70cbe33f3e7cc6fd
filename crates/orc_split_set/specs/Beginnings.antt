-- Where a search for a node begins: at the dummy of the nearest bucket that has one.
use Rattle.std.specs.Prelude.{List, None, Option, Some, ℕ, ◌≡◌, ◌≤◌}
use Rattle.orc_heap.specs.Heap.{HeapNumbers}
use Rattle.orc_heap.specs.Seats.{Seat, heap_of}
use Rattle.orc_heap.specs.declared.events.Event.{Event}
use Rattle.orc_heap.specs.declared.events.Place.{Place}
use Rattle.orc_ordered_search.specs.Searches.{FindsMoved, Quiet}
use Rattle.orc_split_rule.specs.SplitDiscipline.{size_of}
use Rattle.orc_split_rule.specs.SplitOrder.{bucket_of}
use Rattle.orc_split_rule.specs.declared.split.SplitNote.{SplitNote}
use Rattle.orc_split_set.specs.Crowds.{BeginsBy, SeesOwn}
use Rattle.orc_split_set.specs.Looks.{HasStart, StartsAt}
use Rattle.orc_split_set.specs.NewNodes.{place_for, node_value}
use Rattle.orc_split_set.specs.SplitSearches.{BeginsAt, split_reading}
use Rattle.orc_split_set.specs.declared.begin.Begun.{Begun}
use Rattle.orc_split_set.specs.declared.begin.Begun.TheVariants.{From, Moved}
use Rattle.orc_split_set.specs.declared.node.NewNode.{NewNode}
use Rattle.orc_split_set.specs.declared.node.NewNode.TheVariants.{Dummy, Key}

-- the seat in which a search begins: the pass has seen as much as now, and holds what it held before
abbrev pub seat_before : Seat SplitNote → Seat SplitNote → Seat SplitNote
seat_before s t = record { agent = s.agent; seen = t.seen; slots = s.slots; fresh = s.fresh }

-- so many buckets tell where a search for this node may begin: at a key's bucket, or before a dummy
abbrev pub MayBeginAt : NewNode → ℕ → Type 0
MayBeginAt (Key key) size = Unit {0}
MayBeginAt (Dummy bucket) size = size ≤ bucket

-- the pass made only loads, and holds what it held
pub record Held (n : HeapNumbers) (s t : Seat SplitNote) : Type 0 where
  pub own : List (Event SplitNote)
  pub quiet : Quiet (split_reading n) s own t
  pub slots : t.slots ≡ s.slots

-- after loads a search for the node begins, with what it begins at in hand, and this is so of where it begins
pub record BeginsFrom (n : HeapNumbers) (new : NewNode) (s t : Seat SplitNote) (Begins Near : Place → Type 0) : Type 0 where
  pub own : List (Event SplitNote)
  pub quiet : Quiet (split_reading n) s own (seat_before s t)
  pub start : Place
  pub begins : Begins start
  pub near : Near start

-- a search for a node begins, or a link moved meanwhile
abbrev pub BeginsNear : HeapNumbers → NewNode → (Place → Type 0) → Seat SplitNote → Begun → Seat SplitNote → Type 0
BeginsNear n new Near s Moved t = FindsMoved (split_reading n) s t
BeginsNear n new Near s (From left) t = BeginsFrom n new s t (λ start. BeginsAt n start (place_for new) left (seat_before s t) t) Near

-- it begins where the bucket does, if that has a start and the pass saw only own events
abbrev pub StartsIf : HeapNumbers → Seat SplitNote → Seat SplitNote → ℕ → Place → Type 0
StartsIf n s t bucket start = SeesOwn s t → HasStart (heap_of n t) bucket → StartsAt (heap_of n t) bucket start

-- it begins by the bucket of the node, where there are so many buckets
abbrev pub BeginsByBucket : HeapNumbers → NewNode → ℕ → Seat SplitNote → Begun → Seat SplitNote → Type 0
BeginsByBucket n new size s begun t =
    BeginsNear n new (λ start. BeginsBy (heap_of n t) start (bucket_of (node_value new) size) × StartsIf n s t (bucket_of (node_value new) size) start) s begun t

-- it begins, or is looked for at fewer buckets
abbrev pub GoesNear : HeapNumbers → NewNode → ℕ → Seat SplitNote → Option Begun → Seat SplitNote → Type 0
GoesNear n new size s None t = Held n s t
GoesNear n new size s (Some begun) t = BeginsByBucket n new size s begun t

-- a search for a key begins by the key's bucket, if the pass saw only own events
abbrev pub BeginsKey : HeapNumbers → ℕ → Seat SplitNote → Begun → Seat SplitNote → Type 0
BeginsKey n key s begun t =
    BeginsNear n (Key key) (λ start. SeesOwn s t → BeginsBy (heap_of n t) start (bucket_of key (size_of n s.seen))
    × (HasStart (heap_of n t) (bucket_of key (size_of n s.seen)) → StartsAt (heap_of n t) (bucket_of key (size_of n s.seen)) start)) s begun t
