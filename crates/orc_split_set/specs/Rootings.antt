-- What a call does for its key's bucket before its turns. After Shalev and Shavit 2006.
use Rattle.std.specs.Prelude.{List, Option, Some, [], length, ℕ, ◌++◌, ◌≡◌, ◌≢◌, ◌≤◌}
use Rattle.orc_heap.specs.Allowed.{events_by}
use Rattle.orc_heap.specs.Heap.{Heap, HeapNumbers}
use Rattle.orc_heap.specs.Moves.{AllOwn, from_own}
use Rattle.orc_heap.specs.Seats.{Seat, heap_of}
use Rattle.orc_heap.specs.Slots.{Hold}
use Rattle.orc_heap.specs.declared.events.Event.{Event}
use Rattle.orc_heap.specs.declared.events.Place.{Place}
use Rattle.orc_heap.specs.declared.events.Place.TheVariants.{Root}
use Rattle.orc_ordered_chains.specs.Chains.{LeadsTo}
use Rattle.orc_ordered_search.specs.Causes.{others_moves}
use Rattle.orc_ordered_search.specs.Inserts.{AddsAt, HasRoomFor, InsertCall, slots_with}
use Rattle.orc_ordered_search.specs.Searches.{LetsGo}
use Rattle.orc_ordered_search.specs.Turns.{Tries}
use Rattle.orc_split_rule.specs.SplitDiscipline.{IsSize, greatest, size_of}
use Rattle.orc_split_rule.specs.SplitOrder.{bucket_of, dummy_place}
use Rattle.orc_split_rule.specs.declared.split.SplitNote.{SplitNote}
use Rattle.orc_split_set.specs.SplitSearches.{split_reading}
use Rattle.orc_split_set.specs.declared.bucket.Rooted.{Rooted}
use Rattle.orc_split_set.specs.declared.bucket.Rooted.TheVariants.{Done, Moved, NoNode, Spent}

-- the root isn't null
abbrev pub IsRootSet : Heap → ℕ → Type 0
IsRootSet h root = (id : ℕ) × LeadsTo h (Root root) (Some id)

-- what came of a bucket's root by its swing from null to the bucket's dummy: unless that was refused, it isn't null
abbrev pub AnchorTells : HeapNumbers → ℕ → Rooted → Seat SplitNote → Type 0
AnchorTells n bucket Done t = IsRootSet (heap_of n t) bucket
AnchorTells n bucket Moved t = ⊥
AnchorTells n bucket NoNode t = ⊥
AnchorTells n bucket (Spent why) t = Unit {0}

-- the swing was tried
pub record Anchors (n : HeapNumbers) (bucket : ℕ) (s : Seat SplitNote) (result : Rooted) (t : Seat SplitNote) : Type 0 where
  pub tried : Tries (split_reading n) s t
  pub tells : AnchorTells n bucket result t

-- the same, and then the dummy was let go
pub record AnchorsAndGoes (n : HeapNumbers) (bucket : ℕ) (dummy : Hold) (s : Seat SplitNote) (result : Rooted) (t : Seat SplitNote) : Type 0 where
  pub mid : Seat SplitNote
  pub anchors : Anchors n bucket s result mid
  pub gone : LetsGo (Some dummy) mid t

-- the pass has a new dummy in slot 1, and a search found its place
pub record HasNewDummy (n : HeapNumbers) (bucket : ℕ) (left first right : Option Hold) (dummy : Hold) (s t : Seat SplitNote) : Type 0 where
  pub start : Place
  pub id : ℕ
  pub room : HasRoomFor s.slots
  pub slot_is : dummy.slot ≡ 1
  pub adds : AddsAt (split_reading n) start (dummy_place bucket) bucket 0 left first right dummy 1 (slots_with s.slots (Some dummy) id) s t
  pub id_is : adds.id ≡ id

-- what came of a bucket's root: it isn't null, unless the bucket is the first one; or another agent moved a link meanwhile
abbrev pub RootTells : HeapNumbers → ℕ → ℕ → List (Event SplitNote) → Rooted → Seat SplitNote → Type 0
RootTells n bucket agent part Done t = 1 ≤ bucket → IsRootSet (heap_of n t) bucket
RootTells n bucket agent part Moved t = 1 ≤ others_moves agent (from_own agent part)
RootTells n bucket agent part NoNode t = Unit {0}
RootTells n bucket agent part (Spent why) t = Unit {0}

-- the call's own events for it enter nothing, and give one node at the most; the pass holds what it held
pub record Roots (n : HeapNumbers) (bucket : ℕ) (s : Seat SplitNote) (result : Rooted) (t : Seat SplitNote) : Type 0 where
  pub own : List (Event SplitNote)
  pub call : InsertCall (split_reading n) s own [] t
  pub tells : RootTells n bucket s.agent call.made.puts.part result t

-- what is new in a journal, where no other agent's event stands from the agent's first one on: these are the events before it
pub record IsUndisturbed (agent : ℕ) (part gap : List (Event SplitNote)) : Type 0 where
  pub rest : List (Event SplitNote)
  pub is : part ≡ gap ++ rest
  pub others : events_by agent gap ≡ []
  pub own : AllOwn agent rest

-- there were so many buckets before the call, if it was undisturbed
abbrev pub HadBuckets : HeapNumbers → ℕ → Seat SplitNote → List (Event SplitNote) → Type 0
HadBuckets n size s part = (gap : List (Event SplitNote)) → IsUndisturbed s.agent part gap → size_of n (s.seen ++ gap) ≡ size

-- what came of the root of a key's bucket
abbrev pub KeyTells : HeapNumbers → ℕ → Seat SplitNote → List (Event SplitNote) → List (Event SplitNote) → Rooted → Seat SplitNote → Type 0
KeyTells n key s own part Done t = (1 ≤ length own) × (size : ℕ) × IsSize (greatest n) size × HadBuckets n size s part × RootTells n (bucket_of key size) s.agent part Done t
KeyTells n key s own part Moved t = 1 ≤ others_moves s.agent (from_own s.agent part)
KeyTells n key s own part NoNode t = Unit {0}
KeyTells n key s own part (Spent why) t = Unit {0}

-- what a call did before its turns; with no turns it did nothing
pub record Prepares (n : HeapNumbers) (key turns : ℕ) (s : Seat SplitNote) (result : Rooted) (t : Seat SplitNote) : Type 0 where
  pub own : List (Event SplitNote)
  pub call : InsertCall (split_reading n) s own [] t
  pub none : turns ≡ 0 → own ≡ []
  pub begun : turns ≢ 0 → 1 ≤ length own
  pub tells : turns ≢ 0 → KeyTells n key s own call.made.puts.part result t
