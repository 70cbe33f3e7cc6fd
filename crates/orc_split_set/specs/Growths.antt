-- What a try to double the number of buckets comes to. After Shalev and Shavit 2006.
use Rattle.std.specs.Prelude.{Bool, Err, List, None, Ok, Option, Result, Some, [], false, slice_get, slice_set, true, ℕ, ◌*◌, ◌<◌, ◌∷◌, ◌≡◌, ◌⊎◌}
use Rattle.orc_fault.specs.declared.Spent.{Spent as SpentRow}
use Rattle.orc_heap.specs.Hands.{HoldsId}
use Rattle.orc_heap.specs.Heap.{HeapNumbers, shown}
use Rattle.orc_heap.specs.Journals.{noted_entries}
use Rattle.orc_heap.specs.Moves.{gives_in}
use Rattle.orc_heap.specs.OwnEvents.{Puts}
use Rattle.orc_heap.specs.Seats.{Seat, heap_of}
use Rattle.orc_heap.specs.Slots.{Hold}
use Rattle.orc_heap.specs.declared.events.Event.{Event}
use Rattle.orc_heap.specs.declared.events.Place.TheVariants.{Root}
use Rattle.orc_ordered_chains.specs.Chains.{link_over}
use Rattle.orc_ordered_search.specs.Inserts.{InsertCall}
use Rattle.orc_ordered_search.specs.Searches.{LetsGo}
use Rattle.orc_ordered_search.specs.declared.turn.InsertTurn.{InsertTurn}
use Rattle.orc_ordered_search.specs.declared.turn.InsertTurn.TheVariants.{Answered, NoNode as TurnNoNode, Over, Spent as TurnSpent}
use Rattle.orc_split_rule.specs.SplitDiscipline.{IsSize, IsSizeNode, greatest, size_of}
use Rattle.orc_split_rule.specs.Watches.{node_to_link}
use Rattle.orc_split_rule.specs.declared.split.SplitNote.{SplitNote}
use Rattle.orc_split_rule.specs.declared.split.SplitNote.TheVariants.{Grow}
use Rattle.orc_split_set.specs.Crowds.{SeesOwn}
use Rattle.orc_split_set.specs.SplitSearches.{split_reading}
use Rattle.orc_split_set.specs.declared.bucket.Rooted.{Rooted}
use Rattle.orc_split_set.specs.declared.bucket.Rooted.TheVariants.{Done, Moved, NoNode, Spent}

-- one of the events is a Grow
abbrev pub HasGrow : List (Event SplitNote) → Type 0
HasGrow [] = ⊥
HasGrow (e ∷ es) = (e.note ≡ Some Grow) ⊎ HasGrow es

-- what comes of it, by what came of the swing of the size's root
abbrev pub grown_by : Result Bool SpentRow → Rooted
grown_by (Ok true) = Done
grown_by (Ok false) = Moved
grown_by (Err why) = Spent why

-- the pass holds its fresh node, which is a size node to be
pub record HasSizeNode (n : HeapNumbers) (size : ℕ) (new : Hold) (id : ℕ) (s : Seat SplitNote) : Type 0 where
  pub held : HoldsId s.slots new id
  pub fresh : s.fresh ≡ Some id
  pub node : slice_get (heap_of n s).nodes id ≡ Some (node_to_link s.agent size 2 None)

-- the size's root shows an unmarked link to this target
abbrev pub ShowsSize : HeapNumbers → Option ℕ → Seat SplitNote → Type 0
ShowsSize n to s = shown (heap_of n s) (Root (greatest n)) ≡ Some (link_over to)

-- the size's root was swung to it, if it was as it had been, with this target, and the node was let go
pub record SwingsSize (n : HeapNumbers) (to : Option ℕ) (new : Hold) (s : Seat SplitNote) (result : Rooted) (t : Seat SplitNote) : Type 0 where
  pub own : List (Event SplitNote)
  pub puts : Puts s own t
  pub no_entries : noted_entries (split_reading n).entries_in own ≡ []
  pub no_give : gives_in own ≡ 0
  pub slots : t.slots ≡ slice_set s.slots new.slot None
  pub fresh : t.fresh ≡ None
  pub grows : result ≡ Done → HasGrow own
  pub missed : result ≡ Moved → ShowsSize n to s → SeesOwn s t → ⊥

-- what came of a try to double whose pass saw only own events: the number of buckets is doubled, or there would be too many; or no node
-- could be had, or a row was worn
abbrev pub GrowTells : HeapNumbers → Seat SplitNote → List (Event SplitNote) → Rooted → Seat SplitNote → Type 0
GrowTells n s own Done t = SeesOwn s t → HasGrow own ⊎ (greatest n < 2 * size_of n s.seen)
GrowTells n s own Moved t = SeesOwn s t → ⊥
GrowTells n s own NoNode t = Unit {0}
GrowTells n s own (Spent why) t = Unit {0}

-- a try to double: one node at the most was given, nothing was entered, and the pass holds what it held. What came of it is so if this was
pub record Doubles (n : HeapNumbers) (If : Type 0) (s : Seat SplitNote) (result : Rooted) (t : Seat SplitNote) : Type 0 where
  pub own : List (Event SplitNote)
  pub call : InsertCall (split_reading n) s own [] t
  pub tells : If → GrowTells n s own result t

-- the same, and then the old size node was let go
pub record DoublesAndGoes (n : HeapNumbers) (If : Type 0) (old : Hold) (s : Seat SplitNote) (result : Rooted) (t : Seat SplitNote) : Type 0 where
  pub mid : Seat SplitNote
  pub doubles : Doubles n If s result mid
  pub gone : LetsGo (Some old) mid t

-- the pass holds a size node of this size
pub record HoldsSize (n : HeapNumbers) (old : Hold) (s : Seat SplitNote) : Type 0 where
  pub id : ℕ
  pub size : ℕ
  pub held : HoldsId s.slots old id
  pub node : IsSizeNode (heap_of n s) id size
  pub is_size : IsSize (greatest n) size

-- such an insert added its key, and went past more than 8 others
abbrev pub IsCrowded : InsertTurn → Type 0
IsCrowded Over = ⊥
IsCrowded (Answered false passed) = ⊥
IsCrowded (Answered true passed) = 8 < passed
IsCrowded TurnNoNode = ⊥
IsCrowded (TurnSpent why) = ⊥

-- what follows the turns: a try to double, if the bucket was crowded
pub record GrowsAfter (n : HeapNumbers) (turn : InsertTurn) (s : Seat SplitNote) (result : Rooted) (t : Seat SplitNote) : Type 0 where
  pub doubles : Doubles n (IsCrowded turn) s result t
  pub none : (IsCrowded turn → ⊥) → doubles.own ≡ []
