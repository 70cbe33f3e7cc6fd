-- What the turns of a publish do.
use Rattle.std.specs.Prelude.{Bool, List, MatchBool, None, Option, Result, Ok, Err, Some, [], false, if◌then◌else◌, slice_get, slice_set, ℕ, ◌*◌, ◌+◌, ◌∷◌, ◌≡◌, ◌≢◌, ◌≤◌}
use Rattle.orc_fault.specs.declared.Spent.{Spent}
use Rattle.orc_heap.specs.Allowed.{AllowedLater}
use Rattle.orc_heap.proofs.Pieces.{InSlot}
use Rattle.orc_heap.specs.Calls.{Misses, event_of, unless_node}
use Rattle.orc_heap.specs.Heap.{Heap, HeapNumbers, Node, link_to, null, shown}
use Rattle.orc_heap.specs.Moves.{from_own, gives_in}
use Rattle.orc_heap.specs.OwnEvents.{Only, Puts}
use Rattle.orc_heap.specs.Seats.{HoldsFresh, Seat, heap_of}
use Rattle.orc_heap.specs.Slots.{Hold, Holds, id_in}
use Rattle.orc_heap.specs.declared.events.Act.{Act}
use Rattle.orc_heap.specs.declared.events.Act.TheVariants.{Aim, AimSide, Move}
use Rattle.orc_heap.specs.declared.events.Event.{Event}
use Rattle.orc_heap.specs.declared.events.Link.{Link}
use Rattle.orc_heap.specs.declared.events.Place.{Place}
use Rattle.orc_heap.specs.declared.events.Place.TheVariants.{Next, Root, Side}
use Rattle.orc_heap.specs.declared.holds.Want.{Want}
use Rattle.orc_heap.specs.declared.holds.Want.TheVariants.{Node as WantNode, Null as WantNull}
use Rattle.orc_pairs_rule.specs.declared.entry.CellEntry.{CellEntry}
use Rattle.orc_pairs_rule.specs.declared.entry.CellEntry.TheVariants.{Published}
use Rattle.orc_pairs_rule.specs.declared.pairs.PairsNote.{PairsNote}
use Rattle.orc_pairs_rule.specs.declared.pairs.PairsNote.TheVariants.{Entry}
use Rattle.orc_pairs_rule.specs.PairsDiscipline.{HasPart, IsStaging, PairsMay, entries_of}
use Rattle.orc_cell.specs.Turns.{IsPairOf, others_moves}
use Rattle.orc_cell.specs.declared.publish.Half.{Half}
use Rattle.orc_cell.specs.declared.publish.Half.TheVariants.{Left, Right}
use Rattle.orc_cell.specs.declared.publish.New.{New}
use Rattle.orc_cell.specs.declared.publish.New.TheVariants.{Given, Kept, Zero}
use Rattle.orc_cell.specs.declared.publish.PublishTurn.{PublishTurn}
use Rattle.orc_cell.specs.declared.publish.PublishTurn.TheVariants.{Over, Published as Done, Spent as Worn}

-- the act that aims one half of a pair
abbrev pub aim_act : Half → ℕ → Option ℕ → Act
aim_act Left id to = Aim id to
aim_act Right id to = AimSide id to

-- where that half stands
abbrev pub half_at : Half → ℕ → Place
half_at Left id = Next id
half_at Right id = Side id

-- that link of a node
abbrev pub half_link : Half → Node → Link
half_link Left node = node.link
half_link Right node = node.side

abbrev pub other : Half → Half
other Left = Right
other Right = Left

-- what is given for that half
abbrev pub given_for : Half → Option ℕ → Option ℕ → Option ℕ
given_for Left left right = left
given_for Right left right = right

-- how many parts are given for a half, one or none: each takes one node, and one Aim before the turns
abbrev pub part_count : Option ℕ → ℕ
part_count None = 0
part_count (Some value) = 1

-- how many nodes are given for a half: one, if a part is given for it or no pair was published yet
abbrev pub nodes_for : Option ℕ → Bool → ℕ
nodes_for given empty = if empty then 1 else part_count given

-- how many events are made for a half in each turn at most: two Looks and an Aim, if no part is given for it
abbrev pub events_for : Option ℕ → ℕ
events_for None = 3
events_for (Some value) = 0

-- how many a turn makes at most: two Looks of root 0, what its parts ask for, and the swing
abbrev pub events_a_turn : Option ℕ → Option ℕ → ℕ
events_a_turn left right = 3 + events_for left + events_for right

-- how many the aims at the parts that are given, and so many turns, make at most
abbrev pub events_of_turns : ℕ → Option ℕ → Option ℕ → ℕ
events_of_turns turns left right = part_count left + part_count right + turns * events_a_turn left right

-- the agent's staging roots
abbrev pub staging_root : Half → ℕ → ℕ
staging_root Left agent = 1 + 2 * agent
staging_root Right agent = 2 + 2 * agent

-- the node isn't the fresh one
abbrev pub NotFresh : Seat PairsNote → Hold → Type 0
NotFresh s h = s.fresh ≢ Some (id_in s.slots h)

-- a piece of a call: its own events enter these entries, and give at most so many nodes
pub record Piece (given : ℕ) (s : Seat PairsNote) (entries : List CellEntry) (t : Seat PairsNote) : Type 0 where
  pub own : List (Event PairsNote)
  pub puts : Puts s own t
  pub entries_are : entries_of own ≡ entries
  pub gives : gives_in own ≤ given

-- the agent's staging roots show what they showed
abbrev pub KeepsStaging : HeapNumbers → Seat PairsNote → Seat PairsNote → Type 0
KeepsStaging n s t = (root : ℕ) → IsStaging s.agent root → shown (heap_of n t) (Root root) ≡ shown (heap_of n s) (Root root)

-- a piece after which the pass holds what it held, and its staging roots show what they showed
pub record Answered (n : HeapNumbers) (given : ℕ) (s : Seat PairsNote) (entries : List CellEntry) (t : Seat PairsNote) : Type 0 where
  pub piece : Piece given s entries t
  pub slots : t.slots ≡ s.slots
  pub staging : KeepsStaging n s t

-- a part that is held, and named by this root
pub record Staged (n : HeapNumbers) (root value : ℕ) (h : Hold) (s : Seat PairsNote) : Type 0 where
  pub held : Holds s.slots h
  pub root_is : shown (heap_of n s) (Root root) ≡ Some (link_to (id_in s.slots h))
  pub part : HasPart (heap_of n s) (id_in s.slots h) value

-- a pair was published
abbrev pub IsPublished : Heap → Type 0
IsPublished h = (id : ℕ) × (shown h (Root 0) ≡ Some (link_to id))

-- a part of the new pair is staged, or is to be kept
abbrev pub SideHeld : HeapNumbers → ℕ → New → Seat PairsNote → Type 0
SideHeld n root (Given value h) s = Staged n root value h s
SideHeld n root (Zero h) s = Staged n root 0 h s
SideHeld n root Kept s = IsPublished (heap_of n s)

-- the value that is given, if any
abbrev pub given_of : New → Option ℕ
given_of (Given value h) = Some value
given_of (Zero h) = None
given_of Kept = None

-- how many nodes were given for a part of the new pair: one, if it is staged
abbrev pub nodes_of : New → ℕ
nodes_of Kept = 0
nodes_of new = 1

-- a part is staged
abbrev pub HasStaged : New → Type 0
HasStaged Kept = ⊥
HasStaged new = Unit {0}

-- one half of the fresh pair may have been aimed, and the other leads where it led
pub record KeepsOtherHalf (n : HeapNumbers) (half : Half) (pair : Hold) (s t : Seat PairsNote) : Type 0 where
  pub answered : Answered n 0 s [] t
  pub fresh : HoldsFresh t pair
  pub node : Node
  pub there : slice_get (heap_of n t).nodes (id_in t.slots pair) ≡ Some node
  pub keeps : (old : Node) → slice_get (heap_of n s).nodes (id_in s.slots pair) ≡ Some old → half_link (other half) node ≡ half_link (other half) old

-- it leads to this part
pub record Aimed (n : HeapNumbers) (half : Half) (pair : Hold) (id value : ℕ) (s t : Seat PairsNote) : Type 0 where
  pub kept : KeepsOtherHalf n half pair s t
  pub leads : half_link half kept.node ≡ link_to id
  pub has : HasPart (heap_of n t) id value

-- nothing was aimed
pub record NotAimed (n : HeapNumbers) (pair : Hold) (s t : Seat PairsNote) : Type 0 where
  pub answered : Answered n 0 s [] t
  pub fresh : HoldsFresh t pair

-- the aim of one half, by the answer, where this is known of the part
abbrev pub Aims : HeapNumbers → Half → Hold → (ℕ → ℕ → Type 0) → Seat PairsNote → Result ℕ Spent → Seat PairsNote → Type 0
Aims n half pair IsNew s (Ok value) t = (id : ℕ) × IsNew id value × Aimed n half pair id value s t
Aims n half pair IsNew s (Err why) t = NotAimed n pair s t

-- one half of the fresh pair leads to this node
pub record LeadsHalf (n : HeapNumbers) (half : Half) (pair : Hold) (id : ℕ) (s : Seat PairsNote) : Type 0 where
  pub node : Node
  pub there : slice_get (heap_of n s).nodes (id_in s.slots pair) ≡ Some node
  pub leads : half_link half node ≡ link_to id

-- it leads to the part, if that is given
abbrev pub IsHalfReady : HeapNumbers → Half → Hold → New → Seat PairsNote → Type 0
IsHalfReady n half pair (Given value h) s = LeadsHalf n half pair (id_in s.slots h) s
IsHalfReady n half pair (Zero h) s = Unit {0}
IsHalfReady n half pair Kept s = Unit {0}

-- the new pair is fresh, its parts are staged or are to be kept, and it leads to those that are given
pub record IsPrepared (n : HeapNumbers) (pair : Hold) (left right : New) (s : Seat PairsNote) : Type 0 where
  pub fresh : HoldsFresh s pair
  pub left_held : SideHeld n (staging_root Left s.agent) left s
  pub right_held : SideHeld n (staging_root Right s.agent) right s
  pub left_leads : IsHalfReady n Left pair left s
  pub right_leads : IsHalfReady n Right pair right s

-- one half was aimed at the part, if that is given, and the other leads where it led
pub record MakesReady (n : HeapNumbers) (half : Half) (pair : Hold) (new : New) (s t : Seat PairsNote) : Type 0 where
  pub kept : KeepsOtherHalf n half pair s t
  pub ready : IsHalfReady n half pair new t

abbrev pub AimsGiven : HeapNumbers → Half → Hold → New → Seat PairsNote → Result (Unit {0}) Spent → Seat PairsNote → Type 0
AimsGiven n half pair new s (Ok done) t = MakesReady n half pair new s t
AimsGiven n half pair new s (Err why) t = NotAimed n pair s t

-- the halves of the fresh pair whose parts are given lead where they led
pub record KeepsHalves (n : HeapNumbers) (left right : Option ℕ) (pair : Hold) (s t : Seat PairsNote) : Type 0 where
  pub node : Node
  pub there : slice_get (heap_of n t).nodes (id_in t.slots pair) ≡ Some node
  pub stays : (half : Half) → given_for half left right ≢ None → (old : Node) → slice_get (heap_of n s).nodes (id_in s.slots pair) ≡ Some old
      → half_link half node ≡ half_link half old

-- a new part beside the pair before: it is given, or what that pair's place shows
abbrev pub IsNewPart : Heap → Place → New → ℕ → ℕ → Type 0
IsNewPart h place (Given given held) id value = value ≡ given
IsNewPart h place (Zero held) id value = shown h place ≡ Some (link_to id)
IsNewPart h place Kept id value = shown h place ≡ Some (link_to id)

-- one of a first pair: it is given, or 0
abbrev pub IsFirst : New → ℕ → ℕ → Type 0
IsFirst (Given given held) id value = value ≡ given
IsFirst (Zero held) id value = value ≡ 0
IsFirst Kept id value = ⊥

-- one part of a pair that follows what this link leads to
abbrev pub IsPartOf : HeapNumbers → Half → Want → Seat PairsNote → New → ℕ → ℕ → Type 0
IsPartOf n half (WantNull mark) s new id value = IsFirst new id value
IsPartOf n half (WantNode h mark) s new id value = IsNewPart (heap_of n s) (half_at half (id_in s.slots h.now)) new id value

-- the link leads to a pair that is held; or it is null, and the part is staged
abbrev pub ComesAfter : HeapNumbers → Want → Seat PairsNote → New → Type 0
ComesAfter n (WantNull false) s new = HasStaged new
ComesAfter n (WantNode h false) s new = Holds s.slots h.now × IsPairOf (heap_of n s) (id_in s.slots h.now)
ComesAfter n link s new = ⊥

-- a Published of these parts, wherever root 0 shows the link
abbrev pub MayPublish : HeapNumbers → Seat PairsNote → Link → ℕ → Option ℕ → Option ℕ → ℕ → ℕ → Type 0
MayPublish n s from id left right x y = AllowedLater (PairsMay n) n s.agent s.seen (Root 0) from
    (event_of s (Move (Root 0) from (link_to id)) (Some (Entry (Published s.agent left right x y))))

-- the swing of root 0 to the new pair: the Published stands, and no node is fresh any more; or root 0 shows another link
pub record SwingsPair (from : Link) (id : ℕ) (left right : Option ℕ) (x y : ℕ) (s : Seat PairsNote) (done : Bool) (t : Seat PairsNote) : Type 0 where
  pub slots : t.slots ≡ s.slots
  pub fresh : t.fresh ≡ (if done then None else s.fresh)
  pub puts : MatchBool done (Puts s (event_of s (Move (Root 0) from (link_to id)) (Some (Entry (Published s.agent left right x y))) ∷ []) t)
      (Misses (Root 0) from s t)

-- the turns of a publish so far: no answer, with as many Moves of root 0 by others; the pair was published; or a row is worn
pub record PublishOver (n : HeapNumbers) (turns : ℕ) (pair : Hold) (s t : Seat PairsNote) : Type 0 where
  pub answered : Answered n 0 s [] t
  pub fresh : HoldsFresh t pair
  pub moved : turns ≤ others_moves s.agent (from_own s.agent answered.piece.puts.part)

pub record PublishDone (n : HeapNumbers) (left right : Option ℕ) (x y : ℕ) (s t : Seat PairsNote) : Type 0 where
  pub answered : Answered n 0 s (Published s.agent left right x y ∷ []) t
  pub fresh : t.fresh ≡ None

pub record PublishSpent (n : HeapNumbers) (pair : Hold) (s t : Seat PairsNote) : Type 0 where
  pub answered : Answered n 0 s [] t
  pub fresh : HoldsFresh t pair

-- the turns so far, with what further turns ask for
pub record PublishTurned (n : HeapNumbers) (turns : ℕ) (left right : Option ℕ) (pair : Hold) (s t : Seat PairsNote) : Type 0 where
  pub over : PublishOver n turns pair s t
  pub halves : KeepsHalves n left right pair s t

-- the aims at the parts that are given, and then the turns
abbrev pub PublishesGiven : HeapNumbers → ℕ → Option ℕ → Option ℕ → Hold → Seat PairsNote → PublishTurn → Seat PairsNote → Type 0
PublishesGiven n turns left right pair s Over t = PublishOver n turns pair s t
PublishesGiven n turns left right pair s (Done x y) t = PublishDone n left right x y s t
PublishesGiven n turns left right pair s (Worn why) t = PublishSpent n pair s t

abbrev pub PublishesTurns : HeapNumbers → ℕ → Option ℕ → Option ℕ → Hold → Seat PairsNote → PublishTurn → Seat PairsNote → Type 0
PublishesTurns n turns left right pair s Over t = PublishTurned n turns left right pair s t
PublishesTurns n turns left right pair s (Done x y) t = PublishDone n left right x y s t
PublishesTurns n turns left right pair s (Worn why) t = PublishSpent n pair s t

-- what follows a look of root 0 that found this link: if root 0 still showed it, it was moved by others since
pub record PublishMissed (n : HeapNumbers) (from : Link) (left right : Option ℕ) (pair : Hold) (s t : Seat PairsNote) : Type 0 where
  pub answered : Answered n 0 s [] t
  pub fresh : HoldsFresh t pair
  pub halves : KeepsHalves n left right pair s t
  pub moved : shown (heap_of n s) (Root 0) ≡ Some from → 1 ≤ others_moves s.agent answered.piece.puts.part

abbrev pub PublishesFrom : HeapNumbers → Link → Option ℕ → Option ℕ → Hold → Seat PairsNote → PublishTurn → Seat PairsNote → Type 0
PublishesFrom n from left right pair s Over t = PublishMissed n from left right pair s t
PublishesFrom n from left right pair s (Done x y) t = PublishDone n left right x y s t
PublishesFrom n from left right pair s (Worn why) t = PublishSpent n pair s t

-- a link that is null, or to the fresh node: it is never refused
abbrev pub MovesFreely : Seat PairsNote → Want → Type 0
MovesFreely s (WantNull mark) = Unit {0}
MovesFreely s (WantNode h mark) = HoldsFresh s h.now

-- the Move of a staging root
pub record MovesStaging (root : ℕ) (from to : Link) (note : PairsNote) (s t : Seat PairsNote) : Type 0 where
  pub slots : t.slots ≡ s.slots
  pub fresh : t.fresh ≡ unless_node s.fresh to.to
  pub puts : Puts s (event_of s (Move (Root root) from to) (Some note) ∷ []) t

-- the agent's other staging roots show what they showed
abbrev pub KeepsOther : HeapNumbers → ℕ → Seat PairsNote → Seat PairsNote → Type 0
KeepsOther n root s t = (r : ℕ) → IsStaging s.agent r → r ≢ root → shown (heap_of n t) (Root r) ≡ shown (heap_of n s) (Root r)

-- a new part was given and staged
pub record Stages (n : HeapNumbers) (slot root value : ℕ) (s : Seat PairsNote) (h : Hold) (t : Seat PairsNote) : Type 0 where
  pub piece : Piece 1 s [] t
  pub id : ℕ
  pub in_slot : InSlot s slot id h t
  pub fresh : t.fresh ≡ None
  pub part : HasPart (heap_of n t) id value
  pub root_is : shown (heap_of n t) (Root root) ≡ Some (link_to id)
  pub others : KeepsOther n root s t

-- a staged part was let go
pub record Unstages (n : HeapNumbers) (root : ℕ) (h : Hold) (s t : Seat PairsNote) : Type 0 where
  pub piece : Piece 0 s [] t
  pub slots : t.slots ≡ slice_set s.slots h.slot None
  pub fresh : t.fresh ≡ None
  pub root_is : shown (heap_of n t) (Root root) ≡ Some null
  pub others : KeepsOther n root s t

-- a part of the new pair was made ready
abbrev pub Readies : HeapNumbers → ℕ → ℕ → Seat PairsNote → New → Seat PairsNote → Type 0
Readies n slot root s (Given value h) t = Stages n slot root value s h t
Readies n slot root s (Zero h) t = Stages n slot root 0 s h t
Readies n slot root s Kept t = Only [] s t × IsPublished (heap_of n t)

-- it was let go
abbrev pub LetsGo : HeapNumbers → ℕ → New → Seat PairsNote → Seat PairsNote → Type 0
LetsGo n root (Given value h) s t = Unstages n root h s t
LetsGo n root (Zero h) s t = Unstages n root h s t
LetsGo n root Kept s t = Only [] s t
