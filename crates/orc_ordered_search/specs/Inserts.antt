-- What the turns of an insert do. After Harris 2001.
use Rattle.std.specs.Prelude.{Bool, Err, List, None, Ok, Option, Result, Some, [], false, length, slice_get, slice_set, true, ℕ, ◌*◌, ◌+◌, ◌∷◌, ◌≡◌, ◌≢◌, ◌≤◌, ◌⊎◌}
use Rattle.std.specs.Borrow.{Bor}
use Rattle.orc_fault.specs.declared.Spent.{Spent as SpentRow}
use Rattle.orc_heap.specs.Calls.{Misses, event_of}
use Rattle.orc_heap.specs.Hands.{Hands, HoldsId, hand}
use Rattle.orc_heap.specs.Heap.{link_to}
use Rattle.orc_heap.specs.Journals.{noted_entries}
use Rattle.orc_heap.specs.Moves.{gives_in, moves_in}
use Rattle.orc_heap.specs.OwnEvents.{Puts}
use Rattle.orc_heap.specs.Seats.{Seat, heap_of}
use Rattle.orc_heap.specs.Slots.{Hold, IsFree, Slots}
use Rattle.orc_heap.specs.declared.events.Act.TheVariants.{Aim, Move}
use Rattle.orc_heap.specs.declared.events.Event.{Event}
use Rattle.orc_heap.specs.declared.events.Link.{Link}
use Rattle.orc_heap.specs.declared.events.Place.{Place}
use Rattle.orc_history.specs.declared.set.ListRefused.{ListRefused}
use Rattle.orc_history.specs.declared.set.ListRefused.TheVariants.{Again, NoNode as RefusedNoNode, Spent as RefusedSpent}
use Rattle.orc_history.specs.declared.set.SetEntry.{SetEntry}
use Rattle.orc_ordered_chains.specs.Chains.{FollowsOn, IsAbove}
use Rattle.orc_ordered_search.specs.Entries.{AllowsNode, node_to_link}
use Rattle.orc_ordered_search.specs.Reading.{Reading}
use Rattle.orc_ordered_search.specs.Searches.{AllGone, GapIds, HasRoom, LeadsOver, SeesRun, left_place, node_of}
use Rattle.orc_ordered_search.specs.Steps.{Finds}
use Rattle.orc_ordered_search.specs.Turns.{AreOver, Made}
use Rattle.orc_ordered_search.specs.Ways.{EndsRun, IsFew, Sees}
use Rattle.orc_ordered_search.specs.declared.turn.InsertTurn.{InsertTurn}
use Rattle.orc_ordered_search.specs.declared.turn.InsertTurn.TheVariants.{Answered, NoNode, Over, Spent}
use Rattle.orc_ordered_search.specs.declared.walk.Searched.{Searched}
use Rattle.orc_ordered_search.specs.declared.walk.Searched.TheVariants.{Absent}

-- a reference to the node, if there is one
abbrev pub Borrows : Option Hold → Option (Bor Hold) → Type 0
Borrows None None = Unit {0}
Borrows None (Some b) = ⊥
Borrows (Some h) None = ⊥
Borrows (Some h) (Some b) = b.now ≡ h

-- how many nodes were given, where none is let go
abbrev pub count_of : Option Hold → ℕ
count_of None = 0
count_of (Some h) = 1

-- these slots with the node in its slot, if there is one
abbrev pub slots_with : Slots → Option Hold → ℕ → Slots
slots_with slots None id = slots
slots_with slots (Some h) id = slice_set slots h.slot (Some (record { row = h.row; id = id }))

-- the node is in slot 1, if there is one
abbrev pub IsInFirst : Option Hold → Type 0
IsInFirst None = Unit {0}
IsInFirst (Some h) = h.slot ≡ 1

-- slots 1 to 5 are free
pub record HasRoomFor (slots : Slots) : Type 0 where
  pub one : IsFree slots 1
  pub room : HasRoom slots

-- how a turn ends that linked a node, by what came of it, where its search went past so many nodes
abbrev pub turn_by : ℕ → Result Bool SpentRow → InsertTurn
turn_by passed (Ok true) = Answered true passed
turn_by passed (Ok false) = Over
turn_by passed (Err why) = Spent why

-- what an insert answers whose turns ended so
abbrev pub answer_by : InsertTurn → Result Bool ListRefused
answer_by Over = Err Again
answer_by (Answered answer passed) = Ok answer
answer_by NoNode = Err RefusedNoNode
answer_by (Spent why) = Err (RefusedSpent why)

module _ {N : Type 0} where
  -- the pass holds its fresh node, which has these values
  pub record HoldsNode (r : Reading N) (value kind : ℕ) (h : Hold) (id : ℕ) (t : Seat N) : Type 0 where
    pub held : HoldsId t.slots h id
    pub fresh : t.fresh ≡ Some id
    pub to : Option ℕ
    pub node : slice_get (heap_of r.numbers t).nodes id ≡ Some (node_to_link t.agent value kind to)

  -- it does, or it has none
  abbrev pub IsToAdd : Reading N → ℕ → ℕ → Option Hold → ℕ → Seat N → Type 0
  IsToAdd r value kind None id t = t.fresh ≡ None
  IsToAdd r value kind (Some h) id t = HoldsNode r value kind h id t

  -- beside what these slots held the pass has in hand the node to add, if there is one
  pub record KeepsNode (r : Reading N) (value kind : ℕ) (node : Option Hold) (slots : Slots) (t : Seat N) : Type 0 where
    pub id : ℕ
    pub slots_are : t.slots ≡ slots_with slots node id
    pub slot_is : IsInFirst node
    pub to_add : IsToAdd r value kind node id t

  -- the same of a node that may have been linked
  pub record EndsWith (node : Option Hold) (slots : Slots) (t : Seat N) : Type 0 where
    pub id : ℕ
    pub slots_are : t.slots ≡ slots_with slots node id
    pub slot_is : IsInFirst node
    pub fresh : (t.fresh ≡ None) ⊎ (t.fresh ≡ node_of node id)

  -- a search ended so that began when the pass had in hand the node to add, if there was one
  pub record Sought (r : Reading N) (wanted value kind : ℕ) (node : Option Hold) (found : Searched) (t : Seat N) : Type 0 where
    pub start : Place
    pub slots : Slots
    pub begun : Seat N
    pub room : HasRoomFor slots
    pub keeps : KeepsNode r value kind node slots begun
    pub finds : Finds r start wanted begun found t

  -- the pass made only loads, and at least one, and what gives a node, if it was given
  pub record QuietGive (r : Reading N) (given : ℕ) (s : Seat N) (own : List (Event N)) (t : Seat N) : Type 0 where
    pub puts : Puts s own t
    pub some : 1 ≤ length own
    pub no_entries : noted_entries r.entries_in own ≡ []
    pub gives : gives_in own ≡ given
    pub no_move : moves_in own ≡ 0

  -- so it did, and has a node to link, and a search found where its rank belongs
  pub record AddsAt (r : Reading N) (start : Place) (wanted value kind : ℕ) (left first right : Option Hold) (node : Hold) (given : ℕ) (slots : Slots)
      (s t : Seat N) : Type 0 where
    pub own : List (Event N)
    pub quiet : QuietGive r given s own t
    pub open quiet use *
    pub ids : GapIds
    pub open ids use {left_id, first_id, next_id as right_id}
    pub hands : Hands slots t.slots (hand left left_id ∷ hand first first_id ∷ hand right right_id ∷ [])
    pub leads : LeadsOver r start wanted left first left_id first_id (node_of right right_id) s own t puts.part
    pub above : IsAbove r.order (heap_of r.numbers t) (node_of right right_id) wanted
    pub ends : EndsRun own (node_of right right_id)
    pub few : IsFew (2 + 3 * given) own
    pub id : ℕ
    pub kept : HoldsId slots node id
    pub holds : HoldsNode r value kind node id t

  -- so it has, and a Move with this note may link the node there
  pub record NodeToAdd (r : Reading N) (holds : List (Event N) → Type 0) (may : List (Event N) → Event N → Type 0) (root : ℕ) (noted : N)
      (left first right : Option Hold) (node : Hold) (t : Seat N) : Type 0 where
    pub start : Place
    pub wanted : ℕ
    pub value : ℕ
    pub kind : ℕ
    pub given : ℕ
    pub slots : Slots
    pub begun : Seat N
    pub at : AddsAt r start wanted value kind left first right node given slots begun t
    pub root_is : root ≡ r.order.root wanted
    pub allowed : AllowsNode r holds may wanted value kind t.agent noted

  -- the node was aimed at this target, and then the place was led from its link to the node, with this note
  pub record LinksNode (r : Reading N) (value kind : ℕ) (noted : N) (id : ℕ) (place : Place) (from : Link) (to : Option ℕ) (s u : Seat N) : Type 0 where
    pub mid : Seat N
    pub aims : Puts s (event_of s (Aim id to) None ∷ []) mid
    pub node : slice_get (heap_of r.numbers mid).nodes id ≡ Some (node_to_link mid.agent value kind to)
    pub moves : Puts mid (event_of mid (Move place from (link_to id)) (Some noted) ∷ []) u
    pub slots : u.slots ≡ s.slots
    pub fresh : u.fresh ≡ None

  -- it was aimed, and then the place showed another link than this one
  pub record LinkMissed (r : Reading N) (value kind : ℕ) (h : Hold) (id : ℕ) (place : Place) (link : Link) (s u : Seat N) : Type 0 where
    pub to : Option ℕ
    pub mid : Seat N
    pub aims : Puts s (event_of s (Aim id to) None ∷ []) mid
    pub misses : Misses place link mid u
    pub slots : u.slots ≡ s.slots
    pub holds : HoldsNode r value kind h id u

  -- a row is worn, so the node was not linked
  pub record LinkRefused (r : Reading N) (s u : Seat N) : Type 0 where
    pub own : List (Event N)
    pub puts : Puts s own u
    pub slots : u.slots ≡ s.slots
    pub fresh : u.fresh ≡ s.fresh
    pub no_entries : noted_entries r.entries_in own ≡ []
    pub no_give : gives_in own ≡ 0
    pub short : length own ≤ 1

  -- by the answer
  abbrev pub LinksTo : Reading N → ℕ → ℕ → N → Hold → ℕ → Place → Link → Option ℕ → Seat N → Result Bool SpentRow → Seat N → Type 0
  LinksTo r value kind noted h id place from to s (Ok true) u = LinksNode r value kind noted id place from to s u
  LinksTo r value kind noted h id place from to s (Ok false) u = LinkMissed r value kind h id place from s u
  LinksTo r value kind noted h id place from to s (Err why) u = LinkRefused r s u

  -- the node was linked, and all that the search had in hand was let go
  pub record LinksAndGoes (r : Reading N) (value kind : ℕ) (noted : N) (id : ℕ) (place : Place) (from : Link) (to : Option ℕ) (slots : Slots) (t u : Seat N) :
      Type 0 where
    pub linked : Seat N
    pub links : LinksNode r value kind noted id place from to t linked
    pub gone : AllGone slots linked u

  -- the node was added where a search had found its rank absent, and counted so many nodes
  pub record AddsFound (r : Reading N) (start : Place) (wanted value kind : ℕ) (noted : N) (found : Searched) (passed : ℕ) (s u : Seat N) : Type 0 where
    pub left : Option Hold
    pub first : Option Hold
    pub right : Option Hold
    pub found_is : found ≡ Absent left first right passed
    pub node : Hold
    pub given : ℕ
    pub slots : Slots
    pub t : Seat N
    pub at : AddsAt r start wanted value kind left first right node given slots s t
    pub adds : LinksAndGoes r value kind noted at.id (left_place (r.order.root wanted) left at.left_id) at.leads.from (node_of right at.right_id) slots t u

  -- Looks among these events found the rank absent: an unmarked link of a place below it, and a run of marked nodes from there to null or to a
  -- node above it
  pub record SeesAbsent (r : Reading N) (wanted : ℕ) (es : List (Event N)) (t : Seat N) : Type 0 where
    pub place : Place
    pub from : Link
    pub plain : from.mark ≡ false
    pub below : FollowsOn r.order (heap_of r.numbers t) place wanted
    pub sees : Sees es place from
    pub over : List ℕ
    pub to : Option ℕ
    pub sees_run : SeesRun es from over to
    pub above : IsAbove r.order (heap_of r.numbers t) to wanted

  -- so many turns that are over
  pub record InsertsOn (r : Reading N) (value kind turns : ℕ) (slots : Slots) (node kept : Option Hold) (s t : Seat N) : Type 0 where
    pub own : List (Event N)
    pub given : ℕ
    pub over : AreOver r given turns s own t
    pub count : count_of node + given ≡ count_of kept
    pub keeps : KeepsNode r value kind kept slots t

  -- turns of which the last entered these entries
  pub record InsertEnds (r : Reading N) (slots : Slots) (node kept : Option Hold) (s : Seat N) (own : List (Event N)) (entries : List SetEntry) (t : Seat N) :
      Type 0 where
    pub given : ℕ
    pub made : Made r given s own entries t
    pub count : count_of node + given ≡ count_of kept
    pub ends : EndsWith kept slots t

  -- so many turns of an insert, by the answer of the last: with this node in hand before, and with the other one after them
  abbrev pub Inserts : Reading N → ℕ → ℕ → (Bool → SetEntry) → ℕ → Slots → Option Hold → Seat N → InsertTurn → Option Hold → Seat N → Type 0
  Inserts r value kind entry turns slots node s Over kept t = InsertsOn r value kind turns slots node kept s t
  Inserts r value kind entry turns slots node s (Answered answer passed) kept t = (own : List (Event N)) × InsertEnds r slots node kept s own (entry answer ∷ []) t
  Inserts r value kind entry turns slots node s NoNode kept t = (own : List (Event N)) × InsertEnds r slots node kept s own [] t
  Inserts r value kind entry turns slots node s (Spent why) kept t = (own : List (Event N)) × InsertEnds r slots node kept s own [] t

  -- at most so many turns of an insert, of which the first has no node
  abbrev pub InsertsTurns : Reading N → ℕ → ℕ → (Bool → SetEntry) → ℕ → Seat N → InsertTurn → Option Hold → Seat N → Type 0
  InsertsTurns r value kind entry turns s Over kept t = Inserts r value kind entry turns s.slots None s Over kept t
  InsertsTurns r value kind entry turns s (Answered answer passed) kept t = (turns ≢ 0) × Inserts r value kind entry turns s.slots None s (Answered answer passed) kept t
  InsertsTurns r value kind entry turns s NoNode kept t = (turns ≢ 0) × Inserts r value kind entry turns s.slots None s NoNode kept t
  InsertsTurns r value kind entry turns s (Spent why) kept t = (turns ≢ 0) × Inserts r value kind entry turns s.slots None s (Spent why) kept t

  -- the place showed another link, and the pass still has the node
  pub record AddOver (r : Reading N) (value kind : ℕ) (h : Hold) (id given : ℕ) (slots : Slots) (s u : Seat N) : Type 0 where
    pub own : List (Event N)
    pub over : AreOver r given 1 s own u
    pub slots_are : u.slots ≡ slots
    pub holds : HoldsNode r value kind h id u

  -- these entries were entered, and then this node is fresh
  pub record AddEnds (r : Reading N) (given : ℕ) (slots : Slots) (s : Seat N) (entries : List SetEntry) (fresh : Option ℕ) (u : Seat N) : Type 0 where
    pub own : List (Event N)
    pub made : Made r given s own entries u
    pub slots_are : u.slots ≡ slots
    pub fresh_is : u.fresh ≡ fresh

  -- what came of the node that a search found a place for
  abbrev pub AddsNode : Reading N → ℕ → ℕ → List SetEntry → Hold → ℕ → ℕ → Slots → Seat N → Result Bool SpentRow → Seat N → Type 0
  AddsNode r value kind entries h id given slots s (Ok false) u = AddOver r value kind h id given slots s u
  AddsNode r value kind entries h id given slots s (Ok true) u = AddEnds r given slots s entries None u
  AddsNode r value kind entries h id given slots s (Err why) u = AddEnds r given slots s [] (Some id) u

  -- an insert that answered or was refused: it gave one node at the most, and holds none
  pub record InsertCall (r : Reading N) (s : Seat N) (own : List (Event N)) (entries : List SetEntry) (t : Seat N) : Type 0 where
    pub given : ℕ
    pub at_most : given ≤ 1
    pub made : Made r given s own entries t
    pub slots : t.slots ≡ s.slots
    pub fresh : t.fresh ≡ None

  -- an insert that used all its turns
  pub record InsertTires (r : Reading N) (turns : ℕ) (s t : Seat N) : Type 0 where
    pub own : List (Event N)
    pub given : ℕ
    pub at_most : given ≤ 1
    pub over : AreOver r given turns s own t
    pub slots : t.slots ≡ s.slots
    pub fresh : t.fresh ≡ None

  -- an insert, by its answer
  abbrev pub InsertAnswers : Reading N → (Bool → SetEntry) → ℕ → Seat N → Result Bool ListRefused → Seat N → Type 0
  InsertAnswers r entry turns s (Ok answer) t = (turns ≢ 0) × (own : List (Event N)) × InsertCall r s own (entry answer ∷ []) t
  InsertAnswers r entry turns s (Err Again) t = InsertTires r turns s t
  InsertAnswers r entry turns s (Err RefusedNoNode) t = (turns ≢ 0) × (own : List (Event N)) × InsertCall r s own [] t
  InsertAnswers r entry turns s (Err (RefusedSpent why)) t = (turns ≢ 0) × (own : List (Event N)) × InsertCall r s own [] t
