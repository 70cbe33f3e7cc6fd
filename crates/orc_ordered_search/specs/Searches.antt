-- What a search along ordered chains has seen. After Harris 2001.
use Rattle.std.specs.List.{slice_set}
use Rattle.std.specs.Prelude.{Bool, List, None, Option, Some, [], false, length, min, true, ℕ, ◌*◌, ◌+◌, ◌∷◌, ◌≡◌, ◌≤◌, ◌⊎◌}
use Rattle.orc_heap.specs.Allowed.{HasLink, IsLinkedNode}
use Rattle.orc_heap.specs.Calls.{unless_node}
use Rattle.orc_heap.specs.Hands.{Hands, IsApart, hand}
use Rattle.orc_heap.specs.Heap.{Heap}
use Rattle.orc_heap.specs.Journals.{noted_entries}
use Rattle.orc_heap.specs.Moves.{ShowsOrMoved, from_own, gives_in, moves_in}
use Rattle.orc_heap.specs.OwnEvents.{Puts}
use Rattle.orc_heap.specs.Seats.{Seat, heap_of}
use Rattle.orc_heap.specs.Slots.{Hold, Holds, IsFree, Slots, id_in}
use Rattle.orc_heap.specs.declared.events.Event.{Event}
use Rattle.orc_heap.specs.declared.events.Link.{Link}
use Rattle.orc_heap.specs.declared.events.Place.{Place}
use Rattle.orc_heap.specs.declared.events.Place.TheVariants.{Next, Root}
use Rattle.orc_heap.specs.declared.holds.Looked.{Looked}
use Rattle.orc_heap.specs.declared.holds.Looked.TheVariants.{Moved, Stable}
use Rattle.orc_ordered_chains.specs.Chains.{FollowsOn, HasRank, IsAbove, IsChainPlace, IsRun, link_over}
use Rattle.orc_ordered_search.specs.Ways.{AllGoOn, AreLoads, EndsRun, IsFew, IsWay, RanksFall, Sees}
use Rattle.orc_ordered_search.specs.Reading.{Reading}

-- the left place: a root, or the link of the node in hand
abbrev pub left_place : ℕ → Option Hold → ℕ → Place
left_place root None id = Root root
left_place root (Some h) id = Next id

-- the first node of a run, and the run that it begins
abbrev pub BeginsRun : Option Hold → ℕ → List ℕ → Type 0
BeginsRun None first over = over ≡ []
BeginsRun (Some h) first over = (others : List ℕ) × (over ≡ first ∷ others)

-- the node in hand, if there is one
abbrev pub node_of : Option Hold → ℕ → Option ℕ
node_of None id = None
node_of (Some h) id = Some id

-- the slots, and the fresh node, once this node is let go
abbrev pub slots_without : Slots → Option Hold → Slots
slots_without slots None = slots
slots_without slots (Some h) = slice_set slots h.slot None

abbrev pub fresh_without : Slots → Option ℕ → Option Hold → Option ℕ
fresh_without slots fresh None = fresh
fresh_without slots fresh (Some h) = unless_node fresh (Some (id_in slots h))

-- the node is held, if there is one
abbrev pub HoldsIfAny : Slots → Option Hold → Type 0
HoldsIfAny slots None = Unit {0}
HoldsIfAny slots (Some h) = Holds slots h

-- slots 2 to 5 are free
pub record HasRoom (slots : Slots) : Type 0 where
  pub two : IsFree slots 2
  pub three : IsFree slots 3
  pub four : IsFree slots 4
  pub five : IsFree slots 5

-- the slot of a node, or 8 where there is none
abbrev pub slot_in : Option Hold → ℕ
slot_in None = 8
slot_in (Some h) = h.slot

-- the nodes of a search: the left one, the first of the run, the one that it came to, and the next
pub record HandIds : Type 0 where
  pub left_id : ℕ
  pub first_id : ℕ
  pub id : ℕ
  pub next_id : ℕ

-- the same where the search stands before a node, or at the end
pub record GapIds : Type 0 where
  pub left_id : ℕ
  pub first_id : ℕ
  pub next_id : ℕ

-- the first of the marked nodes, or else the right node
abbrev pub first_or : Option Hold → Option Hold → Option Hold
first_or None right = right
first_or (Some h) right = Some h

-- the target, by what the pass holds
abbrev pub target_at : Slots → Option Hold → Option ℕ
target_at slots None = None
target_at slots (Some h) = Some (id_in slots h)

-- the left place, by what the pass holds
abbrev pub place_at : Slots → ℕ → Option Hold → Place
place_at slots root None = Root root
place_at slots root (Some h) = Next (id_in slots h)

-- how many nodes a search counted, once it went past an unmarked one: it counts up to 9
abbrev pub count_on : Bool → ℕ → ℕ
count_on true passed = min (passed + 1) 9
count_on false passed = passed

-- how many events a search makes besides two for each node that it goes past: its first two, and two for the node where it ends
abbrev pub ends_looks : Option Hold → ℕ
ends_looks None = 2
ends_looks (Some h) = 4

-- the first node of the run that ends with this one, by what is in hand
abbrev pub run_head : Option Hold → ℕ → ℕ → ℕ
run_head None first_id id = id
run_head (Some h) first_id id = first_id

module _ {N : Type 0} where
  -- Looks among these events found that this link leads over these nodes, each with a marked link, to the target
  abbrev pub SeesRun : List (Event N) → Link → List ℕ → Option ℕ → Type 0
  SeesRun es link [] to = link.to ≡ to
  SeesRun es link (id ∷ ids) to = (link.to ≡ Some id) × (next : Link) × Sees es (Next id) next × (next.mark ≡ true) × SeesRun es next ids to

  -- a once linked node that isn't of the kind that is counted
  abbrev pub IsUncounted : Reading N → Heap → ℕ → Type 0
  IsUncounted r h id = (l : IsLinkedNode h id) × (r.counts l.node.first l.node.second ≡ false)

  -- a search counts no such node: own Looks found its link marked, or it isn't of the kind that is counted
  abbrev pub Skips : Reading N → List (Event N) → Heap → ℕ → Type 0
  Skips r own h id = ((link : Link) × Sees own (Next id) link × (link.mark ≡ true)) ⊎ IsUncounted r h id

  -- of the nodes that a search went past it counted all but these, up to 9
  abbrev pub Counts : Reading N → List (Event N) → Heap → List ℕ → ℕ → Type 0
  Counts r own h [] passed = Unit {0}
  Counts r own h (id ∷ ids) passed =
      (before : ℕ) × Counts r own h ids before × ((min (before + 1) 9 ≤ passed) ⊎ ((before ≤ passed) × Skips r own h id))

  -- the nodes that a search went past so far, the last one first: own Looks led over them from the start to this target, and it made few
  -- events
  pub record Visits (r : Reading N) (start : Place) (wanted passed more : ℕ) (to : Option ℕ) (own : List (Event N)) (t : Seat N) : Type 0 where
    pub nodes : List ℕ
    pub few : length own ≤ 2 * length nodes + more
    pub way : IsWay own start nodes to
    pub on : AllGoOn r.order (heap_of r.numbers t) wanted nodes
    pub fall : RanksFall r.order (heap_of r.numbers t) to nodes
    pub counted : Counts r own (heap_of r.numbers t) nodes passed

  -- the pass made only loads, and at least one: its own events enter nothing, give no node and move no link
  pub record Quiet (r : Reading N) (s : Seat N) (own : List (Event N)) (t : Seat N) : Type 0 where
    pub puts : Puts s own t
    pub fresh : t.fresh ≡ s.fresh
    pub loads : AreLoads own
    pub some : 1 ≤ length own
    pub no_entries : noted_entries r.entries_in own ≡ []
    pub no_give : gives_in own ≡ 0
    pub no_move : moves_in own ≡ 0

  -- the left place showed an unmarked link in this search, and it lies below the key; from the link on a run of marked nodes leads
  -- to this target. Own Looks found so
  pub record LeadsOver (r : Reading N) (start : Place) (wanted : ℕ) (left first : Option Hold) (left_id first_id : ℕ) (to : Option ℕ) (s : Seat N)
      (own : List (Event N)) (t : Seat N) (part : List (Event N)) : Type 0 where
    pub from : Link
    pub plain : from.mark ≡ false
    pub below : FollowsOn r.order (heap_of r.numbers t) (left_place (r.order.root wanted) left left_id) wanted
    pub still : ShowsOrMoved r.numbers (left_place (r.order.root wanted) left left_id) from s t part
    pub over : List ℕ
    pub run : IsRun (heap_of r.numbers t) from over to
    pub begins : BeginsRun first first_id over
    pub sees : Sees own (left_place (r.order.root wanted) left left_id) from
    pub sees_run : SeesRun own from over to

  -- a search has come so far: behind the left place, over a run of marked nodes, stands this target
  pub record Behind (r : Reading N) (start : Place) (wanted : ℕ) (left first : Option Hold) (left_id first_id : ℕ) (to : Option ℕ) (s : Seat N)
      (own : List (Event N)) (t : Seat N) : Type 0 where
    pub quiet : Quiet r s own t
    pub leads : LeadsOver r start wanted left first left_id first_id to s own t quiet.puts.part

  -- a node of the chain of the wanted key's root, with this key
  pub record IsOf (r : Reading N) (wanted id key : ℕ) (t : Seat N) : Type 0 where
    pub has_key : HasRank r.order (heap_of r.numbers t) id key
    pub same_root : r.order.root key ≡ r.order.root wanted

  -- a search on its way: behind the left place and a run of marked nodes stands this node, with this key. Slot 1 is left free
  pub record Walks (r : Reading N) (start : Place) (wanted : ℕ) (left first : Option Hold) (at : Hold) (key : ℕ) (counted : Bool) (passed : ℕ)
      (s t : Seat N) : Type 0 where
    pub own : List (Event N)
    pub left_id : ℕ
    pub first_id : ℕ
    pub id : ℕ
    pub hands : Hands s.slots t.slots (hand left left_id ∷ hand first first_id ∷ hand (Some at) id ∷ [])
    pub apart : IsApart 1 (hand left left_id ∷ hand first first_id ∷ hand (Some at) id ∷ [])
    pub behind : Behind r start wanted left first left_id first_id (Some id) s own t
    pub is_of : IsOf r wanted id key t
    pub kind : counted ≡ false → IsUncounted r (heap_of r.numbers t) id
    pub visits : Visits r start wanted passed 2 (Some id) own t

  -- the node that a link names has a key that may follow the link's node
  abbrev pub NextFollows : Reading N → ℕ → Option ℕ → Seat N → Type 0
  NextFollows r id None t = Unit {0}
  NextFollows r id (Some next) t = (key : ℕ) × HasRank r.order (heap_of r.numbers t) next key × FollowsOn r.order (heap_of r.numbers t) (Next id) key

  -- the search looked at the link of a node: what it saw
  pub record Looking (r : Reading N) (start : Place) (wanted : ℕ) (left first : Option Hold) (left_id first_id id key : ℕ) (counted : Bool) (passed : ℕ) (mark : Bool) (next : Option ℕ)
      (s : Seat N) (own : List (Event N)) (t : Seat N) : Type 0 where
    pub behind : Behind r start wanted left first left_id first_id (Some id) s own t
    pub is_of : IsOf r wanted id key t
    pub still : ShowsOrMoved r.numbers (Next id) (record { to = next; mark = mark }) s t behind.quiet.puts.part
    pub frozen : mark ≡ true → HasLink (heap_of r.numbers t) id (record { to = next; mark = mark })
    pub follows : NextFollows r id next t
    pub sees : Sees own (Next id) (record { to = next; mark = mark })
    pub kind : counted ≡ false → IsUncounted r (heap_of r.numbers t) id
    pub visits : Visits r start wanted passed 4 (Some id) own t

  -- the same, with the next node in hand
  pub record LooksOn (r : Reading N) (start : Place) (wanted : ℕ) (left first : Option Hold) (at : Hold) (key : ℕ) (counted : Bool) (passed : ℕ) (mark : Bool) (next : Option Hold)
      (s t : Seat N) : Type 0 where
    pub own : List (Event N)
    pub ids : HandIds
    pub open ids use *
    pub hands : Hands s.slots t.slots (hand next next_id ∷ hand left left_id ∷ hand first first_id ∷ hand (Some at) id ∷ [])
    pub apart : IsApart 1 (hand next next_id ∷ hand left left_id ∷ hand first first_id ∷ hand (Some at) id ∷ [])
    pub looking : Looking r start wanted left first left_id first_id id key counted passed mark (node_of next next_id) s own t

  -- the node that a link names is of the chain of the wanted key's root, and its key is no lower than this
  abbrev pub NextIsOf : Reading N → ℕ → ℕ → Option ℕ → Seat N → Type 0
  NextIsOf r wanted least None t = Unit {0}
  NextIsOf r wanted least (Some next) t = (key : ℕ) × IsOf r wanted next key t × (least ≤ key)

  -- a search begins at the link of a place below the rank: a root, or a node in hand beside what was held before
  pub record Begins (r : Reading N) (start : Place) (wanted : ℕ) (left : Option Hold) (s t : Seat N) : Type 0 where
    pub left_id : ℕ
    pub agent : t.agent ≡ s.agent
    pub seen : t.seen ≡ s.seen
    pub fresh : t.fresh ≡ s.fresh
    pub hands : Hands s.slots t.slots (hand left left_id ∷ [])
    pub apart : IsApart 1 (hand left left_id ∷ [])
    pub start_is : start ≡ left_place (r.order.root wanted) left left_id
    pub begins : IsChainPlace r.order (heap_of r.numbers t) start
    pub below : FollowsOn r.order (heap_of r.numbers t) start wanted

  -- the search has gone past a node: behind the left place and a run stands the next node, in hand, which may follow
  pub record Passed (r : Reading N) (start : Place) (wanted least passed : ℕ) (left first next : Option Hold) (s t : Seat N) : Type 0 where
    pub own : List (Event N)
    pub ids : GapIds
    pub open ids use *
    pub hands : Hands s.slots t.slots (hand next next_id ∷ hand left left_id ∷ hand first first_id ∷ [])
    pub apart : IsApart 1 (hand next next_id ∷ hand left left_id ∷ hand first first_id ∷ [])
    pub behind : Behind r start wanted left first left_id first_id (node_of next next_id) s own t
    pub next_is : NextIsOf r wanted least (node_of next next_id) t
    pub visits : Visits r start wanted passed 2 (node_of next next_id) own t

  -- the key is absent between the left place and the right node, which showed an unmarked link in this search
  pub record FindsAbsent (r : Reading N) (start : Place) (wanted passed : ℕ) (left first right : Option Hold) (s t : Seat N) : Type 0 where
    pub own : List (Event N)
    pub ids : GapIds
    pub open ids use {left_id, first_id, next_id as right_id}
    pub hands : Hands s.slots t.slots (hand left left_id ∷ hand first first_id ∷ hand right right_id ∷ [])
    pub apart : IsApart 1 (hand left left_id ∷ hand first first_id ∷ hand right right_id ∷ [])
    pub behind : Behind r start wanted left first left_id first_id (node_of right right_id) s own t
    pub above : IsAbove r.order (heap_of r.numbers t) (node_of right right_id) wanted
    pub ends : EndsRun own (node_of right right_id)
    pub visits : Visits r start wanted passed (ends_looks right) (node_of right right_id) own t

  -- this node has the key, and showed an unmarked link to the next one in this search
  pub record FindsPresent (r : Reading N) (start : Place) (wanted passed : ℕ) (left first : Option Hold) (node : Hold) (next : Option Hold) (s t : Seat N) : Type 0
    where
      pub own : List (Event N)
      pub ids : HandIds
      pub open ids use *
      pub hands : Hands s.slots t.slots (hand left left_id ∷ hand first first_id ∷ hand (Some node) id ∷ hand next next_id ∷ [])
      pub behind : Behind r start wanted left first left_id first_id (Some id) s own t
      pub is_of : IsOf r wanted id wanted t
      pub still : ShowsOrMoved r.numbers (Next id) (link_over (node_of next next_id)) s t behind.quiet.puts.part
      pub follows : NextFollows r id (node_of next next_id) t
      pub sees : Sees own (Next id) (link_over (node_of next next_id))
      pub visits : Visits r start wanted passed 4 (Some id) own t

  -- a link moved meanwhile; the pass holds what it held
  pub record FindsMoved (r : Reading N) (s t : Seat N) : Type 0 where
    pub own : List (Event N)
    pub quiet : Quiet r s own t
    pub slots : t.slots ≡ s.slots
    pub moved : 1 ≤ moves_in (from_own s.agent quiet.puts.part)

  -- a link moved meanwhile; the pass has these nodes in hand
  pub record Stops (r : Reading N) (start : Place) (wanted : ℕ) (left first : Option Hold) (at : Hold) (s t : Seat N) : Type 0 where
    pub own : List (Event N)
    pub left_id : ℕ
    pub first_id : ℕ
    pub id : ℕ
    pub key : ℕ
    pub hands : Hands s.slots t.slots (hand left left_id ∷ hand first first_id ∷ hand (Some at) id ∷ [])
    pub behind : Behind r start wanted left first left_id first_id (Some id) s own t
    pub has_key : HasRank r.order (heap_of r.numbers t) id key
    pub moved : 1 ≤ moves_in (from_own s.agent behind.quiet.puts.part)
    pub few : IsFew 4 own

  -- by what the look at that node's link found
  abbrev pub LooksBy : Reading N → Place → ℕ → Option Hold → Option Hold → Hold → ℕ → Bool → ℕ → Seat N → Looked → Seat N → Type 0
  LooksBy r start wanted left first at key counted passed s (Stable seen next) t = LooksOn r start wanted left first at key counted passed seen.mark next s t
  LooksBy r start wanted left first at key counted passed s Moved t = Stops r start wanted left first at s t

  -- a node was let go, if there is one
  pub record LetsGo (node : Option Hold) (s t : Seat N) : Type 0 where
    pub slots : t.slots ≡ slots_without s.slots node
    pub fresh : t.fresh ≡ fresh_without s.slots s.fresh node
    pub puts : Puts s [] t

  -- the node was once linked, if there is one
  abbrev pub IsLinkedIfAny : Reading N → Seat N → Option Hold → ℕ → Type 0
  IsLinkedIfAny r s None id = Unit {0}
  IsLinkedIfAny r s (Some h) id = IsLinkedNode (heap_of r.numbers s) id

  -- beside what these slots held the pass has four once linked nodes in hand, as far as there are so many
  pub record InHand (r : Reading N) (slots : Slots) (left first at next : Option Hold) (t : Seat N) : Type 0 where
    pub ids : HandIds
    pub open ids use *
    pub hands : Hands slots t.slots (hand left left_id ∷ hand first first_id ∷ hand at id ∷ hand next next_id ∷ [])
    pub left_linked : IsLinkedIfAny r t left left_id
    pub first_linked : IsLinkedIfAny r t first first_id
    pub linked : IsLinkedIfAny r t at id
    pub next_linked : IsLinkedIfAny r t next next_id

  -- all that was in hand is let go: the pass holds what these slots held
  pub record AllGone (slots : Slots) (t u : Seat N) : Type 0 where
    pub slots_are : u.slots ≡ slots
    pub fresh : u.fresh ≡ t.fresh
    pub puts : Puts t [] u

  -- the first marked node: it was one before, and the other node is let go; or it is the other node
  pub record KeepsFirst (first : Option Hold) (at kept : Hold) (s t : Seat N) : Type 0 where
    pub either : ((first ≡ Some kept) × LetsGo (Some at) s t) ⊎ ((first ≡ None) × (kept ≡ at) × LetsGo None s t)
