-- What each call of a domain puts into the events that its pass has seen, and what the pass then shows.
use Rattle.std.specs.Borrow.{Bor}
use Rattle.std.specs.Prelude.{Bool, List, MatchBool, None, Option, Some, [], filter, false, if◌then◌else◌, length, slice_get, slice_set, suc, true, zero, ℕ, ◌==◌, ◌∷◌, ◌≡◌, ◌≢◌, ◌≤◌, ◌⊎◌}
use mathlib.Core.List.{IsPrefix}
use Rattle.orc_fault.specs.declared.Spent.{Spent}
use Rattle.orc_heap.specs.Allowed.{AllowedLater, AllowedWhereFits, events_by}
use Rattle.orc_heap.specs.Heap.{Heap, HeapNumbers, Node, null}
use Rattle.orc_heap.specs.Journals.{event_by, points_to, run_heap}
use Rattle.orc_heap.specs.OwnEvents.{Puts}
use Rattle.orc_history.specs.Journals.{own_of}
use Rattle.orc_heap.specs.Seats.{Seat, link_in, place_in, target_in}
use Rattle.orc_heap.specs.Slots.{Hold, Slots, id_in}
use Rattle.orc_heap.specs.declared.events.Act.{Act}
use Rattle.orc_heap.specs.declared.events.Act.TheVariants.{Aim, AimSide, Fill, Give, Look, Miss, Move}
use Rattle.orc_heap.specs.declared.events.Event.{Event}
use Rattle.orc_heap.specs.declared.events.Link.{Link}
use Rattle.orc_heap.specs.declared.events.Place.{Place}
use Rattle.orc_heap.specs.declared.holds.At.{At}
use Rattle.orc_heap.specs.declared.holds.Looked.{Looked}
use Rattle.orc_heap.specs.declared.holds.Looked.TheVariants.{Moved, Stable}
use Rattle.orc_heap.specs.declared.holds.LookedOn.{LookedOn}
use Rattle.orc_heap.specs.declared.holds.LookedOn.TheVariants.{Moved as MovedOff, On, Stays}
use Rattle.orc_heap.specs.declared.holds.Want.{Want}
use Rattle.orc_heap.specs.declared.holds.Want.TheVariants.{Node as WantNode, Null as WantNull}

-- an event of the pass's agent
abbrev pub event_of : {N : Type 0} → Seat N → Act → Option N → Event N
event_of s act noted = event_by s.agent act noted

-- the Move that a caller asks for
abbrev pub move_of : {N : Type 0} → Seat N → At → Want → Want → Option N → Event N
move_of s at from to noted = event_of s (Move (place_in s.slots at) (link_in s.slots from) (link_in s.slots to)) noted

-- the Look that a caller asks for
abbrev pub look_of : {N : Type 0} → Seat N → At → Want → Option N → Event N
look_of s at wanted noted = event_of s (Look (place_in s.slots at) (link_in s.slots wanted)) noted

-- the Fill that a caller asks for
abbrev pub fill_of : {N : Type 0} → Seat N → Hold → ℕ → ℕ → Event N
fill_of s fresh which value = event_of s (Fill (id_in s.slots fresh) which value) None

-- the Aim that a caller asks for
abbrev pub aim_of : {N : Type 0} → Seat N → Hold → Option (Bor Hold) → Event N
aim_of s fresh to = event_of s (Aim (id_in s.slots fresh) (target_in s.slots to)) None

-- the AimSide that a caller asks for
abbrev pub aim_side_of : {N : Type 0} → Seat N → Hold → Option (Bor Hold) → Event N
aim_side_of s fresh to = event_of s (AimSide (id_in s.slots fresh) (target_in s.slots to)) None

module _ {N : Type 0} (may : List (Event N) → Event N → Type 0) (n : HeapNumbers) where
  -- the discipline allows this Look, wherever the place shows the link
  abbrev pub MayLook : Seat N → At → Want → Option N → Type 0
  MayLook s at wanted noted =
      AllowedLater may n s.agent s.seen (place_in s.slots at) (link_in s.slots wanted) (look_of s at wanted noted)

  -- it allows this Move, wherever the place shows the first link
  abbrev pub MayMove : Seat N → At → Want → Want → Option N → Type 0
  MayMove s at from to noted =
      AllowedLater may n s.agent s.seen (place_in s.slots at) (link_in s.slots from) (move_of s at from to noted)

  -- it allows this Aim, wherever that fits
  abbrev pub MayAim : Seat N → Hold → Option (Bor Hold) → Type 0
  MayAim s fresh to = AllowedWhereFits may n s.agent s.seen (aim_of s fresh to)

  -- it allows this AimSide, wherever that fits
  abbrev pub MayAimSide : Seat N → Hold → Option (Bor Hold) → Type 0
  MayAimSide s fresh to = AllowedWhereFits may n s.agent s.seen (aim_side_of s fresh to)

-- a node that was given to this agent and has these values, null links, and no link to it
abbrev pub given_node : ℕ → ℕ → ℕ → Node
given_node agent first second = record { giver = agent; first = Some first; second = Some second; link = null; side = null; named = false; linked = false }

-- a new node was given, after all that the pass had seen: the pass holds it in this slot, it is its fresh node, and it has these
-- values
pub record Gives {N : Type 0} (n : HeapNumbers) (slot first second : ℕ) (s : Seat N) (h : Hold) (t : Seat N) : Type 0 where
  pub id : ℕ
  pub new : length (run_heap n s.seen).nodes ≤ id
  pub slot_is : h.slot ≡ slot
  pub slots : t.slots ≡ slice_set s.slots slot (Some (record { row = h.row; id = id }))
  pub fresh : t.fresh ≡ Some id
  pub puts : Puts s (event_of s Give None ∷ event_of s (Fill id 0 first) None ∷ event_of s (Fill id 1 second) None ∷ []) t
  pub node : slice_get (run_heap n t.seen).nodes id ≡ Some (given_node s.agent first second)

-- what a look of the place tells, puts and holds, by its answer. A null link is loaded once. Where two loads found the same row and
-- mark, the last Look shows the link whose target is held; the first load was unprotected, so its Look shows a link with that mark
-- and with a target, maybe another, whose row was reused since. Where they differ, so do the two Looks, and the first link wasn't null.
abbrev pub Tells : {N : Type 0} → Place → ℕ → Seat N → Looked → Seat N → Type 0
Tells place slot s (Stable seen None) t =
    (seen.null ≡ true) × (t.slots ≡ s.slots) × Puts s (event_of s (Look place (record { to = None; mark = seen.mark })) None ∷ []) t
Tells place slot s (Stable seen (Some h)) t =
    (id : ℕ) × (one : Link) × (one.to ≢ None) × (one.mark ≡ seen.mark) × (seen.null ≡ false) × (h.slot ≡ slot)
    × (t.slots ≡ slice_set s.slots slot (Some (record { row = h.row; id = id })))
    × Puts s (event_of s (Look place one) None ∷ event_of s (Look place (record { to = Some id; mark = seen.mark })) None ∷ []) t
Tells place slot s Moved t =
    (one : Link) × (two : Link) × (one ≢ two) × (t.slots ≡ s.slots)
    × Puts s (event_of s (Look place one) None ∷ event_of s (Look place two) None ∷ []) t × (one.to ≢ None)

-- what a look tells, by its answer; what was fresh stays so
pub record Looks {N : Type 0} (place : Place) (slot : ℕ) (s : Seat N) (looked : Looked) (t : Seat N) : Type 0 where
  pub fresh : t.fresh ≡ s.fresh
  pub tells : Tells place slot s looked t

-- what the look loaded first was null or had a mark
abbrev pub IsNoStep : {N : Type 0} (place : Place) (slot : ℕ) (s : Seat N) (looked : Looked) (t : Seat N) → Tells place slot s looked t → Type 0
IsNoStep place slot s (Stable seen None) t told = Unit {0}
IsNoStep place slot s (Stable seen (Some h)) t told = seen.mark ≡ true
IsNoStep place slot s Moved t told = told.0.mark ≡ true

-- it is a look beside a hold that stays as it is, since there was no unmarked link to a node
pub record LooksBeside {N : Type 0} (place : Place) (slot : ℕ) (s : Seat N) (from h : Hold) (looked : Looked) (t : Seat N) : Type 0 where
  pub kept : h ≡ from
  pub tells : Tells place slot s looked t
  pub no_step : IsNoStep place slot s looked t tells

-- what a look on tells, puts and holds, by its answer. Where two loads found the same row without a mark, the slot of the first hold has
-- the target of the link that the last Look shows, and where they differ it is free
abbrev pub TellsOn : {N : Type 0} → Place → ℕ → Seat N → Hold → LookedOn → Seat N → Type 0
TellsOn place slot s from (On h) t =
    (id : ℕ) × (one : Link) × (one.to ≢ None) × (one.mark ≡ false) × (h.slot ≡ from.slot)
    × (t.slots ≡ slice_set s.slots from.slot (Some (record { row = h.row; id = id })))
    × Puts s (event_of s (Look place one) None ∷ event_of s (Look place (record { to = Some id; mark = false })) None ∷ []) t
TellsOn place slot s from (Stays h looked) t = LooksBeside place slot s from h looked t
TellsOn place slot s from MovedOff t =
    (one : Link) × (two : Link) × (one ≢ two) × (t.slots ≡ slice_set s.slots from.slot None)
    × Puts s (event_of s (Look place one) None ∷ event_of s (Look place two) None ∷ []) t × (one.to ≢ None) × (one.mark ≡ false)

-- what a look on tells, by its answer; what was fresh stays so
pub record MovesOn {N : Type 0} (place : Place) (slot : ℕ) (s : Seat N) (from : Hold) (looked : LookedOn) (t : Seat N) : Type 0 where
  pub fresh : t.fresh ≡ s.fresh
  pub tells : TellsOn place slot s from looked t

-- the place showed another link than the wanted one
pub record Misses {N : Type 0} (place : Place) (wanted : Link) (s t : Seat N) : Type 0 where
  pub found : Link
  pub other : found ≢ wanted
  pub puts : Puts s (event_of s (Miss place wanted found) None ∷ []) t

-- the noted Look of the wanted link, or a Miss
pub record Tests {N : Type 0} (at : At) (wanted : Want) (noted : Option N) (s : Seat N) (done : Bool) (t : Seat N) : Type 0 where
  pub slots : t.slots ≡ s.slots
  pub fresh : t.fresh ≡ s.fresh
  pub puts : MatchBool done (Puts s (look_of s at wanted noted ∷ []) t) (Misses (place_in s.slots at) (link_in s.slots wanted) s t)

-- the fresh node, unless it is this one
abbrev pub unless_node : Option ℕ → Option ℕ → Option ℕ
unless_node None to = None
unless_node (Some id) None = Some id
unless_node (Some id) (Some i) = if i == id then None else Some id

-- the noted Move, or a Miss; a fresh node that was linked is fresh no more
pub record Swings {N : Type 0} (at : At) (from to : Want) (noted : Option N) (s : Seat N) (done : Bool) (t : Seat N) : Type 0 where
  pub slots : t.slots ≡ s.slots
  pub fresh : t.fresh ≡ (if done then unless_node s.fresh (link_in s.slots to).to else s.fresh)
  pub puts : MatchBool done (Puts s (move_of s at from to noted ∷ []) t) (Misses (place_in s.slots at) (link_in s.slots from) s t)

-- the slot is free again, and the fresh node is fresh no more if it was this one
pub record Releases {N : Type 0} (s : Seat N) (h : Hold) (t : Seat N) : Type 0 where
  pub slots : t.slots ≡ slice_set s.slots h.slot None
  pub fresh : t.fresh ≡ unless_node s.fresh (Some (id_in s.slots h))
  pub puts : Puts s [] t

-- a node's first (0) or second (1) value
abbrev pub value_of : ℕ → Node → Option ℕ
value_of zero n = n.first
value_of (suc which) n = n.second

-- this is the value of the node, if that was filled
pub record ReadsValue (h : Heap) (id which value : ℕ) : Type 0 where
  pub node : Node
  pub there : slice_get h.nodes id ≡ Some node
  pub is : (filled : ℕ) → value_of which node ≡ Some filled → value ≡ filled

-- how many Aims, of either link, and Moves made a link to the node
abbrev pub links_made : {N : Type 0} → List (Event N) → ℕ → ℕ
links_made es id = length (filter (λ e. points_to e.act id) es)

-- the refusal names the row of this node, to which 32 events or more have made a link
pub record IsWorn {N : Type 0} (slots : Slots) (h : Hold) (why : Spent) (seen : List (Event N)) : Type 0 where
  pub row : why.row ≡ h.row
  pub links : 32 ≤ links_made seen (id_in slots h)

-- the link that was to be made has another target than the wanted one, and its row is worn
abbrev pub RefusesSwing : {N : Type 0} → Slots → Want → Want → Spent → List (Event N) → Type 0
RefusesSwing slots from (WantNull mark) why seen = ⊥
RefusesSwing slots from (WantNode h mark) why seen = ((link_in slots from).to ≢ Some (id_in slots h.now)) × IsWorn slots h.now why seen

-- the target that was to be linked is a node whose row is worn
abbrev pub RefusesAim : {N : Type 0} → Slots → Option (Bor Hold) → Spent → List (Event N) → Type 0
RefusesAim slots None why seen = ⊥
RefusesAim slots (Some h) why seen = IsWorn slots h.now why seen

-- the longer of two lists, of which the shorter is the beginning
pub record IsLonger {A : Type 0} (one two longer : List A) : Type 0 where
  pub of_both : (IsPrefix one two × (longer ≡ two)) ⊎ (IsPrefix two one × (longer ≡ one))

-- both passes have seen the longer of their two journals, in which the steps of each of the two agents are those that its own
-- pass had seen; so it is with their events. Nothing else that they show has changed
pub record Learns {N S : Type 0} (agent_of : S → ℕ) (s1 s2 t1 t2 : Seat N) (before1 before2 after1 after2 : List S) : Type 0 where
  pub agents : (t1.agent ≡ s1.agent) × (t2.agent ≡ s2.agent)
  pub slots : (t1.slots ≡ s1.slots) × (t2.slots ≡ s2.slots)
  pub fresh : (t1.fresh ≡ s1.fresh) × (t2.fresh ≡ s2.fresh)
  pub one_journal : after1 ≡ after2
  pub longer : IsLonger before1 before2 after1
  pub steps : (own_of agent_of s1.agent after1 ≡ own_of agent_of s1.agent before1) × (own_of agent_of s2.agent after1 ≡ own_of agent_of s2.agent before2)
  pub one_list : t1.seen ≡ t2.seen
  pub longer_list : IsLonger s1.seen s2.seen t1.seen
  pub events : (events_by s1.agent t1.seen ≡ events_by s1.agent s1.seen) × (events_by s2.agent t1.seen ≡ events_by s2.agent s2.seen)
