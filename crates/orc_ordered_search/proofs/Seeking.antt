-- A key is added where a search found it absent, with a node that was in hand or with a new one.
use Rattle.std.proofs.Common.{Bool, Err, List, None, Ok, Option, Result, Some, [], ap, false, refl, subst, sym, true, ℕ, ◌*◌, ◌+◌, ◌∙◌, ◌∷◌, ◌≡◌}
use Rattle.std.specs.List.{slice_set}
use Rattle.orc_fault.specs.declared.Spent.{Spent as SpentRow}
use Rattle.orc_heap.specs.Allowed.{AllAllowed}
use Rattle.orc_heap.specs.Calls.{Gives}
use Rattle.orc_heap.specs.Moves.{gives_in}
use Rattle.orc_heap.specs.OwnEvents.{Only}
use Rattle.orc_heap.specs.Seats.{Seat}
use Rattle.orc_heap.specs.Slots.{Hold, IsFree, SlotNode, Slots}
use Rattle.orc_heap.specs.declared.events.Event.{Event}
use Rattle.orc_heap.specs.declared.events.Place.{Place}
use Rattle.orc_history.specs.declared.set.SetEntry.{SetEntry}
use Rattle.orc_ordered_search.specs.Entries.{AllowsNode}
use Rattle.orc_ordered_search.specs.Inserts.{AddsAt, AddsFound, AddsNode, Inserts, KeepsNode, LinksAndGoes, NodeToAdd, SeesAbsent, Sought, slots_with, turn_by}
use Rattle.orc_ordered_search.specs.Reading.{Ordering, Reading}
use Rattle.orc_ordered_search.specs.Searches.{AllGone, InHand, Quiet, left_place, node_of}
use Rattle.orc_ordered_search.specs.Steps.{Finds}
use Rattle.orc_ordered_search.specs.Turns.{made_from}
use Rattle.orc_ordered_search.specs.Ways.{IsFew}
use Rattle.orc_ordered_search.specs.declared.turn.InsertTurn.TheVariants.{Answered, NoNode}
use Rattle.orc_ordered_search.specs.declared.walk.Searched.{Searched}
use Rattle.orc_ordered_search.specs.declared.walk.Searched.TheVariants.{Absent, Over, Present}
use Rattle.orc_ordered_search.proofs.Adding.{absent_adds, absent_hand_on, absent_id, give_free, given_adds, given_id, lacks_node, lacks_sees}
use Rattle.orc_ordered_search.proofs.Inserting.{adds_inserts, seen_holds}
use Rattle.orc_ordered_search.proofs.Since.{made_is}

-- by what the search found
abbrev pub sought_at : {N : Type 0} {r : Reading N} {wanted value kind : ℕ} {held : Option Hold} {found other : Searched} {t : Seat N} → found ≡ other
    → Sought r wanted value kind held found t → Sought r wanted value kind held other t
sought_at {N} {r} {wanted} {value} {kind} {held} {found} {other} {t} is a = record {
  start = a.start;
  slots = a.slots;
  begun = a.begun;
  room = a.room;
  keeps = a.keeps;
  finds = subst (λ (x : Searched). Finds r a.start wanted a.begun x t) is a.finds;
}

-- whatever it found, it made loads
pub found_quiet : {N : Type 0} (r : Reading N) (start : Place) (wanted : ℕ) (s : Seat N) (found : Searched) (t : Seat N) → Finds r start wanted s found t
    → (own : List (Event N)) × Quiet r s own t
found_quiet r start wanted s Over t f = (f.0.own, f.0.quiet)
found_quiet r start wanted s (Absent left first right passed) t f = (f.own, f.behind.quiet)
found_quiet r start wanted s (Present left first node next passed) t f = (f.own, f.behind.quiet)

-- a node that a turn has to add: few events, by how many nodes were given
pub node_few : {N : Type 0} {r : Reading N} {holds : List (Event N) → Type 0} {may : List (Event N) → Event N → Type 0} {root : ℕ} {noted : N}
    {left first right : Option Hold} {h : Hold} {t : Seat N} (k : NodeToAdd r holds may root noted left first right h t) (es : List SetEntry)
    (linked : Result Bool SpentRow) (u : Seat N) → AddsNode r k.value k.kind es h k.at.id k.given k.slots k.begun linked u
    → IsFew (4 + 3 * k.given) (made_from k.begun u) → IsFew (4 + 3 * gives_in (made_from k.begun u)) (made_from k.begun u)
node_few k es (Ok true) u done few =
    subst (λ (n : ℕ). IsFew (4 + 3 * n) (made_from k.begun u)) (sym (ap gives_in (made_is k.begun u done.own done.made.puts) ∙ done.made.gives)) few
node_few k es (Ok false) u done few =
    subst (λ (n : ℕ). IsFew (4 + 3 * n) (made_from k.begun u)) (sym (ap gives_in (made_is k.begun u done.own done.over.made.puts) ∙ done.over.made.gives)) few
node_few k es (Err why) u done few =
    subst (λ (n : ℕ). IsFew (4 + 3 * n) (made_from k.begun u)) (sym (ap gives_in (made_is k.begun u done.own done.made.puts) ∙ done.made.gives)) few

-- and it was added where the search had found its rank absent
pub node_found : {N : Type 0} {r : Reading N} {holds : List (Event N) → Type 0} {may : List (Event N) → Event N → Type 0} {root : ℕ} {noted : N}
    {left first right : Option Hold} {h : Hold} {t : Seat N} (k : NodeToAdd r holds may root noted left first right h t) (passed : ℕ) (other : N) (many : ℕ)
    (u : Seat N) → noted ≡ other → passed ≡ many
    → LinksAndGoes r k.value k.kind noted k.at.id (left_place (r.order.root k.wanted) left k.at.left_id) k.at.leads.from (node_of right k.at.right_id) k.slots t u
    → AddsFound r k.start k.wanted k.value k.kind other (Absent left first right passed) many k.begun u
node_found {N} {r} {holds} {may} {root} {noted} {left} {first} {right} {h} {t} k passed other many u same counted links = record {
  left = left;
  first = first;
  right = right;
  found_is = ap (λ (x : ℕ). Absent left first right x) counted;
  node = h;
  given = k.given;
  slots = k.slots;
  t = t;
  at = k.at;
  adds = subst (λ (x : N). LinksAndGoes r k.value k.kind x k.at.id (left_place (r.order.root k.wanted) left k.at.left_id) k.at.leads.from
      (node_of right k.at.right_id) k.slots t u) same links;
}

-- a turn that added the node
pub turn_true : (passed : ℕ) (linked : Result Bool SpentRow) (many : ℕ) → turn_by passed linked ≡ Answered true many → (linked ≡ Ok true) × (passed ≡ many)
turn_true passed (Ok true) many e = (refl, cc)
turn_true passed (Ok false) many e = cc
turn_true passed (Err why) many e = cc

module _ {N : Type 0} (ord : Ordering N) {wanted value kind root passed : ℕ} {noted : N} {left first right node : Option Hold} {t : Seat N}
    (a : Sought ord.reading wanted value kind node (Absent left first right passed) t) (of_root : root ≡ ord.reading.order.root wanted)
    (allows : AllowsNode ord.reading ord.holds ord.may wanted value kind t.agent noted) (all : AllAllowed ord.may [] t.seen) where
  -- a node that belongs there
  abbrev to_add : {h : Hold} {given : ℕ} {slots : Slots} {u : Seat N}
      → AddsAt ord.reading a.start wanted value kind left first right h given slots a.begun u → u.agent ≡ t.agent
      → NodeToAdd ord.reading ord.holds ord.may root noted left first right h u
  to_add {h} {given} {slots} {u} at mine = record {
    start = a.start;
    wanted = wanted;
    value = value;
    kind = kind;
    given = given;
    slots = slots;
    begun = a.begun;
    at = at;
    root_is = of_root;
    allowed = subst (λ (x : ℕ). AllowsNode ord.reading ord.holds ord.may wanted value kind x noted) (sym mine) allows;
  }

  -- with the node that is in hand

  pub kept : (h : Hold) → node ≡ Some h → KeepsNode ord.reading value kind (Some h) a.slots a.begun
  kept h is = subst (λ (o : Option Hold). KeepsNode ord.reading value kind o a.slots a.begun) is a.keeps

  abbrev pub in_hand : (h : Hold) → node ≡ Some h → NodeToAdd ord.reading ord.holds ord.may root noted left first right h t
  in_hand h is = to_add (absent_adds ord a.start wanted passed value kind left first right h a.slots a.begun t (kept h is) a.finds
      (seen_holds ord a.begun t a.finds.own a.finds.behind.quiet.puts all) all) refl

  pub hand_inserts : (h : Hold) (is : node ≡ Some h) (entry : Bool → SetEntry) (linked : Result Bool SpentRow) (u : Seat N)
      → ((k : NodeToAdd ord.reading ord.holds ord.may root noted left first right h t)
      → AddsNode ord.reading k.value k.kind (ord.reading.entries_in (Some noted)) h k.at.id k.given k.slots k.begun linked u)
      → ord.reading.entries_in (Some noted) ≡ entry true ∷ []
      → Inserts ord.reading value kind entry 1 a.slots node a.begun (turn_by passed linked) (Some h) u
  hand_inserts h is entry linked u added enters =
      let some = kept h is in
      let holds = seen_holds ord a.begun t a.finds.own a.finds.behind.quiet.puts all in
      let id = (absent_adds ord a.start wanted passed value kind left first right h a.slots a.begun t some a.finds holds all).id in
      let same = absent_id ord a.start wanted passed value kind left first right h a.slots a.begun t some a.finds holds all in
      let done = subst (λ es. AddsNode ord.reading value kind es h id 0 a.begun.slots a.begun linked u) enters (added (in_hand h is)) in
      subst (λ (o : Option Hold). Inserts ord.reading value kind entry 1 a.slots o a.begun (turn_by passed linked) (Some h) u) (sym is)
      (adds_inserts ord.reading value kind entry h id 0 a.begun.slots a.slots (Some h) a.begun u passed linked done
      (some.slots_are ∙ ap (λ (i : ℕ). slots_with a.slots (Some h) i) (sym same)) some.slot_is refl)

  -- with a new one

  none : node ≡ None → KeepsNode ord.reading value kind None a.slots a.begun
  none is = subst (λ (o : Option Hold). KeepsNode ord.reading value kind o a.slots a.begun) is a.keeps

  pub one : node ≡ None → IsFree a.begun.slots 1
  one is = subst (λ (z : Slots). IsFree z 1) (sym (none is).slots_are) a.room.one

  pub room_to_give : node ≡ None → IsFree t.slots 1 × (t.fresh ≡ None)
  room_to_give is = (
    give_free ord a.start wanted passed value kind left first right a.begun t t a.finds (one is),
    a.finds.behind.quiet.fresh ∙ (none is).to_add,
  )

  module _ (u : Seat N) (is : node ≡ None) (all_u : AllAllowed ord.may [] u.seen) where
    abbrev pub node_given : (h : Hold) → Gives ord.reading.numbers 1 value kind t h u → NodeToAdd ord.reading ord.holds ord.may root noted left first right h u
    node_given h g = to_add (given_adds ord a.start wanted passed value kind left first right a.begun t u a.finds (one is) h g all_u) g.puts.agent

    pub given_inserts : (h : Hold) (g : Gives ord.reading.numbers 1 value kind t h u) (entry : Bool → SetEntry) (linked : Result Bool SpentRow) (v : Seat N)
        → ((k : NodeToAdd ord.reading ord.holds ord.may root noted left first right h u)
        → AddsNode ord.reading k.value k.kind (ord.reading.entries_in (Some noted)) h k.at.id k.given k.slots k.begun linked v)
        → ord.reading.entries_in (Some noted) ≡ entry true ∷ []
        → Inserts ord.reading value kind entry 1 a.slots node a.begun (turn_by passed linked) (Some h) v
    given_inserts h g entry linked v added enters =
        let x : Option SlotNode = Some (record { row = h.row; id = g.id }) in
        let base = slice_set a.begun.slots 1 x in
        let id = (given_adds ord a.start wanted passed value kind left first right a.begun t u a.finds (one is) h g all_u).id in
        let same = given_id ord a.start wanted passed value kind left first right a.begun t u a.finds (one is) h g all_u in
        let base_is : base ≡ slots_with a.slots (Some h) g.id = ap (λ (z : Slots). slice_set z 1 x) (none is).slots_are
        ∙ ap (λ (i : ℕ). slice_set a.slots i x) (sym g.slot_is) in
        let done = subst (λ es. AddsNode ord.reading value kind es h id 1 base a.begun linked v) enters (added (node_given h g)) in
        subst (λ (o : Option Hold). Inserts ord.reading value kind entry 1 a.slots o a.begun (turn_by passed linked) (Some h) v) (sym is)
        (adds_inserts ord.reading value kind entry h id 1 base a.slots None a.begun v passed linked done
        (base_is ∙ ap (λ (i : ℕ). slots_with a.slots (Some h) i) (sym same)) g.slot_is refl)

    -- none could be had

    pub lacking_hand : Only [] t u → InHand ord.reading a.begun.slots left first right None u
    lacking_hand o = absent_hand_on ord a.start wanted passed value kind left first right a.begun t u a.finds (one is) o all_u

    pub lacking_inserts : (o : Only [] t u) (entry : Bool → SetEntry) (v : Seat N)
        → (InHand ord.reading a.begun.slots left first right None u → AllGone a.begun.slots u v)
        → Inserts ord.reading value kind entry 1 a.slots node a.begun NoNode None v
    lacking_inserts o entry v goes =
        let no = none is in
        let lacks = lacks_node ord a.start wanted passed value kind left first right a.begun t u a.finds (one is) v o (goes (lacking_hand o)) no.to_add in
        subst (λ (x : Option Hold). Inserts ord.reading value kind entry 1 a.slots x a.begun NoNode None v) (sym is)
        (subst (λ (z : Slots). Inserts ord.reading value kind entry 1 z None a.begun NoNode None v) no.slots_are lacks)

    pub lacking_sees : (o : Only [] t u) (v : Seat N) → (InHand ord.reading a.begun.slots left first right None u → AllGone a.begun.slots u v)
        → AllAllowed ord.may [] v.seen → SeesAbsent ord.reading wanted (made_from a.begun v) v × IsFew 2 (made_from a.begun v)
    lacking_sees o v goes all_v =
        lacks_sees ord a.start wanted passed value kind left first right a.begun t u a.finds (one is) v o (goes (lacking_hand o)) all_v
