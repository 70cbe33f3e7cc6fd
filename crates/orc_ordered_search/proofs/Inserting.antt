-- One turn of an insert after another, and its answer.
use Rattle.std.proofs.Common.{Bool, Err, List, None, Ok, Option, Result, Some, [], ap, arith, false, inl, inr, refl, subst, sym, true, ℕ, ◌++◌, ◌+◌, ◌∙◌, ◌∷◌, ◌≡◌, ◌≢◌, ◌≤◌, ◌⊎◌}
use Rattle.std.specs.List.{slice_get, slice_set}
use Rattle.orc_fault.specs.declared.Spent.{Spent as SpentRow}
use Rattle.orc_heap.proofs.ByAnswer.{unless_fresh, unless_same}
use Rattle.orc_heap.proofs.Hands.{holds_of}
use Rattle.orc_heap.proofs.Slots.{get-set_other, get-set_same, set-back}
use Rattle.orc_heap.proofs.Stays.{allowed-left}
use Rattle.orc_heap.specs.Allowed.{AllAllowed}
use Rattle.orc_heap.specs.Calls.{unless_node}
use Rattle.orc_heap.specs.Hands.{HoldsId}
use Rattle.orc_heap.specs.OwnEvents.{Puts}
use Rattle.orc_heap.specs.Seats.{IsIdle, Seat}
use Rattle.orc_heap.specs.Slots.{Hold, IsFree, SlotNode, Slots}
use Rattle.orc_heap.specs.declared.events.Event.{Event}
use Rattle.orc_history.specs.declared.set.ListRefused.{ListRefused}
use Rattle.orc_history.specs.declared.set.ListRefused.TheVariants.{NoNode as RefusedNoNode, Spent as RefusedSpent}
use Rattle.orc_history.specs.declared.set.SetEntry.{SetEntry}
use Rattle.orc_ordered_search.specs.Inserts.{AddEnds, AddsNode, EndsWith, HasRoomFor, InsertAnswers, InsertCall, InsertEnds, InsertTires, Inserts, InsertsOn, InsertsTurns, IsInFirst, IsToAdd, KeepsNode, answer_by, count_of, slots_with, turn_by}
use Rattle.orc_ordered_search.specs.Reading.{Ordering, Reading}
use Rattle.orc_ordered_search.specs.Searches.{HasRoom, HoldsIfAny, LetsGo, node_of}
use Rattle.orc_ordered_search.specs.Turns.{Answers, Tires}
use Rattle.orc_ordered_search.specs.declared.turn.InsertTurn.{InsertTurn}
use Rattle.orc_ordered_search.specs.declared.turn.InsertTurn.TheVariants.{Answered, NoNode, Over, Spent}
use Rattle.orc_ordered_search.proofs.Linking.{holds_on, loads_leave}
use Rattle.orc_ordered_search.proofs.Making.{made_next, made_on, over_next, over_none, over_on}
use Rattle.orc_ordered_search.proofs.Stepping.{holds_later}

-- what the turn comes to

adds_ends : {N : Type 0} {r : Reading N} {given : ℕ} {base : Slots} {s u : Seat N} {entries : List SetEntry} {fresh : Option ℕ}
    (a : AddEnds r given base s entries fresh u) (h : Hold) (id : ℕ) (slots : Slots) (had : Option Hold) → base ≡ slots_with slots (Some h) id → h.slot ≡ 1
    → count_of had + given ≡ 1 → (u.fresh ≡ None) ⊎ (u.fresh ≡ Some id) → (own : List (Event N)) × InsertEnds r slots had (Some h) s own entries u
adds_ends {N} {r} {given} a h id slots had is first count fresh = (
  a.own,
  record {
    given = given;
    made = a.made;
    count = count;
    ends = record { id = id; slots_are = a.slots_are ∙ is; slot_is = first; fresh = fresh };
  },
)

pub adds_inserts : {N : Type 0} (r : Reading N) (value kind : ℕ) (entry : Bool → SetEntry) (h : Hold) (id given : ℕ) (base slots : Slots) (had : Option Hold)
    (s u : Seat N) (passed : ℕ) (linked : Result Bool SpentRow) → AddsNode r value kind (entry true ∷ []) h id given base s linked u
    → base ≡ slots_with slots (Some h) id → h.slot ≡ 1 → count_of had + given ≡ 1 → Inserts r value kind entry 1 slots had s (turn_by passed linked) (Some h) u
adds_inserts r value kind entry h id given base slots had s u passed (Ok false) a is first count = record {
  own = a.own;
  given = given;
  over = a.over;
  count = count;
  keeps = record { id = id; slots_are = a.slots_are ∙ is; slot_is = first; to_add = a.holds };
}
adds_inserts r value kind entry h id given base slots had s u passed (Ok true) a is first count = adds_ends a h id slots had is first count (inl a.fresh_is)
adds_inserts r value kind entry h id given base slots had s u passed (Err why) a is first count = adds_ends a h id slots had is first count (inr a.fresh_is)

-- a turn that made only loads keeps the node
pub keeps_on : {N : Type 0} (ord : Ordering N) (value kind : ℕ) (node : Option Hold) (slots : Slots) (s t : Seat N)
    → KeepsNode ord.reading value kind node slots s → (w : Tires ord.reading 1 s t) → ord.holds s.seen → AllAllowed ord.may [] t.seen
    → InsertsOn ord.reading value kind 1 slots node node s t
keeps_on ord value kind node slots s t k w holds all = record {
  own = w.own;
  given = 0;
  over = w.over;
  count = omega arith;
  keeps = record { id = k.id; slots_are = w.slots ∙ k.slots_are; slot_is = k.slot_is; to_add = by node k.to_add };
}
  where
    by : (o : Option Hold) → IsToAdd ord.reading value kind o k.id s → IsToAdd ord.reading value kind o k.id t
    by None fresh = w.fresh ∙ fresh
    by (Some h) a = holds_on ord value kind h k.id s t w.own a w.over.made.puts (loads_leave k.id w.own w.loads) holds all
        (subst (λ (z : Slots). HoldsId z h k.id) (sym w.slots) a.held) w.fresh

-- and so does one that answered
pub keeps_answer : {N : Type 0} (r : Reading N) (value kind : ℕ) (node : Option Hold) (slots : Slots) (entry : SetEntry) (s t : Seat N)
    → KeepsNode r value kind node slots s → Answers r s entry t → (own : List (Event N)) × InsertEnds r slots node node s own (entry ∷ []) t
keeps_answer r value kind node slots entry s t k a = (
  a.own,
  record {
    given = 0;
    made = a.made;
    count = omega arith;
    ends = record { id = k.id; slots_are = a.slots ∙ k.slots_are; slot_is = k.slot_is; fresh = by node k.to_add };
  },
)
  where
    by : (o : Option Hold) → IsToAdd r value kind o k.id s → (t.fresh ≡ None) ⊎ (t.fresh ≡ node_of o k.id)
    by None fresh = inl (a.fresh ∙ fresh)
    by (Some h) kept = inr (a.fresh ∙ kept.fresh)

-- the discipline held when a call began
pub seen_holds : {N : Type 0} (ord : Ordering N) (s t : Seat N) (own : List (Event N)) → Puts s own t → AllAllowed ord.may [] t.seen → ord.holds s.seen
seen_holds ord s t own p all =
    let whole : AllAllowed ord.may [] (s.seen ++ p.part) = subst (λ es. AllAllowed ord.may [] es) p.is all in
    holds_later ord [] s.seen ord.owes.begins (allowed-left ord.may [] s.seen p.part whole)

-- slots 2 to 5 are free beside the node
pub has_room : {N : Type 0} (r : Reading N) (value kind : ℕ) (node : Option Hold) (slots : Slots) (s : Seat N) → HasRoomFor slots
    → KeepsNode r value kind node slots s → HasRoom s.slots
has_room r value kind node slots s room k = record {
  two = free node k.slots_are k.slot_is 2 (λ e. omega (arith, e)) room.room.two;
  three = free node k.slots_are k.slot_is 3 (λ e. omega (arith, e)) room.room.three;
  four = free node k.slots_are k.slot_is 4 (λ e. omega (arith, e)) room.room.four;
  five = free node k.slots_are k.slot_is 5 (λ e. omega (arith, e)) room.room.five;
}
  where
    free : (o : Option Hold) → s.slots ≡ slots_with slots o k.id → IsInFirst o → (slot : ℕ) → slot ≢ 1 → IsFree slots slot → IsFree s.slots slot
    free None is first slot ne f = subst (λ (z : Slots). IsFree z slot) (sym is) f
    free (Some h) is first slot ne f =
        let other : slot ≢ h.slot = λ e. ne (e ∙ first) in
        record { above = f.above; below = f.below; empty = ap (λ (z : Slots). slice_get z slot) is ∙ (get-set_other slots h.slot slot _ other ∙ f.empty) }

pub inserts_none : {N : Type 0} (r : Reading N) (value kind : ℕ) (s : Seat N) → s.fresh ≡ None → InsertsOn r value kind 0 s.slots None None s s
inserts_none r value kind s fresh = record {
  own = [];
  given = 0;
  over = over_none r s;
  count = refl;
  keeps = record { id = 0; slots_are = refl; slot_is = tt; to_add = fresh };
}

module _ {N : Type 0} (r : Reading N) (value kind turns : ℕ) (had kept : Option Hold) (s t u : Seat N)
    (w : InsertsOn r value kind turns s.slots None had s t) where
  pub inserts_next : InsertsOn r value kind 1 s.slots had kept t u → InsertsOn r value kind (turns + 1) s.slots None kept s u
  inserts_next f = record {
    own = w.own ++ f.own;
    given = w.given + f.given;
    over = over_next r w.given f.given turns s t u w.own f.own w.over f.over;
    count = omega (arith, w.count, f.count);
    keeps = f.keeps;
  }

  ends_next : (own : List (Event N)) (es : List SetEntry) → InsertEnds r s.slots had kept t own es u → InsertEnds r s.slots None kept s (w.own ++ own) es u
  ends_next own es e = record {
    given = w.given + e.given;
    made = made_next r w.given e.given turns s t u w.own own es w.over e.made;
    count = omega (arith, w.count, e.count);
    ends = e.ends;
  }

  pub inserts_done : (entry : Bool → SetEntry) (most : ℕ) (turn : InsertTurn) → Inserts r value kind entry 1 s.slots had t turn kept u → (turn ≡ Over → ⊥)
      → turns + 1 ≤ most → InsertsTurns r value kind entry most s turn kept u
  inserts_done entry most Over f other low = absurd (other refl)
  inserts_done entry most (Answered answer passed) (own, e) other low =
      ((λ zero. omega (arith, zero, low)), (w.own ++ own, ends_next own (entry answer ∷ []) e))
  inserts_done entry most NoNode (own, e) other low = ((λ zero. omega (arith, zero, low)), (w.own ++ own, ends_next own [] e))
  inserts_done entry most (Spent why) (own, e) other low = ((λ zero. omega (arith, zero, low)), (w.own ++ own, ends_next own [] e))

-- the node in hand is held, and let go

pub keeps_ends : {N : Type 0} (r : Reading N) (value kind : ℕ) (node : Option Hold) (slots : Slots) (t : Seat N) → KeepsNode r value kind node slots t
    → EndsWith node slots t
keeps_ends r value kind node slots t k = record { id = k.id; slots_are = k.slots_are; slot_is = k.slot_is; fresh = by node k.to_add }
  where
    by : (o : Option Hold) → IsToAdd r value kind o k.id t → (t.fresh ≡ None) ⊎ (t.fresh ≡ node_of o k.id)
    by None fresh = inl fresh
    by (Some h) a = inr a.fresh

pub ends_of : {N : Type 0} (r : Reading N) (value kind : ℕ) (entry : Bool → SetEntry) (turns : ℕ) (kept : Option Hold) (s t : Seat N) (turn : InsertTurn)
    → InsertsTurns r value kind entry turns s turn kept t → EndsWith kept s.slots t
ends_of r value kind entry turns kept s t Over f = keeps_ends r value kind kept s.slots t f.keeps
ends_of r value kind entry turns kept s t (Answered answer passed) f = f.1.1.ends
ends_of r value kind entry turns kept s t NoNode f = f.1.1.ends
ends_of r value kind entry turns kept s t (Spent why) f = f.1.1.ends

pub ends_held : {N : Type 0} (kept : Option Hold) (s t : Seat N) → EndsWith kept s.slots t → HasRoomFor s.slots → HoldsIfAny t.slots kept
ends_held None s t e room = tt
ends_held (Some h) s t e room =
    let x : Option SlotNode = Some (record { row = h.row; id = e.id }) in
    let free : slice_get s.slots h.slot ≡ Some None = subst (λ (i : ℕ). slice_get s.slots i ≡ Some None) (sym e.slot_is) room.one.empty in
    let held : HoldsId t.slots h e.id = subst (λ (z : Slots). slice_get z h.slot ≡ Some x) (sym e.slots_are) (get-set_same s.slots h.slot None x free) in
    (holds_of t.slots h e.id held).0

pub record Gone {N : Type 0} (s u : Seat N) : Type 0 where
  pub slots : u.slots ≡ s.slots
  pub fresh : u.fresh ≡ None

pub ends_go : {N : Type 0} (kept : Option Hold) (s t u : Seat N) → EndsWith kept s.slots t → HasRoomFor s.slots → LetsGo kept t u → Gone s u
ends_go None s t u e room g = record { slots = g.slots ∙ e.slots_are; fresh = g.fresh ∙ elim e.fresh [ inl a ↦ a | inr b ↦ b ] }
ends_go (Some h) s t u e room g =
    let x : Option SlotNode = Some (record { row = h.row; id = e.id }) in
    let free : slice_get s.slots h.slot ≡ Some None = subst (λ (i : ℕ). slice_get s.slots i ≡ Some None) (sym e.slot_is) room.one.empty in
    let held : HoldsId t.slots h e.id = subst (λ (z : Slots). slice_get z h.slot ≡ Some x) (sym e.slots_are) (get-set_same s.slots h.slot None x free) in
    let id_is = (holds_of t.slots h e.id held).1 in
    record {
      slots = g.slots ∙ (ap (λ (z : Slots). slice_set z h.slot None) e.slots_are ∙ set-back s.slots h.slot None x free);
      fresh = g.fresh ∙ (ap (λ (i : ℕ). unless_node t.fresh (Some i)) id_is ∙ elim e.fresh [
        | inl none ↦ unless_fresh t.fresh (Some e.id) none
        | inr some ↦ ap (λ (f : Option ℕ). unless_node f (Some e.id)) some ∙ unless_same e.id
      ]);
    }

pub few_given : (given : ℕ) (kept : Option Hold) → 0 + given ≡ count_of kept → given ≤ 1
few_given given None e = omega (arith, e)
few_given given (Some h) e = omega (arith, e)

module _ {N : Type 0} (r : Reading N) (turns : ℕ) (kept : Option Hold) (s t u : Seat N) (room : HasRoomFor s.slots) (g : LetsGo kept t u) where
  insert_tires : (value kind : ℕ) → InsertsOn r value kind turns s.slots None kept s t → InsertTires r turns s u
  insert_tires value kind f =
      let gone = ends_go kept s t u (keeps_ends r value kind kept s.slots t f.keeps) room g in
      record {
        own = f.own;
        given = f.given;
        at_most = few_given f.given kept f.count;
        over = over_on r f.given turns s t u f.own f.over g.puts;
        slots = gone.slots;
        fresh = gone.fresh;
      }

  insert_call : (own : List (Event N)) (es : List SetEntry) → InsertEnds r s.slots None kept s own es t → InsertCall r s own es u
  insert_call own es e =
      let gone = ends_go kept s t u e.ends room g in
      record {
        given = e.given;
        at_most = few_given e.given kept e.count;
        made = made_on r e.given s t u own es e.made g.puts;
        slots = gone.slots;
        fresh = gone.fresh;
      }

  -- an insert answers by how its turns ended, and the node in hand is let go
  pub turns_answer : (value kind : ℕ) (entry : Bool → SetEntry) (turn : InsertTurn) → InsertsTurns r value kind entry turns s turn kept t
      → InsertAnswers r entry turns s (answer_by turn) u
  turns_answer value kind entry Over f = insert_tires value kind f
  turns_answer value kind entry (Answered answer passed) f = (f.0, f.1.0, insert_call f.1.0 _ f.1.1)
  turns_answer value kind entry NoNode f = (f.0, f.1.0, insert_call f.1.0 _ f.1.1)
  turns_answer value kind entry (Spent why) f = (f.0, f.1.0, insert_call f.1.0 _ f.1.1)

-- an idle pass has room
pub idle_room : {N : Type 0} (s : Seat N) → IsIdle s → HasRoomFor s.slots
idle_room s idle =
    subst (λ (z : Slots). HasRoomFor z) (sym idle.slots) (record {
      one = record { above = omega arith; below = omega arith; empty = refl };
      room = record {
        two = record { above = omega arith; below = omega arith; empty = refl };
        three = record { above = omega arith; below = omega arith; empty = refl };
        four = record { above = omega arith; below = omega arith; empty = refl };
        five = record { above = omega arith; below = omega arith; empty = refl };
      };
    })

spent_same : (a b : SpentRow) → ◌≡◌ {A = Result Bool ListRefused} (Err (RefusedSpent a)) (Err (RefusedSpent b)) → a ≡ b
spent_same a b e = cc

pub turn_spent : (passed : ℕ) (linked : Result Bool SpentRow) (why : SpentRow) → turn_by passed linked ≡ Spent why → linked ≡ Err why
turn_spent passed (Ok true) why e = cc
turn_spent passed (Ok false) why e = cc
turn_spent passed (Err other) why e = let same : other ≡ why = cc in ap (λ (x : SpentRow). Err x) same

pub turn_node : (passed : ℕ) (linked : Result Bool SpentRow) → turn_by passed linked ≡ NoNode → ⊥
turn_node passed (Ok true) e = cc
turn_node passed (Ok false) e = cc
turn_node passed (Err why) e = cc

-- what an insert's turns ended with that added its key
pub turn_added : (turn : InsertTurn) → answer_by turn ≡ Ok true → (passed : ℕ) × (turn ≡ Answered true passed)
turn_added Over e = cc
turn_added (Answered true passed) e = (passed, refl)
turn_added (Answered false passed) e = cc
turn_added NoNode e = cc
turn_added (Spent why) e = cc

-- how the turns of an insert ended that was refused so
pub turn_lacks : (turn : InsertTurn) → answer_by turn ≡ Err RefusedNoNode → turn ≡ NoNode
turn_lacks Over e = cc
turn_lacks (Answered answer passed) e = cc
turn_lacks NoNode e = refl
turn_lacks (Spent why) e = cc

pub turn_worn : (turn : InsertTurn) (why : SpentRow) → answer_by turn ≡ Err (RefusedSpent why) → turn ≡ Spent why
turn_worn Over why e = cc
turn_worn (Answered answer passed) why e = cc
turn_worn NoNode why e = cc
turn_worn (Spent other) why e = ap (λ (x : SpentRow). Spent x) (spent_same other why e)
