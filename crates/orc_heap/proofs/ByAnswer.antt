-- What a call told, by its answer.
use Rattle.std.proofs.Common.{Bool, [], ap, false, refl, subst, true, ℕ, ◌∷◌, ◌≡◌}
use Rattle.std.specs.Prelude.{◌≢◌}
use Rattle.orc_heap.specs.declared.events.Link.{Link}
use Rattle.std.proofs.lemmas.Bool.{eq-eqb}
use Rattle.std.specs.List.{slice_set}
use Rattle.std.specs.Prelude.{MatchBool, None, Option, Some, if◌then◌else◌}
use Rattle.orc_heap.specs.Calls.{Looks, Misses, Swings, Tells, Tests, event_of, look_of, move_of, unless_node}
use Rattle.orc_heap.specs.OwnEvents.{Puts}
use Rattle.orc_heap.specs.Seats.{Seat, link_in, place_in}
use Rattle.orc_heap.specs.Slots.{Hold}
use Rattle.orc_heap.specs.declared.events.Act.TheVariants.{Look}
use Rattle.orc_heap.specs.declared.events.Place.{Place}
use Rattle.orc_heap.specs.declared.holds.At.{At}
use Rattle.orc_heap.specs.declared.holds.Want.{Want}
use Rattle.orc_heap.specs.declared.holds.Looked.TheVariants.{Stable}
use Rattle.orc_heap.specs.declared.holds.Seen.{Seen}

-- a look that read null
pub record LookedNull {N : Type 0} (place : Place) (mark : Bool) (s t : Seat N) : Type 0 where
  pub slots : t.slots ≡ s.slots
  pub puts : Puts s (event_of s (Look place (record { to = None; mark = mark })) None ∷ []) t

pub Looks-null : {N : Type 0} {place : Place} {slot : ℕ} {s t : Seat N} {seen : Seen} {held : Option Hold}
    → Looks place slot s (Stable seen held) t → held ≡ None → LookedNull place seen.mark s t
Looks-null {place = place} {slot = slot} {s = s} {t = t} {seen = seen} r is =
    let tells : Tells place slot s (Stable seen None) t = subst (λ (h : Option Hold). Tells place slot s (Stable seen h) t) is r.tells in
    record { slots = tells.1; puts = tells.2 }

-- a look that holds the node of its last Look; the first one showed a link with its mark and with a target, maybe another
pub record LookedHeld {N : Type 0} (place : Place) (slot : ℕ) (mark : Bool) (h : Hold) (s t : Seat N) : Type 0 where
  pub id : ℕ
  pub at : h.slot ≡ slot
  pub slots : t.slots ≡ slice_set s.slots slot (Some (record { row = h.row; id = id }))
  pub one : Link
  pub first : one.to ≢ None
  pub marked : one.mark ≡ mark
  pub puts : Puts s (event_of s (Look place one) None ∷ event_of s (Look place (record { to = Some id; mark = mark })) None ∷ []) t

pub Looks-held : {N : Type 0} {place : Place} {slot : ℕ} {s t : Seat N} {seen : Seen} {held : Option Hold} {h : Hold}
    → Looks place slot s (Stable seen held) t → held ≡ Some h → LookedHeld place slot seen.mark h s t
Looks-held {place = place} {slot = slot} {s = s} {t = t} {seen = seen} {h = h} r is =
    let tells : Tells place slot s (Stable seen (Some h)) t = subst (λ (x : Option Hold). Tells place slot s (Stable seen x) t) is r.tells in
    record { id = tells.0; one = tells.1; first = tells.2; marked = tells.3; at = tells.5; slots = tells.6; puts = tells.7 }

-- a swing that moved the link, and one that missed
pub Swings-moved : {N : Type 0} {at : At} {from to : Want} {noted : Option N} {s t : Seat N} {done : Bool} → Swings at from to noted s done t → done ≡ true
    → Puts s (move_of s at from to noted ∷ []) t
Swings-moved {at = at} {from = from} {to = to} {noted = noted} {s = s} {t = t} w is =
    subst (λ (b : Bool). MatchBool b (Puts s (move_of s at from to noted ∷ []) t) (Misses (place_in s.slots at) (link_in s.slots from) s t)) is w.puts

pub Swings-missed : {N : Type 0} {at : At} {from to : Want} {noted : Option N} {s t : Seat N} {done : Bool} → Swings at from to noted s done t → done ≡ false
    → Misses (place_in s.slots at) (link_in s.slots from) s t
Swings-missed {at = at} {from = from} {to = to} {noted = noted} {s = s} {t = t} w is =
    subst (λ (b : Bool). MatchBool b (Puts s (move_of s at from to noted ∷ []) t) (Misses (place_in s.slots at) (link_in s.slots from) s t)) is w.puts

-- a test that found the wanted link, and one that missed
pub Tests-found : {N : Type 0} {at : At} {wanted : Want} {noted : Option N} {s t : Seat N} {done : Bool} → Tests at wanted noted s done t → done ≡ true
    → Puts s (look_of s at wanted noted ∷ []) t
Tests-found {at = at} {wanted = wanted} {noted = noted} {s = s} {t = t} w is =
    subst (λ (b : Bool). MatchBool b (Puts s (look_of s at wanted noted ∷ []) t) (Misses (place_in s.slots at) (link_in s.slots wanted) s t)) is w.puts

pub Tests-missed : {N : Type 0} {at : At} {wanted : Want} {noted : Option N} {s t : Seat N} {done : Bool} → Tests at wanted noted s done t → done ≡ false
    → Misses (place_in s.slots at) (link_in s.slots wanted) s t
Tests-missed {at = at} {wanted = wanted} {noted = noted} {s = s} {t = t} w is =
    subst (λ (b : Bool). MatchBool b (Puts s (look_of s at wanted noted ∷ []) t) (Misses (place_in s.slots at) (link_in s.slots wanted) s t)) is w.puts

-- and what is then fresh
pub Swings-fresh : {N : Type 0} {at : At} {from to : Want} {noted : Option N} {s t : Seat N} {done : Bool} → Swings at from to noted s done t → done ≡ true
    → t.fresh ≡ unless_node s.fresh (link_in s.slots to).to
Swings-fresh {to = to} {s = s} {t = t} w is = subst (λ (b : Bool). t.fresh ≡ (if b then unless_node s.fresh (link_in s.slots to).to else s.fresh)) is w.fresh

pub unless_none : (fresh : Option ℕ) → unless_node fresh None ≡ fresh
unless_none None = refl
unless_none (Some id) = refl

pub unless_same : (id : ℕ) → unless_node (Some id) (Some id) ≡ None
unless_same id = ap (λ b. if b then None else Some id) (eq-eqb id id refl)

-- no fresh node
pub unless_fresh : (fresh to : Option ℕ) → fresh ≡ None → unless_node fresh to ≡ None
unless_fresh None to e = refl
unless_fresh (Some id) to e = cc
