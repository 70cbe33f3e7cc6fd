-- One call after another, and where a call's own events stand.
use Rattle.std.proofs.Common.{Bool, List, [], ap, append_assoc, cond, false, refl, subst, sym, true, ℕ, ◌++◌, ◌∙◌, ◌∷◌, ◌≡◌}
use Rattle.std.proofs.lemmas.List.Elements.{filter-append}
use Rattle.std.specs.List.{filter}
use Rattle.std.specs.Prelude.{◌==◌}
use Rattle.orc_heap.proofs.Stays.{allowed-left, allowed-right}
use Rattle.orc_heap.specs.Allowed.{AllAllowed, events_by}
use Rattle.orc_heap.specs.Calls.{IsNoStep, Looks, MovesOn}
use Rattle.orc_heap.specs.OwnEvents.{Only, Puts}
use Rattle.orc_heap.specs.Seats.{Seat}
use Rattle.orc_heap.specs.Slots.{Hold}
use Rattle.orc_heap.specs.declared.events.Event.{Event}
use Rattle.orc_heap.specs.declared.events.Place.{Place}
use Rattle.orc_heap.specs.declared.holds.Looked.{Looked}
use Rattle.orc_heap.specs.declared.holds.LookedOn.TheVariants.{Stays}

pub Puts-trans : {N : Type 0} (s t u : Seat N) (xs ys : List (Event N)) → Puts s xs t → Puts t ys u → Puts s (xs ++ ys) u
Puts-trans s t u xs ys p q = record {
  part = p.part ++ q.part;
  is = q.is ∙ (ap (λ z. z ++ q.part) p.is ∙ append_assoc s.seen p.part q.part);
  agent = q.agent ∙ p.agent;
  own_is =
      let last : events_by s.agent q.part ≡ ys = subst (λ (a : ℕ). events_by a q.part ≡ ys) p.agent q.own_is in
      filter-append (λ e. e.agent == s.agent) p.part q.part ∙ (ap (λ z. z ++ events_by s.agent q.part) p.own_is ∙ ap (λ z. xs ++ z) last);
}

pub Only-trans : {N : Type 0} (s t u : Seat N) (xs ys : List (Event N)) → Only xs s t → Only ys t u → Only (xs ++ ys) s u
Only-trans s t u xs ys p q = record { slots = q.slots ∙ p.slots; fresh = q.fresh ∙ p.fresh; puts = Puts-trans s t u xs ys p.puts q.puts }

-- a look whose first link was null or had a mark is a look on by which the hold stays
pub looks_beside : {N : Type 0} (place : Place) (slot : ℕ) (s : Seat N) (from : Hold) (looked : Looked) (t : Seat N) (l : Looks place slot s looked t)
    → IsNoStep place slot s looked t l.tells → MovesOn place slot s from (Stays from looked) t
looks_beside place slot s from looked t l none = record { fresh = l.fresh; tells = record { kept = refl; tells = l.tells; no_step = none } }

-- what the pass has newly seen is allowed where it stands
pub part_allowed : {N : Type 0} (may : List (Event N) → Event N → Type 0) (s t : Seat N) (own : List (Event N)) (p : Puts s own t)
    → AllAllowed may [] t.seen → AllAllowed may s.seen p.part
part_allowed may s t own p all = allowed-right may [] s.seen p.part (subst (λ es. AllAllowed may [] es) p.is all)

-- one that passes: of those that pass, these stand before it and these after it
pub record PassesAt {X : Type 0} (test : X → Bool) (xs us : List X) (y : X) (ys : List X) : Type 0 where
  pub before : List X
  pub later : List X
  pub is : xs ≡ before ++ y ∷ later
  pub pass_before : filter test before ≡ us
  pub pass_later : filter test later ≡ ys

pub filter-at : {X : Type 0} (test : X → Bool) (xs us : List X) (y : X) (ys : List X) → filter test xs ≡ us ++ y ∷ ys → PassesAt test xs us y ys
filter-at test [] [] y ys e = cc
filter-at test [] (u ∷ us) y ys e = cc
filter-at {X} test (x ∷ xs) us y ys e = cases (λ vs h. filter-at test xs vs y ys h) (test x) refl us e
  where
    skip : (us vs : List X) → PassesAt test xs vs y ys → cond (test x) (x ∷ vs) vs ≡ us → PassesAt test (x ∷ xs) us y ys
    skip us vs r is = record {
      before = x ∷ r.before;
      later = r.later;
      is = ap (λ z. x ∷ z) r.is;
      pass_before = ap (λ z. cond (test x) (x ∷ z) z) r.pass_before ∙ is;
      pass_later = r.pass_later;
    }

    cases : ((vs : List X) → filter test xs ≡ vs ++ y ∷ ys → PassesAt test xs vs y ys) → (b : Bool) → test x ≡ b → (us : List X)
        → cond b (x ∷ filter test xs) (filter test xs) ≡ us ++ y ∷ ys → PassesAt test (x ∷ xs) us y ys
    cases more true is [] h = record { before = []; later = xs; is = cc; pass_before = refl; pass_later = cc }
    cases more true is (u ∷ us) h =
        let rest : filter test xs ≡ us ++ y ∷ ys = cc in
        let first : x ≡ u = cc in
        skip (u ∷ us) us (more us rest) (ap (λ b. cond b (x ∷ us) us) is ∙ ap (λ z. z ∷ us) first)
    cases more false is us h = skip us us (more us h) (ap (λ b. cond b (x ∷ us) us) is)

-- where one of the call's own events stands in what is new, and that it is allowed, and all before and after it
pub record Stood {N : Type 0} (may : List (Event N) → Event N → Type 0) (s : Seat N) (own : List (Event N)) (e : Event N) (rest part : List (Event N))
    (t : Seat N) : Type 0 where
  pub before : List (Event N)
  pub later : List (Event N)
  pub part_is : part ≡ before ++ e ∷ later
  pub is : t.seen ≡ ((s.seen ++ before) ++ e ∷ []) ++ later
  pub first : AllAllowed may s.seen before
  pub own_before : events_by s.agent before ≡ own
  pub here : may (s.seen ++ before) e
  pub last : AllAllowed may ((s.seen ++ before) ++ e ∷ []) later
  pub own_later : events_by s.agent later ≡ rest

pub Puts-stood : {N : Type 0} (may : List (Event N) → Event N → Type 0) (s t : Seat N) (own : List (Event N)) (e : Event N) (rest : List (Event N))
    (p : Puts s (own ++ e ∷ rest) t) → AllAllowed may [] t.seen → Stood may s own e rest p.part t
Puts-stood {N} may s t own e rest p seen_allowed =
    let f = filter-at (λ x. x.agent == s.agent) p.part own e rest p.own_is in
    let all : AllAllowed may s.seen (f.before ++ e ∷ f.later) =
    subst (λ z. AllAllowed may s.seen z) f.is (part_allowed may s t (own ++ e ∷ rest) p seen_allowed) in
    let right = allowed-right may s.seen f.before (e ∷ f.later) all in
    record {
      before = f.before;
      later = f.later;
      part_is = f.is;
      is = p.is ∙ (ap (λ z. s.seen ++ z) f.is ∙ (sym (append_assoc s.seen f.before (e ∷ f.later)) ∙ sym (append_assoc (s.seen ++ f.before) (e ∷ []) f.later)));
      first = allowed-left may s.seen f.before (e ∷ f.later) all;
      own_before = f.pass_before;
      here = right.0;
      last = right.1;
      own_later = f.pass_later;
    }
