-- Lists of events that are allowed where they stand, and what such events keep.
use Rattle.std.proofs.Common.{List, [], append-nil, append_assoc, cond, refl, subst, sym, true, false, Bool, ℕ, ◌++◌, ◌∙◌, ◌∷◌, ◌≡◌, ◌≢◌, ◌==◌}
use Rattle.std.proofs.lemmas.Bool.{eq-eqb}
use Rattle.std.specs.List.{list_any}
use Rattle.std.specs.Prelude.{◌||◌}
use Rattle.orc_heap.specs.Allowed.{AllAllowed, events_by}
use Rattle.orc_heap.specs.declared.events.Act.{Act}
use Rattle.orc_heap.specs.declared.events.Event.{Event}

pub allowed-join : {N : Type 0} (may : List (Event N) → Event N → Type 0) (seen xs ys : List (Event N))
    → AllAllowed may seen xs → AllAllowed may (seen ++ xs) ys → AllAllowed may seen (xs ++ ys)
allowed-join may seen [] ys a b = subst (λ s. AllAllowed may s ys) (append-nil seen) b
allowed-join may seen (x ∷ xs) ys a b =
    (a.0, allowed-join may (seen ++ x ∷ []) xs ys a.1 (subst (λ s. AllAllowed may s ys) (sym (append_assoc seen (x ∷ []) xs)) b))

pub allowed-left : {N : Type 0} (may : List (Event N) → Event N → Type 0) (seen xs ys : List (Event N))
    → AllAllowed may seen (xs ++ ys) → AllAllowed may seen xs
allowed-left may seen [] ys a = tt
allowed-left may seen (x ∷ xs) ys a = (a.0, allowed-left may (seen ++ x ∷ []) xs ys a.1)

pub allowed-right : {N : Type 0} (may : List (Event N) → Event N → Type 0) (seen xs ys : List (Event N))
    → AllAllowed may seen (xs ++ ys) → AllAllowed may (seen ++ xs) ys
allowed-right may seen [] ys a = subst (λ s. AllAllowed may s ys) (sym (append-nil seen)) a
allowed-right may seen (x ∷ xs) ys a = subst (λ s. AllAllowed may s ys) (append_assoc seen (x ∷ []) xs) (allowed-right may (seen ++ x ∷ []) xs ys a.1)

-- what each allowed event keeps stays true over allowed events
pub stays : {N : Type 0} (may : List (Event N) → Event N → Type 0) (P : List (Event N) → Type 0)
    → ((es : List (Event N)) (e : Event N) → P es → may es e → P (es ++ e ∷ []))
    → (seen more : List (Event N)) → P seen → AllAllowed may seen more → P (seen ++ more)
stays may P step seen [] begin all = subst P (sym (append-nil seen)) begin
stays may P step seen (e ∷ more) begin all =
    subst P (append_assoc seen (e ∷ []) more) (stays may P step (seen ++ e ∷ []) more (step seen e begin all.0) all.1)

-- the first event of a list with none of this agent is another's, and so are the rest
pub other_first : {N : Type 0} (agent : ℕ) (e : Event N) (es : List (Event N)) → events_by agent (e ∷ es) ≡ [] → (e.agent ≢ agent) × (events_by agent es ≡ [])
other_first {N} agent e es none = ((λ same. mine (e.agent == agent) none (eq-eqb e.agent agent same)), not_mine (e.agent == agent) none)
  where
    not_mine : (b : Bool) → cond b (e ∷ events_by agent es) (events_by agent es) ≡ [] → events_by agent es ≡ []
    not_mine true h = cc
    not_mine false h = h

    mine : (b : Bool) → cond b (e ∷ events_by agent es) (events_by agent es) ≡ [] → b ≡ true → ⊥
    mine true h e = cc
    mine false h e = cc

-- what each allowed event keeps, but for some acts of this agent, stays true over such events with none of these acts of it
pub stays_but : {N : Type 0} (may : List (Event N) → Event N → Type 0) (agent : ℕ) (test : Act → Bool) (P : List (Event N) → Type 0)
    → ((es : List (Event N)) (e : Event N) → P es → may es e → (e.agent ≡ agent → test e.act ≡ false) → P (es ++ e ∷ []))
    → (seen more : List (Event N)) → P seen → AllAllowed may seen more → list_any (λ e. test e.act) (events_by agent more) ≡ false → P (seen ++ more)
stays_but may agent test P step seen [] begin all none = subst P (sym (append-nil seen)) begin
stays_but {N} may agent test P step seen (e ∷ more) begin all none =
    let (first, rest) = cases (e.agent == agent) refl none in
    subst P (append_assoc seen (e ∷ []) more) (stays_but may agent test P step (seen ++ e ∷ []) more (step seen e begin all.0 first) all.1 rest)
  where
    either : (a b : Bool) → (a || b) ≡ false → (a ≡ false) × (b ≡ false)
    either true b e = cc
    either false b e = (refl, e)

    cases : (b : Bool) → (e.agent == agent) ≡ b → list_any (λ z. test z.act) (cond b (e ∷ events_by agent more) (events_by agent more)) ≡ false
        → (e.agent ≡ agent → test e.act ≡ false) × (list_any (λ z. test z.act) (events_by agent more) ≡ false)
    cases true is h = let (a, b) = either (test e.act) _ h in ((λ same. a), b)
    cases false is h = ((λ same. let t : true ≡ false = sym (eq-eqb e.agent agent same) ∙ is in cc), h)
