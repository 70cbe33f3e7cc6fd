-- A list of events from an agent's first one on, and lists of its events alone.
use Rattle.std.proofs.Common.{Bool, List, [], ap, arith, cond, false, length, refl, subst, sym, true, ℕ, ◌++◌, ◌+◌, ◌==◌, ◌∙◌, ◌∷◌, ◌≡◌, ◌≤◌}
use Rattle.std.proofs.Math.Bool.{and-eq-true_iff}
use Rattle.std.proofs.lemmas.Bool.{eq-eqb}
use Rattle.std.proofs.lemmas.List.Elements.{filter-append}
use Rattle.std.proofs.lemmas.List.Folds.{list_all-append}
use Rattle.std.specs.List.{list_all}
use Rattle.orc_heap.proofs.Moved.{moves_in-append}
use Rattle.orc_heap.specs.Allowed.{events_by}
use Rattle.orc_heap.specs.Moves.{AllOwn, from_own, move_with, moves_in}
use Rattle.orc_heap.specs.declared.events.Event.{Event}

-- the list that ends where the agent's first event stands, and the list from there on
pub record CutAtOwn {N : Type 0} (agent : ℕ) (es : List (Event N)) : Type 0 where
  pub before : List (Event N)
  pub is : es ≡ before ++ from_own agent es
  pub others : events_by agent before ≡ []

pub begins_own : {N : Type 0} (agent : ℕ) (es : List (Event N)) → CutAtOwn agent es
begins_own agent [] = record { before = []; is = refl; others = refl }
begins_own {N} agent (e ∷ es) = cases (e.agent == agent) refl (begins_own agent es)
  where
    cases : (b : Bool) → (e.agent == agent) ≡ b → CutAtOwn agent es → CutAtOwn agent (e ∷ es)
    cases true is k = record { before = []; is = rw is refl; others = refl }
    cases false is k = record { before = e ∷ k.before; is = rw is (ap (λ z. e ∷ z) k.is); others = rw is k.others }

-- a list with none of the agent's events in front
pub from_own-others : {N : Type 0} (agent : ℕ) (es fs : List (Event N)) → events_by agent es ≡ [] → from_own agent (es ++ fs) ≡ from_own agent fs
from_own-others agent [] fs none = refl
from_own-others {N} agent (e ∷ es) fs none = cases (e.agent == agent) none (λ h. from_own-others agent es fs h)
  where
    cases : (b : Bool) → cond b (e ∷ events_by agent es) (events_by agent es) ≡ [] → (events_by agent es ≡ [] → from_own agent (es ++ fs) ≡ from_own agent fs)
        → cond b (e ∷ (es ++ fs)) (from_own agent (es ++ fs)) ≡ from_own agent fs
    cases true h rest = cc
    cases false h rest = rest h

-- one with a Move in front, after an own event
pub from_own-some : {N : Type 0} (agent : ℕ) (es fs : List (Event N)) → 1 ≤ moves_in (from_own agent es) → from_own agent (es ++ fs) ≡ from_own agent es ++ fs
from_own-some agent [] fs some = absurd (omega (arith, some))
from_own-some {N} agent (e ∷ es) fs some = cases (e.agent == agent) some (λ h. from_own-some agent es fs h)
  where
    cases : (b : Bool) → 1 ≤ moves_in (cond b (e ∷ es) (from_own agent es))
        → (1 ≤ moves_in (from_own agent es) → from_own agent (es ++ fs) ≡ from_own agent es ++ fs)
        → cond b (e ∷ (es ++ fs)) (from_own agent (es ++ fs)) ≡ cond b (e ∷ es) (from_own agent es) ++ fs
    cases true h rest = refl
    cases false h rest = rest h

-- one in which an own event stands
pub from_own-begun : {N : Type 0} (agent : ℕ) (es fs : List (Event N)) → 1 ≤ length (events_by agent es) → from_own agent (es ++ fs) ≡ from_own agent es ++ fs
from_own-begun agent [] fs some = absurd (omega (arith, some))
from_own-begun {N} agent (e ∷ es) fs some = cases (e.agent == agent) some (λ h. from_own-begun agent es fs h)
  where
    cases : (b : Bool) → 1 ≤ length (cond b (e ∷ events_by agent es) (events_by agent es))
        → (1 ≤ length (events_by agent es) → from_own agent (es ++ fs) ≡ from_own agent es ++ fs)
        → cond b (e ∷ (es ++ fs)) (from_own agent (es ++ fs)) ≡ cond b (e ∷ es) (from_own agent es) ++ fs
    cases true h rest = refl
    cases false h rest = rest h

-- the Moves from the first own event on
pub moves_from_own : {N : Type 0} (agent : ℕ) (es : List (Event N)) → moves_in (from_own agent es) ≤ moves_in es
moves_from_own agent [] = omega arith
moves_from_own {N} agent (e ∷ es) = cases (e.agent == agent) (moves_from_own agent es)
  where
    cases : (b : Bool) → moves_in (from_own agent es) ≤ moves_in es → moves_in (cond b (e ∷ es) (from_own agent es)) ≤ moves_in (e ∷ es)
    cases true k = omega arith
    cases false k = omega (arith, k)

pub moves_from_own-append : {N : Type 0} (agent : ℕ) (es fs : List (Event N)) → moves_in (from_own agent es)
    + moves_in (from_own agent fs) ≤ moves_in (from_own agent (es ++ fs))
moves_from_own-append agent [] fs = omega arith
moves_from_own-append {N} agent (e ∷ es) fs = cases (e.agent == agent) (moves_from_own-append agent es fs)
  where
    cases : (b : Bool) → moves_in (from_own agent es) + moves_in (from_own agent fs) ≤ moves_in (from_own agent (es ++ fs))
        → moves_in (cond b (e ∷ es) (from_own agent es)) + moves_in (from_own agent fs) ≤ moves_in (cond b (e ∷ (es ++ fs)) (from_own agent (es ++ fs)))
    cases true k = omega (arith, moves_in-append es fs, moves_from_own agent fs)
    cases false k = k

-- what stands after an event of the agent's own
pub moves_after_own : {N : Type 0} (agent : ℕ) (es : List (Event N)) (e : Event N) (fs : List (Event N)) → e.agent ≡ agent
    → moves_in fs ≤ moves_in (from_own agent (es ++ e ∷ fs))
moves_after_own agent [] e fs own = rw (eq-eqb e.agent agent own) (omega arith)
moves_after_own {N} agent (x ∷ es) e fs own = cases (x.agent == agent) (moves_after_own agent es e fs own)
  where
    cases : (b : Bool) → moves_in fs ≤ moves_in (from_own agent (es ++ e ∷ fs))
        → moves_in fs ≤ moves_in (cond b (x ∷ (es ++ e ∷ fs)) (from_own agent (es ++ e ∷ fs)))
    cases true k = omega (arith, moves_in-append es (e ∷ fs))
    cases false k = k

-- a list of the agent's events alone
pub own_left : {N : Type 0} (agent : ℕ) (es fs : List (Event N)) → AllOwn agent (es ++ fs) → AllOwn agent es
own_left agent es fs all = ((and-eq-true_iff _ _).0 (sym (list_all-append (λ e. e.agent == agent) es fs) ∙ all)).0

pub own_right : {N : Type 0} (agent : ℕ) (es fs : List (Event N)) → AllOwn agent (es ++ fs) → AllOwn agent fs
own_right agent es fs all = ((and-eq-true_iff _ _).0 (sym (list_all-append (λ e. e.agent == agent) es fs) ∙ all)).1

pub own_join : {N : Type 0} (agent : ℕ) (es fs : List (Event N)) → AllOwn agent es → AllOwn agent fs → AllOwn agent (es ++ fs)
own_join agent es fs a b = list_all-append (λ e. e.agent == agent) es fs ∙ rw (a, b) refl

pub own_is_all : {N : Type 0} (agent : ℕ) (es : List (Event N)) → AllOwn agent es → events_by agent es ≡ es
own_is_all agent [] all = refl
own_is_all {N} agent (e ∷ es) all =
    let k = (and-eq-true_iff (e.agent == agent) (list_all (λ x. x.agent == agent) es)).0 all in
    rw k.0 (ap (λ z. e ∷ z) (own_is_all agent es k.1))

pub own_from : {N : Type 0} (agent : ℕ) (es : List (Event N)) → AllOwn agent es → AllOwn agent (from_own agent es)
own_from {N} agent es all = let b = begins_own agent es in own_right agent b.before (from_own agent es) (subst (λ z. AllOwn agent z) b.is all)

pub own_from_right : {N : Type 0} (agent : ℕ) (es fs : List (Event N)) → AllOwn agent (from_own agent (es ++ fs)) → AllOwn agent (from_own agent fs)
own_from_right agent [] fs all = all
own_from_right {N} agent (e ∷ es) fs all = cases (e.agent == agent) all (λ h. own_from_right agent es fs h)
  where
    cases : (b : Bool) → AllOwn agent (cond b (e ∷ (es ++ fs)) (from_own agent (es ++ fs)))
        → (AllOwn agent (from_own agent (es ++ fs)) → AllOwn agent (from_own agent fs)) → AllOwn agent (from_own agent fs)
    cases true h rest = own_from agent fs (own_right agent (e ∷ es) fs h)
    cases false h rest = rest h

pub own_from_left : {N : Type 0} (agent : ℕ) (es fs : List (Event N)) → AllOwn agent (from_own agent (es ++ fs)) → AllOwn agent (from_own agent es)
own_from_left agent [] fs all = refl
own_from_left {N} agent (e ∷ es) fs all = cases (e.agent == agent) all (λ h. own_from_left agent es fs h)
  where
    cases : (b : Bool) → AllOwn agent (cond b (e ∷ (es ++ fs)) (from_own agent (es ++ fs)))
        → (AllOwn agent (from_own agent (es ++ fs)) → AllOwn agent (from_own agent es)) → AllOwn agent (cond b (e ∷ es) (from_own agent es))
    cases true h rest = own_left agent (e ∷ es) fs h
    cases false h rest = rest h

-- where a Move stands after an own event, all that follows is the agent's
pub own_from_rest : {N : Type 0} (agent : ℕ) (es fs : List (Event N)) → 1 ≤ moves_in (from_own agent es) → AllOwn agent (from_own agent (es ++ fs))
    → AllOwn agent fs
own_from_rest agent es fs some all = own_right agent (from_own agent es) fs (subst (λ z. AllOwn agent z) (from_own-some agent es fs some) all)

-- where no other agent's event stands from the first own one on, these are the own events
pub alone_own : {N : Type 0} (agent : ℕ) (es own : List (Event N)) → events_by agent es ≡ own → AllOwn agent (from_own agent es) → from_own agent es ≡ own
alone_own agent es own is alone =
    let b = begins_own agent es in
    sym (own_is_all agent (from_own agent es) alone)
    ∙ (ap (λ z. z ++ events_by agent (from_own agent es)) (sym b.others)
    ∙ (sym (filter-append (λ e. e.agent == agent) b.before (from_own agent es)) ∙ (ap (λ z. events_by agent z) (sym b.is) ∙ is)))

-- so if a Move stands there, then it is an own one
pub quiet_not_alone : {N : Type 0} (agent : ℕ) (es own : List (Event N)) → events_by agent es ≡ own → moves_in own ≡ 0
    → 1 ≤ moves_in (from_own agent es) → AllOwn agent (from_own agent es) → ⊥
quiet_not_alone {N} agent es own is none some alone = omega (arith, none, some, ap (λ (z : List (Event N)). moves_in z) (alone_own agent es own is alone))

-- the agent's own Moves stand among all
pub moves_own : {N : Type 0} (agent : ℕ) (es : List (Event N)) → moves_in (events_by agent es) ≤ moves_in es
moves_own agent [] = omega arith
moves_own {N} agent (e ∷ es) = cases (e.agent == agent) (moves_own agent es)
  where
    cases : (b : Bool) → moves_in (events_by agent es) ≤ moves_in es
        → moves_in (cond b (e ∷ events_by agent es) (events_by agent es)) ≤ move_with e.act + moves_in es
    cases true k = omega (arith, k)
    cases false k = omega (arith, k)
