-- The part of a journal that a call makes, as the journal goes on, and the Moves of other agents in it.
use Rattle.std.proofs.Common.{Bool, List, [], ap, append_assoc, arith, cond, drop, false, length, refl, subst, suc, sym, true, ℕ, ◌++◌, ◌+◌, ◌<◌, ◌==◌, ◌∙◌, ◌∷◌, ◌≡◌, ◌≤◌}
use Rattle.std.proofs.lemmas.List.{length-append}
use Rattle.std.proofs.Math.Seq.{drop-append_seam}
use mathlib.Core.List.{IsPrefix}
use Rattle.orc_heap.specs.Allowed.{events_by}
use Rattle.orc_heap.specs.Moves.{AllOwn, from_own, move_with, moves_in}
use Rattle.orc_heap.proofs.OwnParts.{own_is_all}
use Rattle.orc_heap.specs.declared.events.Event.{Event}
use Rattle.orc_history.specs.Parts.{WithinPart, first_step, part_begin}
use Rattle.orc_ordered_search.specs.Causes.{others_moves}

-- the agent's first step stays the first
first_stays : {S : Type 0} (agent_of : S → ℕ) (agent place : ℕ) (ss more : List S) → first_step agent_of agent place ss < place + length ss
    → first_step agent_of agent place (ss ++ more) ≡ first_step agent_of agent place ss
first_stays agent_of agent place [] more low = absurd (omega (arith, low))
first_stays {S} agent_of agent place (s ∷ ss) more low = cases (agent_of s == agent) low (λ h. first_stays agent_of agent (suc place) ss more h)
  where
    cases : (b : Bool) → cond b place (first_step agent_of agent (suc place) ss) < place + length (s ∷ ss)
        → (first_step agent_of agent (suc place) ss < suc place + length ss → first_step agent_of agent (suc place)
        (ss ++ more) ≡ first_step agent_of agent (suc place) ss)
        → cond b place (first_step agent_of agent (suc place) (ss ++ more)) ≡ cond b place (first_step agent_of agent (suc place) ss)
    cases true h rest = refl
    cases false h rest = rest (omega (arith, h))

begin_stays : {S : Type 0} (agent_of : S → ℕ) (agent : ℕ) (j k m : List S) → IsPrefix j k → IsPrefix k m → part_begin agent_of agent j k < length k
    → part_begin agent_of agent j m ≡ part_begin agent_of agent j k
begin_stays {S} agent_of agent j k m (first, one) (more, two) low =
    let drop_k : drop (length j) k ≡ first = ap (λ (z : List S). drop (length j) z) (sym one) ∙ drop-append_seam j first in
    let drop_m : drop (length j) m ≡ first ++ more = ap (λ (z : List S). drop (length j) z)
    (sym two ∙ (ap (λ (z : List S). z ++ more) (sym one) ∙ append_assoc j first more)) ∙ drop-append_seam j (first ++ more) in
    let size : length k ≡ length j + length first = ap (λ (z : List S). length z) (sym one) ∙ length-append j first in
    let here : first_step agent_of agent (length j) first < length j + length first =
    subst (λ (x : ℕ). first_step agent_of agent (length j) first < x) size (subst (λ (z : List S). first_step agent_of agent (length j) z < length k)
    drop_k low) in
    ap (λ (z : List S). first_step agent_of agent (length j) z) drop_m ∙ (first_stays agent_of agent (length j) first more here ∙ ap
    (λ (z : List S). first_step agent_of agent (length j) z) (sym drop_k))

-- a fact of a call's part stays one of the part that goes on
pub within_later : {S : Type 0} (agent_of : S → ℕ) (agent : ℕ) (j k m : List S) (Fact Later : ℕ → ℕ → Type 0) →
    ((from to : ℕ) → Fact from to → Later from to)
    → IsPrefix j k → IsPrefix k m
    → WithinPart agent_of agent j k Fact → WithinPart agent_of agent j m Later
within_later {S} agent_of agent j k m Fact Later stays grows more w =
    let (from, to, low, order, high, fact) = w.within in
    let same = begin_stays agent_of agent j k m grows more w.begun in
    let size : length k + length more.0 ≡ length m = sym (length-append k more.0) ∙ ap (λ (z : List S). length z) more.1 in
    record {
      begun = omega (arith, same, size, w.begun);
      within = (from, to, omega (arith, same, low), order, omega (arith, size, high), stays from to fact);
    }

-- so does one that stays as the journal goes on
pub within_goes_on : {S : Type 0} (agent_of : S → ℕ) (agent : ℕ) (Fact : List S → ℕ → ℕ → Type 0)
    → ((xs more : List S) (from to : ℕ) → Fact xs from to → Fact (xs ++ more) from to)
    → (j k m : List S) → IsPrefix j k → IsPrefix k m → WithinPart agent_of agent j k (Fact k) → WithinPart agent_of agent j m (Fact m)
within_goes_on {S} agent_of agent Fact stays j k m grows (more, is) w =
    within_later agent_of agent j k m (Fact k) (Fact m) (λ from to fact. subst (λ (z : List S). Fact z from to) is (stays k more from to fact)) grows
    (more, is) w

-- the Moves are those of other agents and those of the agent
pub others_split : {N : Type 0} (agent : ℕ) (es : List (Event N)) → others_moves agent es + moves_in (events_by agent es) ≡ moves_in es
others_split agent [] = refl
others_split {N} agent (e ∷ es) = cases (e.agent == agent) (others_split agent es)
  where
    cases : (b : Bool) → others_moves agent es + moves_in (events_by agent es) ≡ moves_in es
        → (cond b 0 (move_with e.act) + others_moves agent es) + moves_in (cond b (e ∷ events_by agent es) (events_by agent es)) ≡ moves_in (e ∷ es)
    cases true h = omega (arith, h)
    cases false h = omega (arith, h)

pub others_append : {N : Type 0} (agent : ℕ) (es fs : List (Event N)) → others_moves agent (es ++ fs) ≡ others_moves agent es + others_moves agent fs
others_append agent [] fs = omega arith
others_append agent (e ∷ es) fs = omega (arith, others_append agent es fs)

-- those that stand from the agent's first event on are among all
pub others_from : {N : Type 0} (agent : ℕ) (es : List (Event N)) → others_moves agent (from_own agent es) ≤ others_moves agent es
others_from agent [] = omega arith
others_from {N} agent (e ∷ es) = cases (e.agent == agent) (others_from agent es)
  where
    cases : (b : Bool) → others_moves agent (from_own agent es) ≤ others_moves agent es
        → others_moves agent (cond b (e ∷ es) (from_own agent es)) ≤ others_moves agent (e ∷ es)
    cases true k = omega arith
    cases false k = omega (arith, k)

-- where all events are the agent's own, there are none
pub others_alone : {N : Type 0} (agent : ℕ) (es : List (Event N)) → AllOwn agent es → others_moves agent es ≡ 0
others_alone agent es own =
    let all : events_by agent es ≡ es = own_is_all agent es own in
    omega (arith, others_split agent es, ap (λ z. moves_in z) all)

-- where the agent moved nothing, all Moves are those of others
pub others_all : {N : Type 0} (agent : ℕ) (es own : List (Event N)) → events_by agent es ≡ own → moves_in own ≡ 0
    → moves_in (from_own agent es) ≤ others_moves agent (from_own agent es)
others_all {N} agent es own is none =
    let same : events_by agent (from_own agent es) ≡ own = from_by agent es ∙ is in
    omega (arith, others_split agent (from_own agent es), ap (λ z. moves_in z) same, none)
  where
    from_by : (agent : ℕ) (es : List (Event N)) → events_by agent (from_own agent es) ≡ events_by agent es
    from_by agent [] = refl
    from_by agent (e ∷ es) = cases (e.agent == agent) refl (from_by agent es)
      where
        cases : (b : Bool) → (e.agent == agent) ≡ b → events_by agent (from_own agent es) ≡ events_by agent es
            → events_by agent (cond b (e ∷ es) (from_own agent es)) ≡ cond b (e ∷ events_by agent es) (events_by agent es)
        cases true is k = rw is refl
        cases false is k = k
