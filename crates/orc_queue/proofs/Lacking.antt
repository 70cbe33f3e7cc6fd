-- Where no row could be given: from the first step of the call's part of the journal on, or before it.
use Rattle.std.proofs.Common.{Bool, List, [], ap, append_assoc, arith, cond, false, inl, inr, length, refl, subst, suc, sym, true, ℕ, ◌++◌, ◌+◌, ◌<◌, ◌==◌, ◌∙◌, ◌∷◌, ◌≡◌, ◌≤◌, ◌⊎◌}
use Rattle.std.proofs.lemmas.List.{length-append}
use mathlib.Core.List.{IsPrefix}
use Rattle.orc_heap.proofs.Parting.{begin_is, first_low}
use Rattle.orc_heap.proofs.Steps.{part_bounds}
use Rattle.orc_history.specs.Journals.{Within}
use Rattle.orc_history.specs.Parts.{InPart, first_step, part_begin}
use Rattle.orc_queue.specs.Causes.{BeforeFirstStep, FromFirstStep}

-- a first step stays the first as the steps go on; where there was none, it comes no earlier than they ended
FirstStays : ℕ → ℕ → ℕ → Type 0
FirstStays end one two = ((one < end) × (two ≡ one)) ⊎ ((one ≡ end) × (end ≤ two))

module _ {S : Type 0} (agent_of : S → ℕ) (agent : ℕ) where
  first_stays : (place : ℕ) (ss more : List S)
      → FirstStays (place + length ss) (first_step agent_of agent place ss) (first_step agent_of agent place (ss ++ more))
  unfolding FirstStays
  first_stays place [] more = inr (omega arith, omega (arith, first_low agent_of agent place more))
  first_stays place (s ∷ ss) more = cases (agent_of s == agent) (first_stays (suc place) ss more)
    where
      cases : (b : Bool)
          → ((first_step agent_of agent (suc place) ss < suc place + length ss)
          × (first_step agent_of agent (suc place) (ss ++ more) ≡ first_step agent_of agent (suc place) ss))
          ⊎ ((first_step agent_of agent (suc place) ss ≡ suc place + length ss)
          × (suc place + length ss ≤ first_step agent_of agent (suc place) (ss ++ more)))
          → ((cond b place (first_step agent_of agent (suc place) ss) < place + length (s ∷ ss))
          × (cond b place (first_step agent_of agent (suc place) (ss ++ more)) ≡ cond b place (first_step agent_of agent (suc place) ss)))
          ⊎ ((cond b place (first_step agent_of agent (suc place) ss) ≡ place + length (s ∷ ss))
          × (place + length (s ∷ ss) ≤ cond b place (first_step agent_of agent (suc place) (ss ++ more))))
      cases true h = inl (omega arith, refl)
      cases false (inl h) = inl (omega (arith, h.0), h.1)
      cases false (inr h) = inr (omega (arith, h.0), omega (arith, h.1))

  begin_stays : (j k m : List S) → IsPrefix j k → IsPrefix k m
      → FirstStays (length k) (part_begin agent_of agent j k) (part_begin agent_of agent j m)
  begin_stays j k m (one, first) (two, second) =
      let whole : j ++ (one ++ two) ≡ m = sym (append_assoc j one two) ∙ (ap (λ (z : List S). z ++ two) first ∙ second) in
      let at_k : first_step agent_of agent (length j) one ≡ part_begin agent_of agent j k = sym (begin_is agent_of agent j one)
      ∙ ap (λ (z : List S). part_begin agent_of agent j z) first in
      let at_m : first_step agent_of agent (length j) (one ++ two) ≡ part_begin agent_of agent j m = sym (begin_is agent_of agent j (one ++ two))
      ∙ ap (λ (z : List S). part_begin agent_of agent j z) whole in
      let end : length j + length one ≡ length k = sym (length-append j one) ∙ ap (λ (z : List S). length z) first in
      subst (λ (x : ℕ). FirstStays (length k) (part_begin agent_of agent j k) x) at_m
      (subst (λ (x : ℕ). FirstStays (length k) x (first_step agent_of agent (length j) (one ++ two))) at_k
      (subst (λ (x : ℕ). FirstStays x (first_step agent_of agent (length j) one) (first_step agent_of agent (length j) (one ++ two))) end
      (first_stays (length j) one two)))

  -- a fact of the part of a call, as the pass had seen it at some time, stays one of the longer journal
  pub lacks_row : (Fact : List S → ℕ → ℕ → Type 0)
      → ((j more : List S) (from to : ℕ) → Fact j from to → Fact (j ++ more) from to)
      → (j k m : List S) → IsPrefix j k → IsPrefix k m → InPart agent_of agent j k (Fact k)
      → FromFirstStep agent_of agent j m (Fact m) ⊎ BeforeFirstStep agent_of agent j m (Fact m)
  unfolding FirstStays
  lacks_row Fact stays j k m grows (more, is) fact = cases (begin_stays j k m grows (more, is))
    where
      there : Fact m (part_begin agent_of agent j k) (length k)
      there = subst (λ z. Fact z (part_begin agent_of agent j k) (length k)) is (stays k more _ _ fact)

      low : length j ≤ length k
      low = let bounds = part_bounds agent_of agent j k grows in omega (arith, bounds.0, bounds.1)

      high : length k ≤ length m
      high = omega (arith, length-append k more, ap (λ (z : List S). length z) is)

      cases : ((part_begin agent_of agent j k < length k) × (part_begin agent_of agent j m ≡ part_begin agent_of agent j k))
          ⊎ ((part_begin agent_of agent j k ≡ length k) × (length k ≤ part_begin agent_of agent j m))
          → FromFirstStep agent_of agent j m (Fact m) ⊎ BeforeFirstStep agent_of agent j m (Fact m)
      cases (inl h) = inl (
        length k,
        omega (arith, h.0, h.1),
        high,
        subst (λ (x : ℕ). Fact m x (length k)) (sym h.1) there,
      )
      cases (inr h) = inr (length k, low, h.1, subst (λ (x : ℕ). Fact m x (length k)) h.0 there)

  -- the fact is one of two places within what is new
  pub lacks_within : (j m : List S) (Fact : ℕ → ℕ → Type 0) → IsPrefix j m
      → FromFirstStep agent_of agent j m Fact ⊎ BeforeFirstStep agent_of agent j m Fact → Within (length j) (length m) Fact
  lacks_within j m Fact grows (inl (to, begun, high, fact)) =
      let bounds = part_bounds agent_of agent j m grows in
      (part_begin agent_of agent j m, to, bounds.0, omega (arith, begun), high, fact)
  lacks_within j m Fact grows (inr (at, low, high, fact)) =
      let bounds = part_bounds agent_of agent j m grows in
      (at, at, low, omega arith, omega (arith, high, bounds.1), fact)
