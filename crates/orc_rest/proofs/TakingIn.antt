-- Taking in what was handed over, and settling.
use Rattle.std.proofs.Common.{Bool, [], arith, ap, false, refl, subst, sym, true, ℕ, ◌++◌, ◌+◌, ◌∷◌, ◌∙◌, ◌<◌, ◌≡◌, ◌≢◌, ◌≤◌}
use Rattle.std.proofs.lemmas.Bool.{eq-eqb, eqb-true, false≢true, lt-ltb}
use Rattle.std.specs.Prelude.{◌==◌}
use Rattle.orc_words.specs.declared.place.Word.TheVariants.{Handover}
use Rattle.orc_core.proofs.Steps.{its_word, other_words, run-append}
use Rattle.orc_core.specs.Machine.{Machine, is_allowed, record_at, step, word_in}
use Rattle.orc_core.specs.Runs.{IsLawful, run}
use Rattle.orc_core.specs.declared.ops.Op.{Op}
use Rattle.orc_core.specs.declared.ops.Op.TheVariants.{TakeIn}
use Rattle.orc_sound.proofs.AllFits.{run_bounds}
use Rattle.orc_rest.specs.Drains.{TookIn}
use Rattle.orc_rest.proofs.Calls.{all_empty}
use Rattle.orc_rest.proofs.Stages.{allowed, made_record, whole}
use Rattle.orc_rest.proofs.Turns.{all_left, all_right, lawful_join, none_all, zero_join}
use Rattle.orc_rest.specs.Records.{IsBetweenRounds}
use Rattle.orc_rest.specs.Turns.{IsReachedState, MadeAfterOthers}

pub take_slot : (m : Machine) (a k : ℕ) → a < m.bounds.agents → IsBetweenRounds (record_at m a) → k < 8 → is_allowed m a (TakeIn k) ≡ true
take_slot m a k h r l =
    allowed m a (TakeIn k) h r.still.calm.enrolled (rw (r.still.due, r.still.calm.inc, r.still.dec) refl)
    (rw (lt-ltb k 8 l, all_empty (record_at m a) r.still k) refl)

pub made_bounds : (m n : Machine) (a : ℕ) (op : Op) → MadeAfterOthers a op m n → n.bounds ≡ m.bounds
made_bounds m n a op k = ap (λ (x : Machine). x.bounds) k.is ∙ run_bounds m (k.others ++ (a, op) ∷ [])

pub made_between : (m n : Machine) (a k : ℕ) → IsReachedState m → a < m.bounds.agents → IsBetweenRounds (record_at m a) → MadeAfterOthers a (TakeIn k) m n
    → IsBetweenRounds (record_at n a)
made_between m n a k q h r d =
    let w = made_record m n a (TakeIn k) q h d in
    let s = r.still in
    subst IsBetweenRounds (sym w.is) (record {
      still = record {
        calm = record { enrolled = s.calm.enrolled; slots = s.calm.slots; eight = s.calm.eight; fresh = s.calm.fresh; inc = s.calm.inc };
        zero = s.zero;
        dec = s.dec;
        due = s.due;
      };
      found = r.found;
      doom = r.doom;
    })

-- the word that is taken in is 0, and the others stay
pub took_word : (m : Machine) (a k j : ℕ) → IsReachedState m → a < m.bounds.agents → is_allowed m a (TakeIn k) ≡ true → j < 8
    → ((j ≡ k → ⊥) → word_in m (Handover a j) ≡ 0) → word_in (step m a (TakeIn k)) (Handover a j) ≡ 0
took_word m a k j r h l i z = cases (j == k) refl
  where
    cases : (t : Bool) → (j == k) ≡ t → word_in (step m a (TakeIn k)) (Handover a j) ≡ 0
    cases true e = subst (λ x. word_in (step m a (TakeIn k)) (Handover a x) ≡ 0) (sym (eqb-true j k e)) (its_word m a (TakeIn k) (whole m r) l)
    cases false e =
        let n : j ≡ k → ⊥ = λ x. false≢true (sym e ∙ eq-eqb j k x) in
        other_words m a (TakeIn k) (Handover a j) (whole m r) l (h, i) (λ x. n (cc)) ∙ z n

abbrev pub took_none : (m : Machine) (a : ℕ) → IsReachedState m → TookIn a 8 m m
took_none m a r = record { steps = []; lawful = tt; is = refl; reached = r; bounds = refl; hands = λ all z. z; others = λ all s x k lx lk ne z. z }

abbrev pub took_more : (m n o : Machine) (a k : ℕ) → IsReachedState m → a < m.bounds.agents → IsBetweenRounds (record_at m a) → k < 8 → MadeAfterOthers a (TakeIn k) m n
    → TookIn a (k + 1) n o → TookIn a k m o
took_more m n o a k r h d l w t = record {
  steps = (w.others ++ (a, TakeIn k) ∷ []) ++ t.steps;
  lawful = lawful_join m (w.others ++ (a, TakeIn k) ∷ []) t.steps w.lawful (subst (λ x. IsLawful x t.steps) w.is t.lawful);
  is = t.is ∙ (ap (λ x. run x t.steps) w.is ∙ sym (run-append m (w.others ++ (a, TakeIn k) ∷ []) t.steps));
  reached = t.reached;
  bounds = t.bounds ∙ made_bounds m n a (TakeIn k) w;
  hands = λ all z.
      let mine = all_left a (w.others ++ (a, TakeIn k) ∷ []) t.steps all in
      let none : w.others ≡ [] = none_all a w.others w.apart (all_left a w.others ((a, TakeIn k) ∷ []) mine) in
      let at : n ≡ step m a (TakeIn k) = w.is ∙ ap (λ x. run m (x ++ (a, TakeIn k) ∷ [])) none in
      t.hands (all_right a (w.others ++ (a, TakeIn k) ∷ []) t.steps all)
      (λ j i. subst (λ x. word_in x (Handover a j) ≡ 0) (sym at) (took_word m a k j r h (take_slot m a k h d l) (omega arith) (λ ne. z j (omega arith))));
  others = zero_join m n o a (w.others ++ (a, TakeIn k) ∷ []) t.steps w.is
      (λ all s x j lx lj ne z.
      let none : w.others ≡ [] = none_all a w.others w.apart (all_left a w.others ((a, TakeIn k) ∷ []) all) in
      let at : n ≡ step m a (TakeIn k) = w.is ∙ ap (λ y. run m (y ++ (a, TakeIn k) ∷ [])) none in
      subst (λ y. word_in y (Handover x j) ≡ 0) (sym at)
      (other_words m a (TakeIn k) (Handover x j) (whole m r) (take_slot m a k h d l) (lx, lj) (λ e. ne (cc)) ∙ z))
      t.others;
}

pub below_eight : (k : ℕ) → k ≤ 8 → (k ≡ 8 → ⊥) → k < 8
below_eight k l n = let ne : k ≢ 8 = n in omega arith
