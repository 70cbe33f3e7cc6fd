-- The values at the numbers below a bound that pass a test, as a list.
use Rattle.std.proofs.Common.{Bool, Contains, List, [], arith, cond, false, length, refl, suc, sym, true, zero, ℕ, ⊎_elim, ◌+◌, ◌++◌, ◌<◌, ◌∙◌, ◌∷◌, ◌≡◌, ◌≢◌}
use Rattle.std.proofs.lemmas.Bool.{eq-eqb, eqb-false, eqb-true, false≢true}
use Rattle.std.proofs.lemmas.List.{length-append}
use Rattle.std.proofs.lemmas.List.Elements.{Contains-append_left, Contains-push, Contains-push_cases}
use Rattle.std.proofs.lemmas.Map.Keys.{IsDistinct-push}
use Rattle.std.proofs.lemmas.Map.Views.{Contains-from_any}
use Rattle.std.specs.Cmp.{IsEquivalence}
use Rattle.std.specs.List.{IsDistinct, list_any}
use Rattle.std.specs.Prelude.{◌==◌}
use Rattle.orc_core.specs.Sums.{count_below}
use Rattle.orc_sound.proofs.Seats.{not_true}
use Rattle.orc_words.specs.Packed.{bit}

abbrev pub values_below : ℕ → (ℕ → Bool) → (ℕ → ℕ) → List ℕ
values_below zero test f = []
values_below (suc n) test f = cond (test n) (values_below n test f ++ f n ∷ []) (values_below n test f)

pub length-values_below : (n : ℕ) (test : ℕ → Bool) (f : ℕ → ℕ) → length (values_below n test f) ≡ count_below n test
length-values_below zero test f = refl
length-values_below (suc n) test f = cases (test n) (length-values_below n test f)
  where
    cases : (t : Bool) → length (values_below n test f) ≡ count_below n test
        → length (cond t (values_below n test f ++ f n ∷ []) (values_below n test f)) ≡ count_below n test + bit t
    cases true e = let a = length-append (values_below n test f) (f n ∷ []) in omega arith
    cases false e = omega arith

less : (i n : ℕ) → i < suc n → (i == n) ≡ false → i < n
less i n h e = let k : i ≢ n = eqb-false i n e in omega arith

pub value_below : (n : ℕ) (test : ℕ → Bool) (f : ℕ → ℕ) (i : ℕ) → i < n → test i ≡ true → Contains (values_below n test f) (f i)
value_below zero test f i h k = absurd (omega arith)
value_below (suc n) test f i h k = cases (λ e. value_below n test f i (less i n h e) k) (i == n) refl (test n) refl
  where
    cases : (before : (i == n) ≡ false → Contains (values_below n test f) (f i)) → (s : Bool) → (i == n) ≡ s → (t : Bool) → test n ≡ t
        → Contains (cond t (values_below n test f ++ f n ∷ []) (values_below n test f)) (f i)
    cases before false e true g = Contains-append_left (values_below n test f) (f n ∷ []) (f i) (before e)
    cases before false e false g = before e
    cases before true e true g = rw (eqb-true i n e) (Contains-push (values_below n test f) (f n))
    cases before true e false g = absurd (false≢true (sym (rw (eqb-true i n e) g) ∙ k))

-- a number at which the value stands
pub record ValueAt (n : ℕ) (test : ℕ → Bool) (f : ℕ → ℕ) (x : ℕ) : Type 0 where
  pub at : ℕ
  pub below : at < n
  pub passes : test at ≡ true
  pub is : f at ≡ x

no_member : (x : ℕ) → Contains [] x → ⊥
no_member x c = let h = c.1 in omega arith

pub value_at : (n : ℕ) (test : ℕ → Bool) (f : ℕ → ℕ) (x : ℕ) → Contains (values_below n test f) x → ValueAt n test f x
value_at zero test f x c = absurd (no_member x c)
value_at (suc n) test f x c = cases (λ k. more (value_at n test f x k)) (test n) refl c
  where
    more : ValueAt n test f x → ValueAt (suc n) test f x
    more v = let h = v.below in record { at = v.at; below = omega arith; passes = v.passes; is = v.is }

    cases : (before : Contains (values_below n test f) x → ValueAt (suc n) test f x) → (t : Bool) → test n ≡ t
        → Contains (cond t (values_below n test f ++ f n ∷ []) (values_below n test f)) x → ValueAt (suc n) test f x
    cases before true e k =
        ⊎_elim before (λ s. record { at = n; below = omega arith; passes = e; is = s }) (Contains-push_cases (values_below n test f) (f n) x k)
    cases before false e k = before k

same_numbers : IsEquivalence (λ (x y : ℕ). x == y)
same_numbers = record {
  refl = λ x. eq-eqb x x refl;
  symm = λ x y. grind arith;
  congr = λ x y z e. rw (eqb-true x y e) refl;
}

no_two : IsDistinct (λ (x y : ℕ). x == y) []
unfolding IsDistinct
no_two = tt

pub distinct_below : (n : ℕ) (test : ℕ → Bool) (f : ℕ → ℕ)
    → ((i j : ℕ) → i < n → j < n → test i ≡ true → test j ≡ true → f i ≡ f j → i ≡ j) → IsDistinct (λ x y. x == y) (values_below n test f)
distinct_below zero test f d = no_two
distinct_below (suc n) test f d = cases (distinct_below n test f (λ i j h k. d i j (omega arith) (omega arith))) (test n) refl
  where
    cases : (before : IsDistinct (λ x y. x == y) (values_below n test f)) → (t : Bool) → test n ≡ t
        → IsDistinct (λ x y. x == y) (cond t (values_below n test f ++ f n ∷ []) (values_below n test f))
    cases before false e = before
    cases before true e = IsDistinct-push same_numbers (values_below n test f) (f n) before (not_true (list_any (λ y. f n == y) (values_below n test f)) new)
      where
        new : list_any (λ y. f n == y) (values_below n test f) ≡ true → ⊥
        new h =
            let v = value_at n test f (f n) (Contains-from_any {eq = λ (x y : ℕ). x == y} (λ x y. eqb-true x y) (f n) (values_below n test f) h) in
            let l = v.below in
            let s : v.at ≡ n = d v.at n (omega arith) (omega arith) v.passes e v.is in
            omega arith
