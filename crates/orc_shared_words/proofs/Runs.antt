-- The steps of one agent in a list.
use Rattle.std.proofs.Common.{Bool, List, [], append-nil, append_assoc, eq-eqb, if◌then◌else◌, ne_eqb, refl, sym, ap, ℕ, ◌++◌, ◌<◌, ◌∙◌, ◌≡◌, ◌≢◌, ◌∷◌}
use Rattle.std.proofs.lemmas.List.{append_cancel_left}
use mathlib.Core.Logic.{dite}
use native.Mathlib.Decide.{ℕ_discrete}
use mathlib.Core.List.{IsPrefix}
use Rattle.orc_shared_words.specs.Runs.{AgentsBelow}
use Rattle.orc_history.specs.Journals.{own_of}
use Rattle.orc_heap.proofs.Prefixes.{front_nil}

pub cons_nil : {A : Type 0} (x : A) (xs : List A) → x ∷ xs ≡ [] → ⊥
cons_nil x xs e = absurd (cc)

module _ {S : Type 0} (by : S → ℕ) where
  pub by_other : (a : ℕ) (s : S) (ss : List S) → by s ≢ a → own_of by a (s ∷ ss) ≡ own_of by a ss
  by_other a s ss ne = ap (λ (b : Bool). if b then s ∷ own_of by a ss else own_of by a ss) (ne_eqb (by s) a ne)

  pub by_own : (a : ℕ) (s : S) (ss : List S) → by s ≡ a → own_of by a (s ∷ ss) ≡ s ∷ own_of by a ss
  by_own a s ss e = ap (λ (b : Bool). if b then s ∷ own_of by a ss else own_of by a ss) (eq-eqb (by s) a e)

  pub own_of-append : (a : ℕ) (xs ys : List S) → own_of by a (xs ++ ys) ≡ own_of by a xs ++ own_of by a ys
  own_of-append a [] ys = refl
  own_of-append a (x ∷ xs) ys = dite (ℕ_discrete (by x) a)
      (λ e. by_own a x (xs ++ ys) e ∙ (ap (λ (l : List S). x ∷ l) (own_of-append a xs ys) ∙ ap (λ (l : List S). l ++ own_of by a ys) (sym (by_own a x xs e))))
      (λ ne. by_other a x (xs ++ ys) ne ∙ (own_of-append a xs ys ∙ ap (λ (l : List S). l ++ own_of by a ys) (sym (by_other a x xs ne))))

  -- steps of others add none of the agent's
  pub own_of-others : (a : ℕ) (xs ys : List S) → own_of by a ys ≡ [] → own_of by a (xs ++ ys) ≡ own_of by a xs
  own_of-others a xs ys e = own_of-append a xs ys ∙ (ap (λ l. own_of by a xs ++ l) e ∙ append-nil (own_of by a xs))

  -- where the agent's steps all stand in a prefix, none of its stand behind it
  pub none_behind : (a : ℕ) (j seen : List S) (b : IsPrefix seen j) → own_of by a j ≡ own_of by a seen → own_of by a b.0 ≡ []
  none_behind a j seen b e =
      append_cancel_left (own_of by a seen) (own_of by a b.0) []
      (sym (own_of-append a seen b.0) ∙ (ap (own_of by a) b.1 ∙ (e ∙ sym (append-nil (own_of by a seen)))))

  -- and so none stand in what is between
  pub none_between : (a : ℕ) (j seen first : List S) → IsPrefix seen j → IsPrefix first seen → own_of by a j ≡ own_of by a first
      → own_of by a seen ≡ own_of by a first
  none_between a j seen first b c e =
      let far : own_of by a c.0 ++ own_of by a b.0 ≡ [] =
      sym (own_of-append a c.0 b.0) ∙ none_behind a j first (c.0 ++ b.0, sym (append_assoc first c.0 b.0) ∙ (ap (λ l. l ++ b.0) c.1 ∙ b.1)) e in
      ap (own_of by a) (sym c.1) ∙ own_of-others a first c.0 (front_nil (own_of by a c.0) (own_of by a b.0) far)

  pub below-snoc : (n : ℕ) (xs : List S) (s : S) → AgentsBelow by n xs → by s < n → AgentsBelow by n (xs ++ s ∷ [])
  below-snoc n [] s b l = (l, tt)
  below-snoc n (x ∷ xs) s b l = (b.0, below-snoc n xs s b.1 l)

  pub below-front : (n : ℕ) (xs ys : List S) → AgentsBelow by n (xs ++ ys) → AgentsBelow by n xs
  below-front n [] ys b = tt
  below-front n (x ∷ xs) ys b = (b.0, below-front n xs ys b.1)

  pub below-tail : (n : ℕ) (xs ys : List S) → AgentsBelow by n (xs ++ ys) → AgentsBelow by n ys
  below-tail n [] ys b = b
  below-tail n (x ∷ xs) ys b = below-tail n xs ys b.1

  -- steps of no agent are no steps
  pub none_left : (n : ℕ) (xs : List S) → AgentsBelow by n xs → ((a : ℕ) → a < n → own_of by a xs ≡ []) → xs ≡ []
  none_left n [] b e = refl
  none_left n (x ∷ xs) b e = absurd (cons_nil x (own_of by (by x) xs) (sym (by_own (by x) x xs refl) ∙ e (by x) b.0))
