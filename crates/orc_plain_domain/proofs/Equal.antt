-- Tests of rows and links.
use Rattle.std.proofs.Common.{◌≡◌, ◌≢◌, ℕ, ◌&&◌, eqb, not, eq-eqb, Bool, true, false, cond, Option, Some, None, refl, sym, ap, ◌∙◌, subst}
use Rattle.std.proofs.Math.Bool.{and-eq-true_iff}
use Rattle.std.proofs.lemmas.Bool.{eqb-true}
use Rattle.std.specs.Option.{option_eq}
use mathlib.Core.Bool.{beq}
use Rattle.orc_words.specs.declared.packed.RowLink.{RowLink}
use Rattle.orc_plain_board.specs.Calls.{unless_linked}

-- the test of two links
pub same_to : (t u : Option ℕ) → option_eq eqb t u ≡ true → t ≡ u
same_to None None e = refl
same_to None (Some u) e = cc
same_to (Some t) None e = cc
same_to (Some t) (Some u) e = ap Some (eqb-true t u e)

to_same : (t : Option ℕ) → option_eq eqb t t ≡ true
to_same None = refl
to_same (Some t) = eq-eqb t t refl

same_mark : (a b : Bool) → beq a b ≡ true → a ≡ b
same_mark true true e = refl
same_mark false false e = refl
same_mark true false e = cc
same_mark false true e = cc

mark_same : (a : Bool) → beq a a ≡ true
mark_same true = refl
mark_same false = refl

abbrev pub tested : RowLink → RowLink → Bool
tested l k = option_eq eqb l.to k.to && beq l.mark k.mark

tested_same : (l : RowLink) → tested l l ≡ true
tested_same l = (λ i. to_same l.to i && mark_same l.mark i)

pub links_differ : (l k : RowLink) (n : Bool) → n ≡ not (tested l k) → n ≡ true → l ≢ k
links_differ l k n is differ same = let e : true ≡ not true = sym differ ∙ (is ∙ ap not (subst (λ z. tested l z ≡ true) same (tested_same l))) in cc

pub links_agree : (l k : RowLink) (n : Bool) → n ≡ not (tested l k) → n ≡ false → l ≡ k
links_agree l k n is no_change = went (tested l k) refl
  where
    went : (b : Bool) → tested l k ≡ b → l ≡ k
    went true e = let r = (and-eq-true_iff _ _).0 e in λ i. record { to = same_to l.to k.to r.0 i; mark = same_mark l.mark k.mark r.1 i }
    went false e = let f : false ≡ not false = sym no_change ∙ (is ∙ ap not e) in cc

-- the fresh row, where it is this one and where it isn't
pub same_fresh : (fresh : Option ℕ) (row : ℕ) → option_eq eqb fresh (Some row) ≡ true → None ≡ unless_linked fresh (Some row)
same_fresh None row e = cc
same_fresh (Some one) row e = ap (λ b. cond b None (Some one)) (sym e)

pub other_fresh : (fresh : Option ℕ) (row : ℕ) → option_eq eqb fresh (Some row) ≡ false → fresh ≡ unless_linked fresh (Some row)
other_fresh None row e = refl
other_fresh (Some one) row e = ap (λ b. cond b None (Some one)) (sym e)
