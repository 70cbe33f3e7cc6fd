-- What a pass knows of the journal: at the start, after it learned, and once it took in all others.
use Rattle.std.proofs.Common.{List, Some, [], append-nil, append_assoc, ap, inl, refl, subst, sym, ℕ, ◌++◌, ◌∙◌, ◌≡◌, ◌∷◌, ⊎_elim}
use mathlib.Core.Logic.{dite}
use native.Mathlib.Decide.{ℕ_discrete}
use Rattle.orc_heap.specs.Allowed.{AllAllowed}
use Rattle.orc_heap.specs.declared.events.Event.{Event}
use Rattle.orc_shared_words.specs.declared.journal.View.{View}
use Rattle.orc_shared_words.specs.Ends.{OpensLawfully}
use Rattle.orc_shared_words.specs.Learning.{LearnedBoth, SameButSeen}
use mathlib.Core.List.{IsPrefix}
use Rattle.orc_shared_words.specs.Runs.{AgentsBelow, Obeys, Rules}
use Rattle.orc_history.specs.Journals.{own_of}
use Rattle.orc_shared_words.specs.Steps.{LaterJournal}
use Rattle.orc_shared_words.specs.Views.{absorbing}
use Rattle.orc_heap.proofs.Prefixes.{prefix_same}
use Rattle.orc_shared_words.proofs.Runs.{by_other, by_own, cons_nil, none_behind}

module _ {K S Op Rec N : Type 0} (r : Rules K S Op Rec N) (k : K) (holds : List (Event N) → Type 0) (may : List (Event N) → Event N → Type 0) where
  -- a pass that was just made
  pub new_pass_later : (v : View S Rec) (a : ℕ) → OpensLawfully r k holds may → v.seen ≡ r.opening k → v.also ≡ [] → v.own ≡ r.own k (r.opening k) a
      → LaterJournal r k holds may v.seen v a
  new_pass_later v a o seen also own = record {
    lawful = subst (r.lawful k) (sym seen) o.lawful;
    opened = subst (IsPrefix (r.opening k)) (sym seen) (prefix_same (r.opening k) (r.opening k) refl);
    below = subst (AgentsBelow r.by (r.agents k)) (sym seen) o.below;
    each = subst (λ j. AllAllowed may [] (r.project k j)) (sym seen) o.each;
    kept = subst (λ j. holds (r.project k j)) (sym seen) o.kept;
    mine = ap (λ j. r.own k j a) seen ∙ sym own;
    retired = λ b q. refl;
  }

  -- a pass that takes in another
  pub absorbing_later : (v w : View S Rec) (a : ℕ) → LaterJournal r k holds may v.seen v a → LaterJournal r k holds may v.seen (absorbing v w) a
  absorbing_later v w a h =
      record { lawful = h.lawful; opened = h.opened; below = h.below; each = h.each; kept = h.kept; mine = h.mine; retired = λ b q. refl }

  -- steps of others leave an agent's record
  pub own_stays : Obeys r k → (a : ℕ) (j more : List S) → own_of r.by a more ≡ [] → r.own k (j ++ more) a ≡ r.own k j a
  own_stays laws a j [] e = ap (λ l. r.own k l a) (append-nil j)
  own_stays laws a j (s ∷ ss) e = dite (ℕ_discrete (r.by s) a)
      (λ same. absurd (cons_nil s (own_of r.by a ss) (sym (by_own r.by a s ss same) ∙ e)))
      (λ ne. ap (λ l. r.own k l a) (sym (append_assoc j (s ∷ []) ss))
      ∙ (own_stays laws a (j ++ s ∷ []) ss (sym (by_other r.by a s ss ne) ∙ e) ∙ laws.own_other j s a (λ q. ne (sym q))))

  -- a pass whose list is now a longer one that another pass knew
  grown_later : Obeys r k → (v u w : View S Rec) (a b : ℕ) → v.agent ≡ Some a → LaterJournal r k holds may v.seen v a
      → LaterJournal r k holds may u.seen u b → IsPrefix v.seen u.seen → w.seen ≡ u.seen → SameButSeen r.by v w → LaterJournal r k holds may w.seen w a
  grown_later laws v u w a b is mine other longer seen same =
      let steps : own_of r.by a u.seen ≡ own_of r.by a v.seen = ap (own_of r.by a) (sym seen) ∙ same.steps a (inl is) in
      let stays : r.own k u.seen a ≡ r.own k v.seen a = ap (λ l. r.own k l a) (sym longer.1)
      ∙ own_stays laws a v.seen longer.0 (none_behind r.by a u.seen v.seen longer steps) in record {
        lawful = subst (r.lawful k) (sym seen) other.lawful;
        opened = subst (IsPrefix (r.opening k)) (sym seen) other.opened;
        below = subst (AgentsBelow r.by (r.agents k)) (sym seen) other.below;
        each = subst (λ j. AllAllowed may [] (r.project k j)) (sym seen) other.each;
        kept = subst (λ j. holds (r.project k j)) (sym seen) other.kept;
        mine = ap (λ j. r.own k j a) seen ∙ (stays ∙ (mine.mine ∙ sym same.mine));
        retired = λ c q. refl;
      }

  same_later : (v w : View S Rec) (a : ℕ) → LaterJournal r k holds may v.seen v a → w.seen ≡ v.seen → SameButSeen r.by v w
      → LaterJournal r k holds may w.seen w a
  same_later v w a mine seen same = record {
    lawful = subst (r.lawful k) (sym seen) mine.lawful;
    opened = subst (IsPrefix (r.opening k)) (sym seen) mine.opened;
    below = subst (AgentsBelow r.by (r.agents k)) (sym seen) mine.below;
    each = subst (λ j. AllAllowed may [] (r.project k j)) (sym seen) mine.each;
    kept = subst (λ j. holds (r.project k j)) (sym seen) mine.kept;
    mine = ap (λ j. r.own k j a) seen ∙ (mine.mine ∙ sym same.mine);
    retired = λ c q. refl;
  }

  -- two passes that learned from each other
  pub learned_later : Obeys r k → (v u w x : View S Rec) (a b : ℕ) → v.agent ≡ Some a → u.agent ≡ Some b → LearnedBoth r.by v u w x
      → LaterJournal r k holds may v.seen v a → LaterJournal r k holds may u.seen u b
      → LaterJournal r k holds may w.seen w a × LaterJournal r k holds may x.seen x b
  learned_later laws v u w x a b va ub learned mine other = ⊎_elim
      (λ (p : IsPrefix u.seen v.seen × (w.seen ≡ v.seen)).
      (same_later v w a mine p.1 learned.into, grown_later laws u v x b a ub other mine p.0 (learned.both ∙ p.1) learned.from))
      (λ (p : IsPrefix v.seen u.seen × (w.seen ≡ u.seen)). (
        grown_later laws v u w a b va mine other p.0 p.1 learned.into,
        same_later u x b other (learned.both ∙ p.1) learned.from,
      ))
      learned.longer
