-- What a step does to the list of events.
use Rattle.std.proofs.Common.{◌≡◌, ◌≢◌, ℕ, List, [], ◌∷◌, ◌++◌, ◌==◌, cond, ne_eqb, refl, sym, ap, ◌∙◌, append_assoc, append-nil}
use Rattle.std.proofs.lemmas.List.Elements.{filter-append}
use mathlib.Core.Logic.{dite}
use native.Mathlib.Decide.{ℕ_discrete}
use Rattle.orc_heap.specs.declared.events.Event.{Event}
use Rattle.orc_shared_words.specs.Runs.{Rules, Obeys}
use Rattle.orc_history.specs.Journals.{own_of}
use Rattle.orc_heap.specs.Allowed.{events_by}
use Rattle.orc_shared_words.proofs.Runs.{cons_nil, by_other, by_own}

module _ {N : Type 0} where
  abbrev pub AllBy : ℕ → List (Event N) → Type 0
  AllBy a [] = Unit {0}
  AllBy a (e ∷ es) = (e.agent ≡ a) × AllBy a es

  -- events of another agent are none of this one's
  pub none_of_all : (a b : ℕ) (es : List (Event N)) → b ≢ a → AllBy b es → events_by a es ≡ []
  none_of_all a b [] ne all = refl
  none_of_all a b (e ∷ es) ne all = ap (λ t. cond t (e ∷ events_by a es) (events_by a es)) (ne_eqb e.agent a (λ q. ne (sym all.0 ∙ q)))
      ∙ none_of_all a b es ne all.1

  pub none-append : (a : ℕ) (xs ys : List (Event N)) → events_by a xs ≡ [] → events_by a ys ≡ [] → events_by a (xs ++ ys) ≡ []
  none-append a xs ys p q = filter-append (λ (e : Event N). e.agent == a) xs ys ∙ λ i. p i ++ q i

module _ {K S Op Rec N : Type 0} (r : Rules K S Op Rec N) (k : K) (laws : Obeys r k) (signed : (past : List S) (s : S)
    → AllBy (r.by s) (r.events k past s)) where
  -- steps of others add events of others
  pub others_add : (a : ℕ) (seen between : List S) → own_of r.by a between ≡ [] → (es : List (Event N)) × (events_by a es ≡ [])
      × (r.project k (seen ++ between) ≡ r.project k seen ++ es)
  others_add a seen [] e = ([], refl, ap (r.project k) (append-nil seen) ∙ sym (append-nil (r.project k seen)))
  others_add a seen (x ∷ xs) e = dite (ℕ_discrete (r.by x) a)
      (λ own. absurd (cons_nil x (own_of r.by a xs) (sym (by_own r.by a x xs own) ∙ e)))
      (λ ne. let t = others_add a (seen ++ x ∷ []) xs (sym (by_other r.by a x xs ne) ∙ e) in (
        r.events k seen x ++ t.0,
        none-append a (r.events k seen x) t.0 (none_of_all a (r.by x) (r.events k seen x) ne (signed seen x)) t.1,
        ap (r.project k) (sym (append_assoc seen (x ∷ []) xs))
            ∙ (t.2 ∙ (ap (λ l. l ++ t.0) (laws.project_next seen x) ∙ append_assoc (r.project k seen) (r.events k seen x) t.0)),
      ))
