-- What holds of a list that is made item by item.
use Rattle.std.proofs.Common.{All, List, ap, length, subst, sym, ℕ, ◌<◌, ◌∙◌, ◌≡◌}
use Rattle.std.proofs.lemmas.List.{get_or-map, length-map}
use Rattle.std.specs.Prelude.{map, slice_index_or}
use Rattle.orc_shared_words.specs.Lists.{EachFrom}

module _ {A B : Type 0} (of : A → B) (ys : List A) (xs : List B) (made : xs ≡ map of ys) where
  pub made_long : length xs ≡ length ys
  made_long = ap length made ∙ length-map ys of

  made_at : (i : ℕ) (x : B) (y : A) → i < length ys → slice_index_or xs i x ≡ of (slice_index_or ys i y)
  made_at i x y low = ap (λ (l : List B). slice_index_or l i x) made ∙ get_or-map of ys i y x low

  -- of items that are the part of what was made of them
  module _ (part : B → A) where
    pub made_same : ((y : A) → part (of y) ≡ y) → EachFrom part xs ys
    made_same back i x y low = ap part (made_at i x y low) ∙ back (slice_index_or ys i y)

    pub made_all : (P : B → Type 0) → ((y : A) → P (of y)) → All P xs
    made_all P each i x low = subst P (sym (made_at i x (part x) (subst (λ n. i < n) made_long low))) (each (slice_index_or ys i (part x)))
