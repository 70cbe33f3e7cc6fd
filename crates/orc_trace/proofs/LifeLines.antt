-- The lines of lives, row by row.
use Rattle.std.proofs.Common.{List, [], ap, arith, sym, ℕ, ◌++◌, ◌+◌, ◌∙◌, ◌∷◌, ◌≡◌}
use Rattle.std.proofs.lemmas.List.{flat_map_more, map-id}
use Rattle.std.proofs.lemmas.List.FromFn.{map-range_with_len_more}
use Rattle.std.specs.List.{flat_map, range_with_len}

range-more : (n : ℕ) → range_with_len 0 (n + 1) ≡ range_with_len 0 n ++ n ∷ []
range-more n =
    sym (map-id (range_with_len 0 (n + 1))) ∙ map-range_with_len_more (λ x. x) 0 n n (omega arith) ∙ ap (λ l. l ++ n ∷ []) (map-id (range_with_len 0 n))

-- one more row's line behind those of the rows before it
pub one-more-line : (f : ℕ → List ℕ) (front old new : List ℕ) (n : ℕ) → old ≡ front ++ flat_map f (range_with_len 0 n) → new ≡ old ++ f n
    → new ≡ front ++ flat_map f (range_with_len 0 (n + 1))
one-more-line f front old new n before now =
    now ∙ ap (λ t. t ++ f n) before ∙ flat_map_more f front (range_with_len 0 n) n ∙ ap (λ l. front ++ flat_map f l) (sym (range-more n))
