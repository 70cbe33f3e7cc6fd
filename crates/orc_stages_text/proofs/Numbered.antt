-- One line more of a numbered list.
use Rattle.std.proofs.Common.{◌≡◌, ◌∙◌, ◌+◌, ◌<◌, ◌++◌, ◌∷◌, List, [], ℕ, zero, suc, ap, sym, arith, append-nil, append_assoc, length, slice_index_or, take}
use Rattle.orc_stages_text.specs.StagesText.{out_line, out_lines}

more : (xs : List ℕ) (at i d : ℕ) → i < length xs
    → out_lines at (take (suc i) xs) ≡ out_lines at (take i xs) ++ out_line (at + i) (slice_index_or xs i d)
more [] at i d low = absurd (omega (arith, low))
more (x ∷ xs) at zero d low = let here : at ≡ at + 0 = omega arith in append-nil (out_line at x) ∙ ap (λ n. out_line n x) here
more (x ∷ xs) at (suc i) d low =
    let next : suc at + i ≡ at + suc i = omega arith in
    ap (λ t. out_line at x ++ t) (more xs (suc at) i d (omega (arith, low)))
    ∙ (sym (append_assoc (out_line at x) (out_lines (suc at) (take i xs)) (out_line (suc at + i) (slice_index_or xs i d)))
    ∙ ap (λ n. (out_line at x ++ out_lines (suc at) (take i xs)) ++ out_line n (slice_index_or xs i d)) next)

-- the lines below a place, and the one there
pub out_more : (xs : List ℕ) (i d : ℕ) → i < length xs → out_lines 0 (take (i + 1) xs) ≡ out_lines 0 (take i xs) ++ out_line i (slice_index_or xs i d)
out_more xs i d low =
    let above : i + 1 ≡ suc i = omega arith in
    let here : 0 + i ≡ i = omega arith in
    ap (λ n. out_lines 0 (take n xs)) above
    ∙ (more xs 0 i d low ∙ ap (λ n. out_lines 0 (take i xs) ++ out_line n (slice_index_or xs i d)) here)
