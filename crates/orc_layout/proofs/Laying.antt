-- Words that are laid are read and written at their indices.
use Rattle.std.proofs.Common.{List, [], ap, arith, drop, get_or, length, refl, set, suc, sym, take, zero, ℕ, ◌++◌, ◌+◌, ◌-◌, ◌<◌, ◌∙◌, ◌∷◌, ◌≡◌, ◌≤◌}
use Rattle.std.specs.Prelude.{replicate}
use Rattle.std.proofs.lemmas.List.{get_or-append_right, length-append, length-replicate, replicate-append-replicate, set-append_right}
use Rattle.orc_layout.specs.Layout.{IsLayout, lay, lay_from}

-- the first words, and zeros in the place of the others
abbrev pub begun : List ℕ → ℕ → List ℕ
begun ws p = take p ws ++ replicate (length (drop p ws)) 0

begun_more : (ws : List ℕ) (p : ℕ) → p < length ws → set (begun ws p) p (get_or ws p 0) ≡ begun ws (suc p)
begun_more [] p l = absurd (omega arith)
begun_more (w ∷ ws) zero l = refl
begun_more (w ∷ ws) (suc p) l = ap (λ l. w ∷ l) (begun_more ws p (omega arith))

module _ (index : ℕ → ℕ) (layout : IsLayout index) where
  pub above : (p i : ℕ) → index p ≤ index (p + i)
  above p zero = let e : index (p + 0) ≡ index p = ap index (omega arith) in omega arith
  above p (suc i) =
      let e : index (p + suc i) ≡ index ((p + 1) + i) = ap index (omega arith) in
      let up = layout.rising p in
      let far = above (p + 1) i in omega arith

  -- a word, and the zeros up to the next place
  abbrev block : ℕ → ℕ → List ℕ
  block p w = w ∷ replicate (index (p + 1) - (index p + 1)) 0

  block_long : (p w : ℕ) → length (block p w) ≡ index (p + 1) - index p
  block_long p w =
      let up = layout.rising p in
      let long : length (replicate (index (p + 1) - (index p + 1)) 0) ≡ index (p + 1) - (index p + 1) = length-replicate (index (p + 1) - (index p + 1)) 0 in
      ap suc long ∙ omega arith

  read_from : (ws : List ℕ) (p i : ℕ) → get_or (lay_from index p ws) (index (p + i) - index p) 0 ≡ get_or ws i 0
  read_from [] p i = refl
  read_from (w ∷ ws) p zero =
      let e : index (p + 0) ≡ index p = ap index (omega arith) in
      let none : index (p + 0) - index p ≡ 0 = omega arith in
      ap (λ i. get_or (lay_from index p (w ∷ ws)) i 0) none
  read_from (w ∷ ws) p (suc i) =
      let e : index (p + suc i) ≡ index ((p + 1) + i) = ap index (omega arith) in
      let up = layout.rising p in
      let far = above (p + 1) i in
      let behind : (index (p + suc i) - index p) - (index (p + 1) - index p) ≡ index ((p + 1) + i) - index (p + 1) = omega arith in
      get_or-append_right (block p w) (lay_from index (p + 1) ws) (index (p + 1) - index p) (index (p + suc i) - index p) 0 (block_long p w) (omega arith)
      ∙ ap (λ i. get_or (lay_from index (p + 1) ws) i 0) behind
      ∙ read_from ws (p + 1) i

  write_from : (ws : List ℕ) (p i v : ℕ) → set (lay_from index p ws) (index (p + i) - index p) v ≡ lay_from index p (set ws i v)
  write_from [] p i v = refl
  write_from (w ∷ ws) p zero v =
      let e : index (p + 0) ≡ index p = ap index (omega arith) in
      let none : index (p + 0) - index p ≡ 0 = omega arith in
      ap (λ i. set (lay_from index p (w ∷ ws)) i v) none
  write_from (w ∷ ws) p (suc i) v =
      let e : index (p + suc i) ≡ index ((p + 1) + i) = ap index (omega arith) in
      let up = layout.rising p in
      let far = above (p + 1) i in
      let behind : (index (p + suc i) - index p) - (index (p + 1) - index p) ≡ index ((p + 1) + i) - index (p + 1) = omega arith in
      set-append_right (block p w) (lay_from index (p + 1) ws) (index (p + 1) - index p) (index (p + suc i) - index p) v (block_long p w) (omega arith)
      ∙ ap (λ i. block p w ++ set (lay_from index (p + 1) ws) i v) behind
      ∙ ap (λ l. block p w ++ l) (write_from ws (p + 1) i v)

  long_from : (ws : List ℕ) (p : ℕ) → length (lay_from index p ws) ≡ index (p + length ws) - index p
  long_from [] p =
      let e : index (p + 0) ≡ index p = ap index (omega arith) in omega arith
  long_from (w ∷ ws) p =
      let e : index (p + suc (length ws)) ≡ index ((p + 1) + length ws) = ap index (omega arith) in
      let up = layout.rising p in
      let far = above (p + 1) (length ws) in
      let rest = long_from ws (p + 1) in
      let first = block_long p w in
      length-append (block p w) (lay_from index (p + 1) ws) ∙ omega arith

  pub laid_read : (ws : List ℕ) (p : ℕ) → get_or (lay index ws) (index p) 0 ≡ get_or ws p 0
  laid_read ws p =
      let none = layout.first in
      let e : index (0 + p) ≡ index p = ap index (omega arith) in
      let same : index (0 + p) - index 0 ≡ index p = omega arith in
      ap (λ i. get_or (lay index ws) i 0) (sym same) ∙ read_from ws 0 p

  pub laid_write : (ws : List ℕ) (p v : ℕ) → set (lay index ws) (index p) v ≡ lay index (set ws p v)
  laid_write ws p v =
      let none = layout.first in
      let e : index (0 + p) ≡ index p = ap index (omega arith) in
      let same : index (0 + p) - index 0 ≡ index p = omega arith in
      ap (λ i. set (lay index ws) i v) (sym same) ∙ write_from ws 0 p v

  pub laid_long : (ws : List ℕ) → length (lay index ws) ≡ index (length ws)
  laid_long ws =
      let none = layout.first in
      let e : index (0 + length ws) ≡ index (length ws) = ap index (omega arith) in
      let rest = long_from ws 0 in rest ∙ omega arith

  zeros_from : (n p : ℕ) → lay_from index p (replicate n 0) ≡ replicate (index (p + n) - index p) 0
  zeros_from zero p =
      let e : index (p + 0) ≡ index p = ap index (omega arith) in
      let none : 0 ≡ index (p + 0) - index p = omega arith in ap (λ i. replicate i 0) none
  zeros_from (suc n) p =
      let e : index (p + suc n) ≡ index ((p + 1) + n) = ap index (omega arith) in
      let up = layout.rising p in
      let far = above (p + 1) n in
      let all : suc (index (p + 1) - (index p + 1)) + (index ((p + 1) + n) - index (p + 1)) ≡ index (p + suc n) - index p = omega arith in
      ap (λ l. block p 0 ++ l) (zeros_from n (p + 1))
      ∙ replicate-append-replicate (suc (index (p + 1) - (index p + 1))) (index ((p + 1) + n) - index (p + 1)) 0
      ∙ ap (λ i. replicate i 0) all

  -- zeros at all places are zeros at all indices
  pub laid_zeros : (n : ℕ) → replicate (index n) 0 ≡ lay index (replicate n 0)
  laid_zeros n =
      let none = layout.first in
      let e : index (0 + n) ≡ index n = ap index (omega arith) in
      let same : index (0 + n) - index 0 ≡ index n = omega arith in ap (λ i. replicate i 0) (sym same) ∙ sym (zeros_from n 0)

  -- one word more is written at its index
  pub laid_more : (ws : List ℕ) (p : ℕ) → p < length ws → set (lay index (begun ws p)) (index p) (get_or ws p 0) ≡ lay index (begun ws (p + 1))
  laid_more ws p l =
      let next : suc p ≡ p + 1 = omega arith in
      laid_write (begun ws p) p (get_or ws p 0) ∙ ap (lay index) (begun_more ws p l ∙ ap (begun ws) next)
