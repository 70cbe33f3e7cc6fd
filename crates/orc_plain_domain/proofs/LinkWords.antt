-- The link that a word names.
use Rattle.std.proofs.Common.{Bool, List, None, Option, Some, ap, arith, false, refl, slice_get, true, ℕ, ◌*◌, ◌+◌, ◌<◌, ◌∙◌, ◌≡◌, ◌≤◌}
use Rattle.orc_plain_board.specs.Machine.{id_by, link_by}
use Rattle.orc_words.specs.Packed.{bit, link_word, name_word}
use Rattle.orc_words.specs.declared.packed.RowLink.{RowLink}
use Rattle.orc_any_domain.proofs.Rows.{index_at}
use Rattle.orc_any_domain.specs.Rows.{Once}
use Rattle.orc_plain_board.specs.Words.{IsWord}

bit_low : (a : Bool) → bit a < 2
bit_low true = omega arith
bit_low false = omega arith

one_bit : (a b : Bool) → bit a ≡ bit b → a ≡ b
one_bit true true e = refl
one_bit false false e = refl
one_bit true false e = absurd (omega (arith, e))
one_bit false true e = absurd (omega (arith, e))

-- a word is that of one link
one_word : (t u : Option ℕ) (a b : Bool) → 2 * name_word t + bit a ≡ 2 * name_word u + bit b → (t ≡ u) × (a ≡ b)
one_word None None a b e = (refl, one_bit a b (omega (arith, e)))
one_word None (Some u) a b e = let l = bit_low a in absurd (omega (arith, e, l))
one_word (Some t) None a b e = let l = bit_low b in absurd (omega (arith, e, l))
one_word (Some t) (Some u) a b e =
    let l = bit_low a in
    let k = bit_low b in
    let same : t ≡ u = omega (arith, e, l, k) in
    (ap Some same, one_bit a b (omega (arith, e, same)))

-- the link that a word names, by rows and by nodes
pub link_is : (rows : List ℕ) (once : Once rows) (to : Option ℕ) (mark : Bool) (n : ℕ) (l : RowLink) → IsWord rows to mark n → link_word l ≡ n
    → link_by rows l ≡ record { to = to; mark = mark }
link_is rows once None mark n l w e =
    let r = one_word l.to None l.mark mark (let v : n ≡ bit mark = w in omega (arith, e, v)) in
    λ i. record { to = id_by rows (r.0 i); mark = r.1 i }
link_is rows once (Some id) mark n l w e =
    let r = one_word l.to (Some w.0) l.mark mark (e ∙ w.2) in
    (λ i. record { to = id_by rows (r.0 i); mark = r.1 i }) ∙ ap (λ (z : ℕ). record { to = Some z; mark = mark }) (index_at w.0 rows id once w.1)

pub word_low : (rows : List ℕ) (most : ℕ) → ((i row : ℕ) → slice_get rows i ≡ Some row → row < most) → most ≤ 65535
    → (to : Option ℕ) (mark : Bool) (n : ℕ) → IsWord rows to mark n → n ≤ 131071
word_low rows most inside few None mark n w = let l = bit_low mark in let v : n ≡ bit mark = w in omega (arith, l, v)
word_low rows most inside few (Some id) mark n w = let l = bit_low mark in let k = inside id w.0 w.1 in let v = w.2 in omega (arith, l, k, v, few)
