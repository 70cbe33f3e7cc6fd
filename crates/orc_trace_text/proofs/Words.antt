-- The words of a line, and lines between line feeds.
use Rattle.std.proofs.Common.{◌≡◌, ◌∙◌, ℕ, ◌==◌, true, false, List, [], ◌∷◌, ◌++◌, Option, Some, None, refl, sym, ap, ap₂, is_some, Bor, arith, length, All}
use Rattle.std.specs.Option.{option_copied}
use Rattle.std.specs.List.{join_with_byte}
use Rattle.std.proofs.lemmas.List.Elements.{All-head, All-tail}
use Rattle.std.proofs.lemmas.List.Splits.{join_with_byte-slice_split, length-slice_split, slice_split_at, slice_split_none}
use Rattle.std.proofs.lemmas.Bool.Decides.{nat_tests}
use Rattle.orc_trace_text.specs.Reading.{Cuts, words_in, words_left}

-- the byte doesn't stand in the text
abbrev pub Lacks : ℕ → List ℕ → Type 0
Lacks byte text = All (λ b. (b == byte) ≡ false) text

-- ---- words

pub words-cut : (text front : List ℕ) (rest : Option (List ℕ)) → Cuts 32 text front rest → words_in text ≡ front ∷ words_left rest
words-cut text front None h = rw h.0 (slice_split_none (λ b. b == 32) front h.1)
words-cut text front (Some more) h = rw h.0 (slice_split_at (λ b. b == 32) front 32 more h.1 refl)

-- a text that is left has a word
pub words-some : (left : Option (Bor (List ℕ))) → is_some left ≡ true → words_left (option_copied left) ≡ [] → ⊥
words-some None h e = cc h
words-some (Some text) h e =
    let size : length (words_in text.now) ≡ 0 = ap length e in
    let more = length-slice_split (λ b. b == 32) text.now in
    omega (arith, size, more)

-- a text is its words, joined
pub text-of_words : (text : List ℕ) (words : List (List ℕ)) → words_in text ≡ words → text ≡ join_with_byte 32 words
text-of_words text words h = sym (join_with_byte-slice_split 32 text) ∙ ap (join_with_byte 32) h

-- each text is a word: no space stands in it
abbrev pub AreWords : List (List ℕ) → Type 0
AreWords [] = Unit {0}
AreWords (w ∷ ws) = Lacks 32 w × AreWords ws

-- joined words are found again
pub words-joined : (w : List ℕ) (ws : List (List ℕ)) → AreWords (w ∷ ws) → words_in (join_with_byte 32 (w ∷ ws)) ≡ w ∷ ws
words-joined w [] h = slice_split_none (λ b. b == 32) w h.0
words-joined w (v ∷ vs) h =
    slice_split_at (λ b. b == 32) w 32 (join_with_byte 32 (v ∷ vs)) h.0 refl ∙ ap (λ (t : List (List ℕ)). w ∷ t) (words-joined v vs h.1)

-- ---- lines

pub differs : (c byte : ℕ) → (c == byte) ≡ false → c ≡ byte → ⊥
differs c byte h e = grind (arith, nat_tests)

-- what stands before the first such byte, and what stands behind it, are determined
pub cut-unique : (byte : ℕ) (x y r s : List ℕ) → Lacks byte x → Lacks byte y → x ++ byte ∷ r ≡ y ++ byte ∷ s → (x ≡ y) × (r ≡ s)
cut-unique byte [] [] r s h k e = (refl, cc e)
cut-unique byte [] (d ∷ ys) r s h k e = absurd (differs d byte (All-head (λ b. (b == byte) ≡ false) d ys k) (cc e))
cut-unique byte (c ∷ xs) [] r s h k e = absurd (differs c byte (All-head (λ b. (b == byte) ≡ false) c xs h) (cc e))
cut-unique byte (c ∷ xs) (d ∷ ys) r s h k e =
    let first : c ≡ d = cc e in
    let rest : xs ++ byte ∷ r ≡ ys ++ byte ∷ s = cc e in
    let more = cut-unique byte xs ys r s (All-tail (λ b. (b == byte) ≡ false) c xs h) (All-tail (λ b. (b == byte) ≡ false) d ys k) rest in
    (ap₂ (λ (n : ℕ) (ns : List ℕ). n ∷ ns) first more.0, more.1)

-- a text without the byte isn't one with it
pub cut-none : (byte : ℕ) (x y r : List ℕ) → Lacks byte x → x ≡ y ++ byte ∷ r → ⊥
cut-none byte [] [] r h e = cc e
cut-none byte [] (d ∷ ys) r h e = cc e
cut-none byte (c ∷ xs) [] r h e = differs c byte (All-head (λ b. (b == byte) ≡ false) c xs h) (cc e)
cut-none byte (c ∷ xs) (d ∷ ys) r h e = cut-none byte xs ys r (All-tail (λ b. (b == byte) ≡ false) c xs h) (cc e)
