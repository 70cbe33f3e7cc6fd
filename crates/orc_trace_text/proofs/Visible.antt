-- Bytes above a space: those of every word.
use Rattle.std.proofs.Common.{◌≡◌, ◌∙◌, ℕ, suc, ◌^◌, ◌<◌, ◌≤◌, ◌==◌, Bool, true, false, ◌&&◌, List, [], ◌∷◌, ◌++◌, refl, arith, length, get_or, ltb}
use Rattle.std.proofs.Math.Bool.{and-eq-true_iff}
use Rattle.std.specs.Fmt.{decimal}
use Rattle.std.specs.List.{join_with_byte, list_all}
use Rattle.std.specs.Str.Parse.{digits_value, AllDigits}
use Rattle.std.proofs.lemmas.Bool.Decides.{nat_tests}
use Rattle.std.proofs.lemmas.Fmt.{digits_decimal}
use Rattle.std.proofs.lemmas.List.Elements.{All-append, All-cons, All-nil}
use Rattle.std.proofs.lemmas.List.Folds.{list_all-append}
use Rattle.std.proofs.lemmas.Str.Parse.{IsNumeralModel, digit_at, numerals_by_value, tells_digits}
use Rattle.orc_trace_text.proofs.Words.{AreWords, Lacks}

-- every byte is above a space
abbrev pub is_visible : List ℕ → Bool
is_visible text = list_all (λ b. ltb 32 b) text

abbrev pub IsVisible : List ℕ → Type 0
IsVisible text = is_visible text ≡ true

abbrev pub AreVisible : List (List ℕ) → Type 0
AreVisible [] = Unit {0}
AreVisible (w ∷ ws) = IsVisible w × AreVisible ws

-- ---- decimals

own : IsNumeralModel (AllDigits 10) (digits_value 10)
own = numerals_by_value (AllDigits 10) tells_digits

both : (a b : Bool) → a ≡ true → b ≡ true → (a && b) ≡ true
both true b h k = k
both false b h k = h

visible_by_index : (xs : List ℕ) → ((i : ℕ) → i < length xs → 32 < get_or xs i 0) → IsVisible xs
visible_by_index [] h = refl
visible_by_index (x ∷ xs) h = both (ltb 32 x) (is_visible xs) (let first = h 0 (omega arith) in grind (arith, nat_tests))
    (visible_by_index xs (λ i lt. h (suc i) (omega arith)))

pub visible-decimal : (n : ℕ) → n < 2 ^ 64 → IsVisible (decimal n)
visible-decimal n small = visible_by_index (decimal n) (λ i lt. let range = digit_at (decimal n) i (digits_decimal own n small) lt in omega (arith, range))

-- ---- such words lack spaces and line feeds

pub visible-append : (a b : List ℕ) → IsVisible a → IsVisible b → IsVisible (a ++ b)
visible-append a b h k = list_all-append (λ c. ltb 32 c) a b ∙ both (is_visible a) (is_visible b) h k

apart : (x byte : ℕ) → byte ≤ 32 → ltb 32 x ≡ true → (x == byte) ≡ false
apart x byte low h = grind (arith, nat_tests)

pub Lacks-visible : (byte : ℕ) (text : List ℕ) → byte ≤ 32 → IsVisible text → Lacks byte text
Lacks-visible byte [] low h = All-nil (λ b. (b == byte) ≡ false)
Lacks-visible byte (x ∷ xs) low h =
    let parts = (and-eq-true_iff (ltb 32 x) (is_visible xs)).0 h in
    All-cons (λ b. (b == byte) ≡ false) x xs (apart x byte low parts.0) (Lacks-visible byte xs low parts.1)

pub AreWords-visible : (words : List (List ℕ)) → AreVisible words → AreWords words
AreWords-visible [] h = tt
AreWords-visible (w ∷ ws) h = (Lacks-visible 32 w (omega arith) h.0, AreWords-visible ws h.1)

-- no line feed stands in joined words
pub Lacks-joined : (words : List (List ℕ)) → AreVisible words → Lacks 10 (join_with_byte 32 words)
Lacks-joined [] h = All-nil (λ b. (b == 10) ≡ false)
Lacks-joined (w ∷ []) h = Lacks-visible 10 w (omega arith) h.0
Lacks-joined (w ∷ v ∷ vs) h =
    All-append (λ b. (b == 10) ≡ false) w (32 ∷ join_with_byte 32 (v ∷ vs)) (Lacks-visible 10 w (omega arith) h.0)
    (All-cons (λ b. (b == 10) ≡ false) 32 (join_with_byte 32 (v ∷ vs)) refl (Lacks-joined (v ∷ vs) h.1))
