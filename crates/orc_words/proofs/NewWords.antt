-- A new table's words, by place and by word.
use Rattle.std.proofs.Common.{Bool, true, false, refl, ◌≡◌, ◌≢◌, ◌<◌, ◌≤◌, ℕ, ◌+◌, ◌*◌, ◌-◌, ◌%◌, arith, cond, ◌∙◌, length}
use Rattle.std.specs.Prelude.{◌&&◌, ◌==◌, nat_le, nat_lt, slice_index}
use Rattle.std.proofs.lemmas.Bool.Decides.{nat_tests}
use Rattle.std.proofs.lemmas.List.FromFn.{get_or-map-range_with_len, length-map-range_with_len}
use Rattle.orc_words.proofs.Positions.{place_below}
use Rattle.orc_words.specs.Bounds.{Bounds}
use Rattle.orc_words.specs.NewWords.{first_word, new_word, new_words}
use Rattle.orc_words.specs.Places.{IsWithin, place, places}
use Rattle.orc_words.specs.declared.packed.TheConstants.{NEW_COUNTER}
use Rattle.orc_words.specs.declared.place.Word.{Word}
use Rattle.orc_words.specs.declared.place.Word.TheVariants.{Counter, Enrolled, First, Gate, Handover, Next, Root, Second, Side, Slot}

-- what a place holds, where the first row stands at o and rows have n words each
abbrev first_of : ℕ → ℕ → ℕ → ℕ → ℕ
first_of o n rows p = cond (nat_le o p && nat_lt p (o + n * rows) && ((p - o) % n == 1)) NEW_COUNTER 0

-- a place that is no row's second word holds 0
not_counter : (o n rows p : ℕ) → (o ≤ p → p < o + n * rows → (p - o) % n ≢ 1) → first_of o n rows p ≡ 0
not_counter o n rows p h = grind (arith, nat_tests)

-- a row's second word holds a new counter
counter : (o n rows p : ℕ) → o ≤ p → p < o + n * rows → (p - o) % n ≡ 1 → first_of o n rows p ≡ NEW_COUNTER
counter o n rows p h k e = grind (arith, nat_tests)

-- each word's place holds the word's first value, where rows have one link and where they have two
first_at_links : (b : Bounds) (w : Word) (t : Bool) → nat_lt 1 b.links ≡ t → IsWithin b w → first_word b (place b w) ≡ new_word w
first_at_links b Enrolled true e h = rw e (not_counter (1 + b.roots) 6 b.rows (0) (λ p q. omega arith))
first_at_links b Enrolled false e h = rw e (not_counter (1 + b.roots) 5 b.rows (0) (λ p q. omega arith))
first_at_links b (Root i) true e h = rw e (not_counter (1 + b.roots) 6 b.rows (1 + i) (λ p q. omega arith))
first_at_links b (Root i) false e h = rw e (not_counter (1 + b.roots) 5 b.rows (1 + i) (λ p q. omega arith))
first_at_links b (Gate r) true e h = rw e (not_counter (1 + b.roots) 6 b.rows (1 + b.roots + 6 * r) (λ p q. omega arith))
first_at_links b (Gate r) false e h = rw e (not_counter (1 + b.roots) 5 b.rows (1 + b.roots + 5 * r) (λ p q. omega arith))
first_at_links b (Counter r) true e h = rw e (counter (1 + b.roots) 6 b.rows (1 + b.roots + 6 * r + 1) (omega arith) (omega arith) (omega arith))
first_at_links b (Counter r) false e h = rw e (counter (1 + b.roots) 5 b.rows (1 + b.roots + 5 * r + 1) (omega arith) (omega arith) (omega arith))
first_at_links b (First r) true e h = rw e (not_counter (1 + b.roots) 6 b.rows (1 + b.roots + 6 * r + 2) (λ p q. omega arith))
first_at_links b (First r) false e h = rw e (not_counter (1 + b.roots) 5 b.rows (1 + b.roots + 5 * r + 2) (λ p q. omega arith))
first_at_links b (Second r) true e h = rw e (not_counter (1 + b.roots) 6 b.rows (1 + b.roots + 6 * r + 3) (λ p q. omega arith))
first_at_links b (Second r) false e h = rw e (not_counter (1 + b.roots) 5 b.rows (1 + b.roots + 5 * r + 3) (λ p q. omega arith))
first_at_links b (Next r) true e h = rw e (not_counter (1 + b.roots) 6 b.rows (1 + b.roots + 6 * r + 4) (λ p q. omega arith))
first_at_links b (Next r) false e h = rw e (not_counter (1 + b.roots) 5 b.rows (1 + b.roots + 5 * r + 4) (λ p q. omega arith))
first_at_links b (Side r) true e h = rw e (not_counter (1 + b.roots) 6 b.rows (1 + b.roots + 6 * r + 5) (λ p q. omega arith))
first_at_links b (Side r) false e h = grind arith
first_at_links b (Slot a k) true e h = rw e (not_counter (1 + b.roots) 6 b.rows (1 + b.roots + 6 * b.rows + 16 * a + k) (λ p q. omega arith))
first_at_links b (Slot a k) false e h = rw e (not_counter (1 + b.roots) 5 b.rows (1 + b.roots + 5 * b.rows + 16 * a + k) (λ p q. omega arith))
first_at_links b (Handover a k) true e h = rw e (not_counter (1 + b.roots) 6 b.rows (1 + b.roots + 6 * b.rows + 16 * a + 8 + k) (λ p q. omega arith))
first_at_links b (Handover a k) false e h = rw e (not_counter (1 + b.roots) 5 b.rows (1 + b.roots + 5 * b.rows + 16 * a + 8 + k) (λ p q. omega arith))

-- each word's place holds the word's first value
first_is : (b : Bounds) (w : Word) → IsWithin b w → first_word b (place b w) ≡ new_word w
first_is b w h = first_at_links b w (nat_lt 1 b.links) refl h

pub new_words_long : (b : Bounds) → length (new_words b) ≡ places b
new_words_long b = length-map-range_with_len (first_word b) 0 (places b)

pub new_words_each : (b : Bounds) (w : Word) → IsWithin b w → slice_index (new_words b) (place b w) ≡ new_word w
new_words_each b w h =
    get_or-map-range_with_len (first_word b) 0 (places b) (place b w) (place b w) 0 (place_below b w h) (omega arith)
    ∙ first_is b w h
