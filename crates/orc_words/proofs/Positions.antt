-- Different words have different places: each place tells its word.
use Rattle.std.proofs.Common.{Bool, true, false, refl, ◌≡◌, ℕ, ◌+◌, ◌*◌, ◌/◌, ◌%◌, ◌-◌, ◌<◌, cond, eqb, ltb, arith, ap, sym, ◌∙◌}
use Rattle.std.proofs.lemmas.Bool.{cond-false, cond-true, le-ltb, lt-ltb, ne_eqb}
use Rattle.orc_words.specs.declared.place.Word.{Word}
use Rattle.orc_words.specs.declared.place.Word.TheVariants.{Enrolled, Root, Gate, Counter, First, Second, Next, Side, Slot, Handover}
use Rattle.orc_words.specs.Bounds.{Bounds}
use Rattle.orc_words.specs.Places.{IsWithin, place, places, words_of_rows}

-- the word of a row, by its place among the row's words
abbrev row_word : ℕ → ℕ → Word
row_word k r = cond (eqb k 0) (Gate r) (cond (eqb k 1) (Counter r) (cond (eqb k 2) (First r) (cond (eqb k 3) (Second r) (cond (eqb k 4) (Next r) (Side r)))))

-- the word of the rows, by its place from the first row's first word
abbrev word_of_rows : Bounds → ℕ → Word
word_of_rows b k = cond (ltb 1 b.links) (row_word (k % 6) (k / 6)) (row_word (k % 5) (k / 5))

-- the word of an agent, by its place among the agent's sixteen
abbrev agent_word : ℕ → ℕ → Word
agent_word k a = cond (ltb k 8) (Slot a k) (Handover a (k - 8))

-- the word at a place
abbrev word_at : Bounds → ℕ → Word
word_at b p =
    cond (eqb p 0) Enrolled
    (cond (ltb p (1 + b.roots)) (Root (p - 1))
    (cond (ltb p (1 + b.roots + words_of_rows b b.rows)) (word_of_rows b (p - (1 + b.roots)))
    (agent_word ((p - (1 + b.roots + words_of_rows b b.rows)) % 16) ((p - (1 + b.roots + words_of_rows b b.rows)) / 16))))

-- a place among the rows tells its word, where rows have two links
at_six : (b : Bounds) (p r k : ℕ) → ltb 1 b.links ≡ true → r < b.rows → k < 6 → p ≡ 1 + b.roots + 6 * r + k → word_at b p ≡ row_word k r
at_six b p r k e h l at =
    let which : (p - (1 + b.roots)) % 6 ≡ k = omega arith in
    let row : (p - (1 + b.roots)) / 6 ≡ r = omega arith in
    rw (e, ne_eqb p 0 (λ none. omega arith), le-ltb p (1 + b.roots) (omega arith), lt-ltb p (1 + b.roots + 6 * b.rows) (omega arith), which, row) refl

-- a place among the rows tells its word, where rows have one link
at_five : (b : Bounds) (p r k : ℕ) → ltb 1 b.links ≡ false → r < b.rows → k < 5 → p ≡ 1 + b.roots + 5 * r + k → word_at b p ≡ row_word k r
at_five b p r k e h l at =
    let which : (p - (1 + b.roots)) % 5 ≡ k = omega arith in
    let row : (p - (1 + b.roots)) / 5 ≡ r = omega arith in
    rw (e, ne_eqb p 0 (λ none. omega arith), le-ltb p (1 + b.roots) (omega arith), lt-ltb p (1 + b.roots + 5 * b.rows) (omega arith), which, row) refl

-- a place above the rows tells its word
at_agents : (b : Bounds) (p a k : ℕ) → k < 16 → p ≡ 1 + b.roots + words_of_rows b b.rows + 16 * a + k → word_at b p ≡ agent_word k a
at_agents b p a k l at =
    let which : (p - (1 + b.roots + words_of_rows b b.rows)) % 16 ≡ k = omega arith in
    let agent : (p - (1 + b.roots + words_of_rows b b.rows)) / 16 ≡ a = omega arith in
    rw (ne_eqb p 0 (λ none. omega arith), le-ltb p (1 + b.roots) (omega arith), le-ltb p (1 + b.roots + words_of_rows b b.rows) (omega arith), which, agent)
    refl

-- a place tells its word, where rows have one link and where they have two
at_links : (b : Bounds) (w : Word) (t : Bool) → (ltb 1 b.links) ≡ t → IsWithin b w → word_at b (place b w) ≡ w
at_links b Enrolled t e h = refl
at_links b (Root i) t e h = grind arith
at_links b (Gate r) true e h = at_six b (place b (Gate r)) r 0 e h (omega arith) (rw e (omega arith))
at_links b (Gate r) false e h = at_five b (place b (Gate r)) r 0 e h (omega arith) (rw e (omega arith))
at_links b (Counter r) true e h = at_six b (place b (Counter r)) r 1 e h (omega arith) (rw e (omega arith))
at_links b (Counter r) false e h = at_five b (place b (Counter r)) r 1 e h (omega arith) (rw e (omega arith))
at_links b (First r) true e h = at_six b (place b (First r)) r 2 e h (omega arith) (rw e (omega arith))
at_links b (First r) false e h = at_five b (place b (First r)) r 2 e h (omega arith) (rw e (omega arith))
at_links b (Second r) true e h = at_six b (place b (Second r)) r 3 e h (omega arith) (rw e (omega arith))
at_links b (Second r) false e h = at_five b (place b (Second r)) r 3 e h (omega arith) (rw e (omega arith))
at_links b (Next r) true e h = at_six b (place b (Next r)) r 4 e h (omega arith) (rw e (omega arith))
at_links b (Next r) false e h = at_five b (place b (Next r)) r 4 e h (omega arith) (rw e (omega arith))
at_links b (Side r) true e h = at_six b (place b (Side r)) r 5 e h.0 (omega arith) (rw e (omega arith))
at_links b (Side r) false e h = grind arith
at_links b (Slot a k) t e h = at_agents b (place b (Slot a k)) a k (omega arith) refl ∙ cond-true (ltb k 8) (Slot a k) (Handover a (k - 8)) (lt-ltb k 8 h.1)
at_links b (Handover a k) t e h =
    at_agents b (place b (Handover a k)) a (8 + k) (omega arith) (omega arith)
    ∙ cond-false (ltb (8 + k) 8) (Slot a (8 + k)) (Handover a (8 + k - 8)) (le-ltb (8 + k) 8 (omega arith))
    ∙ ap (Handover a) (omega arith)

word_at-place : (b : Bounds) (w : Word) → IsWithin b w → word_at b (place b w) ≡ w
word_at-place b w h = at_links b w (ltb 1 b.links) refl h

pub same_place : (b : Bounds) (v w : Word) → IsWithin b v → IsWithin b w → place b v ≡ place b w → v ≡ w
same_place b v w hv hw e = sym (word_at-place b v hv) ∙ ap (word_at b) e ∙ word_at-place b w hw

-- the place of a word is one of the table's, where rows have one link and where they have two
below_links : (b : Bounds) (w : Word) (t : Bool) → ltb 1 b.links ≡ t → IsWithin b w → place b w < places b
below_links b Enrolled t e h = omega arith
below_links b (Root i) t e h = omega arith
below_links b (Gate r) true e h = rw e (omega arith)
below_links b (Gate r) false e h = rw e (omega arith)
below_links b (Counter r) true e h = rw e (omega arith)
below_links b (Counter r) false e h = rw e (omega arith)
below_links b (First r) true e h = rw e (omega arith)
below_links b (First r) false e h = rw e (omega arith)
below_links b (Second r) true e h = rw e (omega arith)
below_links b (Second r) false e h = rw e (omega arith)
below_links b (Next r) true e h = rw e (omega arith)
below_links b (Next r) false e h = rw e (omega arith)
below_links b (Side r) true e h = rw e (omega arith)
below_links b (Side r) false e h = grind arith
below_links b (Slot a k) t e h = omega arith
below_links b (Handover a k) t e h = omega arith

pub place_below : (b : Bounds) (w : Word) → IsWithin b w → place b w < places b
place_below b w h = below_links b w (ltb 1 b.links) refl h
