-- The place of each word in the table.
use Rattle.std.specs.Prelude.{cond, nat_lt, suc, zero, ℕ, ◌*◌, ◌+◌, ◌<◌}
use Rattle.orc_words.specs.declared.place.Word.{Word}
use Rattle.orc_words.specs.declared.place.Word.TheVariants.{Enrolled, Root, Gate, Counter, First, Second, Next, Side, Slot, Handover}
use Rattle.orc_words.specs.Bounds.{Bounds}

-- the word's numbers are within the shape
abbrev pub IsWithin : Bounds → Word → Type 0
IsWithin b Enrolled = Unit {0}
IsWithin b (Root i) = i < b.roots
IsWithin b (Gate r) = r < b.rows
IsWithin b (Counter r) = r < b.rows
IsWithin b (First r) = r < b.rows
IsWithin b (Second r) = r < b.rows
IsWithin b (Next r) = r < b.rows
IsWithin b (Side r) = (r < b.rows) × (1 < b.links)
IsWithin b (Slot a k) = (a < b.agents) × (k < 8)
IsWithin b (Handover a k) = (a < b.agents) × (k < 8)

-- a row's link word by its number: 0 is next, and 1 is side
abbrev pub link_at : ℕ → ℕ → Word
link_at zero r = Next r
link_at (suc n) r = Side r

-- how many words n rows have: four each besides their links, so five, or six where a row has two links
abbrev pub words_of_rows : Bounds → ℕ → ℕ
words_of_rows b n = cond (nat_lt 1 b.links) (6 * n) (5 * n)

-- the word of enrolments, the roots, the words of the rows, and then eight slots and eight handovers an agent
abbrev pub place : Bounds → Word → ℕ
place b Enrolled = 0
place b (Root i) = 1 + i
place b (Gate r) = 1 + b.roots + words_of_rows b r
place b (Counter r) = 1 + b.roots + words_of_rows b r + 1
place b (First r) = 1 + b.roots + words_of_rows b r + 2
place b (Second r) = 1 + b.roots + words_of_rows b r + 3
place b (Next r) = 1 + b.roots + words_of_rows b r + 4
place b (Side r) = 1 + b.roots + words_of_rows b r + 5
place b (Slot a k) = 1 + b.roots + words_of_rows b b.rows + 16 * a + k
place b (Handover a k) = 1 + b.roots + words_of_rows b b.rows + 16 * a + 8 + k

-- how many words the machine has, one at each place; a table that threads share has gaps between them
abbrev pub places : Bounds → ℕ
places b = 1 + b.roots + words_of_rows b b.rows + 16 * b.agents
