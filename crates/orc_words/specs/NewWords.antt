-- The words of a new table.
use Rattle.std.specs.Prelude.{Bool, ℕ, ◌+◌, ◌-◌, ◌%◌, cond, ◌==◌, ◌&&◌, nat_lt, nat_le, List, map}
use Rattle.std.specs.List.{range_with_len}
use Rattle.orc_words.specs.declared.packed.TheConstants.{NEW_COUNTER}
use Rattle.orc_words.specs.declared.place.Word.{Word}
use Rattle.orc_words.specs.declared.place.Word.TheVariants.{Counter}
use Rattle.orc_words.specs.Bounds.{Bounds}
use Rattle.orc_words.specs.Places.{places, words_of_rows}

-- what a word holds at first: a row's counter counts no link, and every other word is 0
abbrev pub new_word : Word → ℕ
new_word (Counter r) = NEW_COUNTER
new_word _ = 0

-- the place, counted from the first row's first word, is a counter's: the second of each row's five or six words
abbrev pub is_counter_place : Bounds → ℕ → Bool
is_counter_place b p = cond (nat_lt 1 b.links) (p % 6 == 1) (p % 5 == 1)

-- what the word at a place holds at first
abbrev pub first_word : Bounds → ℕ → ℕ
first_word b p = cond (nat_le (1 + b.roots) p && nat_lt p (1 + b.roots + words_of_rows b b.rows) && is_counter_place b (p - (1 + b.roots))) NEW_COUNTER 0

-- the words of a new table, by their places
abbrev pub new_words : Bounds → List ℕ
new_words b = map (first_word b) (range_with_len 0 (places b))
