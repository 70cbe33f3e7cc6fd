-- What an atomic operation does to its word, and what it answers.
use Rattle.std.specs.Prelude.{ℕ, ◌+◌, ◌%◌, ◌-◌, cond, ◌==◌}
use Rattle.orc_words.specs.declared.operation.Operation.{Operation}
use Rattle.orc_words.specs.declared.operation.Operation.TheVariants.{Load, Store, Swap, Add, Sub, CompareExchange}

-- the sum of two words of 64 bits
abbrev pub word_add : ℕ → ℕ → ℕ
word_add w v = (w + v) % 18446744073709551616

-- the difference of two words of 64 bits
abbrev pub word_sub : ℕ → ℕ → ℕ
word_sub w v = (w + (18446744073709551616 - v)) % 18446744073709551616

-- the word after an operation that found this word
abbrev pub word_after : Operation → ℕ → ℕ
word_after Load w = w
word_after (Store v) w = v
word_after (Swap v) w = v
word_after (Add v) w = word_add w v
word_after (Sub v) w = word_sub w v
word_after (CompareExchange e v) w = cond (w == e) v w

-- what it answers: what it found, what a store wrote, or 1 or 0 as a compare-and-exchange succeeded or not
abbrev pub answer_of : Operation → ℕ → ℕ
answer_of Load w = w
answer_of (Store v) w = v
answer_of (Swap v) w = w
answer_of (Add v) w = w
answer_of (Sub v) w = w
answer_of (CompareExchange e v) w = cond (w == e) 1 0
