-- What the sums do to a counter word.
use Rattle.std.proofs.Common.{arith, cond, ℕ, ◌%◌, ◌+◌, ◌<◌, ◌^◌, ◌≡◌}
use Rattle.std.specs.Prelude.{◌==◌}
use Rattle.orc_words.specs.Packed.{count_bits, retired_bit, sequence_of}
use Rattle.orc_core.specs.Actions.{clear_word}

pub inc_count : (w : ℕ) → count_bits w + 1 < 8388608 → count_bits ((w + 16777217) % 18446744073709551616) ≡ count_bits w + 1
inc_count w h = omega arith

pub inc_bit : (w : ℕ) → count_bits w + 1 < 8388608 → retired_bit ((w + 16777217) % 18446744073709551616) ≡ retired_bit w
inc_bit w h = omega arith

pub inc_sequence : (w : ℕ) → sequence_of w < 2 ^ 39 + 2 ^ 19 → count_bits w + 1 < 8388608
    → sequence_of ((w + 16777217) % 18446744073709551616) ≡ sequence_of w + 1
inc_sequence w l h = omega arith

pub dec_count : (w : ℕ) → 0 < count_bits w → count_bits ((w + 16777215) % 18446744073709551616) + 1 ≡ count_bits w
dec_count w h = omega arith

pub dec_bit : (w : ℕ) → 0 < count_bits w → retired_bit ((w + 16777215) % 18446744073709551616) ≡ retired_bit w
dec_bit w h = omega arith

pub clear_count : (w : ℕ) → retired_bit w ≡ 1 → count_bits ((w + 18446744073701163008) % 18446744073709551616) ≡ count_bits w
clear_count w h = omega arith

pub clear_bit : (w : ℕ) → retired_bit w ≡ 1 → retired_bit ((w + 18446744073701163008) % 18446744073709551616) + 1 ≡ retired_bit w
clear_bit w h = omega arith

pub dec_sequence : (w : ℕ) → sequence_of w < 2 ^ 39 + 2 ^ 19 → 0 < count_bits w → sequence_of ((w + 16777215) % 18446744073709551616) ≡ sequence_of w + 1
dec_sequence w l h = omega arith

pub clear_sequence : (w : ℕ) → sequence_of w < 2 ^ 39 + 2 ^ 19 → retired_bit w ≡ 1
    → sequence_of ((w + 18446744073701163008) % 18446744073709551616) ≡ sequence_of w
clear_sequence w l h = omega arith

-- a bit that is tried leaves the count and the sequence
pub try_count : (v n : ℕ) → count_bits (cond (v == clear_word n) (clear_word n + 8388608) v) ≡ count_bits v
try_count v n = grind arith

pub try_sequence : (v n : ℕ) → sequence_of (cond (v == clear_word n) (clear_word n + 8388608) v) ≡ sequence_of v
try_sequence v n = grind arith
