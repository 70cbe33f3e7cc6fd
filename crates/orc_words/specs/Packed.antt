-- The layout of the packed words. After OrcGC (Correia, Ramalhete and Felber 2021): one counter word a node,
-- with its count of links, a retired bit and a sequence. The widths are this project's own.
use Rattle.std.specs.Prelude.{ℕ, ◌+◌, ◌*◌, ◌/◌, ◌%◌, ◌-◌, Bool, true, false, cond, ◌==◌, nat_le, Option, Some, None, ℤ, pos, negsuc, ◌-ℤ◌}
use Rattle.orc_words.specs.declared.packed.RowLink.{RowLink}
use Rattle.orc_words.specs.declared.packed.Counter.{Counter}
use Rattle.orc_words.specs.declared.packed.RowGate.{RowGate}

-- 1 for true
abbrev pub bit : Bool → ℕ
bit true = 1
bit false = 0

-- a name in a slot or handover word: the row + 1, or 0 for none
abbrev pub name_word : Option ℕ → ℕ
name_word None = 0
name_word (Some r) = r + 1

-- the row that such a word names; a number above every row + 1 names none
abbrev pub named : ℕ → Option ℕ
named n = cond (n == 0) None (cond (nat_le n 65535) (Some (n - 1)) None)

-- a link word: twice the name, and 1 more with a mark
abbrev pub link_word : RowLink → ℕ
link_word l = 2 * name_word l.to + bit l.mark

-- the link that a word stands for
abbrev pub link_of : ℕ → RowLink
link_of w = record { to = named (w / 2); mark = w % 2 == 1 }

-- the count + 2 ^ 22
abbrev pub shifted_count : ℤ → ℕ
shifted_count (pos n) = 4194304 + n
shifted_count (negsuc n) = 4194304 - (n + 1)

-- a counter word: bits 0 to 22 hold the count + 2 ^ 22, bit 23 the retired bit, bits 24 to 63 the sequence
abbrev pub counter_word : Counter → ℕ
counter_word c = c.sequence * 16777216 + bit c.retired * 8388608 + shifted_count c.count

-- the part of a counter word that holds its count + 2 ^ 22
abbrev pub count_bits : ℕ → ℕ
count_bits w = w % 8388608

-- 1 where the retired bit is set, else 0
abbrev pub retired_bit : ℕ → ℕ
retired_bit w = w / 8388608 % 2

-- the part of a counter word that holds its sequence
abbrev pub sequence_of : ℕ → ℕ
sequence_of w = w / 16777216

-- the counter that a word stands for
abbrev pub counter_of : ℕ → Counter
counter_of w = record { count = pos (count_bits w) -ℤ pos 4194304; retired = retired_bit w == 1; sequence = sequence_of w }

-- a gate word: twice the life, and 1 more while the row is out
abbrev pub gate_word : RowGate → ℕ
gate_word g = 2 * g.life + bit g.out

-- the gate that a word stands for
abbrev pub gate_of : ℕ → RowGate
gate_of w = record { life = w / 2; out = w % 2 == 1 }
