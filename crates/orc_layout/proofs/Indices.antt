-- The indices of places rise.
use Rattle.std.proofs.Common.{arith, ℕ, ◌+◌, ◌<◌}
use Rattle.orc_layout.specs.Layout.{IsLayout, index, table_length}
use Rattle.orc_words.specs.Bounds.{Bounds}
use Rattle.orc_words.specs.Places.{places}

pub rises : (b : Bounds) (p q : ℕ) → p < q → index b p < index b q
rises b p q l = grind arith

pub index_is_layout : (b : Bounds) → IsLayout (index b)
index_is_layout b = record { first = grind arith; rising = λ p. rises b p (p + 1) (omega arith) }

pub table_has_words : (b : Bounds) → 0 < table_length b
table_has_words b = let some = rises b 0 (places b) (omega arith) in omega arith
