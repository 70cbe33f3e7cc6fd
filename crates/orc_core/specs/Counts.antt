-- The five counts of a state.
use Rattle.std.specs.Prelude.{ℕ, ◌+◌, ◌/◌, ◌%◌, Bool, not, ◌&&◌, ◌||◌, ◌==◌, length}
use Rattle.orc_words.specs.declared.place.Word.TheVariants.{Root, Gate, Counter, Handover}
use Rattle.orc_words.specs.Packed.{retired_bit}
use Rattle.orc_words.specs.Places.{link_at}
use Rattle.orc_core.specs.declared.counts.Census.{Census}
use Rattle.orc_core.specs.Machine.{Machine, word_in, record_at}
use Rattle.orc_core.specs.Sums.{sum_below, count_below, some_below}

-- the row's gate is out
abbrev pub is_out : Machine → ℕ → Bool
is_out m r = word_in m (Gate r) % 2 == 1

-- the row has its retired bit
abbrev pub is_retired : Machine → ℕ → Bool
is_retired m r = retired_bit (word_in m (Counter r)) == 1

-- the target of a link word is the row
abbrev pub links_to : ℕ → ℕ → Bool
links_to w r = w / 2 == r + 1

-- the row is the target of a root's link
abbrev pub is_root_target : Machine → ℕ → Bool
is_root_target m r = some_below m.bounds.roots (λ i. links_to (word_in m (Root i)) r)

-- one of row j's links of a number below n is to the row
abbrev pub some_links_to : Machine → ℕ → ℕ → ℕ → Bool
some_links_to m j r n = some_below n (λ k. links_to (word_in m (link_at k j)) r)

-- the row is the target of a link of a row that is out
abbrev pub is_row_target : Machine → ℕ → Bool
is_row_target m r = some_below m.bounds.rows (λ j. is_out m j && some_links_to m j r m.bounds.links)

-- the row is the target of a link in use
abbrev pub is_target : Machine → ℕ → Bool
is_target m r = is_root_target m r || is_row_target m r

-- how many handover words of an agent aren't 0
abbrev pub handovers : Machine → ℕ → ℕ
handovers m a = count_below 8 (λ k. not (word_in m (Handover a k) == 0))

-- the rows that are out, the retired rows, the handover words that aren't 0, the entries of all work lists, and the rows that
-- are out and linked
abbrev pub census_of : Machine → Census
census_of m = record {
  out = count_below m.bounds.rows (is_out m);
  retired = count_below m.bounds.rows (is_retired m);
  handed = sum_below m.bounds.agents (handovers m);
  listed = sum_below m.bounds.agents (λ a. length (record_at m a).list.items);
  linked = count_below m.bounds.rows (λ r. is_out m r && is_target m r);
}
