-- Where the words of a table that threads share lie: the word of enrolments, each root, each row and each agent's words on cache
-- lines of their own, of eight words each.
use Rattle.std.specs.Prelude.{List, [], cond, nat_lt, replicate, ℕ, ◌%◌, ◌*◌, ◌++◌, ◌+◌, ◌-◌, ◌/◌, ◌<◌, ◌∷◌, ◌≡◌}
use Rattle.orc_layout.specs.declared.layout.Layout.{Layout}
use Rattle.orc_words.specs.Bounds.{Bounds}
use Rattle.orc_words.specs.Places.{places, words_of_rows}

-- the first index of a row: the word of enrolments and each root have a line of their own
abbrev pub rows_at : Bounds → ℕ
rows_at b = 8 * (1 + b.roots)

-- the first index of an agent: each row has a line of its own
abbrev pub agents_at : Bounds → ℕ
agents_at b = rows_at b + 8 * b.rows

-- both, as they are kept
abbrev pub layout_of : Bounds → Layout
layout_of b = record { first_row = rows_at b; first_agent = agents_at b }

-- how far the word of a row stands behind the first row's line, n words of rows being before it: eight for each row before
-- its own, whose words stand together
abbrev pub row_offset : Bounds → ℕ → ℕ
row_offset b n = cond (nat_lt 1 b.links) (8 * (n / 6) + n % 6) (8 * (n / 5) + n % 5)

-- the index of a place: eight words each up to the last row, and then the agents without gaps
abbrev pub index : Bounds → ℕ → ℕ
index b p =
    cond (nat_lt p (1 + b.roots)) (8 * p)
    (cond (nat_lt p (1 + b.roots + words_of_rows b b.rows)) (rows_at b + row_offset b (p - (1 + b.roots)))
    (agents_at b + (p - (1 + b.roots + words_of_rows b b.rows))))

-- how many words the table has, with its gaps
abbrev pub table_length : Bounds → ℕ
table_length b = index b (places b)

-- the first place stands at 0, and each other one behind that before it
pub record IsLayout (index : ℕ → ℕ) : Type 0 where
  pub first : index 0 ≡ 0
  pub rising : (p : ℕ) → index p < index (p + 1)

-- words from a place on, each followed by as many zeros as there are to the index of the next place
abbrev pub lay_from : (ℕ → ℕ) → ℕ → List ℕ → List ℕ
lay_from index p [] = []
lay_from index p (w ∷ ws) = (w ∷ replicate (index (p + 1) - (index p + 1)) 0) ++ lay_from index (p + 1) ws

-- the words of all places, each at its index
abbrev pub lay : (ℕ → ℕ) → List ℕ → List ℕ
lay index words = lay_from index 0 words
