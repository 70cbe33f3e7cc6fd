-- How the rows to which links lead from the roots are found: each is marked, and put at the end of a list.
use Rattle.std.specs.List.{sum_by}
use Rattle.std.specs.Prelude.{Bool, List, false, length, not, true, ℕ, ◌+◌, ◌<◌, ◌≡◌, ◌≤◌, slice_index_or}
use Rattle.orc_words.specs.Packed.{bit}
use Rattle.orc_words.specs.declared.place.Word.{Word}
use Rattle.orc_core.specs.Counts.{links_to}
use Rattle.orc_core.specs.Machine.{Machine, word_in}
use Rattle.orc_trace.specs.Audit.{IsLinkedToARoot}
use Rattle.orc_trace.specs.declared.reaching.Reach.{Reach}

-- a mark for each of so many rows, and room for each in the list
pub record HasMarks (reach : Reach) (rows : ℕ) : Type 0 where
  pub marks : length reach.marks.items ≡ rows
  pub found : length reach.found.items ≡ rows

-- the row is marked
abbrev pub is_marked : List Bool → ℕ → Bool
is_marked marks r = slice_index_or marks r false

-- how many rows have no mark
abbrev pub count_unmarked : List Bool → ℕ
count_unmarked marks = sum_by (λ x. bit (not x)) marks

-- the row at this place of the list
abbrev pub found_at : List ℕ → ℕ → ℕ
found_at found i = slice_index_or found i 0

-- the first `count` rows of the list are those marked, and link words lead to them from the roots
pub record AreFound (m : Machine) (marks : List Bool) (found : List ℕ) (count : ℕ) : Type 0 where
  pub long : length marks ≡ m.bounds.rows
  pub room : length found ≡ m.bounds.rows
  pub counted : count + count_unmarked marks ≡ m.bounds.rows
  pub reached : (r : ℕ) → is_marked marks r ≡ true → IsLinkedToARoot m r
  pub below : (i : ℕ) → i < count → found_at found i < m.bounds.rows
  pub marked : (i : ℕ) → i < count → is_marked marks (found_at found i) ≡ true
  pub listed : (r : ℕ) → is_marked marks r ≡ true → (i : ℕ) × (i < count) × (found_at found i ≡ r)

-- what was marked stays marked, and what was found stays where it is; more rows may come
pub record FindsMore (marks more : List Bool) (found longer : List ℕ) (count new : ℕ) : Type 0 where
  pub kept : (r : ℕ) → is_marked marks r ≡ true → is_marked more r ≡ true
  pub same : (i : ℕ) → i < count → found_at longer i ≡ found_at found i
  pub on : count ≤ new

-- the rows that the first n of these link words name are marked
abbrev pub AreTargetsMarked : Machine → List Bool → (ℕ → Word) → ℕ → Type 0
AreTargetsMarked m marks word n = (i r : ℕ) → i < n → r < m.bounds.rows → links_to (word_in m (word i)) r ≡ true → is_marked marks r ≡ true

-- the rows to which link words lead from the roots are marked, and no other
pub record MarksReached (m : Machine) (marks : List Bool) : Type 0 where
  pub long : length marks ≡ m.bounds.rows
  pub only : (r : ℕ) → is_marked marks r ≡ true → IsLinkedToARoot m r
  pub all : (r : ℕ) → r < m.bounds.rows → IsLinkedToARoot m r → is_marked marks r ≡ true
