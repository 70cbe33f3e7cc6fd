-- The value of a line.
use Rattle.std.specs.Prelude.{◌≡◌, ◌-◌, ◌==◌, ◌&&◌, ◌||◌, Bool, List, ℕ, count_by, length, not, slice_index, sum}
use Rattle.std.specs.List.{range_with_len}
use Rattle.orc_jobs.specs.Numbers.{SpellsNumbers}
use Rattle.orc_jobs.specs.declared.line.Job.{Job}
use Rattle.orc_jobs.specs.declared.line.Job.TheVariants as job
use Rattle.orc_jobs.specs.declared.line.Line.{Line}
use Rattle.orc_jobs.specs.declared.line.Line.TheVariants as line

-- a word begins at this place of a text: it holds no space, and is the first or follows a space
abbrev pub starts_word : List ℕ → ℕ → Bool
starts_word text place = not (slice_index text place == 32) && ((place == 0) || (slice_index text (place - 1) == 32))

-- how many words a text has: the places at which one begins
abbrev pub word_count : List ℕ → ℕ
word_count text = count_by (starts_word text) (range_with_len 0 (length text))

-- what an operation makes of a text
abbrev pub MakesOf : Job → List ℕ → ℕ → Type 0
MakesOf job.Bytes text value = value ≡ length text
MakesOf job.Words text value = value ≡ word_count text
MakesOf job.Sum text value = (numbers : List ℕ) × SpellsNumbers numbers text × (value ≡ sum numbers)

-- the value of a line: what its operation makes of its text, and nothing for a drop
abbrev pub IsJobValue : Line → ℕ → Type 0
IsJobValue (line.Post id op text) value = MakesOf op text value
IsJobValue (line.Rush id op text) value = MakesOf op text value
IsJobValue (line.Drop id) value = value ≡ 0
