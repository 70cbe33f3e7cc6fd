-- Generated work: the lines that follow from a seed, and their text.
use Rattle.std.specs.Prelude.{◌++◌, ◌+◌, ◌*◌, ◌/◌, ◌%◌, ◌^◌, ◌==◌, zero, suc, List, [], ◌∷◌, ℕ, bit_xor, codes, if◌then◌else◌, map, replicate}
use Rattle.std.specs.Fmt.{decimal}
use Rattle.std.specs.List.{flat_map, join_with_byte}
use Rattle.orc_jobs.specs.Line.{operation_word}
use Rattle.orc_jobs.specs.declared.line.Job.{Job}
use Rattle.orc_jobs.specs.declared.line.Job.TheVariants as job
use Rattle.orc_jobs.specs.declared.line.Line.{Line}
use Rattle.orc_jobs.specs.declared.line.Line.TheVariants as line

-- the next draw, which is the next state: xorshift of 64 bits by 13, 7 and 17 (Marsaglia 2003)
abbrev pub drawn : ℕ → ℕ
drawn x =
    let a = bit_xor x (x * 2 ^ 13 % 2 ^ 64) in
    let b = bit_xor a (a / 2 ^ 7) in
    bit_xor b (b * 2 ^ 17 % 2 ^ 64)

-- so many draws from a state
abbrev pub draws : ℕ → ℕ → List ℕ
draws zero x = []
draws (suc n) x = drawn x ∷ draws n (drawn x)

-- the state behind so many draws
abbrev pub behind : ℕ → ℕ → ℕ
behind zero x = x
behind (suc n) x = behind n (drawn x)

-- the operation that a draw chooses
abbrev pub op_of : ℕ → Job
op_of draw = if draw % 3 == 0 then job.Bytes else (if draw % 3 == 1 then job.Words else job.Sum)

-- a text of n letters, of n words, or of n numbers below 1,000, each a further draw
abbrev pub text_of : Job → ℕ → ℕ → List ℕ
text_of job.Bytes n x = replicate n 120
text_of job.Words n x = join_with_byte 32 (replicate n (codes "ab"))
text_of job.Sum n x = join_with_byte 32 (map decimal (map (λ draw. draw % 1000) (draws n x)))

-- the state behind the draws of a text
abbrev pub behind_text : Job → ℕ → ℕ → ℕ
behind_text job.Bytes n x = x
behind_text job.Words n x = x
behind_text job.Sum n x = behind n x

-- the line with this id: one draw chooses the operation, the next one how many pieces its text has, up to 7
abbrev pub line_from : ℕ → ℕ → Line
line_from id x = let op = op_of (drawn x) in let y = drawn (drawn x) in line.Post id op (text_of op (y % 8) y)

abbrev pub behind_line : ℕ → ℕ
behind_line x = let y = drawn (drawn x) in behind_text (op_of (drawn x)) (y % 8) y

-- so many lines, with ids from this one on
abbrev pub lines_from : ℕ → ℕ → ℕ → List Line
lines_from zero id x = []
lines_from (suc n) id x = line_from id x ∷ lines_from n (id + 1) (behind_line x)

-- the lines that are generated from a seed
abbrev pub generated : ℕ → ℕ → List Line
generated seed lines = lines_from lines 0 seed

-- the line of a post: its four fields, joined by commas; nothing for a rush or a drop
abbrev pub line_text : Line → List ℕ
line_text (line.Post id op text) = codes "post," ++ decimal id ++ codes "," ++ operation_word op ++ codes "," ++ text ++ codes "\n"
line_text (line.Rush id op text) = []
line_text (line.Drop id) = []

-- the text of lines
abbrev pub text_of_lines : List Line → List ℕ
text_of_lines lines = flat_map line_text lines
