-- The lines of a job file: posts of a job on one of two queues, and drops of an id.
use Rattle.std.specs.Prelude.{ℕ, ◌+◌, ◌^◌, ◌<◌, List, [], ◌∷◌, length, Bool, true, false, IsUtf8, codes, ⊤}
use Rattle.orc_jobs.specs.Numbers.{IsNumberList}
use Rattle.orc_jobs.specs.declared.line.Job.{Job}
use Rattle.orc_jobs.specs.declared.line.Job.TheVariants as job
use Rattle.orc_jobs.specs.declared.line.Line.{Line}
use Rattle.orc_jobs.specs.declared.line.Line.TheVariants.{Post, Rush, Drop}

-- the word of an operation
abbrev pub operation_word : Job → List ℕ
operation_word job.Bytes = codes "bytes"
operation_word job.Words = codes "words"
operation_word job.Sum = codes "sum"

-- an operation takes this text: `sum` takes spelled numbers, and the others any text
abbrev pub TakesText : Job → List ℕ → Type 0
TakesText job.Bytes text = ⊤
TakesText job.Words text = ⊤
TakesText job.Sum text = IsNumberList text

-- a line that a record with nothing amiss can stand for
abbrev pub IsLine : Line → Type 0
IsLine (Post id op text) = (id < 2 ^ 32) × IsUtf8 text × TakesText op text
IsLine (Rush id op text) = (id < 2 ^ 32) × IsUtf8 text × TakesText op text
IsLine (Drop id) = id < 2 ^ 32

-- the line that posts this job, on the rush queue or on the queue
abbrev pub job_line : Bool → ℕ → Job → List ℕ → Line
job_line false id op text = Post id op text
job_line true id op text = Rush id op text

-- the line posts a job
abbrev pub PostsJob : Line → Type 0
PostsJob (Post id op text) = Unit {0}
PostsJob (Rush id op text) = Unit {0}
PostsJob (Drop id) = ⊥

-- the id that a line posts or drops
abbrev pub line_id : Line → ℕ
line_id (Post id op text) = id
line_id (Rush id op text) = id
line_id (Drop id) = id

-- how many bytes of text a line carries
abbrev pub text_size : Line → ℕ
text_size (Post id op text) = length text
text_size (Rush id op text) = length text
text_size (Drop id) = 0

-- how many of the lines post a job, on either queue
abbrev pub jobs_in : List Line → ℕ
jobs_in [] = 0
jobs_in (Post id op text ∷ lines) = jobs_in lines + 1
jobs_in (Rush id op text ∷ lines) = jobs_in lines + 1
jobs_in (Drop id ∷ lines) = jobs_in lines
