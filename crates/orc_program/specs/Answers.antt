-- What the program answers: a status, a text that is written, and what has ended.
use Rattle.std.specs.Prelude.{◌≡◌, ◌≢◌, ◌<◌, ◌≤◌, ◌⊎◌, Bool, true, false, List, [], ℕ, Option, length}
use Rattle.std.specs.Io.KnownBytes.{Consumes, IsAtEnd}
use Rattle.orc_jobs.specs.Generated.{text_of_lines}
use Rattle.orc_job_files.specs.JobGrammar.{IsFileOf, Refuses}
use Rattle.orc_jobs.specs.declared.line.Line.{Line}
use Rattle.orc_job_files.specs.declared.records.FileRefused.{FileRefused}
use Rattle.orc_job_files.specs.declared.records.FileRefused.TheVariants as fault
use Rattle.orc_watch.specs.WatchGrammar.{IsFileOf as IsWatchFile, Refuses as RefusesWatch}
use Rattle.orc_trace.specs.declared.answers.Audit.{Audit}
use Rattle.orc_trace.specs.declared.answers.Replayed.{Replayed}
use Rattle.orc_trace.specs.declared.answers.TraceFault.{TraceFault}
use Rattle.orc_trace.specs.declared.answers.TraceFault.TheVariants as trace
use Rattle.orc_trace.specs.Answers.{audit_lines, fault_line, replay_line}
use Rattle.orc_trace.specs.Audit.{IsAudit}
use Rattle.orc_trace.specs.Replay.{IsReplay, RefusesTrace}
use Rattle.orc_options.specs.Settings.{GivesSettings, RefusesWords}
use Rattle.orc_options.specs.declared.settings.Mode.{Mode}
use Rattle.orc_options.specs.declared.settings.Mode.TheVariants as mode
use Rattle.orc_options.specs.declared.settings.Settings.{Settings}
use Rattle.orc_program.specs.declared.ended.Ended.{Ended}
use Rattle.orc_program.specs.declared.ended.Ended.TheVariants as end
use Rattle.orc_program.specs.declared.jobs_mode.Way.{Way}
use Rattle.orc_program.specs.declared.jobs_mode.Way.TheVariants as way
use Rattle.orc_program.specs.declared.trace_mode.Told.{Told}
use Rattle.orc_program.specs.declared.trace_mode.Told.TheVariants as told
use Rattle.orc_program.specs.Ended.{HasReported, TellsStages, HasSummed, HasWatched, generated_lines}
use Rattle.orc_jobs.specs.declared.lines.TheConstants.{MOST_BYTES}
use Rattle.orc_program.specs.Refusals.{cause_word, input_too_large, record_line, watch_cause_word, words_refused}

-- the text is the line of the first record that is outside the grammar, with the word of its cause
pub record NamesRecord {C : Type 0} (refuses : FileRefused C → Type 0) (word : C → List ℕ) (text : List ℕ) : Type 0 where
  pub place : ℕ
  pub why : C
  pub refused : refuses (fault.Malformed place why)
  pub says : text ≡ record_line place (word why)

-- the text names the first fault of the bytes as a trace
pub record NamesFault (bytes text : List ℕ) : Type 0 where
  pub why : TraceFault
  pub some : why ≢ trace.NoMemory
  pub refused : RefusesTrace bytes why
  pub says : text ≡ fault_line why

-- the text of the lines that are generated from the settings' seed, as many as they say
abbrev pub made_text : Settings → List ℕ
made_text settings = text_of_lines (generated_lines settings)

-- the text tells what the run of this trace leaves, or the audit of the run
abbrev pub TellsTrace : Told → List ℕ → List ℕ → Type 0
TellsTrace told.Census bytes text = (played : Replayed) × IsReplay bytes played × (text ≡ replay_line played)
TellsTrace told.Audit bytes text = (audit : Audit) × IsAudit bytes audit × (text ≡ audit_lines audit)

-- the lines of a file are worked through and told, or the bytes are refused at their first record that has a cause or is one too many
abbrev pub AnswersFile : {L C : Type 0} → (List L → Type 0) → (FileRefused C → Type 0) → (C → List ℕ) → (List L → Ended → List ℕ → Type 0) → Ended → ℕ → List ℕ → Type 0
AnswersFile {L} is_file refuses word has_told ended status text =
    ((status ≡ 0) × ((lines : List L) × is_file lines × has_told lines ended text))
    ⊎ ((status ≡ 3) × (ended ≡ end.Nothing) × NamesRecord refuses word text)

-- the jobs of these lines went their way, and the text tells what came of them
abbrev pub TellsJobs : Way → List Line → Settings → Ended → List ℕ → Type 0
TellsJobs way.Board lines settings ended text = HasReported lines settings ended text
TellsJobs way.Stages lines settings ended text = TellsStages lines settings ended text

-- of a job file, whose jobs go this way, and of a watch file
abbrev pub AnswersJobs : Way → Settings → List ℕ → Ended → ℕ → List ℕ → Type 0
AnswersJobs w settings bytes ended = AnswersFile (λ lines. IsFileOf lines bytes) (λ why. Refuses bytes why) cause_word
    (λ lines e text. TellsJobs w lines settings e text) ended

abbrev pub AnswersWatch : Settings → List ℕ → Ended → ℕ → List ℕ → Type 0
AnswersWatch settings bytes ended = AnswersFile (λ lines. IsWatchFile lines bytes) (λ why. RefusesWatch bytes why) watch_cause_word
    (λ lines e text. HasWatched lines settings e text) ended

-- a trace is told; other bytes are refused at their first fault
abbrev pub AnswersTrace : Told → List ℕ → ℕ → List ℕ → Type 0
AnswersTrace what bytes status text = ((status ≡ 0) × TellsTrace what bytes text) ⊎ ((status ≡ 8) × NamesFault bytes text)

-- what each mode answers to bytes that are not too large
abbrev pub ModeAnswers : Mode → Settings → List ℕ → Ended → ℕ → List ℕ → Type 0
ModeAnswers mode.Run settings bytes ended status text = AnswersJobs way.Board settings bytes ended status text
ModeAnswers mode.Make settings bytes ended status text = (status ≡ 0) × (ended ≡ end.Nothing) × (text ≡ made_text settings)
ModeAnswers mode.Trial settings bytes ended status text = (status ≡ 0) × HasSummed settings ended text
ModeAnswers mode.Replay settings bytes ended status text = (ended ≡ end.Nothing) × AnswersTrace told.Census bytes status text
ModeAnswers mode.Audit settings bytes ended status text = (ended ≡ end.Nothing) × AnswersTrace told.Audit bytes status text
ModeAnswers mode.Watch settings bytes ended status text = AnswersWatch settings bytes ended status text
ModeAnswers mode.Stages settings bytes ended status text = AnswersJobs way.Stages settings bytes ended status text

-- more records than a job file may have, or a watch file
abbrev pub HasTooManyRecords : Mode → List ℕ → Type 0
HasTooManyRecords mode.Run bytes = Refuses bytes fault.TooMany
HasTooManyRecords mode.Watch bytes = RefusesWatch bytes fault.TooMany
HasTooManyRecords mode.Stages bytes = Refuses bytes fault.TooMany
HasTooManyRecords m bytes = ⊥

-- more bytes than an input may have, or, in mode run, watch or stages, more records than its file may have
abbrev pub IsTooLarge : Mode → List ℕ → Type 0
IsTooLarge m bytes = (MOST_BYTES < length bytes) ⊎ HasTooManyRecords m bytes

-- an input is refused for its size
abbrev pub RefusesSize : Type 0 → Ended → ℕ → List ℕ → Type 0
RefusesSize large ended status text = (status ≡ 6) × (ended ≡ end.Nothing) × large × (text ≡ input_too_large)

-- what the program answers in these settings to these bytes: that they are too large, or what the mode answers
abbrev pub ProgramAnswers : Settings → List ℕ → Ended → ℕ → List ℕ → Type 0
ProgramAnswers settings bytes ended status text =
    RefusesSize (IsTooLarge settings.mode bytes) ended status text
    ⊎ ((length bytes ≤ MOST_BYTES) × ModeAnswers settings.mode settings bytes ended status text)

-- the mode reads an input
abbrev pub reads : Mode → Bool
reads mode.Run = true
reads mode.Make = false
reads mode.Trial = false
reads mode.Replay = true
reads mode.Audit = true
reads mode.Watch = true
reads mode.Stages = true

-- the bytes that are answered, by what was left before and after: where the mode reads, those that were taken from the front, all of
-- them or more than an input may have; else none, and nothing was taken
abbrev pub IsInput : Bool → Option (List ℕ) → Option (List ℕ) → List ℕ → Type 0
IsInput true left after bytes = Consumes left after bytes × (length bytes ≤ MOST_BYTES → IsAtEnd after)
IsInput false left after bytes = (after ≡ left) × (bytes ≡ [])

-- what the program answers to these words and to what was left of its input: that it refuses the words, or what it answers to the
-- bytes that it reads in the settings that the words give
abbrev pub AnswersWords : List (List ℕ) → Option (List ℕ) → Option (List ℕ) → Ended → ℕ → List ℕ → Type 0
AnswersWords words left after ended status text =
    (RefusesWords words × (ended ≡ end.Nothing) × (status ≡ 2) × (text ≡ words_refused))
    ⊎ ((settings : Settings) × (bytes : List ℕ) × GivesSettings words settings × IsInput (reads settings.mode) left after bytes
    × ProgramAnswers settings bytes ended status text)

-- the words ask for a mode that reads
abbrev pub AskToRead : List (List ℕ) → Type 0
AskToRead words = (settings : Settings) × GivesSettings words settings × (reads settings.mode ≡ true)
