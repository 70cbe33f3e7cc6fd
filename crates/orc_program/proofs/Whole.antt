-- The answer to an input as the answer to the words.
use Rattle.std.proofs.Common.{◌≡◌, ◌∙◌, ◌≤◌, Bool, List, ℕ, Option, Some, true, ap, inr, length, subst, sym}
use Rattle.orc_job_files.specs.JobGrammar.{IsFileOf}
use Rattle.orc_jobs.specs.declared.line.Line.{Line}
use Rattle.orc_options.proofs.NamesAnywhere.{one_settings}
use Rattle.orc_options.specs.Settings.{AskFor, GivesSettings}
use Rattle.orc_options.specs.declared.settings.Mode.TheVariants as mode
use Rattle.orc_options.specs.declared.settings.Settings.{Settings}
use Rattle.orc_program.specs.declared.ended.Ended.{Ended}
use Rattle.orc_program.specs.Answers.{ProgramAnswers, AnswersWords, IsInput, reads}
use Rattle.orc_jobs.specs.declared.lines.TheConstants.{MOST_BYTES}
use Rattle.orc_program.proofs.Inputs.{whole}
use Rattle.orc_program.proofs.OneAnswer.{file}

-- bytes that were read in these settings, and answered
pub record IsAnswered (words : List (List ℕ)) (left after : Option (List ℕ)) (ended : Ended) (s : Settings) (bytes : List ℕ) (status : ℕ) (text : List ℕ)
    : Type 0 where
  pub gives : GivesSettings words s
  pub input : IsInput (reads s.mode) left after bytes
  pub answers : ProgramAnswers s bytes ended status text

-- the bytes that were read are those that were answered, and the text that is written is the answer's
pub answered : (words : List (List ℕ)) (left after : Option (List ℕ)) (ended : Ended) (s : Settings) (bytes : List ℕ) (status : ℕ) (text : List ℕ)
    → GivesSettings words s → IsInput (reads s.mode) left after bytes → (given said : List ℕ) → given ≡ bytes → text ≡ said → ProgramAnswers s given ended status said
    → IsAnswered words left after ended s bytes status text
answered words left after ended s bytes status text gives input given said same is a = record {
  gives = gives;
  input = input;
  answers = subst (λ (t : List ℕ). ProgramAnswers s bytes ended status t) (sym is) (subst (λ (b : List ℕ). ProgramAnswers s b ended status said) same a);
}

module _ (words : List (List ℕ)) (left after : Option (List ℕ)) (ended : Ended) (s : Settings) (bytes : List ℕ) (status : ℕ) (text : List ℕ)
    (h : IsAnswered words left after ended s bytes status text)
  where
    pub to_words : AnswersWords words left after ended status text
    to_words = inr (s, bytes, h.gives, h.input, h.answers)

    -- a file of lines that is told is reported
    pub reported : (told : List ℕ) → left ≡ Some told → AskFor words mode.Run → length told ≤ MOST_BYTES → (lines : List Line) → IsFileOf lines told
        → status ≡ 0
    reported told is asks few lines is_file =
        let run : s.mode ≡ mode.Run = ap (λ (t : Settings). t.mode) (one_settings words s asks.0 h.gives asks.1) ∙ asks.2 in
        let reading : reads s.mode ≡ true = ap reads run in
        let input : IsInput true (Some told) after bytes =
        subst (λ (l : Option (List ℕ)). IsInput true l after bytes) is (subst (λ (b : Bool). IsInput b left after bytes) reading h.input) in
        let same : bytes ≡ told = (whole told bytes after input few).0 in
        file s bytes ended status text h.answers run (subst (λ (b : List ℕ). length b ≤ MOST_BYTES) (sym same) few) lines
        (subst (IsFileOf lines) (sym same) is_file)
