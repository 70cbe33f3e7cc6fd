-- The headline: the text is the report of one actual journal per container.
use Rattle.std.specs.Prelude.{◌≡◌, if◌then◌else◌, ℕ, List, None, Some}
use Rattle.orc_core.specs.Machine.{new_machine}
use Rattle.orc_sound.specs.Journals.{plain}
use Rattle.orc_rest.specs.Reuse.{given, reused, rows_out}
use Rattle.orc_machine_board.specs.Rules.{run_of}
use Rattle.orc_domain.specs.Passes.{domain_bounds}
use Rattle.orc_domain.specs.Rest.{rest_domain, rest_journal}
use Rattle.orc_jobs.specs.declared.line.Line.{Line}
use Rattle.orc_report.specs.declared.report.RestNumbers.{RestNumbers}
use Rattle.orc_report.specs.Report.{report_of}
use Rattle.orc_run.specs.declared.run.Finished.{Finished}
use Rattle.orc_run.specs.Runs.{WorkedThrough as HasWorked}
use Rattle.orc_run.specs.Sets.{set_given, set_linked, set_reused}
use Rattle.orc_run.specs.declared.set.SetChoice.{SetChoice}
use Rattle.orc_run.specs.declared.set.SetChoice.TheVariants as choice
use Rattle.orc_options.specs.declared.settings.SetKind.{SetKind}
use Rattle.orc_options.specs.declared.settings.SetKind.TheVariants as kind
use Rattle.orc_options.specs.declared.settings.Settings.{Settings}

-- the set of a kind, in so many buckets where these are lists
abbrev pub choice_of : SetKind → ℕ → SetChoice
choice_of kind.List buckets = choice.Lists buckets
choice_of kind.Split buckets = choice.Split

-- the set that the settings ask for
abbrev pub set_of : Settings → SetChoice
set_of s = choice_of s.set s.buckets

-- the posters and takers of the settings worked through these lines, over containers of their rows and the set that they ask for
abbrev pub WorkedThrough : List Line → Settings → Finished → Type 0
WorkedThrough lines s f = HasWorked lines s.posters s.takers s.rows (set_of s) f

-- how often a row was given and freed, and how many are linked, by the three journals that were left
abbrev pub numbers_of_rest : Finished → RestNumbers
numbers_of_rest f = record {
  queue_given = given (new_machine (domain_bounds (rest_domain f.queue))) (plain (rest_journal f.queue));
  queue_reused = reused (plain (rest_journal f.queue));
  queue_linked = rows_out (run_of (domain_bounds (rest_domain f.queue)) (rest_journal f.queue));
  rush_given = given (new_machine (domain_bounds (rest_domain f.rush))) (plain (rest_journal f.rush));
  rush_reused = reused (plain (rest_journal f.rush));
  rush_linked = rows_out (run_of (domain_bounds (rest_domain f.rush)) (rest_journal f.rush));
  set_given = set_given f.set;
  set_reused = set_reused f.set;
  set_linked = set_linked f.set;
}

-- the lines were worked through, and the text is the report of lines and replies, with what is at rest where it was asked for
pub record Headline (lines : List Line) (settings : Settings) (f : Finished) (text : List ℕ) : Type 0 where
  pub run : WorkedThrough lines settings f
  pub report : text ≡ report_of lines f.replies.posts.items f.replies.takes.items (if settings.rest then Some (numbers_of_rest f) else None)
