-- What a run leaves.
use Rattle.std.specs.Prelude.{◌≡◌, Bool, ℕ, List, Some, None, if◌then◌else◌}
use Rattle.std.specs.List.{AllByRecursion}
use Rattle.orc_jobs.specs.declared.line.Job.{Job}
use Rattle.orc_jobs.specs.declared.line.Line.{Line}
use Rattle.orc_jobs.specs.Generated.{generated}
use Rattle.orc_report.specs.AllDone.{AreJobsOf, NoneRefused, NoneVoid}
use Rattle.orc_report.specs.Summary.{done_jobs, summary_of}
use Rattle.orc_board.specs.Stretches.{pick}
use Rattle.orc_core.specs.Machine.{new_machine}
use Rattle.orc_core.specs.declared.records.Agent.{Agent}
use Rattle.orc_heap.specs.declared.discipline.Discipline as discipline
use Rattle.orc_machine_board.specs.Rules.{run_of}
use Rattle.orc_machine_board.specs.declared.machine.MachineShape.{MachineShape}
use Rattle.orc_machine_board.specs.declared.machine.Reclaiming.{Reclaiming}
use Rattle.orc_machine_board.specs.declared.machine.Request.{Request}
use Rattle.orc_domain.specs.Passes.{domain_bounds}
use Rattle.orc_domain.specs.Rest.{IsShown, rest_domain, rest_journal}
use Rattle.orc_domain.specs.declared.at_rest.OrcRest.{OrcRest}
use Rattle.orc_rest.specs.Reuse.{given, reused, rows_out}
use Rattle.orc_run.specs.Runs.{EndsWithoutLeak, ReusesRowsSafely}
use Rattle.orc_run.specs.declared.run.Finished.{Finished}
use Rattle.orc_run.specs.declared.set.SetRest.{SetRest}
use Rattle.orc_run.specs.declared.set.SetRest.TheVariants as at_rest
use Rattle.orc_shared_words.specs.declared.machine.Machine as machine
use Rattle.orc_sound.specs.Journals.{plain}
use Rattle.orc_sound.specs.declared.steps.Step.{Step}
use Rattle.orc_stages_run.specs.Runs.{WentThrough}
use Rattle.orc_stages_run.specs.declared.run.StagesFinished.{StagesFinished}
use Rattle.orc_stages_text.specs.StagesText.{stages_report as stages_text_of}
use Rattle.orc_watch.specs.WatchText.{watch_report}
use Rattle.orc_watch.specs.declared.line.WatchLine.{WatchLine}
use Rattle.orc_watch.specs.declared.text.CellNumbers.{CellNumbers}
use Rattle.orc_watch_domain.specs.Runs.{WatchedThrough}
use Rattle.orc_watch_domain.specs.declared.watch.WatchFinished.{WatchFinished}
use Rattle.orc_program.specs.declared.ended.Ended.{Ended}
use Rattle.orc_program.specs.declared.ended.Ended.TheVariants as end
use Rattle.orc_options.specs.declared.settings.Settings.{Settings}
use Rattle.orc_program.specs.Headline.{Headline, WorkedThrough}

-- The domain is at rest, and by its actual journal no row was used again while it was linked or held, nor twice; and at the end what
-- was given was freed or is linked.
module _ {D N : Type 0} {d : discipline.Ghosts D N} {m : machine.Ghosts Reclaiming N (MachineShape N) Request (Step N) Agent Agent} where
  pub record RestsSafely (r : OrcRest D N d m) : Type 0 where
    pub shown : IsShown r
    pub reuse : ReusesRowsSafely (domain_bounds (rest_domain r)) r
    pub rest : EndsWithoutLeak (domain_bounds (rest_domain r)) r

-- of the domain of a run's set, whichever it was
abbrev pub SetRestsSafely : SetRest → Type 0
SetRestsSafely (at_rest.Lists r) = RestsSafely r
SetRestsSafely (at_rest.Split r) = RestsSafely r

-- each domain of what has ended rests safely: of a run, those of the queue, at false, of the rush queue, at true, and of the set; of a
-- watch, that of the cell; and of a pipeline, those of all queues
abbrev pub EndsSafely : Ended → Type 0
EndsSafely end.Nothing = Unit {0}
EndsSafely (end.Run f) = ((rush : Bool) → RestsSafely (pick f.queue f.rush rush)) × SetRestsSafely f.set
EndsSafely (end.Watch f) = RestsSafely f.cell
EndsSafely (end.Stages f) = AllByRecursion (λ r. RestsSafely r) f.queues.items

-- these lines were worked through as the settings say, and the headline holds of what has ended
pub record HasReported (lines : List Line) (settings : Settings) (ended : Ended) (text : List ℕ) : Type 0 where
  pub finished : Finished
  pub kept : ended ≡ end.Run finished
  pub headline : Headline lines settings finished text

-- the lines that are generated from the settings' seed
abbrev pub generated_lines : Settings → List Line
generated_lines settings = generated settings.seed settings.lines

-- the generated lines were worked through as the settings say, and the text is the summary of the replies that have ended
pub record HasSummed (settings : Settings) (ended : Ended) (text : List ℕ) : Type 0 where
  pub finished : Finished
  pub kept : ended ≡ end.Run finished
  pub run : WorkedThrough (generated_lines settings) settings finished
  pub summary : text ≡ summary_of (done_jobs (generated_lines settings) finished.replies.takes.items)
  -- where no reply is NoNode, Spent or Void, every job is done, and the text is a function of the lines alone
  pub all_done : NoneRefused finished.replies.posts.items → NoneVoid finished.replies.takes.items
      → AreJobsOf (generated_lines settings) (done_jobs (generated_lines settings) finished.replies.takes.items)
  pub of_lines : NoneRefused finished.replies.posts.items → NoneVoid finished.replies.takes.items
      → (jobs : List (Job × ℕ)) → AreJobsOf (generated_lines settings) jobs → text ≡ summary_of jobs
  -- and without takers no reply is Void
  pub none_void : settings.takers ≡ 0 → NoneVoid finished.replies.takes.items

-- how often a row was given and freed, and how many are linked, by the journal that a watch has left
abbrev pub cell_numbers : WatchFinished → CellNumbers
cell_numbers f = record {
  given = given (new_machine (domain_bounds (rest_domain f.cell))) (plain (rest_journal f.cell));
  reused = reused (plain (rest_journal f.cell));
  linked = rows_out (run_of (domain_bounds (rest_domain f.cell)) (rest_journal f.cell));
}

-- these lines were worked through by as many workers as the settings have posters, over a cell of as many rows as they say, and the
-- text tells the replies and both parts at last, with what is at rest where it was asked for
pub record HasWatched (lines : List WatchLine) (settings : Settings) (ended : Ended) (text : List ℕ) : Type 0 where
  pub finished : WatchFinished
  pub kept : ended ≡ end.Watch finished
  pub run : WatchedThrough lines settings.posters settings.rows finished
  pub told : text ≡ watch_report finished.replies.items finished.now_left finished.now_right (if settings.rest then Some (cell_numbers finished) else None)

-- the jobs of these lines went through as many stages as the settings say, behind as many posters and over queues of as many rows, and
-- the text tells all replies and what came out
pub record TellsStages (lines : List Line) (settings : Settings) (ended : Ended) (text : List ℕ) : Type 0 where
  pub finished : StagesFinished
  pub kept : ended ≡ end.Stages finished
  pub run : WentThrough lines settings.posters settings.stages settings.rows finished
  pub told : text ≡ stages_text_of finished.done.posts.items finished.done.moves.items finished.done.outs.items
