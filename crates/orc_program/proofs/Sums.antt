-- What a run of generated lines has left, with its summary.
use Rattle.std.proofs.Common.{◌≡◌, ◌≤◌, ◌∙◌, [], Bool, List, ℕ, ap, refl}
use Rattle.orc_words.specs.Bounds.{Bounds}
use Rattle.orc_board.specs.Reportable.{AreReportable}
use Rattle.orc_board.specs.Stretches.{View, pick}
use Rattle.orc_history.specs.declared.set.ListRefused.{ListRefused}
use Rattle.orc_history.specs.declared.set.SetEntry.{SetEntry}
use Rattle.orc_jobs.specs.declared.line.Line.{Line}
use Rattle.orc_options.specs.declared.settings.Settings.{Settings}
use Rattle.orc_report.proofs.AllDone.{all_done, none_void}
use Rattle.orc_report.proofs.NumberedLines.{PostTheirNumbers, generated-numbered, one-list}
use Rattle.orc_report.specs.AllDone.{AreJobsOf, NoneRefused, NoneVoid}
use Rattle.orc_report.specs.Summary.{done_jobs, summary_of}
use Rattle.orc_run.specs.Containers.{queue_over, set_over, split_over}
use Rattle.orc_run.specs.Runs.{Follow, FollowWith, queue_bounds, set_bounds}
use Rattle.orc_run.specs.declared.run.Finished.{Finished}
use Rattle.orc_run.specs.declared.set.SetRest.{SetRest}
use Rattle.orc_run.specs.declared.set.SetRest.TheVariants as at_rest
use Rattle.orc_domain.specs.Rest.{rest_journal}
use Rattle.orc_program.specs.declared.ended.Ended.{Ended}
use Rattle.orc_program.specs.declared.ended.Ended.TheVariants as end
use Rattle.orc_program.specs.Ended.{HasSummed, generated_lines}
use Rattle.orc_program.specs.Headline.{WorkedThrough, set_of}

-- how the jobs of generated lines end
record HaveEnded (settings : Settings) (f : Finished) : Type 0 where
  done : NoneRefused f.replies.posts.items → NoneVoid f.replies.takes.items
      → AreJobsOf (generated_lines settings) (done_jobs (generated_lines settings) f.replies.takes.items)
  none_void : settings.takers ≡ 0 → NoneVoid f.replies.takes.items

-- over any set
over_set : {B : Type 0} (settings : Settings) (f : Finished) (set : View B SetEntry ListRefused) (journal : List B) → set.history [] ≡ []
    → 1 ≤ settings.posters → Follow (generated_lines settings) settings.posters settings.takers settings.rows f.replies f.queue f.rush set journal → HaveEnded settings f
over_set settings f set journal empty some ran =
    let lines = generated_lines settings in
    let num : PostTheirNumbers lines = generated-numbered settings.seed settings.lines in
    let queues = λ (rush : Bool). queue_over 0 (queue_bounds settings.posters settings.takers settings.rows) in
    record {
      done = all_done queues set lines settings.posters settings.takers
          f.replies.posts.items f.replies.takes.items (λ rush. rest_journal (pick f.queue f.rush rush)) journal empty some num ran;
      none_void = none_void queues set lines settings.posters settings.takers
          f.replies.posts.items f.replies.takes.items (λ rush. rest_journal (pick f.queue f.rush rush)) journal empty some num ran;
    }

-- over the set of the run
over_rest : (settings : Settings) (f : Finished) (b : Bounds) (rest : SetRest) → 1 ≤ settings.posters
    → FollowWith (generated_lines settings) settings.posters settings.takers settings.rows b f rest → HaveEnded settings f
over_rest settings f b (at_rest.Lists r) some ran = over_set settings f (set_over b) (rest_journal r) refl some ran
over_rest settings f b (at_rest.Split r) some ran = over_set settings f (split_over b) (rest_journal r) refl some ran

-- the replies can be reported, over either set
pub can_be_reported : (lines : List Line) (posters takers rows : ℕ) (b : Bounds) (f : Finished) (rest : SetRest)
    → FollowWith lines posters takers rows b f rest → AreReportable lines f.replies.posts.items f.replies.takes.items
can_be_reported lines posters takers rows b f (at_rest.Lists r) ran = ran.reportable
can_be_reported lines posters takers rows b f (at_rest.Split r) ran = ran.reportable

-- a run of generated lines that is kept, with the summary of its replies
pub has-summed : (settings : Settings) (f : Finished) (ended : Ended) (text : List ℕ) → 1 ≤ settings.posters → ended ≡ end.Run f
    → WorkedThrough (generated_lines settings) settings f
    → text ≡ summary_of (done_jobs (generated_lines settings) f.replies.takes.items) → HasSummed settings ended text
has-summed settings f ended text some kept run is =
    let lines = generated_lines settings in
    let have = over_rest settings f (set_bounds settings.posters settings.takers settings.rows (set_of settings)) f.set some run.replies in
    record {
      finished = f;
      kept = kept;
      run = run;
      summary = is;
      all_done = have.done;
      of_lines = λ not_refused not_void jobs are.
          is ∙ ap summary_of (one-list lines (done_jobs lines f.replies.takes.items) jobs (have.done not_refused not_void) are);
      none_void = have.none_void;
    }
