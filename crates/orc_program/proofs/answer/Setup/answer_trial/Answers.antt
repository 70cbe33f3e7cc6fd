use Rattle.std.proofs.Common.{◌≡◌, IfOk, List, subst}
use Rattle.orc_jobs.specs.declared.line.Line.{Line}
use Rattle.orc_report.specs.Summary.{done_jobs, summary_of}
use Rattle.orc_run.specs.Runs.{set_bounds}
use Rattle.orc_program.specs.Headline.{WorkedThrough, set_of}
use Rattle.orc_program.proofs.Files.{is_left}
use Rattle.orc_program.proofs.Sums.{can_be_reported, has-summed}
use Rattle.orc_program.proofs.answer.Setup.answer_trial.Goals as goal

pub summary_text-text-requires-clause-reportable : goal.summary_text-text-requires-clause-reportable
summary_text-text-requires-clause-reportable g c =
    let s = c.args.self.now.settings in
    let f = c.in_ok-finished.finished in
    can_be_reported c.in_ok-made.made s.posters s.takers s.rows (set_bounds s.posters s.takers s.rows (set_of s)) f f.set c.in_ok-finished.ensures.replies

pub returns-clause-answered : goal.returns-clause-answered
returns-clause-answered g c =
    let s = c.args.self.now.settings in
    let f = c.in_ok-finished.finished in
    let worked = subst (λ (lines : List Line). WorkedThrough lines s f) c.in_ok-made.ensures.lines c.in_ok-finished.ensures in
    let told = subst (λ (lines : List Line). IfOk c.summary_text-text.result (λ t. t ≡ summary_of (done_jobs lines f.replies.takes.items)))
    c.in_ok-made.ensures.lines c.summary_text-text.ensures in
    is_left c.leave.result c.summary_text-text.result _ c.leave.new.ended _ _
    (λ a zero kept summary. (zero, has-summed s f _ a.text c.requires.ranges.some_posters kept worked summary)) c.leave.ensures.answered told
