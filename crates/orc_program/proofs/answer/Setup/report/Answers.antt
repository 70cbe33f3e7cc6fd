use Rattle.std.proofs.Common.{rules, ◌≡◌, IfOk, None, Some, if◌then◌else◌}
use Rattle.orc_report.specs.Report.{report_of}
use Rattle.orc_program.specs.Headline.{numbers_of_rest}
use Rattle.orc_program.proofs.Files.{is_left}
use Rattle.orc_program.proofs.answer.Setup.report.Goals as goal

pub returns-clause-answered : goal.returns-clause-answered
returns-clause-answered g c =
    let f = c.in_ok-finished.finished in
    let told : IfOk c.report_text-text.result (λ t. t
    ≡ report_of c.args.lines.now f.replies.posts.items f.replies.takes.items (if c.args.self.now.settings.rest then Some (numbers_of_rest f) else None)) = search rules in
    is_left c.leave.result c.report_text-text.result _ c.leave.new.ended _ _
    (λ a zero kept report. (zero, record { finished = f; kept = kept; headline = record { run = c.in_ok-finished.ensures; report = report } }))
    c.leave.ensures.answered told
