use Rattle.std.proofs.Common.{rules, ◌≡◌, IfOk, None, Some, if◌then◌else◌}
use Rattle.orc_watch.specs.WatchText.{watch_report}
use Rattle.orc_program.specs.Ended.{cell_numbers}
use Rattle.orc_program.proofs.Files.{is_left}
use Rattle.orc_program.proofs.answer.Setup.watch.Goals as goal

pub returns-clause-answered : goal.returns-clause-answered
returns-clause-answered g c =
    let f = c.in_ok-finished.finished in
    let told : IfOk c.watch_text-text.result (λ t. t
    ≡ watch_report f.replies.items f.now_left f.now_right (if c.args.self.now.settings.rest then Some (cell_numbers f) else None)) = search rules in
    is_left c.leave.result c.watch_text-text.result _ c.leave.new.ended _ _
    (λ a zero kept text. (zero, record { finished = f; kept = kept; run = c.in_ok-finished.ensures; told = text })) c.leave.ensures.answered told
