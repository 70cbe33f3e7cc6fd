use Rattle.std.proofs.Common.{rules, ◌≡◌, IfOk}
use Rattle.orc_stages_text.specs.StagesText.{stages_report}
use Rattle.orc_program.proofs.Files.{is_left}
use Rattle.orc_program.proofs.answer.Setup.send_through.Goals as goal

pub returns-clause-answered : goal.returns-clause-answered
returns-clause-answered g c =
    let f = c.in_ok-finished.finished in
    let told : IfOk c.stages_text-text.result (λ t. t ≡ stages_report f.done.posts.items f.done.moves.items f.done.outs.items) = search rules in
    is_left c.leave.result c.stages_text-text.result _ c.leave.new.ended _ _
    (λ a zero kept text. (zero, record { finished = f; kept = kept; run = c.in_ok-finished.ensures; told = text })) c.leave.ensures.answered told
