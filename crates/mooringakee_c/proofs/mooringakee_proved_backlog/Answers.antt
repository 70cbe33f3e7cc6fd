-- Where there is no pass, it says so.
use Rattle.std.proofs.Common.{refl, ◌∙◌}
use Rattle.mooringakee_c_passes.specs.Settling.{CountsBacklog, backlog_at}
use Rattle.mooringakee_c_passes.specs.declared.answer.Answer.TheVariants.{Done}
use Rattle.mooringakee_c_passes.proofs.Saying.{says_none, says}
use Rattle.mooringakee_c.proofs.mooringakee_proved_backlog.Goals as goal

pub returns-in_default-clause-answer : goal.returns-in_default-clause-answer
returns-in_default-clause-answer c =
    says_none (CountsBacklog c.args.rows.now) c.args.pass.now.pointer.seat c.take.new.self.pointer.seat c.code.result c.code.ensures
    (c.take.ensures.none c.in_default.is) c.take.ensures.left

pub returns-clause-answer : goal.returns-clause-answer
returns-clause-answer c =
    says (CountsBacklog c.backlog.result) c.args.pass.now.pointer.seat c.of.result.pointer.seat c.in-Some.seat.value c.in-Some.seat.value Done
    c.code-2.result c.code-2.ensures c.in-Some.ensures.taken.0 c.of.ensures (refl, c.backlog.ensures ∙ (λ j. backlog_at (c.deref.ensures j)))
