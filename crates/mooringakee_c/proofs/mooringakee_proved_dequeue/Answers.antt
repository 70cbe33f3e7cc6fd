-- Where there is no pass, it says so.
use Rattle.mooringakee_c_passes.specs.QueueCalls.{AnswersTake}
use Rattle.mooringakee_c_passes.specs.Seats.{AtQueue}
use Rattle.mooringakee_c_passes.proofs.Saying.{says_none}
use Rattle.mooringakee_c.proofs.mooringakee_proved_dequeue.Goals as goal

pub returns-in_default-clause-answer : goal.returns-in_default-clause-answer
returns-in_default-clause-answer c =
    says_none (AtQueue (AnswersTake c.args.value.now)) c.args.pass.now.pointer.seat c.take.new.self.pointer.seat c.code.result c.code.ensures
    (c.take.ensures.none c.in_default.is) c.take.ensures.left
