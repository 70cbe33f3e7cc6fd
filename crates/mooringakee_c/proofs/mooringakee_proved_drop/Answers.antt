-- Where there is no pass, it says so; else the pass settles, and is given up.
use Rattle.std.proofs.Common.{subst}
use Rattle.mooringakee_c_passes.specs.Settling.{SettlesPass}
use Rattle.mooringakee_c_passes.specs.declared.seat.Seat.{Seat}
use Rattle.mooringakee_c_passes.proofs.Saying.{says_given, says_gone}
use Rattle.mooringakee_c.proofs.mooringakee_proved_drop.Goals as goal

pub returns-in_default : goal.returns-in_default
returns-in_default c =
    says_gone c.args.pass.now.pointer.seat c.take.new.self.pointer.seat c.code.result c.code.ensures (c.take.ensures.none c.in_default.is) c.take.ensures.left

pub returns : goal.returns
returns c =
    says_given c.args.pass.now.pointer.seat c.take.new.self.pointer.seat c.in-Some.seat.value c.settle-answer.new.self c.settle-answer.result c.code-2.result
    c.code-2.ensures c.in-Some.ensures.taken.0 c.take.ensures.left c.settle-answer.ensures.seat
    (subst (λ (s : Seat). SettlesPass s c.settle-answer.result c.settle-answer.new.self) c.deref_mut.ensures.value c.settle-answer.ensures.answer)
