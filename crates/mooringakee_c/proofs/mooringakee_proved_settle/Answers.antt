-- Where there is no pass, it says so.
use Rattle.mooringakee_c_passes.specs.Settling.{SettlesPass}
use Rattle.mooringakee_c_passes.proofs.Saying.{says_none}
use Rattle.mooringakee_c.proofs.mooringakee_proved_settle.Goals as goal

pub returns-in_default : goal.returns-in_default
returns-in_default c =
    says_none (SettlesPass) c.args.pass.now.pointer.seat c.take.new.self.pointer.seat c.code.result c.code.ensures
    (c.take.ensures.none c.in_default.is) c.take.ensures.left
