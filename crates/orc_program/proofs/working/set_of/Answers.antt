use Rattle.std.proofs.Common.{refl}
use Rattle.orc_program.proofs.working.set_of.Goals as goal

pub returns-in-List : goal.returns-in-List
returns-in-List c = rw c.in-List.is refl

pub returns-in-Split : goal.returns-in-Split
returns-in-Split c = rw c.in-Split.is refl
