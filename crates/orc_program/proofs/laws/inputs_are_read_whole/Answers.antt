use Rattle.orc_program.proofs.Inputs.{more, whole}
use Rattle.orc_program.proofs.laws.inputs_are_read_whole.Goals as goal

pub returns-clause-whole : goal.returns-clause-whole
returns-clause-whole c = whole

pub returns-clause-more : goal.returns-clause-more
returns-clause-more c = more
