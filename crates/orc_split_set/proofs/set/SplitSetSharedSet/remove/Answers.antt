-- The removal makes few events.
use Rattle.std.proofs.Common.{refl}
use Rattle.orc_split_set.proofs.set.SplitSetSharedSet.remove.Goals as goal

pub returns-clause-few : goal.returns-clause-few
returns-clause-few g c = c.answer.ensures.taken refl
