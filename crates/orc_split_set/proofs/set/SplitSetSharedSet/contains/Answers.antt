-- The question makes few loads.
use Rattle.std.proofs.Common.{refl}
use Rattle.orc_split_set.proofs.set.SplitSetSharedSet.contains.Goals as goal

pub returns-clause-few : goal.returns-clause-few
returns-clause-few g c = c.answer.ensures.few refl
