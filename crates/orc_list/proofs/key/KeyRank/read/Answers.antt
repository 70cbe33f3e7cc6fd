-- The first value is the key.
use Rattle.std.proofs.Common.{arith}
use Rattle.orc_list.proofs.Starting.{key_read}
use Rattle.orc_list.proofs.key.KeyRank.read.Goals as goal

pub returns-clause-rank : goal.returns-clause-rank
returns-clause-rank g c =
    key_read _ _ c.value.result _ c.value.ensures.value

pub returns-clause-fits : goal.returns-clause-fits
returns-clause-fits g c = omega (arith, c.value.type_inv)
