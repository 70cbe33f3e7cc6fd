use Rattle.orc_domain.proofs.MovedSlots.{moved_taken_in}
use Rattle.orc_domain.proofs.domain.OrcDomain.moved_slots_are_taken_in_from.Goals as goal

pub returns : goal.returns
returns g c = record { taken_in = λ agent before after leaves. moved_taken_in leaves.ops leaves.taken_in }
