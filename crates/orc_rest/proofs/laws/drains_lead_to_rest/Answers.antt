use Rattle.orc_rest.proofs.DrainAll.{rest_after_drains}
use Rattle.orc_rest.proofs.laws.drains_lead_to_rest.Goals as goal

pub returns : goal.returns
returns c = rest_after_drains
