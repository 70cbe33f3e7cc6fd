use Rattle.orc_pairs_rule.proofs.Later.{holds_later, nothing_yet}
use Rattle.orc_pairs_rule.proofs.laws.allowed_events_obey_the_discipline.Goals as goal

pub returns : goal.returns
returns c = record {
  nothing = nothing_yet;
  more = λ n seen more holds all. holds_later n seen more all holds;
}
