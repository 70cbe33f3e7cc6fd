use Rattle.orc_fifo_rule.proofs.Later.{holds_later, nothing_yet}
use Rattle.orc_fifo_rule.proofs.laws.allowed_events_obey_the_discipline.Goals as goal

pub returns : goal.returns
returns c = record { nothing = nothing_yet; more = holds_later }
