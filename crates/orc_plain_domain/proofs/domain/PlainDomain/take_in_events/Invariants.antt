use Rattle.std.proofs.Common.{length}
use Rattle.orc_plain_domain.proofs.Resting.{Taking}
use Rattle.orc_plain_domain.proofs.domain.PlainDomain.take_in_events.Given as goal

abbrev pub invariant-loop-rest : goal.invariant-loop-rest
invariant-loop-rest g l = Taking l.self l.fn.into l.into l.fn.others.items l.rest.items

abbrev pub decreases-loop-rest : goal.decreases-loop-rest
decreases-loop-rest g l = length l.rest.items
