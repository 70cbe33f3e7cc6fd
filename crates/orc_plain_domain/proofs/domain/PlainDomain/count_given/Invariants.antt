use Rattle.orc_plain_domain.proofs.Resting.{Counted}
use Rattle.orc_plain_domain.proofs.domain.PlainDomain.count_given.Given as goal

abbrev pub invariant-loop-row : goal.invariant-loop-row
invariant-loop-row g l = Counted l.self l.fn.p l.p l.row-end l.row l.given
