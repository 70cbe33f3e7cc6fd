use Rattle.orc_plain_domain.proofs.Giving.{Tried}
use Rattle.orc_plain_domain.proofs.links.PlainDomainLinks.give.Given as goal

abbrev pub invariant-loop-offset : goal.invariant-loop-offset
invariant-loop-offset g l = Tried l.self l.fn.p l.p l.rows l.begin l.offset
