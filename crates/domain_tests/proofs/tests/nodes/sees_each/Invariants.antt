use Rattle.orc_any_domain.specs.Domains.{IsIdlePass}
use Rattle.domain_tests.proofs.tests.nodes.sees_each.Given as goal

abbrev pub invariant-loop-value : goal.invariant-loop-value
invariant-loop-value g l = IsIdlePass g.L.Links l.links l.p × IsIdlePass g.L.Links l.links l.other
