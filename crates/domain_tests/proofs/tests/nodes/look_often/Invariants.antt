use Rattle.orc_any_domain.specs.Domains.{IsIdlePass}
use Rattle.domain_tests.proofs.tests.nodes.look_often.Given as goal

abbrev pub invariant-loop-turn : goal.invariant-loop-turn
invariant-loop-turn g l = IsIdlePass g.L.Links l.links l.p
