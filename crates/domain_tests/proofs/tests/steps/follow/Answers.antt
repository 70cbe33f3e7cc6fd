use Rattle.std.proofs.Common.{sym, ◌∙◌}
use Rattle.std.proofs.lemmas.Bool.{false≢true}
use Rattle.domain_tests.proofs.tests.steps.follow.Goals as goal

pub unreachable-requires : goal.unreachable-requires
unreachable-requires c = false≢true (sym c.in_default.ensures.refused ∙ c.requires.allowed)

pub returns : goal.returns
returns c = c.in-Ok.ensures.step
