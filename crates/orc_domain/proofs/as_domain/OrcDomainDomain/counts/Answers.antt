-- As many rows were given as Gives stand in what is left.
use Rattle.std.proofs.Common.{ap, ◌∙◌}
use Rattle.orc_heap.specs.Moves.{gives_in}
use Rattle.orc_projection.specs.Projection.{project}
use Rattle.orc_domain.proofs.Gives.{given_is_gives}
use Rattle.orc_domain.specs.Passes.{domain_bounds}
use Rattle.orc_domain.specs.Rest.{rest_domain, rest_journal}
use Rattle.orc_domain.proofs.as_domain.OrcDomainDomain.counts.Goals as goal

pub returns-clause-given : goal.returns-clause-given
returns-clause-given g c = λ domain passes is.
    let rest = c.args.rest.now in
    rest.counted.given_is
    ∙ (given_is_gives (domain_bounds (rest_domain rest)) (rest_journal rest)
    ∙ ap (λ x. gives_in (project (domain_bounds x) (rest_journal rest))) is.domain_is)
