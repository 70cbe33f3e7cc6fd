use Rattle.std.proofs.Common.{sym, ◌∙◌, ◌+◌}
use Rattle.orc_domain.proofs.domain.OrcDomain.rest.Goals as goal

pub returns-clause-balance : goal.returns-clause-balance
returns-clause-balance g c =
    let counts = c.count-pass.ensures.counts in
    sym counts.given_is ∙ (counts.balance ∙ (λ i. counts.reused_is i + counts.linked_is i))
