use Rattle.orc_domain.proofs.Quiet.{goes_on_by, rests_quietly}
use Rattle.orc_domain.proofs.Resting.{all_passes, some_passes}
use Rattle.orc_domain.specs.Passes.{domain_bounds}
use Rattle.orc_domain.proofs.as_domain.OrcDomainDomain.end.Goals as goal

pub returns : goal.returns
returns g c =
    let domain = c.args.self in
    let all = all_passes domain c.args.passes.items c.requires.many c.requires.each c.requires.order in
    record {
      domain_is = c.rest.ensures.domain;
      shown = c.rest.ensures.shown;
      at_rest = c.rest.ensures.rest;
      balance = c.rest.ensures.balance;
      heard = λ i p low. goes_on_by _ _ _ _ c.rest.ensures.journal (c.drain_passes.ensures.heard i p low);
      journal = λ seen same.
          rests_quietly (domain_bounds domain) c.args.passes.items c.drain_passes.new.passes.items seen _ (domain_bounds domain).rows
          (some_passes domain c.args.passes.items all) same c.drain_passes.ensures.later (c.drain_passes.ensures.quiet seen same) c.rest.ensures.journal;
    }
