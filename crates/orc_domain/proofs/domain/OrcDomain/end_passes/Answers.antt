use Rattle.std.proofs.Common.{refl}
use Rattle.orc_domain.proofs.domain.OrcDomain.end_passes.Goals as goal

pub returns : goal.returns
returns g c =
    let seen = c.count-pass.ensures in
    record {
      rest = record { domain = c.args.self.now; pass = c.count-pass.result.0; counts = c.count-pass.result.1; counted = seen.counts };
      domain_is = refl;
      shown = record { belongs = seen.belongs; all = seen.all };
      journal = seen.journal;
      at_rest = seen.rest;
      counts_are = seen.counts;
    }
