use Rattle.std.proofs.Common.{None, ◌∙◌}
use Rattle.orc_machine_board.specs.Views.{shows}
use Rattle.orc_domain.proofs.Counting.{becomes_self, without_inc}
use Rattle.orc_domain.specs.Passes.{domain_bounds}
use Rattle.orc_domain.proofs.domain.OrcDomain.count_new.Goals as goal

pub returns-in_default-clause-becomes : goal.returns-in_default-clause-becomes
returns-in_default-clause-becomes g c =
    let s = shows c.args.p.now in
    becomes_self (domain_bounds c.args.self.now) (record s.record_is { inc = None }) s (without_inc s.record_is (c.requires.up ∙ c.in_default.is))
