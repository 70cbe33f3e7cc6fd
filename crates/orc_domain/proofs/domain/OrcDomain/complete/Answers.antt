use Rattle.std.proofs.Common.{◌∙◌}
use Rattle.orc_machine_board.specs.Views.{shows}
use Rattle.orc_domain.proofs.Counting.{down_too, none_down}
use Rattle.orc_domain.specs.Passes.{domain_bounds}
use Rattle.orc_domain.proofs.domain.OrcDomain.complete.Goals as goal

pub returns-in-Some-clause-becomes : goal.returns-in-Some-clause-becomes
returns-in-Some-clause-becomes g c =
    down_too (domain_bounds c.args.self.now) (shows c.args.p.now) (shows c.count_new.new.p) c.count_new.ensures.becomes (shows c.count_down.new.p)
    c.count_down.ensures.becomes

pub returns-in_default-clause-becomes : goal.returns-in_default-clause-becomes
returns-in_default-clause-becomes g c =
    none_down (domain_bounds c.args.self.now) (shows c.args.p.now) (shows c.count_new.new.p) c.count_new.ensures.becomes (c.requires.down ∙ c.in_default.is)

pub count_down-requires-clause-dec : goal.count_down-requires-clause-dec
count_down-requires-clause-dec g c = c.count_new.ensures.becomes.same.dec ∙ (c.requires.down ∙ c.in-Some.is)
