use Rattle.std.proofs.Common.{[], refl, sym, subst}
use Rattle.orc_plain_board.specs.Calls.{KnowsRow}
use Rattle.orc_plain_board.specs.Views.{shows}
use Rattle.orc_plain_domain.proofs.OneStep.{reads}
use Rattle.orc_plain_domain.proofs.Growing.{only_adds, still_adds}
use Rattle.orc_plain_domain.proofs.Naming.{hold_known}
use Rattle.orc_plain_domain.specs.Passes.{domain_bounds}
use Rattle.orc_plain_domain.proofs.links.PlainDomainLinks.value.Goals as goal

pub read-requires-clause-row : goal.read-requires-clause-row
read-requires-clause-row g c = subst (λ r. KnowsRow (domain_bounds c.args.self.now) (shows c.args.self.now.board c.args.p.now.pass) r)
    (sym c.row.ensures) (hold_known c.args.self.now c.args.p.now c.requires.pass c.args.h.now c.requires.held)

pub returns-clause-pass : goal.returns-clause-pass
returns-clause-pass g c = still_adds c.args.self.now c.args.p.now c.requires.pass c.read.new.p c.read.ensures.belongs _ c.read.ensures.adds

pub returns-clause-value : goal.returns-clause-value
returns-clause-value g c =
    reads c.args.self.now c.args.p.now c.requires.pass c.read.new.p c.read.ensures.belongs c.args.h.now c.row.result c.row.ensures c.args.which
    c.read.result c.requires.held c.read.ensures.value

pub returns-clause-nothing : goal.returns-clause-nothing
returns-clause-nothing g c =
    only_adds c.args.self.now c.args.p.now c.requires.pass c.read.new.p c.read.ensures.belongs [] c.read.ensures.adds refl c.read.ensures.fresh
