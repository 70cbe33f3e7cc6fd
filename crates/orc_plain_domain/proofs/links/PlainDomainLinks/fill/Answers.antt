use Rattle.std.proofs.Common.{◌<◌, sym, subst}
use Rattle.orc_plain_domain.proofs.OneStep.{fills, fresh_is}
use Rattle.orc_plain_domain.proofs.Growing.{still_adds}
use Rattle.orc_plain_domain.proofs.Naming.{hold_below}
use Rattle.orc_plain_domain.specs.Passes.{domain_bounds}
use Rattle.orc_plain_domain.proofs.links.PlainDomainLinks.fill.Goals as goal

pub fill-requires-clause-row : goal.fill-requires-clause-row
fill-requires-clause-row g c =
    subst (λ r. r < (domain_bounds c.args.self.now).rows) (sym c.row.ensures)
    (hold_below c.args.self.now c.args.p.now c.requires.pass c.args.fresh.now c.requires.fresh.held)

pub fill-requires-clause-fresh : goal.fill-requires-clause-fresh
fill-requires-clause-fresh g c =
    fresh_is c.args.self.now c.args.p.now c.requires.pass c.args.p.now.pass c.requires.pass.board c.args.fresh.now c.row.result c.row.ensures c.requires.fresh

pub returns-clause-pass : goal.returns-clause-pass
returns-clause-pass g c = still_adds c.args.self.now c.args.p.now c.requires.pass c.fill.new.p c.fill.ensures.belongs _ c.fill.ensures.adds

pub returns-clause-filled : goal.returns-clause-filled
returns-clause-filled g c =
    fills c.args.self.now c.args.p.now c.requires.pass c.fill.new.p c.fill.ensures.belongs c.args.fresh.now c.row.result c.row.ensures c.args.which
    c.args.value c.requires.fresh c.fill.ensures.adds c.fill.ensures.fresh
