use Rattle.orc_plain_domain.proofs.Releasing.{releases, slot_below, still_released}
use Rattle.orc_plain_domain.proofs.links.PlainDomainLinks.release.Goals as goal

pub bounds-p-slot : goal.bounds-p-slot
bounds-p-slot g c =
    slot_below c.args.self.now c.args.p.now c.retire.new.p c.requires.pass c.retire.ensures.pass c.retire.ensures.same c.args.h c.requires.held
    c.slot.result c.slot.ensures

pub returns-clause-pass : goal.returns-clause-pass
returns-clause-pass g c =
    still_released c.args.self.now c.args.p.now c.retire.new.p c.requires.pass c.retire.ensures.pass c.retire.ensures.same c.args.h c.requires.held
    c.slot.result

pub returns-clause-released : goal.returns-clause-released
returns-clause-released g c =
    releases c.args.self.now c.args.p.now c.retire.new.p c.requires.pass c.retire.ensures.pass c.retire.ensures.same c.args.h c.requires.held
    c.slot.result c.row.result c.slot.ensures c.row.ensures c.retire.ensures.retired
