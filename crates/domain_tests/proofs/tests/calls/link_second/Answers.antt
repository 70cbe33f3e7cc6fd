use Rattle.domain_tests.proofs.Swings.{none_left, slots_back}
use Rattle.domain_tests.proofs.tests.calls.link_second.Goals as goal

pub returns-clause-slots : goal.returns-clause-slots
returns-clause-slots g c =
    let seat = g.L.Links.seat c.args.links.now in
    slots_back c.in-Ok.two _ _ (seat c.aim_both-aimed.new.p) (seat c.swing_root-linked.new.p) _ _ c.requires.slot c.in-Ok.ensures.given
    c.aim_both-aimed.ensures.slots c.swing_root-linked.ensures.slots c.swing_root-unlinked.ensures.slots c.release.ensures.released

pub returns-clause-fresh : goal.returns-clause-fresh
returns-clause-fresh g c =
    let seat = g.L.Links.seat c.args.links.now in
    none_left c.in-Ok.two _ _ (seat c.aim_both-aimed.new.p) (seat c.swing_root-linked.new.p) _ _ c.requires.slot c.in-Ok.ensures.given
    c.aim_both-aimed.ensures.slots c.swing_root-linked.ensures.slots c.swing_root-unlinked.ensures.slots c.release.ensures.released
    c.swing_root-linked.result c.swing_root-unlinked.result c.aim_both-aimed.ensures.fresh c.swing_root-linked.ensures.fresh
    c.swing_root-unlinked.ensures.fresh
