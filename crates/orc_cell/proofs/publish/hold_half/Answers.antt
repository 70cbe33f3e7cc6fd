-- Each link of a pair leads to its part.
use Rattle.orc_heap.specs.Slots.{id_in}
use Rattle.orc_cell.proofs.Looking.{left_leads, right_leads}
use Rattle.orc_cell.proofs.publish.hold_half.Goals as goal

pub hold_part-requires-clause-leads : goal.hold_part-requires-clause-leads
hold_part-requires-clause-leads g c =
    let s = g.L.Links.seat _ c.args.p.now in
    left_leads (g.L.Links.numbers _) s.seen (id_in s.slots c.args.pair.now) c.requires.pair

pub hold_part-requires-in-Right-clause-leads : goal.hold_part-requires-in-Right-clause-leads
hold_part-requires-in-Right-clause-leads g c =
    let s = g.L.Links.seat _ c.args.p.now in
    right_leads (g.L.Links.numbers _) s.seen (id_in s.slots c.args.pair.now) c.requires.two c.requires.pair

pub returns-in-Left-clause-held : goal.returns-in-Left-clause-held
returns-in-Left-clause-held g c = rw c.in-Left.is c.hold_part.ensures.held

pub returns-in-Right-clause-held : goal.returns-in-Right-clause-held
returns-in-Right-clause-held g c = rw c.in-Right.is c.hold_part-in-Right.ensures.held
