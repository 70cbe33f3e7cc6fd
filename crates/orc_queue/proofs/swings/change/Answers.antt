-- A swing is never refused.
use Rattle.orc_queue.proofs.Looking.{never_spent}
use Rattle.orc_queue.proofs.swings.change.Goals as goal

pub unreachable-requires : goal.unreachable-requires
unreachable-requires g c =
    let s = g.L.Links.seat _ c.args.p.now in
    let e = c.in-Err.ensures in
    never_spent _ s.slots c.args.from.now c.args.to.now _ (g.L.Links.seat _ c.swing.new.p).seen
    (g.met.L.Links.allowed _ _ e.pass) e.spent
