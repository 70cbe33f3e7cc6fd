-- The successor is a once linked node, so it isn't the fresh one.
use Rattle.std.proofs.Common.{rules, arith}
use Rattle.orc_heap.specs.Slots.{id_in}
use Rattle.orc_fifo_rule.proofs.Coming.{swing_allowed}
use Rattle.orc_fifo_rule.specs.Laws.Paths.{successor_linked}
use Rattle.orc_queue.proofs.Holding.{pass_known}
use Rattle.orc_queue.proofs.Looking.{roots_there}
use Rattle.orc_queue.proofs.Pieces.{helps}
use Rattle.orc_queue.proofs.swings.help_tail.Goals as goal
use Rattle.orc_heap.proofs.Pieces.{linked_not_fresh}

pub change-done-requires : goal.change-done-requires
change-done-requires g c =
    let s = g.L.Links.seat _ c.args.p.now in
    let k = pass_known g.L.Links g.met.L.Links.opens g.met.L.Links.allowed g.met.L.Links.obeys _ _ c.requires.made c.requires.pass in
    record {
      pass = search rules;
      linked = search rules;
      links = search rules;
      place = roots_there _ s.seen 1 k (omega arith);
      allowed = swing_allowed _ s.agent (id_in s.slots c.args.tail.now) (id_in s.slots c.args.next.now) s.seen k.holds k.dummy.begun c.requires.successor;
    }

pub returns-clause-helped : goal.returns-clause-helped
returns-clause-helped g c =
    let d = c.args.links.now in
    let n = g.L.Links.numbers d in
    let s = g.L.Links.seat d c.args.p.now in
    let pass = c.requires.pass in
    let next = id_in s.slots c.args.next.now in
    let linked = successor_linked n s.seen _ next (g.met.L.Links.obeys d c.args.p.now pass) c.requires.successor in
    helps n s _ c.args.tail c.args.next c.change-done.result (linked_not_fresh n s next (λ i e. g.met.L.Links.fresh_is d c.args.p.now i pass e) linked)
    c.change-done.ensures.swung
