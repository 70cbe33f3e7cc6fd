-- The tail is swung on once the node is linked.
use Rattle.std.proofs.Common.{rules, subst, sym}
use Rattle.orc_heap.proofs.Pieces.{goes_on}
use Rattle.orc_heap.specs.Slots.{Holds, Slots, id_in}
use Rattle.orc_queue.specs.Turns.{Helps}
use Rattle.orc_queue.proofs.Linking.{link_helped}
use Rattle.orc_queue.proofs.put.link_behind.Goals as goal
use Rattle.orc_heap.specs.Allowed.{HasLink}
use Rattle.orc_heap.specs.Heap.{link_to}
use Rattle.orc_heap.specs.Seats.{heap_of}

pub help_tail-requires : goal.help_tail-requires
help_tail-requires g c =
    let l = c.in-Put.ensures.linked in
    let slots = sym l.puts.piece.slots in
    let tail = c.args.tail.now in
    let node = c.args.node.now in
    let d = c.args.links.now in
    let link = subst (λ (z : Slots). HasLink (heap_of (g.L.Links.numbers d) (g.L.Links.seat d c.link_node.new.p)) (id_in z tail) (link_to (id_in z node))) slots
    l.link in
    record {
      pass = search rules;
      made = c.requires.made;
      held = (subst (λ (z : Slots). Holds z tail) slots c.requires.tail, subst (λ (z : Slots). Holds z node) slots c.requires.node.held);
      successor = link;
    }

pub returns-in-Put-clause-linked : goal.returns-in-Put-clause-linked
returns-in-Put-clause-linked g c =
    let l = c.in-Put.ensures.linked in
    let e = c.help_tail.ensures in
    let u = g.L.Links.seat _ c.link_node.new.p in
    let t = g.L.Links.seat _ c.help_tail.new.p in
    let helped = subst (λ (z : Slots). Helps (id_in z c.args.tail.now) (id_in u.slots c.args.node.now) u t) l.puts.piece.slots e.helped in
    link_helped _ _ _ _ _ _ _ _ _ (g.met.L.Links.allowed _ _ e.pass) l helped

pub returns-in-Put-clause-pass : goal.returns-in-Put-clause-pass
returns-in-Put-clause-pass g c = c.help_tail.ensures.pass

pub returns-in-Put-clause-later : goal.returns-in-Put-clause-later
returns-in-Put-clause-later g c = goes_on _ _ _ c.in-Put.ensures.later c.help_tail.ensures.later
