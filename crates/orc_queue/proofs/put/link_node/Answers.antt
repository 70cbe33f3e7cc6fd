-- The tail's second value is the position; the node has the values of the Put, and is linked or not.
use Rattle.std.proofs.Common.{Some, [], arith, refl, subst, ℕ, ◌∷◌}
use Rattle.orc_heap.proofs.Pieces.{goes_on}
use Rattle.orc_heap.proofs.ByAnswer.{Swings-fresh, Swings-missed, Swings-moved}
use Rattle.orc_heap.proofs.Pieces.{missed_fresh}
use Rattle.orc_heap.specs.Calls.{Misses, event_of}
use Rattle.orc_heap.specs.Heap.{null, link_to}
use Rattle.orc_heap.specs.OwnEvents.{Puts}
use Rattle.orc_heap.specs.Slots.{id_in}
use Rattle.orc_heap.specs.declared.events.Act.TheVariants.{Move}
use Rattle.orc_heap.specs.declared.events.Place.TheVariants.{Next}
use Rattle.orc_history.specs.declared.queue.QueueEntry.TheVariants.{Put}
use Rattle.orc_fifo_rule.specs.declared.fifo.FifoNote.TheVariants.{Entry}
use Rattle.orc_queue.proofs.Holding.{pass_known}
use Rattle.orc_queue.proofs.Linking.{FillsNode, link_made, link_missed, put_may, read_position, tail_same}
use Rattle.orc_queue.proofs.put.link_node.Given.{Over}
use Rattle.orc_queue.proofs.put.link_node.Goals.{After-fill}
use Rattle.orc_queue.proofs.put.link_node.Goals as goal

-- the position behind the tail was read, and put into the fresh node
filled : (g : Over) (c : After-fill g) → let d = c.args.links.now in let s = g.L.Links.seat d c.args.p.now in
    FillsNode (g.L.Links.numbers d) c.args.job c.value-at.result (id_in s.slots c.args.tail.now) c.args.node.now s (g.L.Links.seat d c.value-at.new.p)
    (g.L.Links.seat d c.fill.new.p)
filled g c =
    let e = c.value-at.ensures in
    let known = pass_known g.L.Links g.met.L.Links.opens g.met.L.Links.allowed g.met.L.Links.obeys _ in
    record {
      before = known c.args.p.now c.requires.made c.requires.pass;
      after = known c.fill.new.p c.requires.made c.fill.ensures.pass;
      node = c.requires.node;
      named = c.requires.named;
      read = e.nothing;
      fill = c.fill.ensures.filled;
      at_is = read_position _ _ _ _ _ (known c.value-at.new.p c.requires.made e.pass) e.nothing c.requires.named.linked e.value;
      low = omega (arith, c.if-at-ge-POSITIONS.false);
    }

pub returns-then-at-ge-POSITIONS-clause-linked : goal.returns-then-at-ge-POSITIONS-clause-linked
returns-then-at-ge-POSITIONS-clause-linked g c =
    let e = c.value-at.ensures in
    let read = e.nothing in
    let known = pass_known g.L.Links g.met.L.Links.opens g.met.L.Links.allowed g.met.L.Links.obeys _ c.value-at.new.p c.requires.made e.pass in
    let at_is = read_position _ _ _ _ _ known read c.requires.named.linked e.value in
    record {
      piece = record { own = []; slots = read.slots; puts = read.puts; entries_are = refl; no_give = refl; few = omega arith };
      fresh = read.fresh;
      none = omega (arith, at_is, c.if-at-ge-POSITIONS.true);
    }

pub change-requires-clause-allowed : goal.change-requires-clause-allowed
change-requires-clause-allowed g c =
    put_may (filled g (goal.at.change-requires-clause-allowed g c).After-fill) c.args.tail.now c.agent-agent.result refl c.agent-agent.ensures

pub returns-then-change : goal.returns-then-change
returns-then-change g c =
    record {
      linked = let f = filled g (goal.at.returns-then-change g c).After-fill in
          let b = g.L.Links.seat _ c.fill.new.p in
          let t = g.L.Links.seat _ c.change.new.p in
          let e = c.change.ensures in
          let agent = c.agent-agent.result in
          let to = link_to (id_in b.slots c.args.node.now) in
          let moved = subst (λ (i : ℕ). Puts b (event_of b (Move (Next i) null to) (Some (Entry (Put agent c.args.job c.value-at.result))) ∷ []) t)
          (tail_same f c.args.tail.now) (Swings-moved e.swung c.if-change.true) in
          link_made f t agent (g.met.L.Links.allowed _ _ e.pass) c.agent-agent.ensures e.swung.slots (Swings-fresh e.swung c.if-change.true) moved;
      pass = c.change.ensures.pass;
      later = goes_on _ _ _ c.value-at.ensures.later (goes_on _ _ _ c.fill.ensures.later c.change.ensures.later);
    }

pub returns-else-change : goal.returns-else-change
returns-else-change g c =
    record {
      linked = let f = filled g (goal.at.returns-else-change g c).After-fill in
          let e = c.change.ensures in
          let d = c.args.links.now in
          let missed = subst (λ (i : ℕ). Misses (Next i) null (g.L.Links.seat d c.fill.new.p) (g.L.Links.seat d c.change.new.p)) (tail_same f c.args.tail.now)
          (Swings-missed e.swung c.if-change.false) in
          link_missed f _ (g.met.L.Links.allowed _ _ e.pass) e.swung.slots (missed_fresh e.swung c.if-change.false) missed;
      pass = c.change.ensures.pass;
      later = goes_on _ _ _ c.value-at.ensures.later (goes_on _ _ _ c.fill.ensures.later c.change.ensures.later);
    }
