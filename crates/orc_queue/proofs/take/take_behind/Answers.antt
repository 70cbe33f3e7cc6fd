-- By what the look of the head's link found.
use Rattle.std.proofs.Common.{subst, sym, ℕ}
use Rattle.orc_heap.proofs.Pieces.{goes_on}
use Rattle.orc_heap.specs.Heap.{null}
use Rattle.orc_heap.specs.declared.events.Place.TheVariants.{Next}
use Rattle.orc_fifo_rule.proofs.Coming.{empty_allowed}
use Rattle.orc_queue.proofs.Taking.{end_empty, end_lost}
use Rattle.orc_heap.specs.Seats.{heap_of}
use Rattle.orc_heap.specs.Slots.{Slots, id_in}
use Rattle.orc_fifo_rule.specs.Watches.{WasNamed}
use Rattle.orc_queue.specs.Turns.{HasStopped}
use Rattle.orc_queue.proofs.Holding.{found_holds, found_kept, found_other, found_other_id}
use Rattle.orc_queue.proofs.Looking.{next_link, null_named}
use Rattle.orc_queue.proofs.Pieces.{named_puts}
use Rattle.orc_queue.proofs.TakeTurns.{behind_differs, behind_empty, behind_lost, next_piece, next_turn}
use Rattle.orc_queue.proofs.take.take_behind.Goals as goal

pub same-requires-clause-allowed : goal.same-requires-clause-allowed
same-requires-clause-allowed g c =
    let f = c.in-Nothing.ensures.looked in
    let a = g.L.Links.seat c.args.links.now c.hold_next.new.p in
    rw c.agent-agent.ensures
    (empty_allowed _ a.agent (id_in a.slots c.args.head.now) a.seen f.after.holds f.after.dummy.begun (null_named _ _ a 0 c.args.head.now f c.requires.named))

pub take_next-turn-requires : goal.take_next-turn-requires
take_next-turn-requires g c =
    let f = c.in-Node.ensures.looked in
    let n = g.L.Links.numbers _ in
    let a = g.L.Links.seat _ c.hold_next.new.p in
    record {
      pass = c.in-Node.ensures.pass;
      made = c.requires.made;
      held = (found_other f.node _ c.requires.held, found_holds f.node);
      named = subst (λ (i : ℕ). WasNamed (heap_of n a) 0 i) (sym (found_other_id f.node _ c.requires.held))
          (named_puts n _ a _ f.puts f.after.all 0 _ c.requires.named);
      successor = next_link _ _ _ _ _ _ c.requires.held f;
    }

pub same-requires-clause-pass : goal.same-requires-clause-pass
same-requires-clause-pass g c = c.in-Nothing.ensures.pass

pub release-requires : goal.release-requires
release-requires g c =
    record {
      held = let a = g.L.Links.seat _ c.hold_next.new.p in
          let next = id_in a.slots c.in-Node.next in
          found_kept c.in-Node.ensures.looked.node
          (next_piece _ (id_in a.slots c.args.head.now) next a _ c.take_next-turn.result c.take_next-turn.ensures.took).slots;
      pass = c.take_next-turn.ensures.pass;
    }

pub returns-then-same : goal.returns-then-same
returns-then-same g c =
    record {
      took = let f = c.in-Nothing.ensures.looked in
          let d = c.args.links.now in
          behind_empty (g.L.Links.numbers d) _ _ (g.L.Links.seat d c.hold_next.new.p) (g.L.Links.seat d c.same.new.p) c.requires.named.linked f.puts f.after.all
          f.slots f.fresh (end_empty _ _ c.args.head c.agent-agent.result c.same.result c.agent-agent.ensures c.same.ensures.tested c.if-same.true);
      pass = c.same.ensures.pass;
      later = goes_on _ _ _ c.in-Nothing.ensures.later c.same.ensures.later;
    }

pub returns-else-same : goal.returns-else-same
returns-else-same g c =
    record {
      took = let f = c.in-Nothing.ensures.looked in
          let e = c.same.ensures in
          let d = c.args.links.now in
          let n = g.L.Links.numbers d in
          let a = g.L.Links.seat d c.hold_next.new.p in
          let t = g.L.Links.seat d c.same.new.p in
          let linked = (null_named _ _ a 0 c.args.head.now f c.requires.named).linked in
          let lost = end_lost n a t c.args.head _ c.same.result linked (g.met.L.Links.allowed _ _ e.pass) e.tested c.if-same.false in
          behind_lost n _ _ a t c.requires.named.linked f.puts f.after.all f.slots f.fresh
          (subst (λ (z : Slots). HasStopped n 1 (Next (id_in z c.args.head.now)) null (λ own. ⊥) a t) f.slots lost);
      pass = c.same.ensures.pass;
      later = goes_on _ _ _ c.in-Nothing.ensures.later c.same.ensures.later;
    }

pub returns-in-Node : goal.returns-in-Node
returns-in-Node g c =
    record {
      took = let d = c.args.links.now in
          let a = g.L.Links.seat d c.hold_next.new.p in
          let b = g.L.Links.seat d c.take_next-turn.new.p in
          let e = c.take_next-turn.ensures in
          let untouched = g.met.L.Links.fresh_is d in
          next_turn (g.L.Links.numbers d) _ a b _ 2 c.args.head.now c.in-Node.next c.requires.held c.in-Node.ensures.looked (g.met.L.Links.allowed _ _ e.pass)
          (λ i is. untouched c.take_next-turn.new.p i e.pass is) c.release.ensures.released c.take_next-turn.result e.took;
      pass = c.release.ensures.pass;
      later = goes_on _ _ _ c.in-Node.ensures.later (goes_on _ _ _ c.take_next-turn.ensures.later c.release.ensures.later);
    }

pub returns-in-Differs : goal.returns-in-Differs
returns-in-Differs g c =
    record {
      took = behind_differs _ c.in-Differs.ensures.looked c.requires.named.linked;
      pass = c.in-Differs.ensures.pass;
      later = c.in-Differs.ensures.later;
    }
