-- The tail names the head and is helped on; or it has left the head, and the successor's job is taken, or not.
use Rattle.std.proofs.Common.{rules, ap, arith, refl, subst, sym, ℕ, ◌∙◌}
use Rattle.orc_heap.proofs.Pieces.{goes_on}
use Rattle.orc_heap.proofs.ByAnswer.{Tests-found, Tests-missed}
use Rattle.orc_heap.proofs.Pieces.{linked_not_fresh}
use Rattle.orc_heap.specs.Allowed.{HasLink, IsLinkedNode}
use Rattle.orc_heap.specs.Heap.{link_to}
use Rattle.orc_heap.specs.Seats.{heap_of}
use Rattle.orc_heap.specs.Slots.{Holds, Slots, id_in}
use Rattle.orc_fifo_rule.specs.Laws.Nodes.{job_linked}
use Rattle.orc_fifo_rule.specs.Watches.{IsLeftBehind}
use Rattle.orc_queue.specs.Turns.{Helps, TakesFrom}
use Rattle.orc_queue.specs.declared.take.TakeTurn.TheVariants.{Over as TakeOver, Took as TakeDone}
use Rattle.orc_queue.proofs.Holding.{pass_known}
use Rattle.orc_queue.proofs.Looking.{roots_there}
use Rattle.orc_queue.proofs.Pieces.{held_link_puts}
use Rattle.orc_queue.proofs.Taking.{ReadsSuccessor, head_missed, head_swung, past_helped, past_left, past_taken, successor_read, took_may}
use Rattle.orc_queue.proofs.take.take_next.Given.{Over}
use Rattle.orc_queue.proofs.take.take_next.Goals.{After-value-at}
use Rattle.orc_queue.proofs.take.take_next.Goals as goal

pub same-requires-clause-place : goal.same-requires-clause-place
same-requires-clause-place g c =
    let known = pass_known g.L.Links g.met.L.Links.opens g.met.L.Links.allowed g.met.L.Links.obeys _ in
    roots_there _ _ 1 (known c.args.p.now c.requires.made c.requires.pass) (omega arith)

pub help_tail-requires-clause-successor : goal.help_tail-requires-clause-successor
help_tail-requires-clause-successor g c =
    let e = c.same.ensures in
    held_link_puts _ _ _ _ (Tests-found e.tested c.if-same.true) (g.met.L.Links.allowed _ _ e.pass) c.args.head.now
    c.args.next.now e.tested.slots c.requires.successor

-- the tail has left the head, and the head still leads to the successor
past : (g : Over) (c : After-value-at g) → let d = c.args.links.now in let a = g.L.Links.seat d c.same.new.p in let n = g.L.Links.numbers d in
    IsLeftBehind (heap_of n a) (id_in a.slots c.args.head.now)
    × HasLink (heap_of n a) (id_in a.slots c.args.head.now) (link_to (id_in a.slots c.args.next.now))
past g c =
    let e = c.same.ensures in
    let known = pass_known g.L.Links g.met.L.Links.opens g.met.L.Links.allowed g.met.L.Links.obeys _ _ c.requires.made c.requires.pass in
    let all = g.met.L.Links.allowed _ _ e.pass in
    let miss = Tests-missed e.tested c.if-same.false in (
      past_left _ c.args.head.now _ _ known all e.tested.slots c.requires.named miss,
      held_link_puts _ _ _ _ miss.puts all c.args.head.now c.args.next.now e.tested.slots c.requires.successor,
    )

-- what the two reads say
read : (g : Over) (c : After-value-at g) → let d = c.args.links.now in let a = g.L.Links.seat d c.same.new.p in
    ReadsSuccessor (g.L.Links.numbers d) (id_in a.slots c.args.head.now) (id_in a.slots c.args.next.now) c.value-job.result c.value-at.result a
    (g.L.Links.seat d c.value-at.new.p)
read g c =
    let job = c.value-job.ensures in
    let at = c.value-at.ensures in
    let known = pass_known g.L.Links g.met.L.Links.opens g.met.L.Links.allowed g.met.L.Links.obeys _ in
    successor_read _ _ c.args.next.now _ _ _ _ _ (known c.same.new.p c.requires.made c.same.ensures.pass) (known c.value-at.new.p c.requires.made at.pass)
    (g.met.L.Links.allowed _ _ job.pass) (past g c).1 job.nothing at.nothing job.value at.value

pub overflow_sub-at : goal.overflow_sub-at
overflow_sub-at g c = omega (arith, (read g (goal.at.overflow_sub-at g c).After-value-at).at_is)

pub change-requires : goal.change-requires
change-requires g c =
    let at = (goal.at.change-requires g c).After-value-at in
    let r = read g at in
    let slots = r.nothing.slots ∙ c.same.ensures.tested.slots in
    record {
      pass = c.value-at.ensures.pass;
      linked = search rules;
      links = (
        subst (λ (z : Slots). Holds z c.args.head.now) (sym slots) c.requires.held.0,
        subst (λ (z : Slots). Holds z c.args.next.now) (sym slots) c.requires.held.1,
      );
      place = roots_there _ _ 0 r.after (omega arith);
      allowed = took_may _ _ _ c.args.head.now c.args.next.now c.agent-agent.result _ _ _ r (omega (arith, r.at_is)) c.agent-agent.ensures (past g at).0
          (past g at).1;
    }

pub help_tail-requires-clause-pass : goal.help_tail-requires-clause-pass
help_tail-requires-clause-pass g c = c.same.ensures.pass

pub value-job-requires-clause-pass : goal.value-job-requires-clause-pass
value-job-requires-clause-pass g c = c.same.ensures.pass

pub value-at-requires-clause-pass : goal.value-at-requires-clause-pass
value-at-requires-clause-pass g c = c.value-job.ensures.pass

pub returns-then-same : goal.returns-then-same
returns-then-same g c =
    record {
      took = let a = g.L.Links.seat _ c.same.new.p in
          let b = g.L.Links.seat _ c.help_tail.new.p in
          let e = c.same.ensures in
          let h = c.help_tail.ensures in
          let helped = subst (λ (z : Slots). Helps (id_in z c.args.head.now) (id_in z c.args.next.now) a b) e.tested.slots h.helped in
          past_helped _ _ _ _ _ _ a b (Tests-found e.tested c.if-same.true) (g.met.L.Links.allowed _ _ e.pass)
          (g.met.L.Links.allowed _ _ h.pass) e.tested.slots e.tested.fresh helped;
      pass = c.help_tail.ensures.pass;
      later = goes_on _ _ _ c.same.ensures.later c.help_tail.ensures.later;
    }

pub returns-then-change : goal.returns-then-change
returns-then-change g c =
    record {
      took = let r = read g (goal.at.returns-then-change g c).After-value-at in
          let d = c.args.links.now in
          let n = g.L.Links.numbers d in
          let s = g.L.Links.seat d c.args.p.now in
          let a = g.L.Links.seat d c.same.new.p in
          let b = g.L.Links.seat d c.value-at.new.p in
          let t = g.L.Links.seat d c.change.new.p in
          let next = c.args.next in
          let e = c.change.ensures in
          let test = c.same.ensures in
          let linked = subst (λ (i : ℕ). IsLinkedNode (heap_of n b) i) (sym (ap (λ (z : Slots). id_in z next.now) r.nothing.slots))
          (job_linked (heap_of n b) (id_in a.slots next.now) r.job _ r.holds) in
          let took = head_swung n a b t c.args.head next c.agent-agent.result c.value-job.result _ c.change.result c.agent-agent.ensures r.nothing
          (g.met.L.Links.allowed _ _ e.pass) e.swung c.if-change.true
          (linked_not_fresh n b (id_in b.slots next.now) (λ i is. g.met.L.Links.fresh_is d c.value-at.new.p i c.value-at.ensures.pass is) linked) in
          past_taken n (id_in s.slots c.args.head.now) (id_in s.slots next.now) s a t _ (Tests-missed test.tested c.if-same.false).puts
          (g.met.L.Links.allowed _ _ test.pass) test.tested.slots test.tested.fresh refl refl refl (omega arith) (TakeDone _ _) took;
      pass = c.change.ensures.pass;
      later = goes_on _ _ _ c.same.ensures.later (goes_on _ _ _ c.value-job.ensures.later (goes_on _ _ _ c.value-at.ensures.later c.change.ensures.later));
    }

pub returns-else-change : goal.returns-else-change
returns-else-change g c =
    record {
      took = let r = read g (goal.at.returns-else-change g c).After-value-at in
          let n = g.L.Links.numbers _ in
          let s = g.L.Links.seat _ c.args.p.now in
          let a = g.L.Links.seat _ c.same.new.p in
          let t = g.L.Links.seat _ c.change.new.p in
          let e = c.change.ensures in
          let test = c.same.ensures in
          let lost = head_missed n a _ t c.args.head c.args.next _ c.change.result r.nothing (g.met.L.Links.allowed _ _ e.pass) e.swung c.if-change.false in
          past_taken n (id_in s.slots c.args.head.now) (id_in s.slots c.args.next.now) s a t _ (Tests-missed test.tested c.if-same.false).puts
          (g.met.L.Links.allowed _ _ test.pass) test.tested.slots test.tested.fresh refl refl refl (omega arith) TakeOver
          (subst (λ (z : Slots). TakesFrom n (id_in z c.args.head.now) a TakeOver t) test.tested.slots lost);
      pass = c.change.ensures.pass;
      later = goes_on _ _ _ c.same.ensures.later (goes_on _ _ _ c.value-job.ensures.later (goes_on _ _ _ c.value-at.ensures.later c.change.ensures.later));
    }
