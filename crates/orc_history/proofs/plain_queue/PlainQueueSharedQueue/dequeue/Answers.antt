use Rattle.std.proofs.Common.{arith, ◌≡◌, []}
use Rattle.orc_history.proofs.Histories.{length-nil}
use Rattle.orc_history.proofs.StateAfter.{HoldsQueue-took, HoldsQueue-empty, IsQueuePass-after}
use Rattle.orc_history.proofs.plain_queue.PlainQueueSharedQueue.dequeue.Goals as goal
use Rattle.orc_history.proofs.plain_queue.PlainQueueSharedQueue.dequeue.Goals.{in-Some, in-None}

pub invariant_of-p : goal.invariant_of-p
invariant_of-p c =
    elim c.match-got.branch [
      | in-Some w ↦
          rw (c.push_reserved.ensures.items, w.push_reserved-is)
          (HoldsQueue-took _ _ _ _ _ _ _ _ _ c.p.invariant.0 w.in-Some.ensures.items, omega arith, omega arith)
      | in-None w ↦
          (let none : c.p.inside.items.items ≡ [] = length-nil (omega (arith, w.in-None.ensures.cases.0, c.p.inside.items.ok.0)) in
          rw (c.push_reserved.ensures.items, w.push_reserved-is, ← w.in-None.ensures.items)
          (HoldsQueue-empty _ _ _ _ _ _ c.p.invariant.0 none, omega arith, omega arith))
    ]

pub returns-clause-usable : goal.returns-clause-usable
returns-clause-usable c = IsQueuePass-after _ _ _ _ c.requires c.p.view_is (invariant_of-p c).0.legal
