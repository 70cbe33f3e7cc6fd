use Rattle.std.proofs.Common.{arith, ◌≡◌, ◌<◌, length, ap, ◌∙◌}
use Rattle.orc_history.specs.PlainQueue.{QueuePassView, QueueView}
use Rattle.orc_history.proofs.StateAfter.{HoldsQueue-put, IsQueuePass-after}
use Rattle.orc_history.proofs.plain_queue.PlainQueueSharedQueue.enqueue.Goals as goal

pub invariant_of-p : goal.invariant_of-p
invariant_of-p c =
    let room : c.p.inside.room ≡ c.args.self.now.room = ap (λ (v : QueuePassView). v.room) c.p.view_is ∙ c.requires.same_room in
    let own : c.self.inside.room ≡ c.args.self.now.room = ap (λ (v : QueueView). v.room) c.self.view_is in
    let place : length c.p.inside.items.items < c.p.inside.room = omega (arith, c.p.inside.items.ok.0) in
    rw (c.push_back_reserved.ensures.items, c.push_reserved.ensures.items)
    (HoldsQueue-put _ _ _ _ _ _ _ c.p.invariant.0 place (omega arith), omega arith, omega arith)

pub returns-clause-usable : goal.returns-clause-usable
returns-clause-usable c = IsQueuePass-after _ _ _ _ c.requires c.p.view_is (invariant_of-p c).0.legal
