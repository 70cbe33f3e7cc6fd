use Rattle.std.proofs.Common.{◌∙◌, Some, None}
use Rattle.orc_board.specs.Stretches.{queue_view, of_queue}
use Rattle.orc_board.proofs.Asking.{asks_first, queue_asks}
use Rattle.orc_board.proofs.CallStretches.{dequeue_call, dequeue_last}
use Rattle.orc_board.proofs.again.take_job.Goals as goal

pub loop-init : goal.loop-init
loop-init g c = asks_first of_queue _ _ _ _ _ c.requires

pub returns-in-Ok-Some-clause-took : goal.returns-in-Ok-Some-clause-took
returns-in-Ok-Some-clause-took g c =
    dequeue_call (queue_view g.Q.SharedQueue c.args.queue.now) _ _ c.loop.invariant.agent
    (Some c.in-Ok-Some.got) _ _ _ c.loop.invariant.quiet c.dequeue.ensures.later (rw c.in-Ok-Some.field-0-is at c.in-Ok-Some.ensures.took)

pub returns-in-Ok-None-clause-took : goal.returns-in-Ok-None-clause-took
returns-in-Ok-None-clause-took g c =
    dequeue_call (queue_view g.Q.SharedQueue c.args.queue.now) _ _ c.loop.invariant.agent None _ _ _ c.loop.invariant.quiet c.dequeue.ensures.later
    (rw c.in-Ok-None.field-0-is at c.in-Ok-None.ensures.took)

pub returns-in-Ok-Some-clause-last : goal.returns-in-Ok-Some-clause-last
returns-in-Ok-Some-clause-last g c =
    dequeue_last (queue_view g.Q.SharedQueue c.args.queue.now) _ _ c.loop.invariant.agent (Some c.in-Ok-Some.got) _ _ _ c.loop.invariant.quiet
    (rw c.in-Ok-Some.field-0-is at c.in-Ok-Some.ensures.took)

pub returns-in-Ok-None-clause-last : goal.returns-in-Ok-None-clause-last
returns-in-Ok-None-clause-last g c =
    dequeue_last (queue_view g.Q.SharedQueue c.args.queue.now) _ _ c.loop.invariant.agent None _ _ _ c.loop.invariant.quiet
    (rw c.in-Ok-None.field-0-is at c.in-Ok-None.ensures.took)

pub loop-preserved : goal.loop-preserved
loop-preserved g c =
    queue_asks g.Q.SharedQueue c.args.queue.now _ _ _ c.loop.invariant c.dequeue.ensures.later c.in-Err.ensures.none c.dequeue.ensures.usable
    c.dequeue.ensures.agent

pub returns-in-Ok-Some-clause-agent : goal.returns-in-Ok-Some-clause-agent
returns-in-Ok-Some-clause-agent g c = c.dequeue.ensures.agent ∙ c.loop.invariant.agent

pub returns-in-Ok-None-clause-agent : goal.returns-in-Ok-None-clause-agent
returns-in-Ok-None-clause-agent g c = c.dequeue.ensures.agent ∙ c.loop.invariant.agent
