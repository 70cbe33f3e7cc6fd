use Rattle.std.proofs.Common.{◌∙◌, [], ◌∷◌}
use Rattle.orc_history.specs.declared.queue.QueueEntry.TheVariants.{Put}
use Rattle.orc_history.specs.declared.queue.QueueRefused.TheVariants.{NoNode, Positions}
use Rattle.orc_board.specs.Stretches.{of_queue}
use Rattle.orc_board.proofs.Asking.{asks_first, queue_asks, queue_made, queue_refused}
use Rattle.orc_board.proofs.again.put_job.Goals as goal

pub loop-init : goal.loop-init
loop-init g c = asks_first of_queue _ _ _ _ _ c.requires

pub returns-in-Ok-clause-put : goal.returns-in-Ok-clause-put
returns-in-Ok-clause-put g c =
    queue_made g.Q.SharedQueue c.args.queue.now _ _ _ c.loop.invariant c.enqueue.ensures.later (λ a. Put a c.args.job c.in-Ok.at ∷ []) c.in-Ok.ensures.put

pub returns-in-Err-NoNode-clause-refused : goal.returns-in-Err-NoNode-clause-refused
returns-in-Err-NoNode-clause-refused g c =
    queue_refused g.Q.SharedQueue c.args.queue.now _ _ _ c.loop.invariant c.enqueue.ensures.later c.in-Err-NoNode.ensures.none NoNode _
    c.in-Err-NoNode.field-0-is c.in-Err-NoNode.ensures.licence

pub returns-in-Err-Positions-clause-refused : goal.returns-in-Err-Positions-clause-refused
returns-in-Err-Positions-clause-refused g c =
    queue_refused g.Q.SharedQueue c.args.queue.now _ _ _ c.loop.invariant c.enqueue.ensures.later c.in-Err-Positions.ensures.none Positions _
    c.in-Err-Positions.field-0-is c.in-Err-Positions.ensures.licence

pub loop-preserved : goal.loop-preserved
loop-preserved g c =
    queue_asks g.Q.SharedQueue c.args.queue.now _ _ _ c.loop.invariant c.enqueue.ensures.later c.in-Err-Again.ensures.none c.enqueue.ensures.usable
    c.enqueue.ensures.agent

pub returns-in-Ok-clause-agent : goal.returns-in-Ok-clause-agent
returns-in-Ok-clause-agent g c = c.enqueue.ensures.agent ∙ c.loop.invariant.agent

pub returns-in-Err-NoNode-clause-agent : goal.returns-in-Err-NoNode-clause-agent
returns-in-Err-NoNode-clause-agent g c = c.enqueue.ensures.agent ∙ c.loop.invariant.agent

pub returns-in-Err-Positions-clause-agent : goal.returns-in-Err-Positions-clause-agent
returns-in-Err-Positions-clause-agent g c = c.enqueue.ensures.agent ∙ c.loop.invariant.agent
