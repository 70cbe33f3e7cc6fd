use Rattle.std.proofs.Common.{refl}
use Rattle.orc_board.specs.Desk.{both_seen}
use Rattle.orc_board.specs.Stretches.{queue_views}
use Rattle.orc_board.proofs.Rows.{next_of_rush, next_of_queue, next_of_none}
use Rattle.orc_board.proofs.desk.take_next.Goals as goal

pub returns-in-Some-clause-took : goal.returns-in-Some-clause-took
returns-in-Some-clause-took g c =
    next_of_rush (queue_views g.Q.SharedQueue c.args.queue.now c.args.rush.now) _ _ _ (both_seen g.Q.SharedQueue c.args.p.now c.args.hurried.now)
    (both_seen g.Q.SharedQueue c.args.p.now c.take_job.new.p) c.requires.agent c.take_job.ensures.took c.take_job.ensures.last _ _ c.in-Some.is refl

pub returns-in-Some-take_job-clause-took : goal.returns-in-Some-take_job-clause-took
returns-in-Some-take_job-clause-took g c =
    next_of_queue (queue_views g.Q.SharedQueue c.args.queue.now c.args.rush.now) _ _ _ (both_seen g.Q.SharedQueue c.args.p.now c.args.hurried.now)
    (both_seen g.Q.SharedQueue c.take_job-in-None.new.p c.take_job.new.p) c.requires.agent c.take_job.ensures.took c.take_job.ensures.last _ c.in-None.is
    c.take_job-in-None.ensures.took c.take_job-in-None.ensures.last _ _ c.in-Some-take_job.is

pub returns-in-None-take_job-clause-took : goal.returns-in-None-take_job-clause-took
returns-in-None-take_job-clause-took g c =
    next_of_none (queue_views g.Q.SharedQueue c.args.queue.now c.args.rush.now) _ _ _ (both_seen g.Q.SharedQueue c.args.p.now c.args.hurried.now)
    (both_seen g.Q.SharedQueue c.take_job-in-None.new.p c.take_job.new.p) c.requires.agent c.take_job.ensures.took c.take_job.ensures.last _ c.in-None.is
    c.take_job-in-None.ensures.took c.take_job-in-None.ensures.last c.in-None-take_job.is
