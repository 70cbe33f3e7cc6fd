-- By how the turns ended.
use Rattle.std.proofs.Common.{None, Some}
use Rattle.orc_queue.proofs.Answering.{take_made, take_tired}
use Rattle.orc_queue.proofs.take.take_job.Goals as goal

pub returns-in-Took-clause-answered : goal.returns-in-Took-clause-answered
returns-in-Took-clause-answered g c =
    let took = c.in-Took.ensures.took in
    take_made c.args.turns (Some (c.in-Took.job, c.in-Took.at)) _ _ c.requires.idle took.0 took.1.piece took.1.fresh

pub returns-in-Empty-clause-answered : goal.returns-in-Empty-clause-answered
returns-in-Empty-clause-answered g c =
    let took = c.in-Empty.ensures.took in
    take_made c.args.turns None _ _ c.requires.idle took.0 took.1.piece took.1.fresh

pub returns-in-Over-clause-answered : goal.returns-in-Over-clause-answered
returns-in-Over-clause-answered g c =
    take_tired _ c.args.turns _ _ c.requires.idle c.in-Over.ensures.took
