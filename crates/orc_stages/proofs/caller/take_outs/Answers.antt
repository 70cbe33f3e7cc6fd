use Rattle.std.proofs.Common.{◌≡◌, length, ap, arith, [], ◌∷◌, refl, ◌∙◌, length-append}
use Rattle.orc_board.specs.Stretches.{queue_view}
use Rattle.orc_stages.proofs.Shares.{taking_none, taking_more, taking_end, taking_last}
use Rattle.orc_stages.proofs.caller.take_outs.Goals as goal

pub loop-init : goal.loop-init
loop-init g c = record {
  usable = c.requires.usable;
  agent = refl;
  spare = let none : length c.args.outs.now.items ≡ 0 = ap length c.requires.none in omega (arith, none);
  taken = taking_none (queue_view g.Q.SharedQueue c.args.queue.now) _ _ _ c.requires.none;
}

pub loop-preserved : goal.loop-preserved
loop-preserved g c = record {
  usable = c.take_job.ensures.usable;
  agent = c.take_job.ensures.agent ∙ c.loop.invariant.agent;
  spare =
      rw c.push.ensures.items (omega (arith, c.loop.invariant.spare, c.push.ensures.spare, length-append c.loop.outs.items (c.in-Some-take_job.job ∷ [])));
  taken = rw c.push.ensures.items
      (taking_more (queue_view g.Q.SharedQueue c.args.queue.now) _ _ _ _ _ _ _ _ _ c.loop.invariant.taken c.loop.invariant.agent c.in-Some-take_job.is
      c.take_job.ensures.took);
}

pub returns-in-None-take_job-clause-taken : goal.returns-in-None-take_job-clause-taken
returns-in-None-take_job-clause-taken g c =
    taking_end (queue_view g.Q.SharedQueue c.args.queue.now) _ _ _ _ _ _ _ c.loop.invariant.taken c.loop.invariant.agent c.in-None-take_job.is
    c.take_job.ensures.took

pub returns-in-None-take_job-clause-last : goal.returns-in-None-take_job-clause-last
returns-in-None-take_job-clause-last g c = λ room.
    taking_last (queue_view g.Q.SharedQueue c.args.queue.now) _ _ _ _ _ _ _ c.loop.invariant.taken c.loop.invariant.agent c.in-None-take_job.is
    c.take_job.ensures.last
