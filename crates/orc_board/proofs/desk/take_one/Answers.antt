use Rattle.std.proofs.Common.{refl, subst, sym, ◌∙◌, ap}
use Rattle.orc_board.specs.Stretches.{queue_views, set_view}
use Rattle.orc_board.proofs.Rows.{passed_none, passed_more, taken_none, taken_some, none_last, some_last}
use Rattle.orc_board.proofs.desk.take_one.Goals as goal

pub loop-init : goal.loop-init
loop-init g c = record {
  queue = c.requires.desk.queue_pass;
  rush = c.requires.desk.rush_pass;
  agent = refl;
  rush_agent = c.requires.desk.rush_agent;
  set = refl;
  passed = passed_none (queue_views g.Q.SharedQueue c.args.queue.now c.args.rush.now) _ _ _;
}

pub returns-in-None-take_next-clause-row : goal.returns-in-None-take_next-clause-row
returns-in-None-take_next-clause-row g c =
    taken_none (queue_views g.Q.SharedQueue c.args.queue.now c.args.rush.now)
    (set_view g.S.SharedSet c.args.set.now) _ _ _ _ _ _ _ _ _ c.loop.invariant.passed c.loop.invariant.agent c.in-None-take_next.is c.take_next.ensures.took
    (ap g.S.SharedSet.journal c.loop.invariant.set)

pub returns-in-Some-posted_id-clause-row : goal.returns-in-Some-posted_id-clause-row
returns-in-Some-posted_id-clause-row g c =
    taken_some (queue_views g.Q.SharedQueue c.args.queue.now c.args.rush.now)
    (set_view g.S.SharedSet c.args.set.now) _ _ _ _ _ _ _ _ _ c.close_job.result _ _ _ _ _ _ c.loop.invariant.passed c.loop.invariant.agent
    (ap (g.S.SharedSet.agent_of c.args.set.now) c.loop.invariant.set ∙ c.requires.desk.set_agent) c.in-Some-take_next.is c.take_next.ensures.took
    (ap g.S.SharedSet.journal c.loop.invariant.set) c.close_job.ensures.reply.1 c.close_job.ensures.reply.2 c.close_job.ensures.reply.3
    c.in-Some-posted_id.ensures.yes c.close_job.ensures.closed

pub loop-preserved : goal.loop-preserved
loop-preserved g c = record {
  queue = c.take_next.ensures.queue;
  rush = c.take_next.ensures.rush;
  agent = c.take_next.ensures.queue_agent ∙ c.loop.invariant.agent;
  rush_agent = c.take_next.ensures.rush_agent ∙ c.loop.invariant.rush_agent;
  set = c.loop.invariant.set;
  passed =
      passed_more (queue_views g.Q.SharedQueue c.args.queue.now c.args.rush.now) _ _ _ _ _ _ _ _ _ _ c.loop.invariant.passed c.loop.invariant.agent
      c.in-Some-take_next.is c.take_next.ensures.took c.in-None-posted_id.ensures.no;
}

pub returns-in-None-take_next-clause-last : goal.returns-in-None-take_next-clause-last
returns-in-None-take_next-clause-last g c =
    none_last (queue_views g.Q.SharedQueue c.args.queue.now c.args.rush.now) _ _ _ _ _ _ _ c.loop.invariant.passed c.loop.invariant.agent
    c.in-None-take_next.is c.take_next.ensures.took

pub returns-in-Some-posted_id-clause-last : goal.returns-in-Some-posted_id-clause-last
returns-in-Some-posted_id-clause-last g c =
    some_last (queue_views g.Q.SharedQueue c.args.queue.now c.args.rush.now) _ _ _ _ _ _ _ c.close_job.result _ _ _ c.loop.invariant.passed
    c.loop.invariant.agent c.in-Some-take_next.is c.take_next.ensures.took c.close_job.ensures.reply.1 c.close_job.ensures.reply.2
    c.close_job.ensures.reply.3

pub take_next-requires-clause-agent : goal.take_next-requires-clause-agent
take_next-requires-clause-agent g c = c.loop.invariant.rush_agent ∙ sym c.loop.invariant.agent

pub close_job-requires-clause-set : goal.close_job-requires-clause-set
close_job-requires-clause-set g c = subst (g.S.SharedSet.usable c.args.set.now) (sym c.loop.invariant.set) c.requires.desk.set_pass

pub returns-in-None-take_next-clause-desk : goal.returns-in-None-take_next-clause-desk
returns-in-None-take_next-clause-desk g c = record {
  queue_pass = c.take_next.ensures.queue;
  rush_pass = c.take_next.ensures.rush;
  set_pass = subst (g.S.SharedSet.usable c.args.set.now) (sym c.loop.invariant.set) c.requires.desk.set_pass;
  queue_agent = c.take_next.ensures.queue_agent ∙ c.loop.invariant.agent;
  rush_agent = c.take_next.ensures.rush_agent ∙ c.loop.invariant.rush_agent;
  set_agent = ap (g.S.SharedSet.agent_of c.args.set.now) c.loop.invariant.set ∙ c.requires.desk.set_agent;
}

pub returns-in-Some-posted_id-clause-desk : goal.returns-in-Some-posted_id-clause-desk
returns-in-Some-posted_id-clause-desk g c = record {
  queue_pass = c.take_next.ensures.queue;
  rush_pass = c.take_next.ensures.rush;
  set_pass = c.close_job.ensures.set;
  queue_agent = c.take_next.ensures.queue_agent ∙ c.loop.invariant.agent;
  rush_agent = c.take_next.ensures.rush_agent ∙ c.loop.invariant.rush_agent;
  set_agent =
      c.close_job.ensures.agent ∙ (ap (g.S.SharedSet.agent_of c.args.set.now) c.loop.invariant.set ∙ c.requires.desk.set_agent);
}
