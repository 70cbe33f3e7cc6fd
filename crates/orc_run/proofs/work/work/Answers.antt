-- Both queues are made alike, and what is left of them is what their passes had seen.
use Rattle.std.proofs.Common.{◌∙◌, sym}
use Rattle.orc_board.specs.Stretches.{pick}
use Rattle.orc_at_rest.specs.Domains.{agents_of, queue_seed, run_bounds}
use Rattle.orc_run.proofs.AtRest.{made_both}
use Rattle.orc_run.proofs.work.work.Goals as goal

pub fresh_desks-requires-clause-queue_passes : goal.fresh_desks-requires-clause-queue_passes
fresh_desks-requires-clause-queue_passes g c = c.in_ok-queue.ensures.usable

pub fresh_desks-requires-clause-queue_fresh : goal.fresh_desks-requires-clause-queue_fresh
fresh_desks-requires-clause-queue_fresh g c = c.in_ok-queue.ensures.fresh

pub fresh_desks-requires-clause-queue_agents : goal.fresh_desks-requires-clause-queue_agents
fresh_desks-requires-clause-queue_agents g c = c.in_ok-queue.ensures.agents

pub fresh_desks-requires-clause-rush_passes : goal.fresh_desks-requires-clause-rush_passes
fresh_desks-requires-clause-rush_passes g c = c.in_ok-rush.ensures.usable

pub fresh_desks-requires-clause-rush_fresh : goal.fresh_desks-requires-clause-rush_fresh
fresh_desks-requires-clause-rush_fresh g c = c.in_ok-rush.ensures.fresh

pub fresh_desks-requires-clause-rush_agents : goal.fresh_desks-requires-clause-rush_agents
fresh_desks-requires-clause-rush_agents g c = c.in_ok-rush.ensures.agents

pub fresh_desks-requires-clause-set_passes : goal.fresh_desks-requires-clause-set_passes
fresh_desks-requires-clause-set_passes g c = c.requires.usable

pub fresh_desks-requires-clause-set_fresh : goal.fresh_desks-requires-clause-set_fresh
fresh_desks-requires-clause-set_fresh g c = c.requires.fresh

pub fresh_desks-requires-clause-set_agents : goal.fresh_desks-requires-clause-set_agents
fresh_desks-requires-clause-set_agents g c = c.requires.numbered

pub fresh_desks-requires-clause-same : goal.fresh_desks-requires-clause-same
fresh_desks-requires-clause-same g c = (
  c.in_ok-rush.ensures.passes ∙ sym c.in_ok-queue.ensures.passes,
  c.requires.passes ∙ sym (c.in_ok-queue.ensures.passes ∙ c.shape-shape.ensures.agents),
)

pub run_at_desks-requires-clause-posters : goal.run_at_desks-requires-clause-posters
run_at_desks-requires-clause-posters g c κs _ = c.args.task.now.some_posters.0

pub run_at_desks-requires-clause-good : goal.run_at_desks-requires-clause-good
run_at_desks-requires-clause-good g c κs _ = c.requires.good

pub run_at_desks-requires-clause-desks : goal.run_at_desks-requires-clause-desks
run_at_desks-requires-clause-desks g c κs _ = c.in_ok-desks.ensures.desks

pub run_at_desks-requires-clause-count : goal.run_at_desks-requires-clause-count
run_at_desks-requires-clause-count g c κs _ = c.in_ok-desks.desks.ok.0 ∙ c.in_ok-desks.ensures.count ∙ (c.in_ok-queue.ensures.passes ∙ c.shape-shape.ensures.agents)

pub run_at_desks-requires-clause-agents : goal.run_at_desks-requires-clause-agents
run_at_desks-requires-clause-agents g c κs _ = (
  c.in_ok-queue.ensures.all ∙ c.shape-shape.ensures.agents,
  c.in_ok-rush.ensures.all ∙ c.shape-shape.ensures.agents,
  c.requires.agents,
)

pub run_at_desks-requires-clause-first : goal.run_at_desks-requires-clause-first
run_at_desks-requires-clause-first g c κs _ = (c.in_ok-queue.ensures.first, c.in_ok-rush.ensures.first)

pub end_queues-queue-requires-clause-idle : goal.end_queues-queue-requires-clause-idle
end_queues-queue-requires-clause-idle g c = c.in_ok-replies.ensures.idle

pub end_queues-queue-requires-clause-seen : goal.end_queues-queue-requires-clause-seen
end_queues-queue-requires-clause-seen g c = c.in_ok-replies.ensures.seen

pub end_queues-queue-requires-clause-all : goal.end_queues-queue-requires-clause-all
end_queues-queue-requires-clause-all g c = (
  c.in_ok-replies.ensures.all ∙ sym (c.in_ok-queue.ensures.all ∙ c.shape-shape.ensures.agents),
  c.in_ok-replies.ensures.all ∙ sym (c.in_ok-rush.ensures.all ∙ c.shape-shape.ensures.agents),
)

pub end_queues-queue-requires-clause-none : goal.end_queues-queue-requires-clause-none
end_queues-queue-requires-clause-none g c = c.in_ok-passes.ensures.none

pub returns-clause-worked : goal.returns-clause-worked
returns-clause-worked g c =
    let sizes = c.shape-shape.ensures.sizes in
    let done = c.in_ok-replies.ensures in
    let agents = agents_of c.args.task.now.posters c.args.task.now.takers in
    record {
      queues = record {
        domains = λ rush. (pick c.in_ok-queue.queue c.in_ok-rush.rush rush).links;
        made = made_both (λ q. q.links) g.L.Links g.L.Domain.bounds (run_bounds c.args.task.now.rows 2 agents) c.in_ok-queue.queue c.in_ok-rush.rush queue_seed
            (record { sizes = c.in_ok-queue.ensures.bounds ∙ sizes; begins = c.in_ok-queue.ensures.opening })
            (record { sizes = c.in_ok-rush.ensures.bounds ∙ sizes; begins = c.in_ok-rush.ensures.opening });
        seen = _;
        left = c.end_queues-queue.ensures.queues;
      };
      set_seen = _;
      all_saw = c.end_queues-queue.ensures.set_seen;
      ran = record {
        follows = done.follows;
        queues_legal = done.queues_legal;
        set_legal = done.set_legal;
        empty = done.empty;
        reportable = done.reportable;
      };
    }
