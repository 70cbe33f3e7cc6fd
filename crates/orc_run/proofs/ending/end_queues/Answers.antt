-- The passes of all desks are all passes of their containers.
use Rattle.std.proofs.Common.{false, true, ◌∙◌}
use Rattle.orc_run.proofs.AtRest.{left_both}
use Rattle.orc_run.proofs.DeskPasses.{queue_passes, queue_saw, set_passes, set_saw}
use Rattle.orc_run.proofs.ending.end_queues.Goals as goal

pub queue_at_rest-requires-clause-usable : goal.queue_at_rest-requires-clause-usable
queue_at_rest-requires-clause-usable g c =
    (queue_passes _ _ c.args.queue c.args.rush c.args.set.now false c.args.desks.items c.requires.idle _ _ c.requires.none.0 c.passes_apart.ensures.queue).usable

pub queue_at_rest-requires-clause-agents : goal.queue_at_rest-requires-clause-agents
queue_at_rest-requires-clause-agents g c =
    (queue_passes _ _ c.args.queue c.args.rush c.args.set.now false c.args.desks.items c.requires.idle _ _ c.requires.none.0 c.passes_apart.ensures.queue).numbered

pub queue_at_rest-requires-clause-many : goal.queue_at_rest-requires-clause-many
queue_at_rest-requires-clause-many g c =
    (queue_passes _ _ c.args.queue c.args.rush c.args.set.now false c.args.desks.items c.requires.idle _ _ c.requires.none.0 c.passes_apart.ensures.queue).many
    ∙ c.requires.all.0

pub queue_at_rest-requires-2-clause-usable : goal.queue_at_rest-requires-2-clause-usable
queue_at_rest-requires-2-clause-usable g c =
    (queue_passes _ _ c.args.queue c.args.rush c.args.set.now true c.args.desks.items c.requires.idle _ _ c.requires.none.1 c.passes_apart.ensures.rush).usable

pub queue_at_rest-requires-2-clause-agents : goal.queue_at_rest-requires-2-clause-agents
queue_at_rest-requires-2-clause-agents g c =
    (queue_passes _ _ c.args.queue c.args.rush c.args.set.now true c.args.desks.items c.requires.idle _ _ c.requires.none.1 c.passes_apart.ensures.rush).numbered

pub queue_at_rest-requires-2-clause-many : goal.queue_at_rest-requires-2-clause-many
queue_at_rest-requires-2-clause-many g c =
    (queue_passes _ _ c.args.queue c.args.rush c.args.set.now true c.args.desks.items c.requires.idle _ _ c.requires.none.1 c.passes_apart.ensures.rush).many
    ∙ c.requires.all.1

pub returns-clause-queues : goal.returns-clause-queues
returns-clause-queues g c =
    let set = c.args.set.now in
    let desks = c.args.desks.items in
    left_both (λ q. q.links) _ _ _ c.args.queue c.args.rush _ _
    (record {
      passes = _;
      is = c.queue_at_rest.ensures;
      saw = queue_saw _ _ c.args.queue c.args.rush set desks c.requires.idle c.requires.seen false _ _ c.requires.none.0 c.passes_apart.ensures.queue;
    })
    (record {
      passes = _;
      is = c.queue_at_rest-2.ensures;
      saw = queue_saw _ _ c.args.queue c.args.rush set desks c.requires.idle c.requires.seen true _ _ c.requires.none.1 c.passes_apart.ensures.rush;
    })

pub returns-clause-set_usable : goal.returns-clause-set_usable
returns-clause-set_usable g c =
    (set_passes _ _ c.args.queue c.args.rush c.args.set.now c.args.desks.items c.requires.idle _ _ c.requires.none.2 c.passes_apart.ensures.set).usable

pub returns-clause-set_numbered : goal.returns-clause-set_numbered
returns-clause-set_numbered g c =
    (set_passes _ _ c.args.queue c.args.rush c.args.set.now c.args.desks.items c.requires.idle _ _ c.requires.none.2 c.passes_apart.ensures.set).numbered

pub returns-clause-set_passes : goal.returns-clause-set_passes
returns-clause-set_passes g c =
    (set_passes _ _ c.args.queue c.args.rush c.args.set.now c.args.desks.items c.requires.idle _ _ c.requires.none.2 c.passes_apart.ensures.set).many

pub returns-clause-set_seen : goal.returns-clause-set_seen
returns-clause-set_seen g c =
    set_saw _ _ c.args.queue c.args.rush c.args.set.now c.args.desks.items c.requires.idle c.requires.seen _ _ c.requires.none.2 c.passes_apart.ensures.set
