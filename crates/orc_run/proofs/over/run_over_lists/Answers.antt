-- The work over the set, and then the set's domain at rest.
use Rattle.std.proofs.Common.{◌∙◌}
use Rattle.orc_run.proofs.over.run_over_lists.Goals as goal

pub returns : goal.returns
returns g c =
    let done = c.in_ok-queue.ensures.worked in
    record {
      queues = done.queues;
      set = c.in_ok-set.set.list.links;
      set_made = record { sizes = c.in_ok-set.ensures.bounds ∙ c.shape-shape.ensures.sizes; begins = c.in_ok-set.ensures.opening };
      set_seen = done.set_seen;
      set_is = record { passes = _; is = c.set_at_rest.ensures; saw = done.all_saw };
      ran = done.ran;
    }
