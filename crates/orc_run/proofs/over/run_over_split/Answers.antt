-- The work over the set, and then the set's domain at rest.
use Rattle.std.proofs.Common.{◌∙◌, arith, refl}
use Rattle.orc_run.proofs.over.run_over_split.Goals as goal

pub split_set_over-requires-clause-size : goal.split_set_over-requires-clause-size
split_set_over-requires-clause-size g c = (omega arith, 8, refl)

pub returns : goal.returns
returns g c =
    let done = c.in_ok-queue.ensures.worked in
    record {
      queues = done.queues;
      set = c.in_ok-set.set.links;
      set_made = record { sizes = c.in_ok-set.ensures.bounds ∙ c.shape-shape.ensures.sizes; begins = c.in_ok-set.ensures.opening };
      set_seen = done.set_seen;
      set_is = record { passes = _; is = c.split_set_at_rest.ensures; saw = done.all_saw };
      ran = done.ran;
    }
