-- Over a reclaiming domain what is left has one actual journal, which the replies follow.
use Rattle.std.proofs.Common.{refl}
use Rattle.orc_at_rest.proofs.Actual.{left_journal, left_rest, left_reuse}
use Rattle.orc_at_rest.proofs.Seeds.{seed_told}
use Rattle.orc_heap.specs.declared.seed.Seed.TheVariants.{Empty}
use Rattle.orc_pairs_rule.specs.Laws.Kept.{pairs_rises}
use Rattle.orc_pairs_rule.specs.PairsDiscipline.{pairs_rank}
use Rattle.orc_domain.specs.Passes.{domain_bounds}
use Rattle.orc_watch_domain.proofs.Growing.{follow_at_rest}
use Rattle.orc_watch_domain.proofs.watch.watch_new_cell.Goals as goal
use Rattle.orc_watch_domain.specs.Runs.{watch_bounds}

pub returns : goal.returns
returns g c =
    let w = c.in_ok-cell.ensures in
    let b = watch_bounds c.args.workers c.args.rows in
    record {
      journal = left_journal _ _ _ w.left.is b w.made.sizes Empty (seed_told _ Empty w.made.begins);
      replies = follow_at_rest _ (domain_bounds w.domain) (λ j. refl) (λ agent j from to. refl) (λ agent j from to. refl)
          (λ agent why j from to. refl) (λ by. refl) b c.args.lines.now c.args.workers _ _ _ _ _ w.made.sizes (w.left.is.journal w.seen w.left.saw) w.follow;
      reuse = left_reuse _ _ _ w.left.is b w.made.sizes;
      rest = left_rest _ _ _ w.left.is b w.made.sizes pairs_rank pairs_rises;
    }
