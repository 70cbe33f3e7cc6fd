-- Over reclaiming domains what is left has an actual journal each.
use Rattle.std.proofs.Common.{ap, ◌+◌}
use Rattle.orc_heap.specs.Journals.{run_heap}
use Rattle.orc_fifo_rule.specs.Laws.Kept.{fifo_rises}
use Rattle.orc_fifo_rule.specs.QueueDiscipline.{fifo_rank, position_of}
use Rattle.orc_chain_rule.specs.ChainDiscipline.{chain_rank, entries_of as chain_entries}
use Rattle.orc_chain_rule.specs.Laws.Kept.{chain_rises}
use Rattle.orc_split_rule.specs.SplitDiscipline.{entries_of as split_entries, split_rank}
use Rattle.orc_split_rule.specs.Laws.Kept.{split_rises}
use Rattle.orc_domain.specs.Passes.{domain_bounds, domain_numbers, domain_opening}
use Rattle.orc_at_rest.proofs.Actual.{left_journal, left_rest, left_reuse}
use Rattle.orc_at_rest.proofs.Seeds.{seed_told}
use Rattle.orc_run.specs.Containers.{set_over, split_over}
use Rattle.orc_at_rest.specs.Domains.{agents_of, empty_seed, queue_bounds, queue_seed, run_bounds}
use Rattle.orc_run.specs.Sets.{most_buckets}
use Rattle.orc_run.proofs.AtRest.{first_is, of_choice, ran_at_rest}
use Rattle.orc_run.proofs.Chosen.{of_lists, of_split}
use Rattle.orc_run.proofs.run.run_lines.Goals as goal

pub returns-in-Lists : goal.returns-in-Lists
returns-in-Lists g c =
    let chose = of_lists _ _ _ _ _ _ _ _ _ _ _ _ _ _ _ _ c.args.set c.in_ok-queue.field-0.set _ c.in-Lists.is c.in_ok-queue.ensures in
    let w = chose.2 in
    let q = w.queues in
    let posters = c.args.task.now.posters in
    let takers = c.args.task.now.takers in
    let b = queue_bounds posters takers c.args.task.now.rows in
    let s = run_bounds c.args.task.now.rows chose.0 (agents_of posters takers) in
    let quiet = w.set_is.is.journal w.set_seen w.set_is.saw in
    of_choice _ _ _ chose.1 record {
      queue_journals = λ rush. left_journal _ _ _ (q.left rush).is b (q.made rush).sizes queue_seed (seed_told _ queue_seed (q.made rush).begins);
      set_journal = left_journal _ _ _ w.set_is.is s w.set_made.sizes empty_seed (seed_told _ empty_seed w.set_made.begins);
      replies = ran_at_rest (set_over (domain_bounds w.set)) (set_over s) w.set_seen _ c.args.task.now.lines.now posters takers _ _ q.seen _
          (λ rush. position_of (run_heap (domain_numbers (q.domains rush)) (domain_opening (q.domains rush))) 0)
          (λ rush. domain_bounds (q.domains rush)) b (λ rush. first_is _ _ (q.made rush).begins) (λ rush. (q.made rush).sizes)
          (λ rush. (q.left rush).is.journal (q.seen rush) (q.left rush).saw) (ap set_over w.set_made.sizes)
          (record { later = quiet.later; same = ap chain_entries quiet.quiet }) w.ran;
      queues_reuse = λ rush. left_reuse _ _ _ (q.left rush).is b (q.made rush).sizes;
      set_reuse = left_reuse _ _ _ w.set_is.is s w.set_made.sizes;
      queues_rest = λ rush. left_rest _ _ _ (q.left rush).is b (q.made rush).sizes fifo_rank fifo_rises;
      set_rest = left_rest _ _ _ w.set_is.is s w.set_made.sizes chain_rank chain_rises;
    }

pub returns-in-Split : goal.returns-in-Split
returns-in-Split g c =
    let chose = of_split _ _ _ _ _ _ _ _ _ _ _ _ _ _ _ _ c.args.set c.in_ok-queue.field-0.set _ c.in-Split.is c.in_ok-queue.ensures in
    let w = chose.1 in
    let q = w.queues in
    let posters = c.args.task.now.posters in
    let takers = c.args.task.now.takers in
    let b = queue_bounds posters takers c.args.task.now.rows in
    let s = run_bounds c.args.task.now.rows (most_buckets + 1) (agents_of posters takers) in
    let quiet = w.set_is.is.journal w.set_seen w.set_is.saw in
    of_choice _ _ _ chose.0 record {
      queue_journals = λ rush. left_journal _ _ _ (q.left rush).is b (q.made rush).sizes queue_seed (seed_told _ queue_seed (q.made rush).begins);
      set_journal = left_journal _ _ _ w.set_is.is s w.set_made.sizes empty_seed (seed_told _ empty_seed w.set_made.begins);
      replies = ran_at_rest (split_over (domain_bounds w.set)) (split_over s) w.set_seen _ c.args.task.now.lines.now posters takers _ _ q.seen _
          (λ rush. position_of (run_heap (domain_numbers (q.domains rush)) (domain_opening (q.domains rush))) 0)
          (λ rush. domain_bounds (q.domains rush)) b (λ rush. first_is _ _ (q.made rush).begins) (λ rush. (q.made rush).sizes)
          (λ rush. (q.left rush).is.journal (q.seen rush) (q.left rush).saw) (ap split_over w.set_made.sizes)
          (record { later = quiet.later; same = ap split_entries quiet.quiet }) w.ran;
      queues_reuse = λ rush. left_reuse _ _ _ (q.left rush).is b (q.made rush).sizes;
      set_reuse = left_reuse _ _ _ w.set_is.is s w.set_made.sizes;
      queues_rest = λ rush. left_rest _ _ _ (q.left rush).is b (q.made rush).sizes fifo_rank fifo_rises;
      set_rest = left_rest _ _ _ w.set_is.is s w.set_made.sizes split_rank split_rises;
    }
