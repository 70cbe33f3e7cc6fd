-- What a run of the pipeline leaves: one journal for each queue, and replies that follow them.
use Rattle.std.specs.Prelude.{◌≡◌, ℕ, suc, List, length}
use Rattle.std.specs.List.{AllByRecursion}
use Rattle.orc_jobs.specs.declared.line.Line.{Line}
use Rattle.orc_pipeline.specs.Pipeline.{IsPipeline}
use Rattle.orc_at_rest.specs.Domains.{queue_bounds}
use Rattle.orc_at_rest.specs.Journals.{EndsWithoutLeak, ReusesRowsSafely}
use Rattle.orc_at_rest.specs.Queues.{HasQueueJournal, queue_over}
use Rattle.orc_stages_run.specs.Queues.{journal_at}
use Rattle.orc_stages_run.specs.declared.run.StagesFinished.{StagesFinished}

-- The jobs of these lines went through so many stages, behind so many posters, over queues of so many rows. The journals that were
-- left, one of each queue, are the actual ones of their domains, and they and the replies form a pipeline. No row was used again while
-- it was linked or held, nor twice; and at the end what was given was freed or is linked.
pub record WentThrough (lines : List Line) (posters stages rows : ℕ) (f : StagesFinished) : Type 0 where
  pub all : length f.queues.items ≡ suc stages
  pub journals : AllByRecursion (HasQueueJournal (queue_bounds posters stages rows)) f.queues.items
  pub pipeline : IsPipeline (λ i. queue_over 0 (queue_bounds posters stages rows)) lines posters stages f.done.posts.items f.done.moves.items
      f.done.outs.items (journal_at f.queues.items)
  pub reuse : AllByRecursion (ReusesRowsSafely (queue_bounds posters stages rows)) f.queues.items
  pub rest : AllByRecursion (EndsWithoutLeak (queue_bounds posters stages rows)) f.queues.items
