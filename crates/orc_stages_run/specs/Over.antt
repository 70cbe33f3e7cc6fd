-- What a run of the pipeline over any domain leaves: domains at rest, whose passes had seen journals that form a pipeline with the replies.
use Rattle.std.specs.Prelude.{◌≡◌, ℕ, suc, List, length}
use Rattle.std.specs.List.{AllByRecursion}
use Rattle.orc_words.specs.Bounds.{Bounds}
use Rattle.orc_heap.specs.declared.links.Links.{Ghosts as LinksOf}
use Rattle.orc_history.specs.declared.queue.SharedQueue.{Ghosts as QueueOf}
use Rattle.orc_fifo_rule.specs.declared.fifo.FifoNote.{FifoNote}
use Rattle.orc_jobs.specs.declared.line.Line.{Line}
use Rattle.orc_stages.specs.Desks.{view_at}
use Rattle.orc_pipeline.specs.Pipeline.{IsPipeline}
use Rattle.orc_at_rest.specs.Domains.{IsMadeSo, queue_bounds, queue_seed}
use Rattle.orc_stages_run.specs.Queues.{AreLeft}
use Rattle.orc_stages_run.specs.declared.over.Left.{Left}

-- The jobs of these lines went through so many stages, behind so many posters, over queues of so many rows. This was left of the domains
-- of these queues; the journals that their passes had seen, and the replies, form a pipeline.
pub record WentOver {Q L D P S R : Type 0} (domain_of : Q → L) (members : LinksOf L D P S FifoNote) (bounds : L → Bounds)
    (rests : L → List P → R → Type 0) (q : QueueOf Q P S) (lines : List Line) (posters stages rows : ℕ) (f : Left R) : Type 0 where
  pub queues : List Q
  pub many : length queues ≡ suc stages
  pub made : AllByRecursion (λ queue. IsMadeSo members bounds (queue_bounds posters stages rows) queue_seed (domain_of queue)) queues
  pub first : AllByRecursion (λ queue. q.first queue ≡ 0) queues
  pub seen : ℕ → List S
  pub left : AreLeft domain_of members rests queues seen f.queues.items
  pub pipeline : IsPipeline (view_at q queues) lines posters stages f.done.posts.items f.done.moves.items f.done.outs.items seen
