-- Over reclaiming domains of one size each queue of a pipeline leaves one actual journal, and these form the pipeline.
use Rattle.std.proofs.Common.{All, ◌≡◌, ℕ, zero, suc, ◌<◌, List, [], ◌∷◌, length, refl, ap, sym, ◌∙◌, subst, arith}
use Rattle.std.specs.List.{AllByRecursion}
use Rattle.orc_words.specs.Bounds.{Bounds}
use Rattle.orc_core.specs.declared.records.Agent.{Agent}
use Rattle.orc_sound.specs.declared.steps.Step.{Step}
use Rattle.orc_heap.specs.Seeds.{opening_events}
use Rattle.orc_heap.specs.declared.links.Links.{Ghosts as LinksOf}
use Rattle.orc_shared_words.specs.declared.machine.Machine as machine
use Rattle.orc_machine_board.specs.Views.{board_seed}
use Rattle.orc_machine_board.specs.declared.machine.MachineShape.{MachineShape}
use Rattle.orc_machine_board.specs.declared.machine.Reclaiming.{Reclaiming}
use Rattle.orc_machine_board.specs.declared.machine.Request.{Request}
use Rattle.orc_history.specs.declared.queue.SharedQueue.{Ghosts as QueueOf}
use Rattle.orc_fifo_rule.specs.Laws.Kept.{fifo_rises}
use Rattle.orc_fifo_rule.specs.QueueDiscipline.{entries_of, fifo_rank}
use Rattle.orc_fifo_rule.specs.contracts.fifo.FifoDiscipline.TheImpl.{ghosts as fifo}
use Rattle.orc_fifo_rule.specs.declared.fifo.Fifo.{Fifo}
use Rattle.orc_fifo_rule.specs.declared.fifo.FifoNote.{FifoNote}
use Rattle.orc_domain.specs.Passes.{domain_bounds}
use Rattle.orc_domain.specs.Rest.{GoesOnQuietly, IsRestOf, rest_journal}
use Rattle.orc_domain.specs.declared.at_rest.OrcRest.{OrcRest}
use Rattle.orc_domain.specs.declared.domain.OrcDomain.{OrcDomain}
use Rattle.orc_domain.specs.declared.domain.OrcPass.{OrcPass}
use Rattle.orc_jobs.specs.declared.line.Line.{Line}
use Rattle.orc_board.specs.Stretches.{queue_view}
use Rattle.orc_stages.specs.Desks.{view_at}
use Rattle.orc_pipeline.specs.Pipeline.{IsPipeline}
use Rattle.orc_pipeline.specs.declared.run.StagesDone.{StagesDone}
use Rattle.orc_at_rest.proofs.Actual.{left_journal, left_rest, left_reuse}
use Rattle.orc_at_rest.proofs.Silent.{Silent}
use Rattle.orc_at_rest.specs.Domains.{IsLeftOf, IsMadeSo, queue_bounds, queue_seed}
use Rattle.orc_at_rest.specs.Journals.{EndsWithoutLeak, ReusesRowsSafely}
use Rattle.orc_at_rest.specs.Queues.{HasQueueJournal, queue_over}
use Rattle.orc_stages_run.proofs.GoingOn.{pipeline_more}
use Rattle.orc_stages_run.specs.Over.{WentOver}
use Rattle.orc_stages_run.specs.Queues.{AreLeft, journal_at}
use Rattle.orc_stages_run.specs.declared.over.Left.{Left}

module _ {Q L D P S R : Type 0} (domain_of : Q → L) (members : LinksOf L D P S FifoNote) (rests : L → List P → R → Type 0) where
  -- as many domains are left as there were queues
  left_many : (qs : List Q) (k : ℕ → List S) (rs : List R) → AreLeft domain_of members rests qs k rs → length rs ≡ length qs
  left_many [] k [] h = refl
  left_many [] k (r ∷ rs) h = absurd h
  left_many (q ∷ qs) k [] h = absurd h
  left_many (q ∷ qs) k (r ∷ rs) h = let more = left_many qs (λ i. k (suc i)) rs h.1 in omega (arith, more)

  -- what holds of what is left of a queue of which this holds, holds of all that is left
  each_left : (H : Q → Type 0) (T : R → Type 0) (qs : List Q) (k : ℕ → List S) (rs : List R)
      → ((q : Q) (seen : List S) (r : R) → IsLeftOf members rests (domain_of q) seen r → H q → T r) → AreLeft domain_of members rests qs k rs
      → AllByRecursion H qs → AllByRecursion T rs
  each_left H T [] k [] f h made = tt
  each_left H T [] k (r ∷ rs) f h made = absurd h
  each_left H T (q ∷ qs) k [] f h made = absurd h
  each_left H T (q ∷ qs) k (r ∷ rs) f h made = (f q (k 0) r h.0 made.0, each_left H T qs (λ i. k (suc i)) rs f h.1 made.1)

module _ {m : machine.Ghosts Reclaiming FifoNote (MachineShape FifoNote) Request (Step FifoNote) Agent Agent} where
  -- what a run of the pipeline over reclaiming domains leaves
  pub record Through (b : Bounds) (lines : List Line) (posters stages : ℕ) (rs : List (OrcRest Fifo FifoNote fifo m)) (done : StagesDone) : Type 0 where
    pub all : length rs ≡ suc stages
    pub journals : AllByRecursion (HasQueueJournal b) rs
    pub pipeline : IsPipeline (λ i. queue_over 0 b) lines posters stages done.posts.items done.moves.items done.outs.items (journal_at rs)
    pub reuse : AllByRecursion (ReusesRowsSafely b) rs
    pub rest : AllByRecursion (EndsWithoutLeak b) rs

  module _ {Q D : Type 0} (domain_of : Q → OrcDomain Fifo FifoNote)
      (members : LinksOf (OrcDomain Fifo FifoNote) D (OrcPass Fifo FifoNote fifo m) (Step FifoNote) FifoNote)
      (bounds : OrcDomain Fifo FifoNote → Bounds) (q : QueueOf Q (OrcPass Fifo FifoNote fifo m) (Step FifoNote)) (lines : List Line) (posters stages rows : ℕ)
      (l : Left (OrcRest Fifo FifoNote fifo m)) (w : WentOver domain_of members bounds IsRestOf q lines posters stages rows l)
      (same : (x : Q) → queue_view q x ≡ queue_over (q.first x) (domain_bounds (domain_of x)))
      (sized : (x : OrcDomain Fifo FifoNote) → bounds x ≡ domain_bounds x)
      (begun : (x : OrcDomain Fifo FifoNote) → members.opening x ≡ opening_events queue_seed → board_seed x.board ≡ queue_seed)
      (quietly : (x : OrcDomain Fifo FifoNote) (seen : List (Step FifoNote)) (ps : List (OrcPass Fifo FifoNote fifo m)) (r : OrcRest Fifo FifoNote fifo m)
      → IsRestOf x ps r → All (λ p. members.journal p ≡ seen) ps → GoesOnQuietly (domain_bounds x) seen (rest_journal r))
    where
      abbrev b : Bounds
      b = queue_bounds posters stages rows

      abbrev Made : Q → Type 0
      Made x = IsMadeSo members bounds b queue_seed (domain_of x)

      abbrev IsLeft : Q → List (Step FifoNote) → OrcRest Fifo FifoNote fifo m → Type 0
      IsLeft x seen r = IsLeftOf members IsRestOf (domain_of x) seen r

      -- the sizes of its domain
      sizes_one : (x : Q) → Made x → domain_bounds (domain_of x) ≡ b
      sizes_one x h = sym (sized (domain_of x)) ∙ h.sizes

      -- each queue is seen as definitions over sizes see it
      view_one : (x : Q) → Made x → q.first x ≡ 0 → queue_view q x ≡ queue_over 0 b
      view_one x made first = same x ∙ (ap (λ n. queue_over n (domain_bounds (domain_of x))) first ∙ ap (queue_over 0) (sizes_one x made))

      views : (qs : List Q) → AllByRecursion Made qs → AllByRecursion (λ x. q.first x ≡ 0) qs → (i : ℕ) → i < length qs
          → view_at q qs i ≡ queue_over 0 b
      views [] made first i low = absurd (omega (arith, low))
      views (x ∷ xs) made first zero low = view_one x made.0 first.0
      views (x ∷ xs) made first (suc i) low = views xs made.1 first.1 i (omega (arith, low))

      -- its journal goes on without an entry
      one_silent : (x : Q) (seen : List (Step FifoNote)) (r : OrcRest Fifo FifoNote fifo m) → IsLeft x seen r → Made x
          → Silent (queue_over 0 b).history seen (rest_journal r)
      one_silent x seen r h made =
          let on = subst (λ (c : Bounds). GoesOnQuietly c seen (rest_journal r)) (sizes_one x made) (quietly (domain_of x) seen h.passes r h.is h.saw) in
          record { later = on.later; same = ap entries_of on.quiet }

      silent : (qs : List Q) (k : ℕ → List (Step FifoNote)) (rs : List (OrcRest Fifo FifoNote fifo m)) → AreLeft domain_of members IsRestOf qs k rs
          → AllByRecursion Made qs → (i : ℕ) → i < length qs → Silent (queue_over 0 b).history (k i) (journal_at rs i)
      silent [] k rs h made i low = absurd (omega (arith, low))
      silent (x ∷ xs) k [] h made i low = absurd h
      silent (x ∷ xs) k (r ∷ rs) h made zero low = one_silent x (k 0) r h.0 made.0
      silent (x ∷ xs) k (r ∷ rs) h made (suc i) low = silent xs (λ n. k (suc n)) rs h.1 made.1 i (omega (arith, low))

      -- what holds of each domain at rest
      each : (T : OrcRest Fifo FifoNote fifo m → Type 0) → ((x : Q) (seen : List (Step FifoNote)) (r : OrcRest Fifo FifoNote fifo m)
          → IsLeft x seen r → Made x → T r) → AllByRecursion T l.queues.items
      each T f = each_left domain_of members IsRestOf Made T w.queues w.seen l.queues.items f w.left w.made

      -- one actual journal of each queue, and the pipeline that they form
      pub went_through : Through b lines posters stages l.queues.items l.done
      went_through = record {
        all = left_many domain_of members IsRestOf w.queues w.seen l.queues.items w.left ∙ w.many;
        journals = each (HasQueueJournal b)
            (λ x seen r left made. left_journal r (domain_of x) left.passes left.is b (sizes_one x made) queue_seed (begun (domain_of x) made.begins));
        pipeline = pipeline_more (view_at q w.queues) (λ i. queue_over 0 b) lines posters stages l.done.posts.items l.done.moves.items l.done.outs.items w.seen
            (journal_at l.queues.items) (λ i low. views w.queues w.made w.first i (omega (arith, low, w.many)))
            (λ i low. silent w.queues w.seen l.queues.items w.left w.made i (omega (arith, low, w.many))) w.pipeline;
        reuse = each (ReusesRowsSafely b) (λ x seen r left made. left_reuse r (domain_of x) left.passes left.is b (sizes_one x made));
        rest = each (EndsWithoutLeak b) (λ x seen r left made. left_rest r (domain_of x) left.passes left.is b (sizes_one x made) fifo_rank fifo_rises);
      }
