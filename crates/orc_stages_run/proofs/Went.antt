-- What is known after a run over any domain is what the run leaves.
use Rattle.std.proofs.Common.{◌≡◌, ◌+◌, ◌-◌, ℕ, List, [], ◌∷◌, arith, length, subst, sym}
use Rattle.std.specs.List.{AllByRecursion}
use Rattle.orc_words.specs.Bounds.{Bounds}
use Rattle.orc_heap.specs.declared.links.Links.{Ghosts as LinksOf}
use Rattle.orc_history.specs.declared.queue.SharedQueue.{Ghosts as QueueOf}
use Rattle.orc_fifo_rule.specs.declared.fifo.FifoNote.{FifoNote}
use Rattle.orc_jobs.specs.declared.line.Line.{Line}
use Rattle.orc_stages.specs.declared.replies.StageDesk.{StageDesk}
use Rattle.orc_stages.specs.Desks.{view_at}
use Rattle.orc_pipeline.specs.Learning.{AreFor}
use Rattle.orc_pipeline.specs.Pipeline.{IsPipeline}
use Rattle.orc_pipeline.specs.Run.{AreFresh, AreIdle, HaveSeen, HaveSeenTheSame, IsRunOf, first_seen}
use Rattle.orc_at_rest.specs.Domains.{IsMadeSo, agents_of, queue_seed, run_bounds}
use Rattle.orc_stages_run.specs.Over.{WentOver}
use Rattle.orc_stages_run.specs.Queues.{LeavesMore}
use Rattle.orc_stages_run.specs.declared.over.Left.{Left}
use Rattle.orc_stages_run.proofs.Ends.{all_left}

module _ {Q : Type 0} (agents_in first : Q → ℕ) (agents : ℕ) where
  -- these are for so many agents, and their first position is 0
  abbrev Known : List Q → Type 0
  Known qs = AllByRecursion (λ x. (agents_in x ≡ agents) × (first x ≡ 0)) qs

  -- their first positions
  firsts : (qs : List Q) → Known qs → AllByRecursion (λ x. first x ≡ 0) qs
  firsts [] h = tt
  firsts (x ∷ xs) h = (h.0.1, firsts xs h.1)

  -- each is for as many agents
  pub are_for : (n : ℕ) → n ≡ agents → (qs : List Q) → Known qs → AllByRecursion (λ x. n ≡ agents_in x) qs
  are_for n is [] h = tt
  are_for n is (x ∷ xs) h = let here = h.0.0 in (omega (arith, is, here), are_for n is xs h.1)

  -- the same of a slice of them, and of as many agents
  pub known_there : (n : ℕ) (qs slice : List Q) → slice ≡ qs → n ≡ agents → Known qs → AllByRecursion (λ x. (agents_in x ≡ n) × (first x ≡ 0)) slice
  known_there n qs slice sliced is h =
      subst (λ (m : ℕ). AllByRecursion (λ x. (agents_in x ≡ m) × (first x ≡ 0)) slice) (sym is) (subst (λ (xs : List Q). Known xs) (sym sliced) h)

module _ {Q P A : Type 0} (q : QueueOf Q P A) where
  -- desks that are fresh at some queues are fresh at a slice of all of them
  pub fresh_there : (qs slice : List Q) (desks : List (StageDesk P)) → slice ≡ qs → AreFresh q qs 0 desks → AreFresh q slice 0 desks
  fresh_there qs slice desks sliced h = subst (λ (xs : List Q). AreFresh q xs 0 desks) (sym sliced) h

  -- a slice of all of some desks is idle at all queues where the desks are at a slice of them
  pub idle_there : (qs slice : List Q) (desks given : List (StageDesk P)) → slice ≡ qs → given ≡ desks → AreIdle q slice 0 desks → AreIdle q qs 0 given
  idle_there qs slice desks given sliced taken h =
      subst (λ (ds : List (StageDesk P)). AreIdle q qs 0 ds) (sym taken) (subst (λ (xs : List Q). AreIdle q xs 0 desks) sliced h)

-- what is left of these queues, and the replies of the run on a slice of them
pub went : {Q L D P S R : Type 0} (domain_of : Q → L) (members : LinksOf L D P S FifoNote) (bounds : L → Bounds) (rests : L → List P → R → Type 0)
    (q : QueueOf Q P S) (agents_in : Q → ℕ) (lines : List Line) (posters stages rows : ℕ) (qs slice : List Q) (desks given : List (StageDesk P))
    (before : List R) (f : Left R) → slice ≡ qs → given ≡ desks → before ≡ [] → length qs ≡ stages + 1
    → AllByRecursion (λ x. IsMadeSo members bounds (run_bounds rows 2 (1 + posters + stages)) queue_seed (domain_of x)) qs
    → AreFor q agents_in (1 + posters + stages) qs
    → HaveSeenTheSame q desks → IsRunOf q slice lines posters desks f.done
    → ((k : ℕ → List S) → HaveSeen q k given → LeavesMore domain_of members rests qs k before f.queues.items)
    → WentOver domain_of members bounds rests q lines posters stages rows f
went domain_of members bounds rests q agents_in lines posters stages rows qs slice desks given before f sliced taken none many made known seen ran leaves =
    let k = first_seen q desks in
    let count : 1 + posters + stages ≡ agents_of posters stages = omega arith in
    let last : length qs - 1 ≡ stages = omega (arith, many) in
    let run : IsRunOf q qs lines posters desks f.done = subst (λ (xs : List _). IsRunOf q xs lines posters desks f.done) sliced ran in
    record {
      queues = qs;
      many = omega (arith, many);
      made = subst (λ (n : ℕ). AllByRecursion (λ x. IsMadeSo members bounds (run_bounds rows 2 n) queue_seed (domain_of x)) qs) count made;
      first = firsts agents_in q.first (1 + posters + stages) qs known;
      seen = k;
      left = all_left domain_of members rests qs k before f.queues.items none
          (leaves k (subst (λ (ds : List _). HaveSeen q k ds) (sym taken) seen));
      pipeline = subst (λ (n : ℕ). IsPipeline (view_at q qs) lines posters n f.done.posts.items f.done.moves.items f.done.outs.items k) last run;
    }
