-- What a run over any domains leaves: domains at rest, whose passes had seen journals that the replies follow.
use Rattle.std.specs.Prelude.{◌≡◌, ◌+◌, All, Bool, List, ℕ}
use Rattle.orc_words.specs.Bounds.{Bounds}
use Rattle.orc_heap.specs.declared.links.Links.{Ghosts as LinksOf}
use Rattle.orc_heap.specs.declared.seed.Seed.{Seed}
use Rattle.orc_history.specs.declared.set.ListRefused.{ListRefused}
use Rattle.orc_history.specs.declared.set.SetEntry.{SetEntry}
use Rattle.orc_history.specs.declared.set.SharedSet.{Ghosts as SetOf}
use Rattle.orc_fifo_rule.specs.declared.fifo.FifoNote.{FifoNote}
use Rattle.orc_chain_rule.specs.declared.chain.ChainNote.{ChainNote}
use Rattle.orc_split_rule.specs.declared.split.SplitNote.{SplitNote}
use Rattle.orc_jobs.specs.declared.line.Line.{Line}
use Rattle.orc_board.specs.Runs.{Ran}
use Rattle.orc_board.specs.Stretches.{View, pick, set_view}
use Rattle.orc_board.specs.declared.replies.Replies.{Replies}
use Rattle.orc_run.specs.Containers.{queue_on, set_on, split_on}
use Rattle.orc_run.specs.Sets.{most_buckets}
use Rattle.orc_at_rest.specs.Domains.{IsLeftOf, IsMadeSo, agents_of, empty_seed, queue_seed, run_bounds}
use Rattle.orc_run.specs.declared.over.SetLeft.{SetLeft}
use Rattle.orc_run.specs.declared.over.SetLeft.TheVariants as left
use Rattle.orc_run.specs.declared.set.SetChoice.{SetChoice}
use Rattle.orc_run.specs.declared.set.SetChoice.TheVariants as choice
use Rattle.orc_run.specs.declared.work.Worked.{Worked}

module _ {L D P S R : Type 0} (members : LinksOf L D P S FifoNote) (bounds : L → Bounds) (rests : L → List P → R → Type 0) where
  -- these were left of both queues' domains, whose passes had seen these journals
  pub record LeftOfQueues (posters takers rows : ℕ) (queue rush : R) : Type 0 where
    pub domains : Bool → L
    pub made : (rush_too : Bool) → IsMadeSo members bounds (run_bounds rows 2 (agents_of posters takers)) queue_seed (domains rush_too)
    pub seen : Bool → List S
    pub left : (rush_too : Bool) → IsLeftOf members rests (domains rush_too) (seen rush_too) (pick queue rush rush_too)

  -- the work over this set left both queues' domains and the passes of the set, which have all seen one journal, and the replies follow
  -- it and those that the queues' passes had seen
  pub record WorkedOver {T X A : Type 0} (sets : SetOf T X A) (set : T) (lines : List Line) (posters takers rows : ℕ) (w : Worked R X) : Type 0 where
    pub queues : LeftOfQueues posters takers rows w.queue w.rush
    pub set_seen : List A
    pub all_saw : All (λ p. sets.journal p ≡ set_seen) w.set.items
    pub ran : Ran (λ rush. queue_on members (queues.domains rush)) (set_view sets set) lines posters takers w.replies.posts.items w.replies.takes.items queues.seen set_seen

  -- the run left both queues' domains and that of a set of this kind, with so many roots, and the replies follow what their passes had seen
  pub record RanOver {M E Y T N U : Type 0} (sets : LinksOf M E Y T N) (set_bounds : M → Bounds) (set_rests : M → List Y → U → Type 0) (seed : Seed N)
      (view : M → View T SetEntry ListRefused) (lines : List Line) (posters takers rows roots : ℕ) (queue rush : R) (set_left : U) (replies : Replies) : Type 0 where
    pub queues : LeftOfQueues posters takers rows queue rush
    pub set : M
    pub set_made : IsMadeSo sets set_bounds (run_bounds rows roots (agents_of posters takers)) seed set
    pub set_seen : List T
    pub set_is : IsLeftOf sets set_rests set set_seen set_left
    pub ran : Ran (λ rush_too. queue_on members (queues.domains rush_too)) (view set) lines posters takers replies.posts.items replies.takes.items queues.seen set_seen

  -- the run left both queues' domains and that of the set that was chosen: of as many lists, or of a split-ordered set
  abbrev pub RanWith : {M E Y T U K F Z V W : Type 0} → LinksOf M E Y T ChainNote → (M → Bounds) → (M → List Y → U → Type 0)
      → LinksOf K F Z V SplitNote → (K → Bounds) → (K → List Z → W → Type 0) → List Line → ℕ → ℕ → ℕ → SetChoice → R → R → SetLeft U W → Replies → Type 0
  RanWith lists list_bounds list_rests splits split_bounds split_rests lines posters takers rows (choice.Lists buckets) queue rush (left.Lists r) replies =
      RanOver lists list_bounds list_rests empty_seed (set_on lists) lines posters takers rows buckets queue rush r replies
  RanWith lists list_bounds list_rests splits split_bounds split_rests lines posters takers rows choice.Split queue rush (left.Split r) replies =
      RanOver splits split_bounds split_rests empty_seed (split_on splits) lines posters takers rows (most_buckets + 1) queue rush r replies
  RanWith lists list_bounds list_rests splits split_bounds split_rests lines posters takers rows chosen queue rush r replies = ⊥
