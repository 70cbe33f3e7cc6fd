-- What a run of a pipeline leaves: what each poster and each worker of a stage did, and what the caller moved after them.
use Rattle.std.specs.Prelude.{◌≡◌, ℕ, suc, ◌+◌, ◌<◌, ◌≤◌, ◌^◌, List, [], ◌++◌, length, ◌⊎◌}
use Rattle.std.specs.List.{AllByRecursion}
use Rattle.orc_history.specs.declared.queue.QueueEntry.{QueueEntry}
use Rattle.orc_history.specs.declared.queue.QueueRefused.{QueueRefused}
use Rattle.orc_history.specs.declared.queue.QueueRefused.TheVariants.{Positions}
use Rattle.orc_history.specs.QueueHistory.{agent_of_entry, puts_in, IsLegalQueue}
use Rattle.orc_jobs.specs.declared.line.Line.{Line}
use Rattle.orc_jobs.specs.Line.{jobs_in}
use Rattle.orc_board.specs.declared.replies.PostReply.{PostReply}
use Rattle.orc_board.specs.Stretches.{View, beside}
use Rattle.orc_board.specs.Follows.{AreInOrder, IsWorker, LastIsEmpty, ZeroLast, grouped_by_key, posts_of}
use Rattle.orc_stages.specs.declared.replies.StageReply.{StageReply}
use Rattle.orc_stages.specs.Stage.{QueueShare}
use Rattle.orc_stages.specs.Desks.{Acts}
use Rattle.orc_pipeline.specs.Desks.{PosterActs, StageActs}
use Rattle.orc_stages.specs.Caller.{CallerActs}
use Rattle.orc_pipeline.specs.Pipeline.{IsPipeline, moves_of}

abbrev pub unseen : {A : Type 0} → ℕ → List A
unseen i = []

-- the queues, with the agents of the run beside each worker
abbrev pub in_run : {A : Type 0} → (ℕ → View A QueueEntry QueueRefused) → ℕ → ℕ → ℕ → View A QueueEntry QueueRefused
in_run x posters stages i = beside (x i) (IsWorker posters stages)

-- what a poster did, from the beginning of the journals
pub record PosterRan {A : Type 0} (x : ℕ → View A QueueEntry QueueRefused) (lines : List Line) (posters poster : ℕ) (posts : List PostReply) (k : ℕ → List A)
    : Type 0 where
  pub acts : ℕ → List QueueShare
  pub acted : Acts x poster acts unseen k
  pub wrote : PosterActs lines posters poster posts acts

-- what the worker of the stage at a place did
pub record StageRan {A : Type 0} (x : ℕ → View A QueueEntry QueueRefused) (lines : List Line) (place agent : ℕ) (moves : List StageReply) (k : ℕ → List A)
    : Type 0 where
  pub acts : ℕ → List QueueShare
  pub acted : Acts x agent acts unseen k
  pub wrote : StageActs lines place (suc place) agent moves acts
  pub found_empty : length moves < jobs_in lines → LastIsEmpty agent ((x place).history (k place))

-- what the caller did
pub record CallerRan {A : Type 0} (x : ℕ → View A QueueEntry QueueRefused) (lines : List Line) (stages : ℕ) (own : ℕ → List StageReply) (outs : List ℕ)
    (k : ℕ → List A) : Type 0 where
  pub gave : ℕ → List QueueShare
  pub took : ℕ → List QueueShare
  pub acts : CallerActs lines 1 stages 0 own outs gave took
  pub acted : Acts x 0 (λ i. gave i ++ took i) unseen k

-- all of them, where the queues' histories are legal, positions run out only after 2 ^ 62 Puts, and each queue was found empty or as
-- many jobs came out of it as there are lines
pub record Ran {A : Type 0} (x : ℕ → View A QueueEntry QueueRefused) (lines : List Line) (posters stages : ℕ) (posts : List PostReply)
    (work own : ℕ → List StageReply) (outs : List ℕ) (k : ℕ → List A) : Type 0 where
  pub new : (i : ℕ) → (x i).history [] ≡ []
  pub legal : (i : ℕ) → IsLegalQueue 0 ((x i).history (k i))
  pub few : (i : ℕ) → AllByRecursion (λ e. agent_of_entry e ≤ posters + stages) ((x i).history (k i))
  pub zero_last : (i : ℕ) → ZeroLast agent_of_entry ((x i).history (k i))
  pub many : (i agent : ℕ) (seen : List A) (from to : ℕ) → (x i).licence agent Positions seen from to → 2 ^ 62 ≤ puts_in ((x i).history seen)
  pub order : AreInOrder lines posters 0 posts []
  pub posted : (p : ℕ) → 1 ≤ p → p ≤ posters → PosterRan (in_run x posters stages) lines posters p (posts_of p posts) k
  pub moved : (i : ℕ) → i < stages → StageRan (in_run x posters stages) lines i (posters + suc i) (work i) k
  pub caller : CallerRan (in_run x posters stages) lines stages own outs k
  pub ended : (i : ℕ) → i < stages → LastIsEmpty 0 ((x i).history (k i)) ⊎ (length lines ≤ length (work i ++ own i))
  pub outs_ended : LastIsEmpty 0 ((x stages).history (k stages)) ⊎ (length lines ≤ length outs)

-- such runs over these queues form pipelines, whose replies of stages are those of the workers and then the caller's, stage by stage
-- from 1 on
abbrev pub RunsArePipelines : {A : Type 0} → (ℕ → View A QueueEntry QueueRefused) → Type 0
RunsArePipelines {A = A} x =
    (lines : List Line) (posters stages : ℕ) (posts : List PostReply) (work own : ℕ → List StageReply) (moves : List StageReply) (outs : List ℕ)
    (k : ℕ → List A) → 1 ≤ posters → length lines ≤ 65535 → Ran x lines posters stages posts work own outs k
    → moves ≡ grouped_by_key (λ (r : StageReply). r.stage) (suc stages) moves → AllByRecursion (λ (r : StageReply). 1 ≤ r.stage) moves
    → ((i : ℕ) → i < stages → moves_of (suc i) moves ≡ work i ++ own i)
    → IsPipeline x lines posters stages posts moves outs k
