-- The desks of a run of a pipeline, and what the run has come to.
use Rattle.std.specs.Prelude.{◌≡◌, ℕ, suc, ◌+◌, ◌-◌, ◌<◌, ◌≤◌, List, [], ◌∷◌, ◌++◌, length, map, ◌⊎◌}
use Rattle.std.specs.List.{AllByRecursion}
use Rattle.orc_history.specs.declared.queue.SharedQueue.{Ghosts as QueueOf}
use Rattle.orc_history.specs.QueueHistory.{agent_of_entry}
use Rattle.orc_jobs.specs.declared.line.Line.{Line}
use Rattle.orc_board.specs.ListWithRoom.{ListWithRoom}
use Rattle.orc_board.specs.Follows.{LastIsEmpty, ZeroLast}
use Rattle.orc_team.proofs.Blocks.{nth_of}
use Rattle.orc_team.specs.Seats.{AreNumbered, EachNumbered}
use Rattle.orc_stages.specs.declared.replies.StageDesk.{StageDesk}
use Rattle.orc_stages.specs.declared.replies.StageReply.{StageReply}
use Rattle.orc_pipeline.specs.declared.run.StagesDone.{StagesDone}
use Rattle.orc_stages.specs.Desks.{StageWorker, ArePasses, view_at, seen_at}
use Rattle.orc_pipeline.specs.Team.{ToldByReplies}
use Rattle.orc_pipeline.specs.Learning.{AreKnown}
use Rattle.orc_stages.specs.Caller.{CallerMoved}
use Rattle.orc_pipeline.specs.Pipeline.{IsPipeline}
use Rattle.orc_pipeline.specs.Ran.{CallerRan, in_run, unseen}

-- passes that have seen no entry of their queues
abbrev pub IsNew : {Q P A : Type 0} → QueueOf Q P A → List Q → List P → Type 0
IsNew q queues passes = (i : ℕ) → (view_at q queues i).history (seen_at q passes i) ≡ []

-- a desk of this agent with an idle pass of each queue, which has seen no entry
pub record IsNewDesk {Q P A : Type 0} (q : QueueOf Q P A) (queues : List Q) (agent : ℕ) (desk : StageDesk P) : Type 0 where
  pub passes : ArePasses q agent queues desk.passes.items
  pub new : IsNew q queues desk.passes.items

-- one fresh desk per agent, in order from this one
abbrev pub AreFresh : {Q P A : Type 0} → QueueOf Q P A → List Q → ℕ → List (StageDesk P) → Type 0
AreFresh q queues agent desks = EachNumbered (IsNewDesk q queues) agent desks

-- at each desk the pass at its place stands ahead of those that it had
abbrev pub StandAhead : {P : Type 0} → List P → List (StageDesk P) → List (StageDesk P) → Type 0
StandAhead [] [] [] = Unit {0}
StandAhead [] [] (e ∷ es) = ⊥
StandAhead [] (d ∷ ds) es = ⊥
StandAhead (p ∷ ps) [] es = ⊥
StandAhead (p ∷ ps) (d ∷ ds) [] = ⊥
StandAhead (p ∷ ps) (d ∷ ds) (e ∷ es) = (e.passes.items ≡ p ∷ d.passes.items) × StandAhead ps ds es

-- a desk with a pass
abbrev pub HasPass : {P : Type 0} → StageDesk P → Type 0
HasPass desk = 0 < length desk.passes.items

-- the first pass of each desk was put behind those that were there, in the order of the desks
pub record TookFirst {P : Type 0} (before : List P) (old : List (StageDesk P)) (after : List P) (new : List (StageDesk P)) : Type 0 where
  pub taken : List P
  pub is : after ≡ before ++ taken
  pub ahead : StandAhead taken new old

-- one desk per agent with an idle pass of each queue, in order from this one
abbrev pub AreIdle : {Q P A : Type 0} → QueueOf Q P A → List Q → ℕ → List (StageDesk P) → Type 0
AreIdle {P = P} q queues agent desks = EachNumbered (λ by (desk : StageDesk P). ArePasses q by queues desk.passes.items) agent desks

-- the journals that the passes of the first desk have seen
abbrev pub first_seen : {Q P A : Type 0} → QueueOf Q P A → List (StageDesk P) → ℕ → List A
first_seen q [] i = []
first_seen q (desk ∷ desks) i = seen_at q desk.passes.items i

-- of each queue these desks' passes have seen this journal
abbrev pub HaveSeen : {Q P A : Type 0} → QueueOf Q P A → (ℕ → List A) → List (StageDesk P) → Type 0
HaveSeen q k desks = AllByRecursion (λ desk. (i : ℕ) → seen_at q desk.passes.items i ≡ k i) desks

-- of each queue all desks' passes have seen the same journal
abbrev pub HaveSeenTheSame : {Q P A : Type 0} → QueueOf Q P A → List (StageDesk P) → Type 0
HaveSeenTheSame q desks = HaveSeen q (first_seen q desks) desks

-- the journals that the first desk's passes have seen, the replies, and what came out form a pipeline over these queues, which has a
-- stage between each two of them
abbrev pub IsRunOf : {Q P A : Type 0} → QueueOf Q P A → List Q → List Line → ℕ → List (StageDesk P) → StagesDone → Type 0
IsRunOf q queues lines posters desks done =
    IsPipeline (view_at q queues) lines posters (length queues - 1) done.posts.items done.moves.items done.outs.items (first_seen q desks)

-- a worker that has room for as many moves as there are lines, if it is a stage's
abbrev pub HasRoomForMoves : {P : Type 0} → ℕ → List Line → StageWorker P → Type 0
HasRoomForMoves posters lines w = posters < w.agent → length lines ≤ length w.replies.takes.items + w.replies.takes.spare

-- a worker that begins: its passes have seen no entry, it has moved nothing, and it has that room
pub record Begins {Q P A : Type 0} (q : QueueOf Q P A) (queues : List Q) (lines : List Line) (posters : ℕ) (w : StageWorker P) : Type 0 where
  pub new : IsNew q queues w.desk.passes.items
  pub room : HasRoomForMoves posters lines w
  pub none : w.replies.takes.items ≡ []

-- of these workers the caller passed over those of posters, and moved what was left for the others, the stages
pub record CallerMovedFor {Q P A : Type 0} (q : QueueOf Q P A) (queues : List Q) (lines : List Line) (posters : ℕ) (old new : List P) (ws vs : List (StageWorker P))
    (outs : ListWithRoom ℕ) : Type 0 where
  pub front : List (StageWorker P)
  pub before : List (StageWorker P)
  pub after : List (StageWorker P)
  pub is_before : ws ≡ front ++ before
  pub is_after : vs ≡ front ++ after
  pub many : length front ≡ posters
  pub moved : CallerMoved q queues lines 1 0 old new before after outs

-- what the caller and its workers have come to: what the worker at each place did by itself, and what the caller moved for it; k are
-- the journals that the caller's passes have seen at last
pub record AllCameBack {Q P A : Type 0} (q : QueueOf Q P A) (queues : List Q) (lines : List Line) (posters stages : ℕ) (passes : List P)
    (ws : List (StageWorker P)) (outs : List ℕ) : Type 0 where
  pub caller : ArePasses q 0 queues passes
  pub known : AreKnown q queues (suc (posters + stages)) passes
  pub none_first : (i : ℕ) → (view_at q queues i).history [] ≡ []
  pub numbered : AreNumbered 1 ws
  pub many : length ws ≡ posters + stages
  pub idle : AreIdle q queues 1 (map (λ (w : StageWorker P). w.desk) ws)
  pub seen : HaveSeen q (seen_at q passes) (map (λ (w : StageWorker P). w.desk) ws)
  pub work : ℕ → List StageReply
  pub own : ℕ → List StageReply
  pub told : (i : ℕ) → i < length ws
      → ToldByReplies (in_run (view_at q queues) posters stages) lines posters (suc i) (nth_of (λ (w : StageWorker P). w.replies.posts.items) ws i) (work i) unseen (seen_at q passes)
  pub of_posters : (i : ℕ) → i < posters → nth_of (λ (w : StageWorker P). w.replies.takes.items) ws i ≡ work i
  pub of_stages : (i : ℕ) → i < stages → nth_of (λ (w : StageWorker P). w.replies.takes.items) ws (posters + i) ≡ work (posters + i) ++ own i
  pub moved : CallerRan (in_run (view_at q queues) posters stages) lines stages own outs (seen_at q passes)
  pub zero_last : (i : ℕ) → ZeroLast agent_of_entry ((view_at q queues i).history (seen_at q passes i))
  pub ended : (i : ℕ) → i < stages → LastIsEmpty 0 ((view_at q queues i).history (seen_at q passes i)) ⊎ (length lines ≤ length (work (posters + i) ++ own i))
  pub outs_ended : LastIsEmpty 0 ((view_at q queues stages).history (seen_at q passes stages)) ⊎ (length lines ≤ length outs)
