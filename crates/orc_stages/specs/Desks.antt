-- Desks of a pipeline: a pass of each queue, in their order.
use Rattle.std.specs.Prelude.{◌≡◌, ℕ, suc, List, [], ◌∷◌}
use Rattle.std.proofs.Common.{zero}
use Rattle.orc_history.specs.declared.queue.QueueEntry.{QueueEntry}
use Rattle.orc_history.specs.declared.queue.QueueRefused.{QueueRefused}
use Rattle.orc_history.specs.declared.queue.SharedQueue.{Ghosts as QueueOf}
use Rattle.orc_board.specs.Stretches.{View, queue_view}
use Rattle.orc_team.specs.declared.rooms.Room.{Room}
use Rattle.orc_team.specs.declared.team.Worker.{Worker}
use Rattle.orc_stages.specs.declared.replies.StageDesk.{StageDesk}
use Rattle.orc_stages.specs.declared.replies.StageReply.{StageReply}
use Rattle.orc_stages.specs.Stage.{QueueShare, DidShares}

-- a container of which nothing is known and in which nothing happens
abbrev pub no_view : {A : Type 0} → View A QueueEntry QueueRefused
no_view = record { history = λ j. []; licence = λ agent why j from to. ⊥; crowd = λ agent. ⊥ }

-- the view of the queue at a place, and the journal that the pass at a place has seen
abbrev pub view_at : {Q P A : Type 0} → QueueOf Q P A → List Q → ℕ → View A QueueEntry QueueRefused
view_at q [] i = no_view
view_at q (queue ∷ queues) zero = queue_view q queue
view_at q (queue ∷ queues) (suc i) = view_at q queues i

abbrev pub seen_at : {Q P A : Type 0} → QueueOf Q P A → List P → ℕ → List A
seen_at q [] i = []
seen_at q (p ∷ ps) zero = q.journal p
seen_at q (p ∷ ps) (suc i) = seen_at q ps i

-- one idle pass of this agent for each queue
abbrev pub ArePasses : {Q P A : Type 0} → QueueOf Q P A → ℕ → List Q → List P → Type 0
ArePasses q agent [] [] = Unit {0}
ArePasses q agent [] (p ∷ ps) = ⊥
ArePasses q agent (queue ∷ queues) [] = ⊥
ArePasses q agent (queue ∷ queues) (p ∷ ps) = q.usable queue p × (q.agent_of queue p ≡ agent) × ArePasses q agent queues ps

-- in each queue an agent did these shares between the journals j and k
abbrev pub Acts : {A : Type 0} → (ℕ → View A QueueEntry QueueRefused) → ℕ → (ℕ → List QueueShare) → (ℕ → List A) → (ℕ → List A) → Type 0
Acts x agent acts j k = (i : ℕ) → DidShares (x i) agent (acts i) (j i) (k i)

-- a poster, or the worker of a stage
abbrev pub StageWorker : Type 0 → Type 0
StageWorker P = Worker (StageDesk P) (Room StageReply)
