-- Passes that may call, and those of new containers.
use Rattle.std.specs.Prelude.{All, List, [], length, slice_index_or, ℕ, ◌<◌, ◌≡◌}
use Rattle.orc_board.specs.declared.desk.Desk.{Desk}
use Rattle.orc_history.specs.declared.queue.SharedQueue.{Ghosts as QueueOf}
use Rattle.orc_history.specs.declared.set.SharedSet.{Ghosts as SetOf}

-- the desk's passes may call this queue and this set
abbrev pub MayCall : {Q S P R A B : Type 0} → QueueOf Q P A → SetOf S R B → Q → S → Desk P R → Type 0
MayCall q s queue set desk = q.usable queue desk.queue × s.usable set desk.set

-- nothing was done to the queue of so many agents, and these are their passes, in order
pub record IsNewQueue {Q P A : Type 0} (q : QueueOf Q P A) (agents_of : Q → ℕ) (queue : Q) (passes : List P) (many : ℕ) : Type 0 where
  pub usable : All (λ p. q.usable queue p) passes
  pub fresh : All (λ p. q.history queue (q.journal p) ≡ []) passes
  pub order : (i : ℕ) (p : P) → i < length passes → q.agent_of queue (slice_index_or passes i p) ≡ i
  pub first : q.first queue ≡ 0
  pub count : length passes ≡ many
  pub agents : agents_of queue ≡ many

-- the same of a set
pub record IsNewSet {S P B : Type 0} (s : SetOf S P B) (agents_of : S → ℕ) (set : S) (passes : List P) (many : ℕ) : Type 0 where
  pub usable : All (λ p. s.usable set p) passes
  pub fresh : All (λ p. s.history set (s.journal p) ≡ []) passes
  pub order : (i : ℕ) (p : P) → i < length passes → s.agent_of set (slice_index_or passes i p) ≡ i
  pub count : length passes ≡ many
  pub agents : agents_of set ≡ many
