-- Calls that are made again until they are answered.
use Rattle.std.proofs.Common.{◌≡◌, ◌∙◌, List, [], ℕ, filter, length, refl}
use mathlib.Core.List.{IsPrefix}
use Rattle.orc_history.specs.Journals.{Adds, Within}
use Rattle.orc_history.specs.QueueHistory.{agent_of_entry}
use Rattle.orc_history.specs.SetHistory.{agent_of_set_entry}
use Rattle.orc_history.specs.declared.queue.QueueEntry.{QueueEntry}
use Rattle.orc_history.specs.declared.queue.QueueRefused.{QueueRefused}
use Rattle.orc_history.specs.declared.queue.SharedQueue.{Ghosts as QueueOf}
use Rattle.orc_history.specs.declared.set.ListRefused.{ListRefused}
use Rattle.orc_history.specs.declared.set.SetEntry.{SetEntry}
use Rattle.orc_history.specs.declared.set.SharedSet.{Ghosts as SetOf}
use Rattle.orc_board.specs.DeskCalls.{QueueRefuses, SetCall, SetRefuses}
use Rattle.orc_board.specs.Stretches.{View, Kind, Stretch, of_queue, of_set, queue_view, set_view, turns}
use Rattle.orc_board.proofs.CallStretches.{is_move, queue_call, refused_call, set_call}
use Rattle.orc_board.proofs.Shares.{Stretch-refl}

-- a pass that was `old`, all of whose calls since are to be made again
pub record Asks {A E W P : Type 0} (kind : Kind E) (x : View A E W) (is_usable : P → Type 0) (agent_of : P → ℕ) (journal : P → List A) (old new : P)
    : Type 0 where
  pub usable : is_usable new
  pub agent : agent_of new ≡ agent_of old
  pub quiet : Stretch kind x (agent_of old) [] (journal old) (journal new)

pub asks_first : {A E W P : Type 0} (kind : Kind E) (x : View A E W) (is_usable : P → Type 0) (agent_of : P → ℕ) (journal : P → List A) (p : P)
    → is_usable p → Asks kind x is_usable agent_of journal p p
asks_first kind x is_usable agent_of journal p h = record { usable = h; agent = refl; quiet = Stretch-refl kind x (agent_of p) (journal p) }

-- of a queue: a call made these entries, was to be made again, or was refused
module _ {Q P A : Type 0} (m : QueueOf Q P A) (queue : Q) where
  abbrev pub AsksQueue : P → P → Type 0
  AsksQueue old new = Asks of_queue (queue_view m queue) (m.usable queue) (m.agent_of queue) m.journal old new

  module _ (old mid new : P) (asks : AsksQueue old mid) (later : IsPrefix (m.journal mid) (m.journal new)) where
    pub queue_made : (own : ℕ → List QueueEntry)
        → Adds agent_of_entry (m.crowd queue) (m.agent_of queue mid) (m.history queue (m.journal mid)) (own (m.agent_of queue mid)) (m.history queue (m.journal new))
        → Stretch of_queue (queue_view m queue) (m.agent_of queue old) (filter is_move (own (m.agent_of queue old))) (m.journal old) (m.journal new)
    queue_made own adds = queue_call (queue_view m queue) _ _ asks.agent own _ _ _ asks.quiet later adds

    module _ (none : Adds agent_of_entry (m.crowd queue) (m.agent_of queue mid) (m.history queue (m.journal mid)) [] (m.history queue (m.journal new))) where
      pub queue_asks : m.usable queue new → m.agent_of queue new ≡ m.agent_of queue mid → AsksQueue old new
      queue_asks usable same = record { usable = usable; agent = same ∙ asks.agent; quiet = queue_made (λ a. []) none }

      pub queue_refused : (why told : QueueRefused) → told ≡ why
          → Within (length (m.journal mid)) (length (m.journal new)) (m.licence queue (m.agent_of queue mid) turns told (m.journal new))
          → QueueRefuses m queue old new why
      queue_refused why told is licence = refused_call of_queue (queue_view m queue) _ _ asks.agent why told is _ _ _ asks.quiet (queue_made (λ a. []) none) licence

-- the same of a set
module _ {S R B : Type 0} (m : SetOf S R B) (set : S) where
  abbrev pub AsksSet : R → R → Type 0
  AsksSet old new = Asks of_set (set_view m set) (m.usable set) (m.agent_of set) m.journal old new

  module _ (old mid new : R) (asks : AsksSet old mid) (later : IsPrefix (m.journal mid) (m.journal new)) where
    pub set_made : (own : ℕ → List SetEntry)
        → Adds agent_of_set_entry (m.crowd set) (m.agent_of set mid) (m.history set (m.journal mid)) (own (m.agent_of set mid)) (m.history set (m.journal new))
        → SetCall m set old new own
    set_made own adds = set_call (set_view m set) _ _ asks.agent own _ _ _ asks.quiet later adds

    module _ (none : Adds agent_of_set_entry (m.crowd set) (m.agent_of set mid) (m.history set (m.journal mid)) [] (m.history set (m.journal new))) where
      pub set_asks : m.usable set new → m.agent_of set new ≡ m.agent_of set mid → AsksSet old new
      set_asks usable same = record { usable = usable; agent = same ∙ asks.agent; quiet = set_made (λ a. []) none }

      pub set_refused : (why told : ListRefused) → told ≡ why
          → Within (length (m.journal mid)) (length (m.journal new)) (m.licence set (m.agent_of set mid) turns told (m.journal new))
          → SetRefuses m set old new why
      set_refused why told is licence = refused_call of_set (set_view m set) _ _ asks.agent why told is _ _ _ asks.quiet (set_made (λ a. []) none) licence
