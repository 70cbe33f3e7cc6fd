-- A put that stopped before its last step, by its answer.
use Rattle.std.proofs.Common.{List, None, Option, Some, [], inl, inr, refl, ℕ, ◌<◌, ◌∷◌, ◌≡◌, ◌⊎◌}
use Rattle.std.specs.Prelude.{IfSome}
use Rattle.orc_heap.specs.Heap.{HeapNumbers}
use Rattle.orc_heap.specs.Seats.{Seat}
use Rattle.orc_heap.specs.declared.events.Event.{Event}
use Rattle.orc_history.specs.Journals.{Adds}
use Rattle.orc_history.specs.QueueHistory.{agent_of_entry}
use Rattle.orc_history.specs.declared.queue.QueueEntry.{QueueEntry}
use Rattle.orc_history.specs.declared.queue.QueueEntry.TheVariants.{Put}
use Rattle.orc_fifo_rule.specs.declared.fifo.FifoNote.{FifoNote}
use Rattle.orc_fifo_rule.specs.QueueDiscipline.{FifoMay, entries_of}
use Rattle.orc_queue.specs.Answers.{PutStops, StopsShort}
use Rattle.orc_heap.proofs.InJournal.{CallSeen}
use Rattle.orc_queue.proofs.Causes.{call_adds}

-- it had a node to link, or no row could be given, and it put nothing
pub record Stopped (Lacks : Type 0) (s : Seat FifoNote) (r : Option ℕ) (t : Seat FifoNote) : Type 0 where
  pub given : ℕ
  pub entries : List QueueEntry
  pub short : StopsShort given s entries t
  pub had : (given ≡ 1) ⊎ ((given ≡ 0) × (r ≡ None) × Lacks)

pub stopped_by : (job : ℕ) (Lacks : Type 0) (s t : Seat FifoNote) (r : Option ℕ) → PutStops job Lacks s r t → Stopped Lacks s r t
stopped_by job Lacks s t (Some at) l = record { given = 1; entries = _; short = l; had = inl refl }
stopped_by job Lacks s t None l = elim l [
  | inl c ↦ record { given = 1; entries = []; short = c; had = inl refl }
  | inr none ↦ record { given = 0; entries = []; short = none.1; had = inr (refl, refl, none.0) }
]

module _ {S : Type 0} {n : HeapNumbers} {agents : ℕ} {agent_of : S → ℕ} {events : List S → List (Event FifoNote)} {s t : Seat FifoNote} {j k : List S}
    (o : CallSeen FifoMay n agents agent_of events s t j k) (job : ℕ) (Lacks : Type 0)
  where
    pub stop_some : (r : Option ℕ) → PutStops job Lacks s r t
        → IfSome r (λ at. Adds agent_of_entry (λ (a : ℕ). a < agents) s.agent (entries_of (events j)) (Put s.agent job at ∷ []) (entries_of (events k)))
    stop_some (Some at) l = call_adds o 1 1 (Put s.agent job at ∷ []) l.call
    stop_some None l = tt

    pub stop_none : (r : Option ℕ) → PutStops job Lacks s r t → r ≡ None
        → Adds agent_of_entry (λ (a : ℕ). a < agents) s.agent (entries_of (events j)) [] (entries_of (events k))
    stop_none (Some at) l is = cc
    stop_none None l is = elim l [ inl c ↦ call_adds o 1 1 [] c.call | inr none ↦ call_adds o 0 1 [] none.1.call ]
