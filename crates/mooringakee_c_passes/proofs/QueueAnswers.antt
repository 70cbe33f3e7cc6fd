-- What the answers of a queue's calls tell, of the queue's domain by its owner's name.
use Rattle.std.proofs.Common.{List, [], length, subst, sym, ℕ, ◌<◌, ◌≡◌}
use Rattle.orc_core.specs.declared.records.Agent.{Agent}
use Rattle.orc_domain.specs.Causes.{IsLacking}
use Rattle.orc_domain.specs.Passes.{IsPassOf, domain_bounds, domain_numbers, domain_opening, journal_of, seat_of}
use Rattle.orc_domain.specs.declared.domain.OrcDomain.{OrcDomain}
use Rattle.orc_domain.specs.declared.domain.OrcPass.{OrcPass}
use Rattle.orc_fifo_rule.specs.QueueDiscipline.{position_of}
use Rattle.orc_fifo_rule.specs.contracts.fifo.FifoDiscipline.TheImpl.{ghosts as fifo}
use Rattle.orc_fifo_rule.specs.declared.fifo.Fifo.{Fifo}
use Rattle.orc_fifo_rule.specs.declared.fifo.FifoNote.{FifoNote}
use Rattle.orc_heap.specs.Journals.{run_heap}
use Rattle.orc_heap.specs.Seats.{IsIdle}
use Rattle.orc_history.specs.Journals.{Adds, Within}
use Rattle.orc_history.specs.QueueHistory.{agent_of_entry}
use Rattle.orc_history.specs.declared.queue.QueueEntry.{QueueEntry}
use Rattle.orc_history.specs.declared.queue.QueueRefused.{QueueRefused}
use Rattle.orc_machine_board.specs.declared.machine.MachineShape.{MachineShape}
use Rattle.orc_machine_board.specs.declared.machine.Reclaiming.{Reclaiming}
use Rattle.orc_machine_board.specs.declared.machine.Request.{Request}
use Rattle.orc_projection.specs.Projection.{project}
use Rattle.orc_queue.specs.Causes.{Cause}
use Rattle.orc_queue.specs.Turns.{HasDummy}
use Rattle.orc_shared_words.specs.declared.machine.Machine as machine
use Rattle.orc_sound.specs.declared.steps.Step.{Step}
use Rattle.mooringakee_c_passes.specs.Kinds.{BeginsAtZero, calls_in, queue, calls_view}
use Rattle.mooringakee_c_passes.specs.Views.{GoesOn, RefusesCall}
use Rattle.mooringakee_c_passes.proofs.Entering as entering
use Rattle.mooringakee_c_passes.proofs.Histories.{legal_queue}

-- the cause of a refusal over this domain, whose first value has this position
abbrev cause_over : OrcDomain Fifo FifoNote → ℕ → ℕ → ℕ → QueueRefused → List (Step FifoNote) → ℕ → ℕ → Type 0
cause_over x first agent turns why journal from to =
    Cause (λ (step : Step FifoNote). step.agent) (λ seen. project (domain_bounds x) seen) first (IsLacking (domain_bounds x) agent journal from to)
    agent turns why journal from to

module _ {m : machine.Ghosts Reclaiming FifoNote (MachineShape FifoNote) Request (Step FifoNote) Agent Agent} (x y : OrcDomain Fifo FifoNote)
    (is : x ≡ y) (zero : BeginsAtZero y) (made : HasDummy (domain_numbers x) (domain_opening x)) (turns : ℕ)
    (old new : OrcPass Fifo FifoNote fifo m) (u : IsPassOf x new × IsIdle (seat_of x new))
    (agent : (seat_of x new).agent ≡ (seat_of x old).agent)
  where
    -- the call's own entries are these
    abbrev AddsOwn : List QueueEntry → Type 0
    AddsOwn own = Adds agent_of_entry (λ (by : ℕ). by < (domain_bounds x).agents) (seat_of x old).agent (calls_in queue x (journal_of old)) own
        (calls_in queue x (journal_of new))

    zero_here : BeginsAtZero x
    zero_here = subst (λ (z : OrcDomain Fifo FifoNote). BeginsAtZero z) (sym is) zero

    pub entered : (own : List QueueEntry) → AddsOwn own → GoesOn (calls_view queue y turns old) own (calls_view queue y turns new)
    entered own adds = entering.entered queue x y is turns old new (legal_queue x new made zero_here u.0) agent own adds

    pub refused : (why : QueueRefused) → AddsOwn []
        → Within (length (journal_of old)) (length (journal_of new))
        (cause_over x (position_of (run_heap (domain_numbers x) (domain_opening x)) 0) (seat_of x old).agent turns why (journal_of new))
        → RefusesCall (calls_view queue y turns old) why (calls_view queue y turns new)
    refused why adds cause =
        entering.refused queue x y is turns old new (legal_queue x new made zero_here u.0) agent why adds
        (subst (λ (n : ℕ). Within (length (journal_of old)) (length (journal_of new)) (cause_over x n (seat_of x old).agent turns why (journal_of new)))
        zero_here cause)
