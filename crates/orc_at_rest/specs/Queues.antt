-- A queue over a reclaiming domain, as the definitions of replies that follow its history see it, and its journal at rest.
use Rattle.std.specs.Prelude.{ℕ, ◌<◌}
use Rattle.orc_words.specs.Bounds.{Bounds}
use Rattle.orc_core.specs.declared.records.Agent.{Agent}
use Rattle.orc_sound.specs.declared.steps.Step.{Step}
use Rattle.orc_heap.specs.declared.discipline.Discipline as discipline
use Rattle.orc_projection.specs.Projection.{project}
use Rattle.orc_shared_words.specs.declared.machine.Machine as machine
use Rattle.orc_machine_board.specs.declared.machine.MachineShape.{MachineShape}
use Rattle.orc_machine_board.specs.declared.machine.Reclaiming.{Reclaiming}
use Rattle.orc_machine_board.specs.declared.machine.Request.{Request}
use Rattle.orc_history.specs.declared.queue.QueueEntry.{QueueEntry}
use Rattle.orc_history.specs.declared.queue.QueueRefused.{QueueRefused}
use Rattle.orc_fifo_rule.specs.QueueDiscipline.{FifoMay, entries_of}
use Rattle.orc_fifo_rule.specs.declared.fifo.FifoNote.{FifoNote}
use Rattle.orc_domain.specs.Causes.{IsLacking}
use Rattle.orc_domain.specs.declared.at_rest.OrcRest.{OrcRest}
use Rattle.orc_queue.specs.Causes.{Cause}
use Rattle.orc_board.specs.Stretches.{View, turns}
use Rattle.orc_at_rest.specs.Domains.{queue_seed}
use Rattle.orc_at_rest.specs.Journals.{HasJournal}

-- a queue with this first position over a domain of these sizes: a journal's history is that of the notes of its events; a node is
-- refused where each row was out or spent at some time of the call; all agents may step in between
abbrev pub queue_over : ℕ → Bounds → View (Step FifoNote) QueueEntry QueueRefused
queue_over first b = record {
  history = λ journal. entries_of (project b journal);
  licence = λ agent why journal from to. Cause (λ s. s.agent) (λ j. project b j) first (IsLacking b agent journal from to) agent turns why journal from to;
  crowd = λ agent. agent < b.agents;
}

module _ {D : Type 0} {d : discipline.Ghosts D FifoNote}
    {m : machine.Ghosts Reclaiming FifoNote (MachineShape FifoNote) Request (Step FifoNote) Agent Agent}
  where
    -- the journal of a queue over a domain of these sizes, which obeys the queue discipline
    abbrev pub HasQueueJournal : Bounds → OrcRest D FifoNote d m → Type 0
    HasQueueJournal b r = HasJournal FifoMay b queue_seed r
