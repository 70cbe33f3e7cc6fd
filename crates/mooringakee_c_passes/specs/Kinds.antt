-- The kinds of containers, by what the events of their domains enter, and by the causes of their refusals.
use Rattle.std.specs.Prelude.{List, Option, length, ℕ, ◌<◌, ◌≡◌}
use Rattle.orc_chain_rule.specs.ChainDiscipline.{entries_in as chain_entries}
use Rattle.orc_chain_rule.specs.declared.chain.Chain.{Chain}
use Rattle.orc_chain_rule.specs.declared.chain.ChainNote.{ChainNote}
use Rattle.orc_core.specs.declared.records.Agent.{Agent}
use Rattle.orc_domain.specs.Causes.{IsLacking, IsWornIn}
use Rattle.orc_domain.specs.Passes.{domain_bounds, domain_numbers, domain_opening, journal_of, seat_of}
use Rattle.orc_domain.specs.declared.domain.OrcDomain.{OrcDomain}
use Rattle.orc_domain.specs.declared.domain.OrcPass.{OrcPass}
use Rattle.orc_fifo_rule.specs.QueueDiscipline.{entries_in as queue_entries, position_of}
use Rattle.orc_fifo_rule.specs.declared.fifo.Fifo.{Fifo}
use Rattle.orc_fifo_rule.specs.declared.fifo.FifoNote.{FifoNote}
use Rattle.orc_heap.specs.Journals.{noted_entries, run_heap}
use Rattle.orc_heap.specs.declared.discipline.Discipline as discipline
use Rattle.orc_history.specs.QueueHistory.{IsLegalQueue, agent_of_entry}
use Rattle.orc_history.specs.SetHistory.{IsLegalSet, agent_of_set_entry}
use Rattle.orc_history.specs.declared.queue.QueueEntry.{QueueEntry}
use Rattle.orc_history.specs.declared.queue.QueueRefused.{QueueRefused}
use Rattle.orc_history.specs.declared.set.ListRefused.{ListRefused}
use Rattle.orc_history.specs.declared.set.SetEntry.{SetEntry}
use Rattle.orc_list.specs.Causes.{Cause as SetCause}
use Rattle.orc_machine_board.specs.declared.machine.MachineShape.{MachineShape}
use Rattle.orc_machine_board.specs.declared.machine.Reclaiming.{Reclaiming}
use Rattle.orc_machine_board.specs.declared.machine.Request.{Request}
use Rattle.orc_ordered_search.specs.Causes.{Cause as SplitCause}
use Rattle.orc_projection.specs.Mirror.{numbers_of}
use Rattle.orc_projection.specs.Projection.{project}
use Rattle.orc_queue.specs.Causes.{Cause as QueueCause}
use Rattle.orc_shared_words.specs.declared.machine.Machine as machine
use Rattle.orc_sound.specs.declared.steps.Step.{Step}
use Rattle.orc_split_rule.specs.SplitDiscipline.{entries_in as split_entries}
use Rattle.orc_split_rule.specs.declared.split.Split.{Split}
use Rattle.orc_split_rule.specs.declared.split.SplitNote.{SplitNote}
use Rattle.mooringakee_c_passes.specs.Views.{CallView}

-- the entries that a note stands for, whose an entry is, which histories are legal, and the cause of a refusal of a call by this agent
-- with so many turns, between two places of a journal
pub record ContainerKind (D N E W : Type 0) : Type 1 where
  pub entries_in : Option N → List E
  pub agent_of : E → ℕ
  pub IsLegal : List E → Type 0
  pub cause : OrcDomain D N → ℕ → ℕ → W → List (Step N) → ℕ → ℕ → Type 0

-- the calls of the container that stand in a journal of this domain
abbrev pub calls_in : {D N E W : Type 0} → ContainerKind D N E W → OrcDomain D N → List (Step N) → List E
calls_in kind domain journal = noted_entries kind.entries_in (project (domain_bounds domain) journal)

module _ {D N E W : Type 0} {d : discipline.Ghosts D N} {m : machine.Ghosts Reclaiming N (MachineShape N) Request (Step N) Agent Agent} (kind : ContainerKind D N E W) where
  -- what a pass to this domain shows of the container, before a call with so many turns or after it
  abbrev pub calls_view : OrcDomain D N → ℕ → OrcPass D N d m → CallView E W
  calls_view domain turns p = record {
    agent_of = kind.agent_of;
    IsLegal = kind.IsLegal;
    seen = calls_in kind domain (journal_of p);
    agent = (seat_of domain p).agent;
    crowd = λ by. by < (domain_bounds domain).agents;
    turns = turns;
    steps = length (journal_of p);
    has_cause = λ why from to. kind.cause domain (seat_of domain p).agent turns why (journal_of p) from to;
  }

-- the first value of a queue over this domain has position 0
abbrev pub BeginsAtZero : OrcDomain Fifo FifoNote → Type 0
BeginsAtZero domain = position_of (run_heap (domain_numbers domain) (domain_opening domain)) 0 ≡ 0

-- queues
abbrev pub queue : ContainerKind Fifo FifoNote QueueEntry QueueRefused
queue = record {
  entries_in = queue_entries;
  agent_of = agent_of_entry;
  IsLegal = λ seen. IsLegalQueue 0 seen;
  cause = λ domain agent turns why journal from to.
      let bounds = domain_bounds domain in
      QueueCause (λ step. step.agent) (λ seen. project bounds seen) 0 (IsLacking bounds agent journal from to) agent turns why journal from to;
}

-- bucketed sets
abbrev pub set : ContainerKind Chain ChainNote SetEntry ListRefused
set = record {
  entries_in = chain_entries;
  agent_of = agent_of_set_entry;
  IsLegal = λ seen. IsLegalSet seen;
  cause = λ domain agent turns why journal from to.
      let bounds = domain_bounds domain in
      SetCause (numbers_of bounds) (λ step. step.agent) (λ seen. project bounds seen) (IsLacking bounds agent journal from to)
      (λ row. IsWornIn bounds agent row journal from to) agent turns why journal from to;
}

-- split-ordered sets
abbrev pub split : ContainerKind Split SplitNote SetEntry ListRefused
split = record {
  entries_in = split_entries;
  agent_of = agent_of_set_entry;
  IsLegal = λ seen. IsLegalSet seen;
  cause = λ domain agent turns why journal from to.
      let bounds = domain_bounds domain in
      SplitCause (λ step. step.agent) (λ seen. project bounds seen) (IsLacking bounds agent journal from to)
      (λ row. IsWornIn bounds agent row journal from to) agent turns why journal from to;
}
