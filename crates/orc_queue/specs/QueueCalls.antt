-- What the contracts of the queue's calls say of a pass before a call, `old`, and after it, `new`.
use Rattle.std.specs.Prelude.{List, [], drop, length, ℕ, ◌⊎◌}
use Rattle.orc_heap.specs.Domains.{Enters as EntersHistory, InCall, agent, heap, own_events}
use Rattle.orc_heap.specs.Journals.{run_heap}
use Rattle.orc_heap.specs.declared.links.Links.{Ghosts as LinksOf}
use Rattle.orc_history.specs.Parts.{part_begin}
use Rattle.orc_history.specs.QueueHistory.{agent_of_entry, puts_in}
use Rattle.orc_history.specs.declared.queue.QueueEntry.{QueueEntry}
use Rattle.orc_history.specs.declared.queue.QueueRefused.{QueueRefused}
use Rattle.orc_fifo_rule.specs.declared.fifo.FifoNote.{FifoNote}
use Rattle.orc_fifo_rule.specs.Counts.{tooks_in}
use Rattle.orc_fifo_rule.specs.QueueDiscipline.{entries_in, position_of}
use Rattle.orc_queue.specs.Answers.{CallFindsFull, IsFullAlone}
use Rattle.orc_queue.specs.Causes.{BeforeFirstStep, Cause, FromFirstStep, UsesTurns, entered_by_others}
use Rattle.orc_queue.specs.Turns.{KeepsTail, TailIsLast}

module _ {L D P S : Type 0} (members : LinksOf L D P S FifoNote) (links : L) where
  -- the call enters these entries of its agent, and others' entries may stand among them
  abbrev pub Enters : P → P → (ℕ → List QueueEntry) → Type 0
  Enters old new entries = EntersHistory members links agent_of_entry entries_in old new (entries (agent members links old))

  -- it enters none
  abbrev pub EntersNone : P → P → Type 0
  EntersNone old new = Enters old new (λ agent. [])

  -- all turns were used in the call's part of the journal
  abbrev pub UsesAllTurns : ℕ → P → P → Type 0
  UsesAllTurns turns old new =
      InCall members links old new (UsesTurns members.agent_of (members.events links) (agent members links old) turns (members.journal new))

  -- what other agents entered in the history in the call's part of the journal
  abbrev pub others_entries : P → P → List QueueEntry
  others_entries old new = entered_by_others (members.events links) (agent members links old) (members.journal new)
      (part_begin members.agent_of (agent members links old) (members.journal old) (members.journal new)) (length (members.journal new))

  -- how many Puts of other agents stand in that part
  abbrev pub others_puts : P → P → ℕ
  others_puts old new = puts_in (others_entries old new)

  -- how many Tooks of other agents stand there
  abbrev pub others_tooks : P → P → ℕ
  others_tooks old new = tooks_in (others_entries old new)

  -- no row could be given to the call's agent: from the call's first step on; or, where the refused give made no step, at the place to
  -- which the journal had come by then
  abbrev pub LacksRow : P → P → Type 0
  LacksRow old new =
      FromFirstStep members.agent_of (agent members links old) (members.journal old) (members.journal new)
      (members.lacking links (agent members links old) (members.journal new))
      ⊎ BeforeFirstStep members.agent_of (agent members links old) (members.journal old) (members.journal new)
      (members.lacking links (agent members links old) (members.journal new))

  -- the call found the end of the queue where no position was left
  abbrev pub FindsNoPosition : P → P → Type 0
  FindsNoPosition old new = CallFindsFull (members.numbers links) (members.seat links old) (members.seat links new)

  -- if no other agent's event is new to the pass, and the tail was at the last node before, then no position is left behind that node
  abbrev pub LacksPositionAlone : P → P → Type 0
  LacksPositionAlone old new = IsFullAlone (members.numbers links) (members.seat links old) (members.seat links new)

  -- the tail is at the last node, as far as the pass has seen
  abbrev pub LeavesTailLast : P → Type 0
  LeavesTailLast new = TailIsLast (heap members links new)

  -- no event of the call moves the tail
  abbrev pub LeavesTail : P → P → Type 0
  LeavesTail old new = KeepsTail (drop (length (own_events members links old)) (own_events members links new))

  -- a refusal has its cause between two places of the journal
  abbrev pub HasCause : ℕ → ℕ → QueueRefused → List S → ℕ → ℕ → Type 0
  HasCause agent turns why journal from to =
      Cause members.agent_of (members.events links) (position_of (run_heap (members.numbers links) (members.opening links)) 0)
      (members.lacking links agent journal from to) agent turns why journal from to
