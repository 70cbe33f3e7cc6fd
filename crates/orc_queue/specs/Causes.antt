-- Why a call of the queue is refused: facts of a journal and two places in it.
use Rattle.std.specs.List.{list_all}
use Rattle.std.specs.Prelude.{List, drop, length, take, true, ℕ, ◌*◌, ◌+◌, ◌<◌, ◌==◌, ◌^◌, ◌≡◌, ◌≢◌, ◌≤◌}
use Rattle.orc_heap.specs.Moves.{moves_in}
use Rattle.orc_heap.specs.declared.events.Event.{Event}
use Rattle.orc_history.specs.Parts.{part_begin}
use Rattle.orc_history.specs.QueueHistory.{puts_in}
use Rattle.orc_history.specs.declared.queue.QueueEntry.{QueueEntry}
use Rattle.orc_history.specs.declared.queue.QueueRefused.{QueueRefused}
use Rattle.orc_history.specs.declared.queue.QueueRefused.TheVariants.{Again, NoNode, Positions}
use Rattle.orc_fifo_rule.specs.declared.fifo.FifoNote.{FifoNote}
use Rattle.orc_fifo_rule.specs.Counts.{entries_of_others, tooks_in}
use Rattle.orc_fifo_rule.specs.QueueDiscipline.{entries_of}

-- what agents other than this one entered in the history between the two places
abbrev pub entered_by_others : {S : Type 0} → (List S → List (Event FifoNote)) → ℕ → List S → ℕ → ℕ → List QueueEntry
entered_by_others events agent journal from to =
    entries_of_others agent (drop (length (entries_of (events (take from journal)))) (entries_of (events (take to journal))))

-- a fact of the first step of a call's part of the journal and a later place of that part
abbrev pub FromFirstStep : {S : Type 0} → (S → ℕ) → ℕ → List S → List S → (ℕ → ℕ → Type 0) → Type 0
FromFirstStep agent_of agent before after Fact = (to : ℕ) × (part_begin agent_of agent before after < to) × (to ≤ length after)
    × Fact (part_begin agent_of agent before after) to

-- a fact of the one place to which the journal had come in the call, no later than the call's first step
abbrev pub BeforeFirstStep : {S : Type 0} → (S → ℕ) → ℕ → List S → List S → (ℕ → ℕ → Type 0) → Type 0
BeforeFirstStep agent_of agent before after Fact = (at : ℕ) × (length before ≤ at) × (at ≤ part_begin agent_of agent before after) × Fact at at

-- all turns were used: as many Moves stand between the two places, and a step of another agent if they are two or more; and
-- others' Puts and Tooks there, of which each Put costs at most two turns and each Took one, cost all turns but one
pub record UsesTurns {S : Type 0} (agent_of : S → ℕ) (events : List S → List (Event FifoNote)) (agent turns : ℕ) (journal : List S) (from to : ℕ) : Type 0 where
  pub in_order : from ≤ to
  pub in_journal : to ≤ length journal
  pub moves : moves_in (events (take from journal)) + turns ≤ moves_in (events (take to journal))
  pub not_alone : 2 ≤ turns → list_all (λ s. agent_of s == agent) (drop from (take to journal)) ≡ true → ⊥
  pub cost : turns
      ≤ 2 * puts_in (entered_by_others events agent journal from to) + tooks_in (entered_by_others events agent journal from to) + 1

-- no position is left at the second place
pub record LacksPosition {S : Type 0} (events : List S → List (Event FifoNote)) (first turns : ℕ) (journal : List S) (to : ℕ) : Type 0 where
  pub some_turn : turns ≢ 0
  pub in_journal : to ≤ length journal
  pub full : 2 ^ 62 ≤ first + puts_in (entries_of (events (take to journal)))

-- the cause of each refusal, where `Lacks` says that no row could be given
abbrev pub Cause : {S : Type 0} → (S → ℕ) → (List S → List (Event FifoNote)) → ℕ → Type 0 → ℕ → ℕ → QueueRefused → List S → ℕ → ℕ → Type 0
Cause agent_of events first Lacks agent turns Again journal from to = UsesTurns agent_of events agent turns journal from to
Cause agent_of events first Lacks agent turns NoNode journal from to = (turns ≢ 0) × Lacks
Cause agent_of events first Lacks agent turns Positions journal from to = LacksPosition events first turns journal to
