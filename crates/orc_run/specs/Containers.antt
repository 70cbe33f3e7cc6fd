-- A queue and the sets over any domain, and over a reclaiming one, as the definition of replies that follow three journals sees them.
use Rattle.std.specs.Prelude.{◌<◌}
use Rattle.orc_words.specs.Bounds.{Bounds}
use Rattle.orc_sound.specs.declared.steps.Step.{Step}
use Rattle.orc_heap.specs.Journals.{run_heap}
use Rattle.orc_heap.specs.declared.links.Links.{Ghosts as LinksOf}
use Rattle.orc_projection.specs.Mirror.{numbers_of}
use Rattle.orc_projection.specs.Projection.{project}
use Rattle.orc_history.specs.declared.queue.QueueEntry.{QueueEntry}
use Rattle.orc_history.specs.declared.queue.QueueRefused.{QueueRefused}
use Rattle.orc_history.specs.declared.set.SetEntry.{SetEntry}
use Rattle.orc_history.specs.declared.set.ListRefused.{ListRefused}
use Rattle.orc_fifo_rule.specs.QueueDiscipline.{entries_of, position_of}
use Rattle.orc_fifo_rule.specs.declared.fifo.FifoNote.{FifoNote}
use Rattle.orc_chain_rule.specs.ChainDiscipline.{entries_of as set_entries_of}
use Rattle.orc_chain_rule.specs.declared.chain.ChainNote.{ChainNote}
use Rattle.orc_split_rule.specs.SplitDiscipline.{entries_of as split_entries_of}
use Rattle.orc_split_rule.specs.declared.split.SplitNote.{SplitNote}
use Rattle.orc_domain.specs.Causes.{IsLacking, IsWornIn}
use Rattle.orc_queue.specs.Causes.{Cause}
use Rattle.orc_list.specs.Causes.{Cause as SetCause}
use Rattle.orc_list.specs.SetMembers.{HasCause, set_history}
use Rattle.orc_split_set.specs.SetCalls.{HasCause as HasSplitCause, set_history as split_history}
use Rattle.orc_ordered_search.specs.Causes.{Cause as SplitCause}
use Rattle.orc_board.specs.Stretches.{View, turns}
pub use Rattle.orc_at_rest.specs.Queues.{queue_over}

-- a queue over any domain with the queue discipline: a journal's history is that of the domain's events
abbrev pub queue_on : {L D P S : Type 0} → LinksOf L D P S FifoNote → L → View S QueueEntry QueueRefused
queue_on members links = record {
  history = λ journal. entries_of (members.events links journal);
  licence = λ agent why journal from to.
      Cause members.agent_of (members.events links) (position_of (run_heap (members.numbers links) (members.opening links)) 0)
      (members.lacking links agent journal from to) agent turns why journal from to;
  crowd = λ agent. agent < members.agents links;
}

-- the same of a set in buckets, and of a split-ordered one
abbrev pub set_on : {L D P S : Type 0} → LinksOf L D P S ChainNote → L → View S SetEntry ListRefused
set_on members links = record {
  history = λ journal. set_history members links journal;
  licence = λ agent why journal from to. HasCause members links agent turns why journal from to;
  crowd = λ agent. agent < members.agents links;
}

abbrev pub split_on : {L D P S : Type 0} → LinksOf L D P S SplitNote → L → View S SetEntry ListRefused
split_on members links = record {
  history = λ journal. split_history members links journal;
  licence = λ agent why journal from to. HasSplitCause members links agent turns why journal from to;
  crowd = λ agent. agent < members.agents links;
}

-- a set in buckets over a domain of these sizes: a journal's history is that of the notes of its events; a node is refused where each row
-- was out or spent at some time of the call, and a row whose sequence was read as the limit for links or more; all agents may step in between
abbrev pub set_over : Bounds → View (Step ChainNote) SetEntry ListRefused
set_over b = record {
  history = λ journal. set_entries_of (project b journal);
  licence = λ agent why journal from to. SetCause (numbers_of b) (λ s. s.agent) (λ j. project b j) (IsLacking b agent journal from to)
      (λ spent. IsWornIn b agent spent journal from to) agent turns why journal from to;
  crowd = λ agent. agent < b.agents;
}

-- the same of a split-ordered set
abbrev pub split_over : Bounds → View (Step SplitNote) SetEntry ListRefused
split_over b = record {
  history = λ journal. split_entries_of (project b journal);
  licence = λ agent why journal from to. SplitCause (λ s. s.agent) (λ j. project b j) (IsLacking b agent journal from to)
      (λ spent. IsWornIn b agent spent journal from to) agent turns why journal from to;
  crowd = λ agent. agent < b.agents;
}
