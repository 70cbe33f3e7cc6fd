-- What the contracts of the list's calls say of a pass of its domain of links before a call, `old`, and after it, `new`.
use Rattle.std.specs.Prelude.{List, [], drop, length, ℕ, ◌%◌, ◌<◌, ◌≡◌, ◌≤◌}
use Rattle.orc_fault.specs.declared.Spent.{Spent}
use Rattle.orc_heap.specs.Domains.{Enters as EntersHistory, InCall, agent, heap, own_events}
use Rattle.orc_heap.specs.Moves.{gives_in, moves_in}
use Rattle.orc_heap.specs.declared.events.Event.{Event}
use Rattle.orc_heap.specs.declared.links.Links.{Ghosts as LinksOf}
use Rattle.orc_history.specs.SetHistory.{agent_of_set_entry}
use Rattle.orc_history.specs.declared.set.SetEntry.{SetEntry}
use Rattle.orc_chain_rule.specs.ChainDiscipline.{entries_in}
use Rattle.orc_chain_rule.specs.declared.chain.ChainNote.{ChainNote}
use Rattle.orc_history.specs.Parts.{WithinPart}
use Rattle.orc_list.specs.Causes.{CostTurns, UsesTurns}
use Rattle.orc_ordered_search.specs.Causes.{HasWorn}
use Rattle.orc_list.specs.Inserts.{LeavesRunOff, SeesAbsent}
use Rattle.orc_list.specs.Turns.{AreFew, LeavesOff, MarksAlone, StopsBefore}

module _ {L D P S : Type 0} (members : LinksOf L D P S ChainNote) (links : L) where
  -- the root is that of the key
  abbrev pub IsRootOf : ℕ → ℕ → Type 0
  IsRootOf root key = (root < (members.numbers links).roots) × (root ≡ key % (members.numbers links).roots)

  -- the call enters these entries of its agent, and others' entries may stand among them
  abbrev pub Enters : P → P → (ℕ → List SetEntry) → Type 0
  Enters old new entries = EntersHistory members links agent_of_set_entry entries_in old new (entries (agent members links old))

  -- it enters none
  abbrev pub EntersNone : P → P → Type 0
  EntersNone old new = Enters old new (λ agent. [])

  -- the events that the call made
  abbrev pub call_events : P → P → List (Event ChainNote)
  call_events old new = drop (length (own_events members links old)) (own_events members links new)

  -- it made few: at most two for each node at whose link it looked, and four, in each turn, and so many more in all
  abbrev pub MakesFew : ℕ → ℕ → P → P → Type 0
  MakesFew turns more old new = AreFew turns more (call_events old new)

  -- it gave at most so many nodes
  abbrev pub GivesAtMost : ℕ → P → P → Type 0
  GivesAtMost most old new = gives_in (call_events old new) ≤ most

  -- all turns were used in the call's part of the journal: as many Moves of other agents stand there
  abbrev pub UsesAllTurns : ℕ → P → P → Type 0
  UsesAllTurns turns old new = InCall members links old new
      (UsesTurns (members.numbers links) members.agent_of (members.events links) (agent members links old) turns
      (members.journal new))

  -- so many turns cost what other agents entered in the call's part of the journal, and what was left over when it began
  abbrev pub CostsOthers : ℕ → P → P → Type 0
  CostsOthers turns old new = InCall members links old new (CostTurns (members.numbers links) (members.events links) (agent members links old) turns
      (members.journal new))

  -- no row could be given to the call's agent in the call's part of the journal
  abbrev pub LacksRow : P → P → Type 0
  LacksRow old new = WithinPart members.agent_of (agent members links old) (members.journal old) (members.journal new)
      (members.lacking links (agent members links old) (members.journal new))

  -- the call's agent read this row's sequence at its limit in the call's part of the journal
  abbrev pub FindsWorn : Spent → P → P → Type 0
  FindsWorn why old new = WithinPart members.agent_of (agent members links old) (members.journal old) (members.journal new)
      (members.worn links (agent members links old) why (members.journal new))

  -- Looks of the call found an unmarked link of a place below the key lead over marked nodes to null or above the key
  abbrev pub FindsAbsent : ℕ → P → P → Type 0
  FindsAbsent key old new = SeesAbsent (members.numbers links) key (call_events old new) (members.seat links new)

  -- the node at which the call took the key out is on no chain, nor is a node of the run that its Looks found before that
  abbrev pub LeavesOffChain : ℕ → P → P → Type 0
  LeavesOffChain key old new = LeavesOff key (call_events old new) (heap members links new)

  -- the call's agent read some row's sequence at its limit, and the node at which it took the key out leads to one to which at least 32
  -- links were made
  abbrev pub StopsBeforeWorn : ℕ → P → P → Type 0
  StopsBeforeWorn key old new = HasWorn (members.worn links (agent members links old)) (members.journal old) (members.journal new)
      × StopsBefore key (call_events old new) (heap members links new) (members.seat links new).seen

  -- the run of marked nodes at which the call's Looks found the place for the key, up to null or an unmarked node, is on no chain
  abbrev pub LeavesRunOffChain : ℕ → P → P → Type 0
  LeavesRunOffChain key old new = LeavesRunOff key (call_events old new) (heap members links new)

  -- one event of the call takes the key out at a node, and it is the call's only Move: no place was led past the node
  abbrev pub LeavesMarked : ℕ → P → P → Type 0
  LeavesMarked key old new = MarksAlone key (call_events old new)

  -- the call looked, and moved nothing
  abbrev pub LooksAlone : P → P → Type 0
  LooksAlone old new = (1 ≤ length (call_events old new)) × (moves_in (call_events old new) ≡ 0)
