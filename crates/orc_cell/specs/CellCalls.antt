-- What the contracts of a cell's calls say of a pass before a call, `old`, and after it, `new`.
use Rattle.std.specs.Prelude.{List, None, Some, [], replicate, slice_set, ℕ, ◌*◌, ◌+◌, ◌≡◌, ◌≤◌}
use Rattle.orc_fault.specs.declared.Spent.{Spent}
use Rattle.orc_heap.specs.Domains.{Enters as EntersHistory, InCall, agent, heap, history as history_of, own_events}
use Rattle.orc_heap.specs.Heap.{link_to, null, shown}
use Rattle.orc_heap.specs.Moves.{gives_in}
use Rattle.orc_heap.specs.Seats.{IsIdle}
use Rattle.orc_heap.specs.Slots.{Hold, Holds, id_in}
use Rattle.orc_heap.specs.declared.events.Place.TheVariants.{Root}
use Rattle.orc_heap.specs.declared.links.Links.{Ghosts as LinksOf}
use Rattle.orc_pairs_rule.specs.declared.entry.CellEntry.{CellEntry}
use Rattle.orc_pairs_rule.specs.declared.pairs.PairsNote.{PairsNote}
use Rattle.orc_pairs_rule.specs.CellHistory.{agent_of_entry}
use Rattle.orc_pairs_rule.specs.PairsDiscipline.{IsStaging, entries_in}
use Rattle.orc_cell.specs.Causes.{UsesTurns}
use Rattle.orc_history.specs.Parts.{WithinPart}

module _ {L D P S : Type 0} (members : LinksOf L D P S PairsNote) (links : L) where
  -- the staging roots of the pass's agent are null, as far as it has seen
  abbrev pub StagesNothing : P → Type 0
  StagesNothing p = (root : ℕ) → IsStaging (agent members links p) root → shown (heap members links p) (Root root) ≡ Some null

  -- a pass that may make a call: one of the domain, which holds nothing, and whose agent stages nothing
  pub record IsUsable (p : P) : Type 0 where
    pub pass : members.belongs links p
    pub idle : IsIdle (members.seat links p)
    pub staging : StagesNothing p

  -- a pass that may not make a call, since its agent has staged this part and stopped: it holds the part alone, the agent's first
  -- staging root names the part, and the second is null
  pub record StagesPart (part : Hold) (p : P) : Type 0 where
    pub pass : members.belongs links p
    pub fresh : (members.seat links p).fresh ≡ None
    pub held : Holds (members.seat links p).slots part
    pub alone : slice_set (members.seat links p).slots part.slot None ≡ replicate 8 None
    pub first : shown (heap members links p) (Root (1 + 2 * agent members links p)) ≡ Some (link_to (id_in (members.seat links p).slots part))
    pub second : shown (heap members links p) (Root (2 + 2 * agent members links p)) ≡ Some null

  -- the history of the cell that the pass has seen
  abbrev pub history : P → List CellEntry
  history p = history_of members links agent_of_entry entries_in p

  -- the call enters these entries of its agent, and others' entries may stand among them
  abbrev pub Enters : P → P → (ℕ → List CellEntry) → Type 0
  Enters old new entries = EntersHistory members links agent_of_entry entries_in old new (entries (agent members links old))

  -- it enters none
  abbrev pub EntersNone : P → P → Type 0
  EntersNone old new = Enters old new (λ agent. [])

  -- all turns were used in the call's part of the journal
  abbrev pub UsesAllTurns : ℕ → P → P → Type 0
  UsesAllTurns turns old new =
      InCall members links old new (UsesTurns (members.events links) (agent members links old) turns (members.journal new))

  -- no row could be given to the call's agent in the call's part of the journal
  abbrev pub LacksRow : P → P → Type 0
  LacksRow old new = WithinPart members.agent_of (agent members links old) (members.journal old) (members.journal new)
      (members.lacking links (agent members links old) (members.journal new))

  -- the call's agent read this row's sequence at its limit in the call's part of the journal
  abbrev pub FindsWorn : Spent → P → P → Type 0
  FindsWorn why old new = WithinPart members.agent_of (agent members links old) (members.journal old) (members.journal new)
      (members.worn links (agent members links old) why (members.journal new))

  -- it gave at most so many nodes
  abbrev pub GivesAtMost : ℕ → P → P → Type 0
  GivesAtMost most old new = gives_in (own_events members links new) ≤ gives_in (own_events members links old) + most
