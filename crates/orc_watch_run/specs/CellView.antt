-- What the definitions of a watch see of a cell: its history, what licenses its refusals, and the agents of its domain.
use Rattle.std.specs.Prelude.{Bool, List, ℕ, ◌<◌, ◌==◌}
use Rattle.orc_heap.specs.declared.links.Links.{Ghosts as LinksOf}
use Rattle.orc_pairs_rule.specs.CellHistory.{agent_of_entry}
use Rattle.orc_pairs_rule.specs.PairsDiscipline.{entries_of}
use Rattle.orc_pairs_rule.specs.declared.entry.CellEntry.{CellEntry}
use Rattle.orc_pairs_rule.specs.declared.pairs.PairsNote.{PairsNote}
use Rattle.orc_cell.specs.Causes.{UsesTurns}
use Rattle.orc_cell.specs.declared.refused.CellRefused.{CellRefused}
use Rattle.orc_cell.specs.declared.refused.CellRefused.TheVariants.{Again, NoNode, Spent}
use Rattle.orc_board.specs.Stretches.{Kind, View, turns}

-- all entries of a worker count
abbrev pub is_own_entry : ℕ → CellEntry → Bool
is_own_entry worker e = agent_of_entry e == worker

abbrev pub of_cell : Kind CellEntry
of_cell = record { agent_of = agent_of_entry; is_own = is_own_entry }

-- what licenses a refusal of a call by this agent between two places of a journal: others' publishes used up all turns, no row could be
-- given to the agent, or it read this row's sequence at its limit
abbrev pub Licenses : {L D P S : Type 0} → LinksOf L D P S PairsNote → L → ℕ → CellRefused → List S → ℕ → ℕ → Type 0
Licenses members links agent Again j from to = UsesTurns (members.events links) agent turns j from to
Licenses members links agent NoNode j from to = members.lacking links agent j from to
Licenses members links agent (Spent why) j from to = members.worn links agent why j from to

-- the view of the cell over this domain
abbrev pub cell_view : {L D P S : Type 0} → LinksOf L D P S PairsNote → L → View S CellEntry CellRefused
cell_view members links =
    record { history = λ j. entries_of (members.events links j); licence = Licenses members links; crowd = λ by. by < members.agents links }
