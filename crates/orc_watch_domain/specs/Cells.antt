-- A cell over a reclaiming domain, as the definition of replies that follow its history sees it.
use Rattle.std.specs.Prelude.{List, ℕ, ◌*◌, ◌+◌, ◌<◌, ◌^◌}
use Rattle.orc_board.specs.Stretches.{View, turns}
use Rattle.orc_cell.specs.Causes.{UsesTurns}
use Rattle.orc_cell.specs.declared.refused.CellRefused.{CellRefused}
use Rattle.orc_cell.specs.declared.refused.CellRefused.TheVariants.{Again, NoNode, Spent}
use Rattle.orc_pairs_rule.specs.PairsDiscipline.{entries_of}
use Rattle.orc_pairs_rule.specs.declared.entry.CellEntry.{CellEntry}
use Rattle.orc_pairs_rule.specs.declared.pairs.PairsNote.{PairsNote}
use Rattle.orc_projection.specs.Projection.{project}
use Rattle.orc_domain.specs.Causes.{IsLacking, IsWornIn}
use Rattle.orc_sound.specs.declared.steps.Step.{Step}
use Rattle.orc_words.specs.Bounds.{Bounds}

-- the sizes of the domain of a cell with so many rows and agents: a root for the pair, and two for the new parts of each agent
abbrev pub cell_bounds : ℕ → ℕ → Bounds
cell_bounds rows agents = record { rows = rows; roots = 1 + 2 * agents; agents = agents; limit = 2 ^ 39; links = 2 }

-- what licenses a refusal of a call by this agent between two places of a journal: others' publishes used up all turns; each row was
-- out or spent at some time; or the agent read a row's sequence as the limit for links or more
abbrev pub LicensesOver : Bounds → ℕ → CellRefused → List (Step PairsNote) → ℕ → ℕ → Type 0
LicensesOver b agent Again journal from to = UsesTurns (project b) agent turns journal from to
LicensesOver b agent NoNode journal from to = IsLacking b agent journal from to
LicensesOver b agent (Spent why) journal from to = IsWornIn b agent why journal from to

-- a cell over a domain of these sizes: a journal's history is that of the notes of its events; all agents may step in between
abbrev pub cell_over : Bounds → View (Step PairsNote) CellEntry CellRefused
cell_over b = record { history = λ journal. entries_of (project b journal); licence = LicensesOver b; crowd = λ agent. agent < b.agents }
