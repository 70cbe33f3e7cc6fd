-- What a cell is to the workers of a watch, and what is known of a journal of it.
use Rattle.std.specs.Prelude.{List, ◌++◌, ◌<◌}
use Rattle.std.specs.List.{AllByRecursion}
use mathlib.Core.List.{IsPrefix}
use Rattle.orc_heap.specs.declared.links.Links.{Ghosts as LinksOf}
use Rattle.orc_pairs_rule.specs.CellHistory.{IsLegalCell, agent_of_entry}
use Rattle.orc_pairs_rule.specs.PairsDiscipline.{entries_of}
use Rattle.orc_pairs_rule.specs.declared.entry.CellEntry.{CellEntry}
use Rattle.orc_pairs_rule.specs.declared.pairs.PairsNote.{PairsNote}
use Rattle.orc_team.specs.Site.{Site}
use Rattle.orc_watch_run.specs.Passes.{IsUsablePassOf}

-- the one container of a watch is the cell, and a worker's desk is its pass of it
abbrev pub cell_site : {L D P S : Type 0} → LinksOf L D P S PairsNote → L → Site P
cell_site {P = P} {S = S} members links = record {
  Container = Unit {0};
  Step = λ c. S;
  Entry = λ c. CellEntry;
  agent_of = λ c. agent_of_entry;
  history = λ c j. entries_of (members.events links j);
  journal = λ c p. members.journal p;
  usable = IsUsablePassOf members links;
}

module _ {L D P S : Type 0} (members : LinksOf L D P S PairsNote) (links : L) where
  -- what is known of the journal that a pass of the cell has seen
  pub record LawsTell (p : P) : Type 0 where
    pub grows : (seen more : List S) → IsPrefix (entries_of (members.events links seen)) (entries_of (members.events links (seen ++ more)))
    pub below : AllByRecursion (λ e. agent_of_entry e < members.agents links) (entries_of (members.events links (members.journal p)))
    pub legal : IsLegalCell (entries_of (members.events links (members.journal p)))
