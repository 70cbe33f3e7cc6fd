-- The passes of a cell's domain.
use Rattle.std.specs.Prelude.{List, ◌≡◌}
use Rattle.orc_cell.specs.CellCalls.{IsUsable}
use Rattle.orc_heap.specs.Domains.{agent}
use Rattle.orc_heap.specs.declared.links.Links.{Ghosts as LinksOf}
use Rattle.orc_pairs_rule.specs.declared.pairs.PairsNote.{PairsNote}
use Rattle.orc_shared_words.specs.Lists.{EachAt}

-- these are the passes of the first agents, in order, and each may make a call
abbrev pub AreUsable : {L D P S : Type 0} → LinksOf L D P S PairsNote → L → List P → Type 0
AreUsable members links passes = EachAt (λ i p. IsUsable members links p × (agent members links p ≡ i)) passes
