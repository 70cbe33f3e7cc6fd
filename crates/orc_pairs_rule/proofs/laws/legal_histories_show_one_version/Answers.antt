use Rattle.std.proofs.Common.{◌∷◌}
use Rattle.orc_pairs_rule.specs.CellHistory.{no_parts}
use Rattle.orc_pairs_rule.specs.declared.entry.CellEntry.TheVariants.{Published, Seen}
use Rattle.orc_pairs_rule.specs.Laws.Histories.{legal-right}
use Rattle.orc_pairs_rule.proofs.laws.legal_histories_show_one_version.Goals as goal

pub returns-clause-seen : goal.returns-clause-seen
returns-clause-seen c = λ before after agent left right legal. (legal-right no_parts before (Seen agent left right ∷ after) legal).0

pub returns-clause-published : goal.returns-clause-published
returns-clause-published c = λ before after agent left right x y legal. (legal-right no_parts before (Published agent left right x y ∷ after) legal).0
