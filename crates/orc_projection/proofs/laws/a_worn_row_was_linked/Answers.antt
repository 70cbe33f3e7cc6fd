use Rattle.orc_projection.proofs.Worn.{row_spends, row_worn}
use Rattle.orc_projection.proofs.laws.a_worn_row_was_linked.Goals as goal

pub returns-clause-spending : goal.returns-clause-spending
returns-clause-spending g c = row_spends

pub returns-clause-worn : goal.returns-clause-worn
returns-clause-worn g c = row_worn
