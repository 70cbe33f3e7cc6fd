use Rattle.orc_pairs_rule.proofs.OwnEntries.{no_entry_no_move}
use Rattle.orc_pairs_rule.proofs.laws.a_move_of_the_pair_has_an_entry.Goals as goal

pub returns : goal.returns
returns c = no_entry_no_move
