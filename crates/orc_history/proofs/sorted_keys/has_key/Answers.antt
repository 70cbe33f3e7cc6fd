use Rattle.std.proofs.Common.{◌∙◌}
use Rattle.orc_history.proofs.SortedLists.{has-searched}
use Rattle.orc_history.proofs.sorted_keys.has_key.Goals as goal

pub returns : goal.returns
returns c = c.is_ok.ensures.value ∙ has-searched _ _ _ c.requires c.binary_search.ensures.position
