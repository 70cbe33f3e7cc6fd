use Rattle.std.proofs.Common.{sym, ◌∙◌}
use Rattle.orc_history.proofs.SortedLists.{has-missed, found_at, remove-without_key}
use Rattle.orc_history.proofs.sorted_keys.take_key.Goals as goal

pub returns-in_default-clause-answer : goal.returns-in_default-clause-answer
returns-in_default-clause-answer c = sym (has-missed _ _ _ c.requires c.in_default.ensures.position)

pub returns-clause-keys : goal.returns-clause-keys
returns-clause-keys c =
    let at = found_at _ _ _ c.requires c.in-Ok.ensures.position in
    let removed = rw (c.remove.ensures.succeeds 0 c.in-Ok.ensures.bound) at c.remove.ensures.items in
    removed ∙ remove-without_key _ _ _ c.requires at.0 at.1
