use Rattle.std.proofs.Common.{ap, sym, not}
use Rattle.std.proofs.lemmas.List.Sorted.{IsPermutation-trans, IsPermutation-to_front, IsPermutation-insert}
use Rattle.orc_history.proofs.SortedLists.{has-found, has-missed, missed_at, IsStrictlyIncreasing-insert}
use Rattle.orc_history.proofs.sorted_keys.add_key.Goals as goal

pub returns-in_default-clause-answer : goal.returns-in_default-clause-answer
returns-in_default-clause-answer c = sym (ap not (has-found _ _ _ c.requires.rising c.in_default.ensures.position))

pub returns-clause-answer : goal.returns-clause-answer
returns-clause-answer c = sym (ap not (has-missed _ _ _ c.requires.rising c.in-Err.ensures.position))

pub returns-clause-keys : goal.returns-clause-keys
returns-clause-keys c = rw c.in-Ok.ensures.items (IsPermutation-trans _ _ _ (IsPermutation-to_front _ _) (IsPermutation-insert _ _ _))

pub returns-clause-rising : goal.returns-clause-rising
returns-clause-rising c =
    let missed = missed_at _ _ _ c.requires.rising c.in-Err.ensures.position in
    rw c.in-Ok.ensures.items (IsStrictlyIncreasing-insert _ _ _ c.requires.rising missed.below missed.above)
