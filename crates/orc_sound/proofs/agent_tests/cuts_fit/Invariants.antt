use Rattle.std.proofs.Common.{◌≡◌}
use Rattle.std.specs.Prelude.{nat_lt, not, ◌==◌, ◌||◌}
use Rattle.orc_words.specs.Places.{link_at}
use Rattle.orc_core.specs.Machine.{word_in}
use Rattle.orc_sound.proofs.Passed.{passed}
use Rattle.orc_sound.proofs.agent_tests.cuts_fit.Given as goal

abbrev pub invariant-loop-number : goal.invariant-loop-number
invariant-loop-number l = l.null ≡ passed l.number (λ n. not (nat_lt n l.doom.cuts) || (word_in l.state (link_at n l.doom.row) == 0))
