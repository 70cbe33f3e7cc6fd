use Rattle.std.proofs.Common.{◌≡◌}
use Rattle.std.specs.Prelude.{◌==◌}
use Rattle.orc_words.specs.Places.{link_at}
use Rattle.orc_core.specs.Machine.{word_in}
use Rattle.orc_sound.proofs.Passed.{passed}
use Rattle.orc_sound.proofs.row_tests.null_links.Given as goal

abbrev pub invariant-loop-number : goal.invariant-loop-number
invariant-loop-number l = l.null ≡ passed l.number (λ n. word_in l.state (link_at n l.row) == 0)
