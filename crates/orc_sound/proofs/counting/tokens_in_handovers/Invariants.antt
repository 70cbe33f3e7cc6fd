use Rattle.std.proofs.Common.{◌≡◌, ◌≤◌, ◌+◌, ◌*◌}
use Rattle.std.specs.Prelude.{◌==◌}
use Rattle.orc_words.specs.declared.place.Word.TheVariants.{Handover}
use Rattle.orc_core.specs.Machine.{word_in}
use Rattle.orc_core.specs.Sums.{count_below}
use Rattle.orc_core.proofs.Counted.{summed}
use Rattle.orc_sound.proofs.counting.tokens_in_handovers.Given as goal

abbrev pub invariant-loop-agent : goal.invariant-loop-agent
invariant-loop-agent l =
    record { so_far : l.count ≡ summed l.agent (λ a. count_below 8 (λ k. word_in l.state (Handover a k) == l.row + 1)); small : l.count ≤ 8 * l.agent }
