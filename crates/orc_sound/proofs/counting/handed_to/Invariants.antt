use Rattle.std.proofs.Common.{◌≡◌, ◌≤◌, ◌+◌}
use Rattle.std.specs.Prelude.{◌==◌}
use Rattle.orc_words.specs.declared.place.Word.TheVariants.{Handover}
use Rattle.orc_core.specs.Machine.{word_in}
use Rattle.orc_core.proofs.Counted.{counted}
use Rattle.orc_sound.proofs.counting.handed_to.Given as goal

abbrev pub invariant-loop-slot : goal.invariant-loop-slot
invariant-loop-slot l = record { so_far : l.count ≡ counted l.slot (λ k. word_in l.state (Handover l.agent k) == l.row + 1); small : l.count ≤ l.slot }
