use Rattle.std.proofs.Common.{◌≡◌, ◌≤◌}
use Rattle.std.specs.Prelude.{not, ◌==◌}
use Rattle.orc_words.specs.declared.place.Word.TheVariants.{Handover}
use Rattle.orc_core.specs.Machine.{word_in}
use Rattle.orc_core.proofs.Counted.{counted}
use Rattle.orc_trace.proofs.waiting.handovers_of.Given as goal

abbrev pub invariant-loop-slot : goal.invariant-loop-slot
invariant-loop-slot l = record { so_far : l.count ≡ counted l.slot (λ k. not (word_in l.state (Handover l.agent k) == 0)); small : l.count ≤ l.slot }
