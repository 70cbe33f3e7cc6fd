use Rattle.std.proofs.Common.{map, ◌≡◌}
use Rattle.std.specs.List.{range_with_len}
use Rattle.orc_words.specs.Packed.{gate_of}
use Rattle.orc_words.specs.declared.place.Word.TheVariants.{Gate}
use Rattle.orc_core.specs.Machine.{word_in}
use Rattle.orc_trace.proofs.auditing.lives_of.Given as goal

abbrev pub invariant-loop-row : goal.invariant-loop-row
invariant-loop-row l = l.lives ≡ map (λ r. (gate_of (word_in l.state (Gate r))).life) (range_with_len 0 l.row)
