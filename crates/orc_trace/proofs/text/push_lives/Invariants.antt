use Rattle.std.proofs.Common.{◌++◌, ◌≡◌}
use Rattle.std.specs.List.{flat_map, range_with_len}
use Rattle.std.specs.Prelude.{slice_index}
use Rattle.std.specs.String.{string_bytes}
use Rattle.orc_trace.specs.Answers.{life_line}
use Rattle.orc_trace.proofs.text.push_lives.Given as goal

abbrev pub invariant-loop-row : goal.invariant-loop-row
invariant-loop-row l = string_bytes l.text ≡ string_bytes l.initial.text ++ flat_map (λ r. life_line r (slice_index l.lives r)) (range_with_len 0 l.row)
