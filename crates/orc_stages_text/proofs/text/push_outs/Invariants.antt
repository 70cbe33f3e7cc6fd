use Rattle.std.proofs.Common.{◌≡◌, ◌++◌, take}
use Rattle.std.specs.String.{string_bytes}
use Rattle.orc_stages_text.specs.StagesText.{out_lines}
use Rattle.orc_stages_text.proofs.text.push_outs.Given as goal

abbrev pub invariant-loop-at : goal.invariant-loop-at
invariant-loop-at l = string_bytes l.text ≡ string_bytes l.initial.text ++ out_lines 0 (take l.at l.outs)
