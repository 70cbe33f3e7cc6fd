use Rattle.std.proofs.Common.{◌≡◌, string_bytes, replicate, codes}
use Rattle.std.specs.List.{join_with_byte}
use Rattle.orc_job_files.proofs.generated.words.Given as goal

abbrev pub invariant-loop-at : goal.invariant-loop-at
invariant-loop-at l = string_bytes l.text ≡ join_with_byte 32 (replicate l.at (codes "ab"))
