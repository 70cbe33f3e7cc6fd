use Rattle.std.proofs.Common.{◌≡◌, string_bytes, replicate}
use Rattle.orc_job_files.proofs.generated.letters.Given as goal

abbrev pub invariant-loop : goal.invariant-loop
invariant-loop l = string_bytes l.text ≡ replicate l.counter 120
