use Rattle.std.proofs.Common.{◌≡◌, ◌%◌, map, string_bytes, decimal}
use Rattle.std.specs.List.{join_with_byte}
use Rattle.orc_jobs.specs.Generated.{behind, draws}
use Rattle.orc_job_files.proofs.generated.numbers.Given as goal

abbrev pub invariant-loop-at : goal.invariant-loop-at
invariant-loop-at l = record {
  text : string_bytes l.text ≡ join_with_byte 32 (map decimal (map (λ draw. draw % 1000) (draws l.at l.state)));
  draw : l.draw ≡ behind l.at l.state;
}
