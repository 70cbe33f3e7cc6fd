use Rattle.std.proofs.Common.{◌≡◌, ◌++◌, codes, decimal, length, string_bytes, take}
use Rattle.std.specs.List.{flat_map}
use Rattle.orc_report.specs.Summary.{firsts, operations_of, total_line}
use Rattle.orc_report.proofs.summary.write_summary.Given as goal

abbrev pub invariant-loop-place : goal.invariant-loop-place
invariant-loop-place l = string_bytes l.text ≡ codes "done " ++ decimal (length l.jobs) ++ codes "\n"
    ++ flat_map (total_line l.jobs) (take l.place (firsts (operations_of l.jobs)))
