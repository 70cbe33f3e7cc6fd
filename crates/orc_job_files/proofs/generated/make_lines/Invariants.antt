use Rattle.std.proofs.Common.{◌≡◌, ◌-◌, ◌++◌}
use Rattle.orc_jobs.specs.Generated.{generated, lines_from}
use Rattle.orc_job_files.proofs.generated.make_lines.Given as goal

-- what was made, and what is still to be made
abbrev pub invariant-loop-id : goal.invariant-loop-id
invariant-loop-id l = l.made ++ lines_from (l.fn.lines - l.id) l.id l.state ≡ generated l.fn.seed l.fn.lines
