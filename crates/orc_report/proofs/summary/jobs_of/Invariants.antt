use Rattle.std.proofs.Common.{◌≡◌, take}
use Rattle.std.specs.List.{flat_map}
use Rattle.orc_report.specs.Summary.{done_in}
use Rattle.orc_report.proofs.summary.jobs_of.Given as goal

abbrev pub invariant-loop-reply : goal.invariant-loop-reply
invariant-loop-reply l = l.jobs.items ≡ flat_map (done_in l.lines) (take l.reply-index l.takes)
