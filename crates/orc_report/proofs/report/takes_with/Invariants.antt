use Rattle.std.proofs.Common.{◌≡◌, take}
use Rattle.orc_board.specs.Reportable.{takes_with}
use Rattle.orc_report.proofs.report.takes_with.Given as goal

abbrev pub invariant-loop-reply : goal.invariant-loop-reply
invariant-loop-reply l = l.given.items ≡ takes_with l.rush (take l.reply-index l.takes)
