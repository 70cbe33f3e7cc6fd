use Rattle.std.proofs.Common.{◌-◌}
use Rattle.orc_trace.proofs.Reached.{Followed}
use Rattle.orc_trace.proofs.reaching.find_all.Given as goal

abbrev pub decreases-loop-next : goal.decreases-loop-next
decreases-loop-next l = l.state.bounds.rows - l.next

abbrev pub invariant-loop-next : goal.invariant-loop-next
invariant-loop-next l = Followed l.state l.marks l.found l.count l.next
