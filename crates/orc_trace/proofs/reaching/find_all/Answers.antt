use Rattle.std.proofs.Common.{rules, ◌≤◌}
use Rattle.orc_trace.proofs.Reached.{all_found}
use Rattle.orc_trace.proofs.reaching.find_all.Goals as goal

pub returns-clause-reached : goal.returns-clause-reached
returns-clause-reached c =
    let end : c.loop-next.count ≤ c.loop-next.next = search rules in
    all_found c.args.state.now c.loop-next.marks c.loop-next.found c.loop-next.count c.loop-next.next c.loop-next.invariant end
