use Rattle.std.proofs.Common.{rules, false, true, ◌≡◌}
use Rattle.orc_trace.proofs.LeastLeak.{least_leak, none_leaks}
use Rattle.orc_trace.specs.Watched.{at_rest}
use Rattle.orc_trace.proofs.leaks.leak_in.Goals as goal

pub returns-then-not-is_at_rest-clause-leak : goal.returns-then-not-is_at_rest-clause-leak
returns-then-not-is_at_rest-clause-leak c =
    let moves : at_rest c.args.state.now ≡ false = search rules in
    none_leaks c.args.state.now moves

pub returns-clause-leak : goal.returns-clause-leak
returns-clause-leak c =
    let rest : at_rest c.args.state.now ≡ true = search rules in
    least_leak c.args.state.now c.mark_reached.new.self.marks.items c.first_lost.result rest c.mark_reached.ensures.reached c.first_lost.ensures.some
    c.first_lost.ensures.none
