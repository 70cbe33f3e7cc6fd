use Rattle.std.proofs.Common.{subst, ℕ, ◌+◌}
use Rattle.orc_trace.specs.Watched.{WorseOf}
use Rattle.orc_trace.proofs.auditing.look.Goals as goal

pub returns-clause-worst : goal.returns-clause-worst
returns-clause-worst c =
    subst (λ (w : ℕ). WorseOf w (c.args.seen.steps + 1) c.args.seen.most c.args.seen.after c.worse_of-most.result.0 c.worse_of-most.result.1) c.waiting_of.ensures
    c.worse_of-most.ensures

pub returns-clause-leak : goal.returns-clause-leak
returns-clause-leak c = c.first_leak-leak.ensures.leak
