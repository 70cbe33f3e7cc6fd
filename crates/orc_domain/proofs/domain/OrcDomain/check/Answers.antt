use Rattle.std.proofs.Common.{arith, subst, sym, ◌≤◌}
use Rattle.orc_core.specs.declared.ops.CounterUse.TheVariants.{Check}
use Rattle.orc_core.specs.declared.ops.Op.TheVariants.{CounterLoad}
use Rattle.orc_machine_board.specs.Kinds.{MakesPlain, MayDo}
use Rattle.orc_machine_board.specs.Views.{shows}
use Rattle.orc_domain.proofs.Seats.{ready_calm}
use Rattle.orc_domain.proofs.Ending.{stage_of}
use Rattle.orc_domain.proofs.Wearing.{check_can, checks, is_worn, is_worn_in}
use Rattle.orc_domain.specs.Passes.{domain_bounds}
use Rattle.orc_words.specs.Bounds.{link_limit}
use Rattle.orc_words.specs.Packed.{sequence_of}
use Rattle.orc_domain.proofs.domain.OrcDomain.check.Given.{Over}
use Rattle.orc_domain.proofs.domain.OrcDomain.check.Goals.{After-counter_load-counter}
use Rattle.orc_domain.proofs.domain.OrcDomain.check.Goals as goal

-- the load of the row's counter
loaded : (g : Over) (c : After-counter_load-counter g)
    → MakesPlain (domain_bounds c.args.self.now) (CounterLoad c.args.h.now.row Check) (shows c.args.p.now) c.counter_load-counter.result
    (shows c.counter_load-counter.new.p)
loaded g c = subst (λ r. MakesPlain (domain_bounds c.args.self.now) (CounterLoad r Check) (shows c.args.p.now) c.counter_load-counter.result
    (shows c.counter_load-counter.new.p)) c.row-row.ensures c.counter_load-counter.ensures.made

pub counter_load-counter-requires-clause-allowed : goal.counter_load-counter-requires-clause-allowed
counter_load-counter-requires-clause-allowed g c =
    subst (λ r. MayDo (domain_bounds c.args.self.now) (shows c.args.p.now) (CounterLoad r Check)) (sym c.row-row.ensures)
    (check_can (stage_of c.requires.belongs) c.args.h.now c.requires.held (ready_calm (shows c.args.p.now).record_is c.requires.ready))

pub returns-clause-checks : goal.returns-clause-checks
returns-clause-checks g c =
    checks (stage_of c.requires.belongs) c.args.h.now c.requires.held (stage_of c.counter_load-counter.ensures.belongs) c.counter_load-counter.result
    (loaded g (goal.at.returns-clause-checks g c).After-counter_load-counter)

pub returns-then-sequence-link_limit : goal.returns-then-sequence-link_limit
returns-then-sequence-link_limit g c =
    let s = stage_of c.requires.belongs in
    let t = stage_of c.counter_load-counter.ensures.belongs in
    let n = c.counter_load-counter.result in
    let load = loaded g (goal.at.returns-then-sequence-link_limit g c).After-counter_load-counter in
    let is = c.if-sequence-link_limit.true in
    let one = c.link_limit.ensures in
    let two = c.shape.ensures in
    let high : link_limit (domain_bounds c.args.self.now) ≤ sequence_of n = grind arith in
    record {
      belongs = c.counter_load-counter.ensures.belongs;
      checks = checks s c.args.h.now c.requires.held t n load;
      low = tt;
      spent = is_worn s c.args.h.now c.requires.held t n load _ (λ i. record { row = c.row-row.ensures i; sequence = sequence_of n }) high;
      worn = is_worn_in s c.args.h.now c.requires.held t n load _ (λ i. record { row = c.row-row.ensures i; sequence = sequence_of n }) high;
    }
