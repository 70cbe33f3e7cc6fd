use Rattle.std.proofs.Common.{ap, arith, eqb-true, inl, inr, ◌/◌, ◌<◌, ◌≤◌, ◌∙◌, ◌%◌}
use Rattle.std.proofs.lemmas.Bool.{eq-eqb, eqb-false, false≢true, ne_eqb}
use Rattle.orc_domain.proofs.Ending.{stage_of}
use Rattle.orc_domain.proofs.Trying.{LooksAt, ReadsCounter, count_fails, look_fails, take_can, take_fails, take_gets}
use Rattle.orc_domain.specs.Passes.{domain_bounds}
use Rattle.orc_words.specs.Bounds.{Bounds}
use Rattle.orc_words.specs.Packed.{sequence_of}
use Rattle.orc_domain.proofs.domain.OrcDomain.try_take.Given.{Over}
use Rattle.orc_domain.proofs.domain.OrcDomain.try_take.Goals.{After-counter_load-counter, After-gate_look-gate}
use Rattle.orc_domain.proofs.domain.OrcDomain.try_take.Goals as goal

looks : (g : Over) (c : After-gate_look-gate g)
    → LooksAt (stage_of c.requires.belongs) (stage_of c.gate_look-gate.ensures.belongs) c.args.row c.gate_look-gate.result
looks g c = record { low = c.requires.row; made = c.gate_look-gate.ensures.made }

reads : (g : Over) (c : After-counter_load-counter g)
    → ReadsCounter (stage_of c.gate_look-gate.ensures.belongs) (stage_of c.counter_load-counter.ensures.belongs) c.args.row c.gate_look-gate.result
    c.counter_load-counter.result
reads g c = record { free = ne_eqb (c.gate_look-gate.result % 2) 1 c.if-gate-eq1.false; made = c.counter_load-counter.ensures.made }

pub returns-then-gate-eq1-clause-lost : goal.returns-then-gate-eq1-clause-lost
returns-then-gate-eq1-clause-lost g c f =
    look_fails (looks g (goal.at.returns-then-gate-eq1-clause-lost g c).After-gate_look-gate) (inl (eq-eqb (c.gate_look-gate.result % 2) 1 c.if-gate-eq1.true))

pub returns-then-gate-limit-clause-lost : goal.returns-then-gate-limit-clause-lost
returns-then-gate-limit-clause-lost g c f =
    let above = c.if-gate-limit.true in
    let same = c.limit-limit.ensures in
    let high : (domain_bounds c.args.self.now).limit ≤ c.gate_look-gate.result / 2 = grind arith in
    look_fails (looks g (goal.at.returns-then-gate-limit-clause-lost g c).After-gate_look-gate) (inr high)

pub returns-then-counter-limit-clause-lost : goal.returns-then-counter-limit-clause-lost
returns-then-counter-limit-clause-lost g c f =
    let at = goal.at.returns-then-counter-limit-clause-lost g c in
    let above = c.if-counter-limit.true in
    let same = c.limit-limit.ensures in
    let high : (domain_bounds c.args.self.now).limit ≤ sequence_of c.counter_load-counter.result = grind arith in
    count_fails (looks g at.After-gate_look-gate) (reads g at.After-counter_load-counter) high

pub gate_take-taken-requires-clause-allowed : goal.gate_take-taken-requires-clause-allowed
gate_take-taken-requires-clause-allowed g c =
    let at = goal.at.gate_take-taken-requires-clause-allowed g c in
    let life = c.if-gate-limit.false in
    let sequence = c.if-counter-limit.false in
    let same = c.limit-limit.ensures ∙ ap (λ (b : Bounds). b.limit) c.shape.ensures in
    let young : c.gate_look-gate.result / 2 < (domain_bounds c.args.self.now).limit = omega (arith, life, same) in
    let few : sequence_of c.counter_load-counter.result < (domain_bounds c.args.self.now).limit = omega (arith, sequence, same) in
    take_can (looks g at.After-gate_look-gate) (reads g at.After-counter_load-counter) c.requires.ready c.requires.no_other young few

pub returns-clause-lost : goal.returns-clause-lost
returns-clause-lost g c f =
    let at = goal.at.returns-clause-lost g c in
    let e = c.gate_take-taken in
    take_fails (looks g at.After-gate_look-gate) (reads g at.After-counter_load-counter) (stage_of e.ensures.belongs) e.result e.ensures.made (eqb-false e.result 1 f)

pub returns-clause-took : goal.returns-clause-took
returns-clause-took g c f =
    let at = goal.at.returns-clause-took g c in
    let e = c.gate_take-taken in
    take_gets (looks g at.After-gate_look-gate) (reads g at.After-counter_load-counter) (stage_of e.ensures.belongs) e.result e.ensures.made (eqb-true e.result 1 f)

pub gate_look-gate-requires-clause-belongs : goal.gate_look-gate-requires-clause-belongs
gate_look-gate-requires-clause-belongs g c = c.requires.belongs

pub counter_load-counter-requires-clause-belongs : goal.counter_load-counter-requires-clause-belongs
counter_load-counter-requires-clause-belongs g c = c.gate_look-gate.ensures.belongs

pub gate_take-taken-requires-clause-belongs : goal.gate_take-taken-requires-clause-belongs
gate_take-taken-requires-clause-belongs g c = c.counter_load-counter.ensures.belongs

pub returns-then-gate-eq1-clause-belongs : goal.returns-then-gate-eq1-clause-belongs
returns-then-gate-eq1-clause-belongs g c = c.gate_look-gate.ensures.belongs

pub returns-then-gate-eq1-clause-took : goal.returns-then-gate-eq1-clause-took
returns-then-gate-eq1-clause-took g c is = absurd (false≢true is)

pub returns-then-gate-limit-clause-belongs : goal.returns-then-gate-limit-clause-belongs
returns-then-gate-limit-clause-belongs g c = c.gate_look-gate.ensures.belongs

pub returns-then-gate-limit-clause-took : goal.returns-then-gate-limit-clause-took
returns-then-gate-limit-clause-took g c is = absurd (false≢true is)

pub returns-then-counter-limit-clause-belongs : goal.returns-then-counter-limit-clause-belongs
returns-then-counter-limit-clause-belongs g c = c.counter_load-counter.ensures.belongs

pub returns-then-counter-limit-clause-took : goal.returns-then-counter-limit-clause-took
returns-then-counter-limit-clause-took g c is = absurd (false≢true is)

pub returns-clause-belongs : goal.returns-clause-belongs
returns-clause-belongs g c = c.gate_take-taken.ensures.belongs
