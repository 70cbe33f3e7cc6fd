use Rattle.std.proofs.Common.{arith}
use Rattle.orc_machine_rest.proofs.Leaving.{Leaving, clear_may, leaving, take_may}
use Rattle.orc_machine_rest.proofs.Passes.{StepOf, next_pass, one_step}
use Rattle.orc_core.specs.declared.ops.Op.TheVariants.{Clear, TakeIn}
use Rattle.orc_machine_rest.proofs.steps.leave_slot_zero.Given.{Over}
use Rattle.orc_machine_rest.proofs.steps.leave_slot_zero.Goals.{After-take_in}
use Rattle.orc_machine_rest.proofs.steps.leave_slot_zero.Goals as goal

-- both steps
cleared : (g : Over) (c : After-take_in g) → StepOf c.args.board.now c.args.agent (Clear 0) c.args.p.now c.clear.new.p c.clear.result
cleared g c = record { pass = c.requires.pass; belongs = c.clear.ensures.belongs; makes = c.clear.ensures.made }

taken : (g : Over) (c : After-take_in g) → StepOf c.args.board.now c.args.agent (TakeIn 0) c.clear.new.p c.take_in.new.p c.take_in.result
taken g c = record { pass = next_pass (cleared g c); belongs = c.take_in.ensures.belongs; makes = c.take_in.ensures.made }

left : (g : Over) (c : After-take_in g) → Leaving c.args.board.now c.args.agent c.args.p.now c.take_in.new.p
left g c = leaving (cleared g c) c.requires.calm c.requires.used c.requires.dec c.requires.due (taken g c)

pub returns-clause-goes : goal.returns-clause-goes
returns-clause-goes g c = (left g (goal.at.returns-clause-goes g c).After-take_in).goes

pub returns-clause-pass : goal.returns-clause-pass
returns-clause-pass g c = (left g (goal.at.returns-clause-pass g c).After-take_in).pass

pub returns-clause-few : goal.returns-clause-few
returns-clause-few g c =
    let x = (goal.at.returns-clause-few g c).After-take_in in
    let one = one_step (cleared g x) in
    let two = one_step (taken g x) in
    omega (arith, one, two)

pub returns-clause-still : goal.returns-clause-still
returns-clause-still g c = (left g (goal.at.returns-clause-still g c).After-take_in).so.still

pub returns-clause-kept : goal.returns-clause-kept
returns-clause-kept g c = (left g (goal.at.returns-clause-kept g c).After-take_in).so.kept

pub clear-requires-clause-allowed : goal.clear-requires-clause-allowed
clear-requires-clause-allowed g c = clear_may c.requires.pass c.requires.calm c.requires.used c.requires.dec c.requires.due

pub take_in-requires-clause-allowed : goal.take_in-requires-clause-allowed
take_in-requires-clause-allowed g c = take_may (record { pass = c.requires.pass; belongs = c.clear.ensures.belongs; makes = c.clear.ensures.made })
    c.requires.calm c.requires.used c.requires.dec c.requires.due
