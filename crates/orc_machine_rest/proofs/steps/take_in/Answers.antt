use Rattle.orc_machine_rest.proofs.Taking.{may_take, still_between, taken_in, takes}
use Rattle.orc_machine_rest.proofs.Passes.{StepOf, next_pass, one_step}
use Rattle.orc_core.specs.declared.ops.Op.TheVariants.{TakeIn}
use Rattle.orc_machine_rest.proofs.steps.take_in.Given.{Over}
use Rattle.orc_machine_rest.proofs.steps.take_in.Goals.{After-take_in}
use Rattle.orc_machine_rest.proofs.steps.take_in.Goals as goal

-- the one step
made : (g : Over) (c : After-take_in g) → StepOf c.args.board.now c.args.agent (TakeIn c.args.k) c.args.p.now c.take_in.new.p c.take_in.result
made g c = record { pass = c.requires.pass; belongs = c.take_in.ensures.belongs; makes = c.take_in.ensures.made }

pub take_in-requires-clause-allowed : goal.take_in-requires-clause-allowed
take_in-requires-clause-allowed g c = may_take c.requires.pass c.requires.between c.requires.slot

pub returns-clause-pass : goal.returns-clause-pass
returns-clause-pass g c = next_pass (made g (goal.at.returns-clause-pass g c).After-take_in)

pub returns-clause-between : goal.returns-clause-between
returns-clause-between g c = still_between (made g (goal.at.returns-clause-between g c).After-take_in) c.requires.between

pub returns-clause-takes : goal.returns-clause-takes
returns-clause-takes g c = takes (made g (goal.at.returns-clause-takes g c).After-take_in)

pub returns-clause-taken_in : goal.returns-clause-taken_in
returns-clause-taken_in g c = taken_in (made g (goal.at.returns-clause-taken_in g c).After-take_in)

pub returns-clause-few : goal.returns-clause-few
returns-clause-few g c = one_step (made g (goal.at.returns-clause-few g c).After-take_in)
