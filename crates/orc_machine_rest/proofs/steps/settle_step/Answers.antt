use Rattle.std.proofs.Common.{ℕ, ◌≡◌}
use Rattle.std.specs.Prelude.{None}
use Rattle.orc_machine_rest.proofs.Makes.{silent}
use Rattle.orc_machine_rest.proofs.Passes.{StepOf, after_step, goes, may_do, next_pass, one_step, opens, read_step, word_answered}
use Rattle.orc_machine_rest.specs.Passes.{agent_record, state_of}
use Rattle.orc_core.specs.Machine.{word_in}
use Rattle.orc_machine_board.specs.Views.{shows}
use Rattle.orc_projection.specs.PresentIds.{PresentIds}
use Rattle.orc_projection.specs.Projection.{act_of}
use Rattle.orc_machine_rest.proofs.steps.settle_step.Given.{Over}
use Rattle.orc_machine_rest.proofs.steps.settle_step.Goals.{After-plain_step}
use Rattle.orc_machine_rest.proofs.steps.settle_step.Goals as goal

-- the one step
made : (g : Over) (c : After-plain_step g) → StepOf c.args.board.now c.args.agent c.args.op c.args.p.now c.plain_step.new.p c.plain_step.result
made g c = record { pass = c.requires.pass; belongs = c.plain_step.ensures.belongs; makes = c.plain_step.ensures.makes }

-- it is no act
no_act : (g : Over) (c : After-plain_step g) (i : PresentIds) (w : ℕ) → act_of i (agent_record c.args.board.now c.args.agent c.args.p.now) w c.args.op None ≡ None
no_act g c i w = silent i (agent_record c.args.board.now c.args.agent c.args.p.now) (agent_record c.args.board.now c.args.agent c.args.p.now) w
    (word_in (state_of c.args.board.now c.args.p.now)) c.args.op c.requires.plain c.requires.settles

pub plain_step-requires-clause-allowed : goal.plain_step-requires-clause-allowed
plain_step-requires-clause-allowed g c = may_do c.args.board.now c.args.agent c.args.p.now c.requires.pass c.args.op c.requires.settles c.requires.allowed

pub returns-clause-goes : goal.returns-clause-goes
returns-clause-goes g c =
    let x = (goal.at.returns-clause-goes g c).After-plain_step in
    goes (made g x) (no_act g x) c.requires.clears_none c.requires.allowed c.requires.settles

pub returns-clause-opens : goal.returns-clause-opens
returns-clause-opens g c =
    let x = (goal.at.returns-clause-opens g c).After-plain_step in
    opens (made g x) (no_act g x) c.requires.clears_none c.requires.allowed c.requires.settles

pub returns-clause-pass : goal.returns-clause-pass
returns-clause-pass g c = next_pass (made g (goal.at.returns-clause-pass g c).After-plain_step)

pub returns-clause-few : goal.returns-clause-few
returns-clause-few g c = one_step (made g (goal.at.returns-clause-few g c).After-plain_step)

pub returns-clause-read : goal.returns-clause-read
returns-clause-read g c = λ answers.
    let v = shows c.args.p.now in
    read_step (made g (goal.at.returns-clause-read g c).After-plain_step) (λ w e. word_answered v.agent c.args.op v.record_is c.plain_step.result w answers e)

pub returns-clause-after : goal.returns-clause-after
returns-clause-after g c = after_step (made g (goal.at.returns-clause-after g c).After-plain_step)
