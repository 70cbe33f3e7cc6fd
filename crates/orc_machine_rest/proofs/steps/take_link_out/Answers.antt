use Rattle.std.proofs.Common.{ap, false, sym, ℕ, ◌∙◌, ◌/◌}
use Rattle.std.specs.Prelude.{None, Option, cond}
use Rattle.orc_machine_rest.proofs.Cuts.{cut_settles, no_fresh_act}
use Rattle.orc_machine_rest.proofs.Passes.{StepOf, after_step, goes, may_do, next_pass, one_step, read_step, target_left}
use Rattle.orc_machine_rest.specs.Passes.{agent_record, state_of}
use Rattle.orc_core.specs.Machine.{word_in}
use Rattle.orc_core.specs.RecordParts.{same_target}
use Rattle.orc_core.specs.declared.records.Agent.{Agent}
use Rattle.orc_words.specs.Packed.{named}
use Rattle.orc_core.specs.declared.ops.Op.TheVariants.{LinkStore}
use Rattle.orc_rest.proofs.Calls.{cut_allowed}
use Rattle.orc_machine_rest.proofs.steps.take_link_out.Given.{Over}
use Rattle.orc_machine_rest.proofs.steps.take_link_out.Goals.{After-link_store-link}
use Rattle.orc_machine_rest.proofs.steps.take_link_out.Goals as goal

-- the one step
made : (g : Over) (c : After-link_store-link g)
    → StepOf c.args.board.now c.args.agent (LinkStore c.args.row (record { to = None; mark = false }) c.args.number) c.args.p.now c.link_store-link.new.p
    c.link_store-link.result
made g c = record { pass = c.requires.pass; belongs = c.link_store-link.ensures.belongs; makes = c.link_store-link.ensures.makes }

pub link_store-link-requires-clause-allowed : goal.link_store-link-requires-clause-allowed
link_store-link-requires-clause-allowed g c =
    may_do c.args.board.now c.args.agent c.args.p.now c.requires.pass (LinkStore c.args.row (record { to = None; mark = false }) c.args.number)
    (cut_settles c.args.row c.args.number (agent_record c.args.board.now c.args.agent c.args.p.now) (word_in (state_of c.args.board.now c.args.p.now)) c.requires.doom)
    (cut_allowed (state_of c.args.board.now c.args.p.now) c.args.agent c.args.row c.args.number c.requires.number c.requires.pass.reached
    c.requires.pass.low c.requires.still c.requires.doom)

pub returns-clause-goes : goal.returns-clause-goes
returns-clause-goes g c =
    goes (made g (goal.at.returns-clause-goes g c).After-link_store-link)
    (λ i w. no_fresh_act i (agent_record c.args.board.now c.args.agent c.args.p.now) w c.args.row c.args.number c.requires.still) tt
    (cut_allowed (state_of c.args.board.now c.args.p.now) c.args.agent c.args.row c.args.number c.requires.number c.requires.pass.reached
    c.requires.pass.low c.requires.still c.requires.doom)
    (cut_settles c.args.row c.args.number (agent_record c.args.board.now c.args.agent c.args.p.now) (word_in (state_of c.args.board.now c.args.p.now)) c.requires.doom)

pub returns-clause-pass : goal.returns-clause-pass
returns-clause-pass g c = next_pass (made g (goal.at.returns-clause-pass g c).After-link_store-link)

pub returns-clause-few : goal.returns-clause-few
returns-clause-few g c = one_step (made g (goal.at.returns-clause-few g c).After-link_store-link)

pub returns-clause-dec : goal.returns-clause-dec
returns-clause-dec g c =
    let left = read_step (made g (goal.at.returns-clause-dec g c).After-link_store-link) (λ w e. e) in
    let old : Option ℕ = named (c.link_store-link.result / 2) in
    ap (λ (e : Agent). e.dec) left ∙ (ap (λ o. cond (same_target old None) o old) c.requires.still.dec ∙ (target_left old ∙ sym c.named.ensures))

pub returns-clause-after : goal.returns-clause-after
returns-clause-after g c = after_step (made g (goal.at.returns-clause-after g c).After-link_store-link)
