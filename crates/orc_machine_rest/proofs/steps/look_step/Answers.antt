use Rattle.std.proofs.Common.{ap, refl, sym, ◌∙◌}
use Rattle.orc_machine_rest.proofs.Passes.{StepOf, made, may_do, mine, next_pass, one_step, opens}
use Rattle.orc_machine_rest.specs.Passes.{state_of}
use Rattle.orc_core.specs.RecordParts.{scan_found}
use Rattle.orc_core.specs.declared.ops.Op.TheVariants.{SlotLook}
use Rattle.orc_core.specs.declared.records.Agent.{Agent}
use Rattle.orc_rest.proofs.Looks.{look_allowed, looks}
use Rattle.orc_rest.proofs.Stages.{made_look}
use Rattle.orc_machine_rest.proofs.steps.look_step.Given.{Over}
use Rattle.orc_machine_rest.proofs.steps.look_step.Goals.{After-slot_look}
use Rattle.orc_machine_rest.proofs.steps.look_step.Goals as goal

-- the one step
looked : (g : Over) (c : After-slot_look g) → StepOf c.args.board.now c.args.agent (SlotLook c.args.k) c.args.p.now c.slot_look.new.p c.slot_look.result
looked g c = record { pass = c.requires.pass; belongs = c.slot_look.ensures.belongs; makes = c.slot_look.ensures.made }

pub slot_look-requires-clause-allowed : goal.slot_look-requires-clause-allowed
slot_look-requires-clause-allowed g c =
    may_do c.args.board.now c.args.agent c.args.p.now c.requires.pass (SlotLook c.args.k) tt
    (look_allowed (state_of c.args.board.now c.args.p.now) c.args.agent c.args.row c.args.k c.requires.pass.low c.requires.still c.requires.scan
    c.requires.place)

pub returns-clause-pass : goal.returns-clause-pass
returns-clause-pass g c = next_pass (looked g (goal.at.returns-clause-pass g c).After-slot_look)

pub returns-clause-opens : goal.returns-clause-opens
returns-clause-opens g c =
    opens (looked g (goal.at.returns-clause-opens g c).After-slot_look) (λ i w. refl) tt
    (look_allowed (state_of c.args.board.now c.args.p.now) c.args.agent c.args.row c.args.k c.requires.pass.low c.requires.still c.requires.scan
    c.requires.place) tt tt

pub returns-clause-looks : goal.returns-clause-looks
returns-clause-looks g c =
    let m = state_of c.args.board.now c.args.p.now in
    let n = state_of c.args.board.now c.slot_look.new.p in
    looks m n c.args.agent c.args.row c.args.k c.requires.still c.requires.scan
    (made_look m n c.args.agent c.args.k c.requires.pass.reached c.requires.pass.low (made (looked g (goal.at.returns-clause-looks g c).After-slot_look)))

pub returns-clause-found : goal.returns-clause-found
returns-clause-found g c =
    let pass = next_pass (looked g (goal.at.returns-clause-found g c).After-slot_look) in
    c.is_found.ensures ∙ (ap scan_found c.kept.ensures.scan
    ∙ ap (λ (d : Agent). scan_found d.scan) (sym (mine c.args.board.now c.args.agent c.slot_look.new.p pass)))

pub returns-clause-few : goal.returns-clause-few
returns-clause-few g c = one_step (looked g (goal.at.returns-clause-few g c).After-slot_look)
