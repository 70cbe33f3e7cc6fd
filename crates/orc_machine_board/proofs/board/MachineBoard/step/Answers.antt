use Rattle.std.proofs.Common.{ap, subst, sym, ℕ, ◌<◌, ◌∙◌, ◌≡◌}
use Rattle.orc_core.proofs.Within.{may_below, may_packable}
use Rattle.orc_core.specs.Actions.{action_of}
use Rattle.orc_core.specs.declared.actions.Action.{Action}
use Rattle.orc_layout.proofs.Indices.{rises}
use Rattle.orc_layout.specs.Layout.{index}
use Rattle.orc_machine_board.specs.Rules.{heap_numbers}
use Rattle.orc_machine_board.specs.Views.{Makes, view_of}
use Rattle.orc_words.specs.Bounds.{bounds_of}
use Rattle.orc_words.specs.Operations.{answer_of}
use Rattle.orc_words.specs.Places.{place, places}
use Rattle.orc_machine_board.proofs.Keeping.{same_action, same_packable}
use Rattle.orc_machine_board.proofs.Making.{makes}
use Rattle.orc_machine_board.proofs.board.MachineBoard.step.Goals as goal

pub action_of-action-requires : goal.action_of-action-requires
action_of-action-requires g c =
    let s = c.args.self.now.words.shape.shape in
    let p = c.args.p.now.pass in
    same_packable c.args.request.op p.seat.me.0.own p.own p.mine
    (may_packable (bounds_of s) 0 p.agent c.args.request.op p.seat.me.0.own c.requires.allowed.may s.few_rows s.low_limit)

pub step-n-requires-clause-inside : goal.step-n-requires-clause-inside
step-n-requires-clause-inside g c =
    let b = bounds_of c.args.self.now.words.shape.shape in
    let p = c.args.p.now.pass in
    let op = c.args.request.op in
    let d = p.seat.me.0.own in
    subst (λ n. index b (place b (action_of p.agent op d).word) < n) (sym c.args.self.now.sized)
    (rises b (place b (action_of p.agent op d).word) (places b) (may_below b 0 p.agent op d c.requires.allowed.may))

pub returns-clause-makes : goal.returns-clause-makes
returns-clause-makes g c =
    let k = c.args.self.now.words.shape in
    let p = c.args.p.now.pass in
    let v = p.seat.me.0 in
    let n = c.step-n.result in
    let op = c.args.request.op in
    let says : c.answer.result ≡ answer_of (action_of p.agent op v.own).operation n = c.answer.ensures
    ∙ ap (λ (z : Action). answer_of z.operation n) (c.action_of-action.ensures ∙ sym (same_action p.agent op v.own p.own p.mine)) in
    subst (λ (z : ℕ × ℕ). Makes (bounds_of k.shape) c.args.request c.args.note.now (view_of p.agent v) z.0 (view_of z.1 c.step-n.new.p.seat.me.0))
    (λ i. (sym says i, sym c.step-n.ensures.agent i))
    (makes k (g.D.Discipline.holds (heap_numbers k))
    (g.D.Discipline.may (heap_numbers k)) c.args.request c.args.note.now v c.step-n.new.p.seat.me.0 n p.agent c.requires.belongs.keeps c.step-n.ensures.step)
