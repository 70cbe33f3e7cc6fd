use Rattle.std.proofs.Common.{ap, arith, refl, ◌∙◌}
use Rattle.orc_machine_rest.proofs.Joins.{rounds_add, settles_first, settles_none}
use Rattle.orc_machine_rest.proofs.Passes.{bounds_are}
use Rattle.orc_machine_rest.specs.OwnSteps.{most_rounds, steps_a_round}
use Rattle.orc_machine_board.specs.Views.{board_bounds, shows}
use Rattle.orc_words.specs.Bounds.{Bounds}
use Rattle.orc_machine_rest.proofs.rounds.settle_all.Goals as goal

pub returns-in-Some-clause-settles : goal.returns-in-Some-clause-settles
returns-in-Some-clause-settles g c =
    let board = c.args.board.now in
    let a = c.args.agent in
    let bounds = bounds_are board c.args.p.now in
    let rows = ap (λ (b : Bounds). b.rows) bounds in
    let agents = ap (λ (b : Bounds). b.agents) bounds in
    let l = c.requires.pass.low in
    let r1 = c.rows.ensures in
    let a1 = c.agents.ensures in
    let rows1 = ap (λ (b : Bounds). b.rows) c.shape-shape.ensures in
    let agents1 = ap (λ (b : Bounds). b.agents) c.shape-shape.ensures in
    settles_first (board_bounds board) a _ (shows c.args.p.now) (shows c.round.new.p) (shows c.settle_rounds.new.p) c.requires.pass.reached l
    c.requires.between (omega arith) (omega arith) c.round.ensures.opens c.settle_rounds.ensures.rounds

pub returns-in_default-clause-settles : goal.returns-in_default-clause-settles
returns-in_default-clause-settles g c = settles_none (board_bounds c.args.board.now) c.args.agent (shows c.args.p.now) (c.in_default.ensures.none refl)

pub returns-in-Some-clause-few : goal.returns-in-Some-clause-few
returns-in-Some-clause-few g c =
    let b = board_bounds c.args.board.now in
    let rows = c.rows.ensures ∙ ap (λ (b : Bounds). b.rows) c.shape-shape.ensures in
    let agents = c.agents.ensures ∙ ap (λ (b : Bounds). b.agents) c.shape-shape.ensures in
    let many = c.args.board.now.words.shape.shape.some_rows in
    rounds_add _ (most_rounds b) (steps_a_round b) _ _ _ (omega (arith, many)) (omega (arith, rows, agents)) c.round.ensures.few
    c.settle_rounds.ensures.few

pub returns-in_default-clause-few : goal.returns-in_default-clause-few
returns-in_default-clause-few g c = omega arith
