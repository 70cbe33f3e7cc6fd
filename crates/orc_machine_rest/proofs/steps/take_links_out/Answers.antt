use Rattle.std.proofs.Common.{ap, arith, subst, ◌∙◌, ◌≡◌}
use Rattle.orc_machine_rest.proofs.Joins.{goes_none, goes_then}
use Rattle.orc_machine_rest.proofs.Passes.{links_are}
use Rattle.orc_machine_rest.specs.Passes.{agent_record, state_of}
use Rattle.orc_core.specs.declared.records.Agent.{Agent}
use Rattle.orc_machine_board.specs.Views.{board_bounds, shows}
use Rattle.orc_rest.proofs.Calls.{doom_is_cut}
use Rattle.orc_rest.specs.Records.{IsDoomOf}
use Rattle.orc_words.specs.Bounds.{Bounds}
use Rattle.orc_machine_rest.proofs.steps.take_links_out.Goals as goal

pub loop-number-init : goal.loop-number-init
loop-number-init g c = record {
  pass = c.requires.pass;
  goes = goes_none (board_bounds c.args.board.now) c.args.agent (shows c.args.p.now) c.requires.pass.reached;
  still = c.requires.still;
  scan = c.requires.scan;
  doom = c.requires.doom;
  few = omega arith;
}

pub take_link_out-target-requires-clause-number : goal.take_link_out-target-requires-clause-number
take_link_out-target-requires-clause-number g c =
    let board = c.args.board.now in
    let below = c.loop-number-test.true in
    let asked = c.links-links.ensures ∙ ap (λ (b : Bounds). b.links) c.shape.ensures in
    let here = links_are board c.loop-number.p in
    omega (arith, below, asked, here)

pub loop-number-preserved : goal.loop-number-preserved
loop-number-preserved g c =
    let board = c.args.board.now in
    let b = board_bounds board in
    let a = c.args.agent in
    let i = c.loop-number.invariant in
    let out = c.take_link_out-target.ensures in
    let down = c.settle_decrement.ensures in
    let one = i.few in
    let two = out.few in
    let three = down.few in
    record {
      pass = down.pass;
      goes = goes_then b a 0 0 i.goes (goes_then b a 0 0 out.goes down.goes);
      still = down.still;
      scan = down.kept.scan ∙ (ap (λ (d : Agent). d.scan) out.after.is ∙ i.scan);
      doom = doom_is_cut (state_of board c.loop-number.p) (state_of board c.take_link_out-target.new.p) (state_of board c.settle_decrement.new.p) a c.args.row
          c.loop-number.number i.doom out.after down.kept;
      few = omega (arith, one, two, three);
    }

pub returns-clause-doom : goal.returns-clause-doom
returns-clause-doom g c =
    let board = c.args.board.now in
    let low = c.loop-number-test.false in
    let high = c.loop-number.auto.number-end in
    let asked = c.links-links.ensures ∙ ap (λ (b : Bounds). b.links) c.shape.ensures in
    let end : c.loop-number.number ≡ (board_bounds board).links = omega (arith, low, high, asked) in
    subst (λ n. IsDoomOf c.args.row n (agent_record board c.args.agent c.loop-number.p).doom) end c.loop-number.invariant.doom

pub returns-clause-few : goal.returns-clause-few
returns-clause-few g c =
    let few = c.loop-number.invariant.few in
    let high = c.loop-number.auto.number-end in
    let asked = c.links-links.ensures ∙ ap (λ (b : Bounds). b.links) c.shape.ensures in
    omega (arith, few, high, asked)
