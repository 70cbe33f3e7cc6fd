use Rattle.std.proofs.Common.{sym, ◌∙◌}
use Rattle.std.proofs.lemmas.Bool.{false≢true}
use Rattle.orc_machine_board.proofs.Playing.{goes_allowed, goes_room}
use Rattle.orc_machine_board.proofs.make.play_one.Goals as goal

pub apply-requires : goal.apply-requires
apply-requires c = let g = c.requires.goes in goes_room g.0 c.args.state.now c.args.agent c.args.op.now g.1 g.2

pub unreachable-requires : goal.unreachable-requires
unreachable-requires c = let g = c.requires.goes in false≢true
    (sym c.in_default.ensures.refused ∙ goes_allowed g.0 c.args.state.now c.args.agent c.args.op.now g.1 g.2)
