use Rattle.std.proofs.Common.{sym, subst}
use Rattle.boards_bench.proofs.Loading.{idle_may}
use Rattle.orc_machine_board.specs.Passes.{HasNothing}
use Rattle.orc_machine_board.specs.Views.{board_bounds, shows}
use Rattle.boards_bench.proofs.counted.load_link.Goals as goal

pub link_load-requires-clause-allowed : goal.link_load-requires-clause-allowed
link_load-requires-clause-allowed c =
    idle_may (board_bounds c.args.board.now) (shows c.args.p.now).agent (shows c.args.p.now).record_is c.requires.belongs.keeps.number
    c.args.board.now.words.shape.shape.some_roots c.requires.idle

pub returns-clause-idle : goal.returns-clause-idle
returns-clause-idle c = subst HasNothing (sym c.link_load.ensures.makes.record_is) c.requires.idle
