use Rattle.orc_machine_board.specs.Passes.{HasNothing}
use Rattle.orc_machine_board.specs.Views.{Belongs, shows}
use Rattle.boards_bench.proofs.counted.load_links.Given as goal

abbrev pub invariant-loop-load : goal.invariant-loop-load
invariant-loop-load l = record { belongs : Belongs l.board l.p; idle : HasNothing (shows l.p).record_is }
