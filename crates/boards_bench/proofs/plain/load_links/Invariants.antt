use Rattle.orc_plain_board.specs.Views.{Belongs}
use Rattle.boards_bench.proofs.plain.load_links.Given as goal

abbrev pub invariant-loop-load : goal.invariant-loop-load
invariant-loop-load l = Belongs l.board l.p
