use Rattle.std.proofs.Common.{length, arith}
use Rattle.orc_board.proofs.PairLists.{records_fewer}
use Rattle.program_tests.proofs.tests.board.work_through.Goals as goal

pub post_records-requires-clause-room : goal.post_records-requires-clause-room
post_records-requires-clause-room g c = omega (arith, records_fewer 1 1 (length c.in_ok-lines.lines), c.in_ok-posts.ensures.1)
