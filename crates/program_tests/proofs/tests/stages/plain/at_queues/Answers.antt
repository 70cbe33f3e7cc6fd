use Rattle.std.proofs.Common.{length, arith}
use Rattle.orc_board.proofs.PairLists.{records_fewer}
use Rattle.program_tests.proofs.tests.stages.plain.at_queues.Goals as goal

pub post_items-requires-clause-room : goal.post_items-requires-clause-room
post_items-requires-clause-room g c = omega (arith, records_fewer 1 1 (length c.args.lines.now), c.requires.posts.1)
