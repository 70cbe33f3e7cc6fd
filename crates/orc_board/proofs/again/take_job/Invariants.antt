use Rattle.orc_board.proofs.Asking.{AsksQueue}
use Rattle.orc_board.proofs.again.take_job.Given as goal

abbrev pub invariant-loop : goal.invariant-loop
invariant-loop g l = AsksQueue g.Q.SharedQueue l.queue l.initial.p l.p
