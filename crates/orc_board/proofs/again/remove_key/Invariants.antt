use Rattle.orc_board.proofs.Asking.{AsksSet}
use Rattle.orc_board.proofs.again.remove_key.Given as goal

abbrev pub invariant-loop : goal.invariant-loop
invariant-loop g l = AsksSet g.S.SharedSet l.set l.initial.p l.p
