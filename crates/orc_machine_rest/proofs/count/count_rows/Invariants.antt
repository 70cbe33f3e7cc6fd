use Rattle.orc_machine_rest.proofs.Counted.{Counted}
use Rattle.orc_machine_rest.proofs.count.count_rows.Given as goal

abbrev pub invariant-loop-row : goal.invariant-loop-row
invariant-loop-row g l = Counted l.board l.fn.p l.p l.row-end l.row l.given l.linked
