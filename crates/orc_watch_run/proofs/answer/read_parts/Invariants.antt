use Rattle.orc_watch_run.proofs.Calls.{AsksCell}
use Rattle.orc_watch_run.proofs.answer.read_parts.Given as goal

abbrev pub invariant-loop : goal.invariant-loop
invariant-loop g l = AsksCell g.L.Links l.cell.links l.initial.p l.p
