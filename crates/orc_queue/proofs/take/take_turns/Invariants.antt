use mathlib.Core.List.{IsPrefix}
use Rattle.orc_queue.specs.Turns.{AreOver, TailIsPast}
use Rattle.orc_queue.proofs.take.take_turns.Given as goal

-- so many turns are over
abbrev pub invariant-loop : goal.invariant-loop
invariant-loop g l = record {
  pass : g.L.Links.belongs l.links l.p;
  later : IsPrefix (g.L.Links.journal l.initial.p) (g.L.Links.journal l.p);
  over : AreOver (g.L.Links.numbers l.links) TailIsPast l.counter (g.L.Links.seat l.links l.initial.p) (g.L.Links.seat l.links l.p);
}
