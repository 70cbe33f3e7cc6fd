use Rattle.std.proofs.Common.{None}
use mathlib.Core.List.{IsPrefix}
use Rattle.orc_list.specs.Searches.{list_reading}
use Rattle.orc_list.specs.Turns.{MadeFew}
use Rattle.orc_ordered_search.specs.Inserts.{InsertsOn}
use Rattle.orc_list.proofs.insert.insert_turns.Given as goal

-- so many turns are over, and a node may be in hand
abbrev pub invariant-loop : goal.invariant-loop
invariant-loop g l = record {
  pass : g.L.Links.belongs l.links l.p;
  later : IsPrefix (g.L.Links.journal l.initial.p) (g.L.Links.journal l.p);
  on : InsertsOn (list_reading (g.L.Links.numbers l.links)) l.key 0 l.counter (g.L.Links.seat l.links l.initial.p).slots None l.node
      (g.L.Links.seat l.links l.initial.p) (g.L.Links.seat l.links l.p);
  few : MadeFew l.counter (g.L.Links.seat l.links l.initial.p) (g.L.Links.seat l.links l.p);
}
