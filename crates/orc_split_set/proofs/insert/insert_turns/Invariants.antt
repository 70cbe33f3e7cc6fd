use Rattle.std.proofs.Common.{None, ℕ, ◌*◌, ◌+◌, ◌^◌, ◌≤◌}
use mathlib.Core.List.{IsPrefix}
use Rattle.orc_ordered_search.specs.Inserts.{InsertsOn}
use Rattle.orc_heap.specs.Moves.{gives_in}
use Rattle.orc_ordered_search.specs.Turns.{made_from}
use Rattle.orc_split_set.specs.FewEvents.{MadeFewBySearch}
use Rattle.orc_split_set.specs.SplitSearches.{split_reading}
use Rattle.orc_split_set.proofs.insert.insert_turns.Given as goal

-- so many turns are over, and a node may be in hand
abbrev pub invariant-loop : goal.invariant-loop
invariant-loop g l = record {
  pass : g.L.Links.belongs l.links l.p;
  later : IsPrefix (g.L.Links.journal l.initial.p) (g.L.Links.journal l.p);
  on : InsertsOn (split_reading (g.L.Links.numbers l.links)) l.key 1 l.counter (g.L.Links.seat l.links l.initial.p).slots None l.node (g.L.Links.seat l.links l.initial.p)
      (g.L.Links.seat l.links l.p);
  few : (k : ℕ) → l.most ≤ 2 ^ k → MadeFewBySearch (6 + 2 * k) l.counter
      (3 * gives_in (made_from (g.L.Links.seat l.links l.initial.p) (g.L.Links.seat l.links l.p)))
      (g.L.Links.seat l.links l.initial.p) (g.L.Links.seat l.links l.p);
}
