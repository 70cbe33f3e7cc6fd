use Rattle.std.proofs.Common.{ℕ, ◌*◌, ◌+◌, ◌^◌, ◌≤◌}
use mathlib.Core.List.{IsPrefix}
use Rattle.orc_ordered_search.specs.Turns.{Tires}
use Rattle.orc_split_set.specs.FewEvents.{MadeFewBySearch}
use Rattle.orc_split_set.specs.SplitSearches.{split_reading}
use Rattle.orc_split_set.proofs.answer.call_turns.Given as goal

-- so many turns are over
abbrev pub invariant-loop : goal.invariant-loop
invariant-loop g l = record {
  pass : g.L.Links.belongs l.links l.p;
  later : IsPrefix (g.L.Links.journal l.initial.p) (g.L.Links.journal l.p);
  tires : Tires (split_reading (g.L.Links.numbers l.links)) l.counter (g.L.Links.seat l.links l.initial.p) (g.L.Links.seat l.links l.p);
  few : (k : ℕ) → l.most ≤ 2 ^ k
      → MadeFewBySearch (6 + 2 * k) l.counter 0 (g.L.Links.seat l.links l.initial.p) (g.L.Links.seat l.links l.p);
}
