use Rattle.std.proofs.Common.{None, Some, ◌-◌, ◌<◌, ◌≢◌, ◌≤◌}
use mathlib.Core.List.{IsPrefix}
use Rattle.orc_heap.specs.Seats.{Seat}
use Rattle.orc_heap.specs.declared.events.Place.{Place}
use Rattle.orc_ordered_search.specs.Reading.{reading_by}
use Rattle.orc_ordered_search.specs.Searches.{HasRoom, Walks}
use Rattle.orc_ordered_search.proofs.search.pass_lower.Given as goal

-- the search has come as far as this node, in the search that it came from
abbrev pub invariant-loop-p : goal.invariant-loop-p
invariant-loop-p g l = record {
  pass : g.L.Links.belongs l.links l.p;
  later : IsPrefix (g.L.Links.journal l.fn.p) (g.L.Links.journal l.p);
  spare : (2 ≤ l.spare) × (l.spare < 6) × (l.spare ≢ l.left.slot) × (l.spare ≢ l.at.slot);
  up : g.K.Rank.number l.fn.rank ≤ g.K.Rank.number l.rank;
  walks : (start : Place) (s : Seat g.row.K-Rule-Note.Denot) → HasRoom s.slots
      → Walks (reading_by (g.L.Links.numbers l.links) g.K.Rank.manner) start (g.K.Rank.number l.wanted) (Some l.fn.left) None l.fn.at (g.K.Rank.number l.fn.rank) (g.K.Rank.counted l.fn.rank)
      l.fn.passed s
      (g.L.Links.seat l.links l.fn.p)
      → Walks (reading_by (g.L.Links.numbers l.links) g.K.Rank.manner) start (g.K.Rank.number l.wanted) (Some l.left) None l.at (g.K.Rank.number l.rank) (g.K.Rank.counted l.rank) l.passed s
      (g.L.Links.seat l.links l.p);
}

abbrev pub decreases-loop-p : goal.decreases-loop-p
decreases-loop-p g l = g.K.Rank.number l.wanted - g.K.Rank.number l.rank
