use Rattle.std.proofs.Common.{◌-◌, ◌^◌}
use mathlib.Core.List.{IsPrefix}
use Rattle.orc_heap.specs.Seats.{Seat}
use Rattle.orc_heap.specs.declared.events.Place.{Place}
use Rattle.orc_ordered_search.specs.Reading.{reading_by}
use Rattle.orc_ordered_search.specs.Searches.{HasRoom, Walks}
use Rattle.orc_ordered_search.specs.Steps.{BeginsPlain}
use Rattle.orc_ordered_search.proofs.search.search_chain.Given as goal

-- the search has come to a node of the chain; ranks rise, so it ends
abbrev pub invariant-loop-next : goal.invariant-loop-next
invariant-loop-next g l = record {
  pass : g.L.Links.belongs l.links l.p;
  later : IsPrefix (g.L.Links.journal l.fn.p) (g.L.Links.journal l.p);
  walks : (start : Place) (s : Seat g.row.K-Rule-Note.Denot) → HasRoom s.slots
      → BeginsPlain (reading_by (g.L.Links.numbers l.links) g.K.Rank.manner) (g.K.Rule.Discipline.may (g.L.Links.numbers l.links)) start (g.K.Rank.number l.wanted) l.fn.left s (g.L.Links.seat l.links l.fn.p)
      → Walks (reading_by (g.L.Links.numbers l.links) g.K.Rank.manner) start (g.K.Rank.number l.wanted) l.walk.left l.walk.first l.walk.at (g.K.Rank.number l.walk.rank)
      (g.K.Rank.counted l.walk.rank) l.walk.passed s
      (g.L.Links.seat l.links l.p);
}

abbrev pub decreases-loop-next : goal.decreases-loop-next
decreases-loop-next g l = 2 ^ 128 - g.K.Rank.number l.walk.rank
