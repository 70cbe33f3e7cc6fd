use mathlib.Core.List.{IsPrefix}
use Rattle.std.proofs.Common.{List, length, ℕ, ◌*◌, ◌+◌, ◌^◌, ◌≡◌, ◌≤◌}
use Rattle.orc_heap.specs.Domains.{own_events}
use Rattle.orc_heap.specs.Seats.{Seat, heap_of}
use Rattle.orc_heap.specs.declared.events.Event.{Event}
use Rattle.orc_ordered_search.specs.Searches.{HasRoom, Quiet}
use Rattle.orc_split_rule.specs.SplitDiscipline.{IsSize, greatest}
use Rattle.orc_split_rule.specs.SplitOrder.{bucket_of, dummy_place}
use Rattle.orc_split_rule.specs.declared.split.SplitNote.{SplitNote}
use Rattle.orc_split_set.specs.Beginnings.{Held, MayBeginAt}
use Rattle.orc_split_set.specs.Crowds.{SeesOwn}
use Rattle.orc_split_set.specs.Looks.{HasStart}
use Rattle.orc_split_set.specs.NewNodes.{node_value}
use Rattle.orc_split_set.specs.SplitSearches.{split_reading}
use Rattle.orc_split_set.proofs.begin.begin_near.Given as goal

-- no root of more buckets than this names a dummy
abbrev pub invariant-loop-size : goal.invariant-loop-size
invariant-loop-size g l = record {
  pass : g.L.Links.belongs l.links l.p;
  later : IsPrefix (g.L.Links.journal l.fn.p) (g.L.Links.journal l.p);
  grew : IsPrefix (g.L.Links.seat l.links l.fn.p).seen (g.L.Links.seat l.links l.p).seen;
  size : IsSize (greatest (g.L.Links.numbers l.links)) l.size;
  begins : MayBeginAt l.new l.size;
  by : dummy_place (bucket_of (node_value l.new) l.size) ≤ dummy_place (bucket_of (node_value l.new) l.fn.size);
  room : HasRoom (g.L.Links.seat l.links l.p).slots;
  levels : (k : ℕ) → l.fn.size ≤ 2 ^ k → (j : ℕ) × (l.size ≤ 2 ^ j)
      × (length (own_events g.L.Links l.links l.p) + 2 * j ≤ length (own_events g.L.Links l.links l.fn.p) + 2 * k);
  agent : (g.L.Links.seat l.links l.p).agent ≡ (g.L.Links.seat l.links l.fn.p).agent;
  still : HasStart (heap_of (g.L.Links.numbers l.links) (g.L.Links.seat l.links l.fn.p)) (bucket_of (node_value l.new) l.fn.size)
      → SeesOwn (g.L.Links.seat l.links l.fn.p) (g.L.Links.seat l.links l.p)
      → (bucket_of (node_value l.new) l.fn.size ≡ bucket_of (node_value l.new) l.size)
      × ((g.L.Links.seat l.links l.p).seen ≡ (g.L.Links.seat l.links l.fn.p).seen);
  held : (s : Seat SplitNote) (own : List (Event SplitNote)) → Quiet (split_reading (g.L.Links.numbers l.links)) s own (g.L.Links.seat l.links l.fn.p)
      → (g.L.Links.seat l.links l.fn.p).slots ≡ s.slots → Held (g.L.Links.numbers l.links) s (g.L.Links.seat l.links l.p);
}

abbrev pub decreases-loop-size : goal.decreases-loop-size
decreases-loop-size g l = l.size
