use Rattle.std.proofs.Common.{◌≡◌, ◌-◌, ◌≤◌, length}
use Rattle.std.specs.Io.KnownBytes.{Consumes}
use Rattle.orc_feed.proofs.all.read_all.Given as goal

abbrev pub invariant-loop-chunk : goal.invariant-loop-chunk
invariant-loop-chunk g l = record {
  room : length l.all.items ≤ l.most;
  faults : g.S.Source.faults l.source ≡ g.S.Source.faults l.initial.source;
  bytes : Consumes (g.S.Source.left l.initial.source) (g.S.Source.left l.source) l.all.items;
}

abbrev pub decreases-loop-chunk : goal.decreases-loop-chunk
decreases-loop-chunk g l = l.most - length l.all.items
