use Rattle.std.proofs.Common.{◌≡◌, [], length}
use Rattle.orc_pipeline.specs.Run.{AreFresh}
use Rattle.orc_pipeline.proofs.queues.empty_desks.Given as goal

abbrev pub invariant-loop-desk : goal.invariant-loop-desk
invariant-loop-desk g l = record {
  fresh : AreFresh g.Q.SharedQueue [] 0 l.desks.items;
  many : length l.desks.items ≡ l._desk;
}
