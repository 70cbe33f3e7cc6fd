use Rattle.std.proofs.Common.{◌≡◌, ◌≤◌, [], length}
use Rattle.std.specs.List.{AllByRecursion}
use Rattle.orc_stages_run.proofs.ending.room_for_passes.Given as goal

abbrev pub invariant-loop-queue : goal.invariant-loop-queue
invariant-loop-queue g l = record {
  rooms : AllByRecursion (λ room. (room.items ≡ []) × (l.agents ≤ room.cap)) l.rooms.items;
  all : length l.rooms.items ≡ l._queue;
}
