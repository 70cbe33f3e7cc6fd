-- The passes stay usable.
use Rattle.workers_bench.proofs.calls.take.Goals as goal

pub loop-call-init : goal.loop-call-init
loop-call-init g c = c.requires.passes

pub dequeue-requires : goal.dequeue-requires
dequeue-requires g c = c.loop-call.invariant.0

pub remove-closed-requires : goal.remove-closed-requires
remove-closed-requires g c = c.loop-call.invariant.1
