-- The passes stay usable.
use Rattle.std.proofs.Common.{subst, sym}
use Rattle.workers_bench.specs.Usable.{MayCall}
use Rattle.workers_bench.proofs.calls.post.Goals as goal
use Rattle.workers_bench.proofs.calls.post.Goals.{else-index-step, then-index-step}

pub loop-index-init : goal.loop-index-init
loop-index-init g c = c.requires.passes

pub insert-opened-requires : goal.insert-opened-requires
insert-opened-requires g c = c.loop-index.invariant.1

pub enqueue-put-requires : goal.enqueue-put-requires
enqueue-put-requires g c = c.loop-index.invariant.0

pub loop-index-preserved : goal.loop-index-preserved
loop-index-preserved g c =
    let May = MayCall g.Q.SharedQueue g.S.SharedSet c.args.queue.now c.args.set.now in
    elim c.if-index-step.branch [
      | then-index-step w ↦ subst May (sym w.desk-is) (w.enqueue-put.ensures.usable, w.insert-opened.ensures.usable)
      | else-index-step w ↦ subst May (sym w.desk-is) c.loop-index.invariant
    ]
