-- The passes that are taken are all passes of the first queue, and those that are left are of the others.
use Rattle.std.proofs.Common.{rules, ◌≡◌, ◌∙◌, ◌<◌, ◌≤◌, ℕ, suc, [], ap, length, arith, refl, subst, sym}
use Rattle.std.specs.List.{AllByRecursion}
use Rattle.orc_pipeline.specs.Run.{AreIdle}
use Rattle.orc_pipeline.proofs.Taken.{idle_passes}
use Rattle.orc_queue.specs.contracts.queue.QueueSharedQueue.TheImpl as queue
use Rattle.orc_stages_run.proofs.Ends.{as_few, as_many, idle_after, none_more, of_first, of_others, one_more, passes_of, saw_first, saw_others}
use Rattle.orc_stages_run.proofs.ending.+end_queues.Goals as goal

pub take_front-passes-requires : goal.take_front-passes-requires
take_front-passes-requires g t c = let some : 0 < length c.args.queues.items = search rules in omega (arith, some, c.requires.all)

pub take_first-requires-clause-some : goal.take_first-requires-clause-some
take_first-requires-clause-some g t c =
    let q = queue.ghosts g.row.L g.row.L-Pass g.row.L-Step g.L.Links g.L.Links-dict g.L.Pass.Destruct-dict in
    idle_passes q c.take_front-queue.result c.take_front-queue.new.list.items 0 c.args.desks.now
    (subst (λ qs. AreIdle q qs 0 c.args.desks.now) c.take_front-queue.ensures c.requires.idle)

pub queue_at_rest-requires : goal.queue_at_rest-requires
queue_at_rest-requires g t c =
    let q = queue.ghosts g.row.L g.row.L-Pass g.row.L-Step g.L.Links g.L.Links-dict g.L.Pass.Destruct-dict in
    let is = c.take_front-queue.ensures in
    let none = (of_first _ _ _ _ c.take_front-passes.ensures c.requires.rooms).0 in
    let passes = passes_of q c.take_front-queue.result c.take_front-queue.new.list.items c.args.queues.items c.take_front-passes.result.items
    c.take_first.new.passes.items c.args.desks.now c.take_first.new.desks is none c.take_first.ensures.taken c.requires.idle in
    record {
      usable = passes.usable;
      agents = passes.numbered;
      many = passes.many ∙ of_first _ _ _ _ is c.requires.agents;
    }

pub end_queues-requires : goal.end_queues-requires
end_queues-requires g t c κs within =
    let q = queue.ghosts g.row.L g.row.L-Pass g.row.L-Step g.L.Links g.L.Links-dict g.L.Pass.Destruct-dict in
    let is = c.take_front-queue.ensures in
    let room = c.take_front-passes.ensures in
    let none = (of_first _ _ _ _ room c.requires.rooms).0 in
    let many = as_many q c.take_front-queue.result c.take_front-queue.new.list.items c.args.queues.items c.take_front-passes.result.items
    c.take_first.new.passes.items c.args.desks.now c.take_first.new.desks is none c.take_first.ensures.taken in
    let idle = idle_after q c.take_front-queue.result c.take_front-queue.new.list.items c.args.queues.items c.take_front-passes.result.items
    c.take_first.new.passes.items c.args.desks.now c.take_first.new.desks is none c.take_first.ensures.taken c.requires.idle in
    let agents = as_few _ _ _ c.take_front-queue.new.list.items many (of_others _ _ _ _ is c.requires.agents) in
    let rooms = subst (λ (n : ℕ). AllByRecursion (λ room. (room.items ≡ []) × (n ≤ room.cap)) c.take_front-passes.new.list.items) (sym many)
    (of_others _ _ _ _ room c.requires.rooms) in
    let fewer : length c.args.queues.items ≡ suc (length c.take_front-queue.new.list.items) = ap length is in
    let fewer_rooms : length c.args.rooms.items ≡ suc (length c.take_front-passes.new.list.items) = ap length room in
    let all : length c.take_front-passes.new.list.items ≡ length c.take_front-queue.new.list.items = omega (arith, fewer, fewer_rooms, c.requires.all) in
    let spare : length c.take_front-queue.new.list.items ≤ c.push.new.self.spare = omega (arith, fewer, c.push.ensures.spare, c.requires.room) in
    search rules

pub returns-then-is_empty : goal.returns-then-is_empty
returns-then-is_empty g t c = record { left = λ k seen. none_more _ _ _ c.args.queues.items k _ _ (search rules) refl }

pub returns : goal.returns
returns g t c = record {
  left = λ k seen.
      let q = queue.ghosts g.row.L g.row.L-Pass g.row.L-Step g.L.Links g.L.Links-dict g.L.Pass.Destruct-dict in
      let is = c.take_front-queue.ensures in
      let none = (of_first _ _ _ _ c.take_front-passes.ensures c.requires.rooms).0 in
      let saw = saw_first q c.take_front-queue.result c.take_front-queue.new.list.items c.args.queues.items c.take_front-passes.result.items
      c.take_first.new.passes.items c.args.desks.now c.take_first.new.desks is none c.take_first.ensures.taken k seen in
      let others = saw_others q c.take_front-queue.result c.take_front-queue.new.list.items c.args.queues.items c.take_front-passes.result.items
      c.take_first.new.passes.items c.args.desks.now c.take_first.new.desks is none c.take_first.ensures.taken k seen in
      one_more _ _ _ c.take_front-queue.result c.take_front-queue.new.list.items c.args.queues.items k c.queue_at_rest.result c.args.rests.now.items
      c.push.new.self.items c.end_queues.new.rests.items is c.push.ensures.items
      (record { passes = _; is = c.queue_at_rest.ensures; saw = saw })
      (c.end_queues.ensures.left (λ i. k (suc i)) others);
}
