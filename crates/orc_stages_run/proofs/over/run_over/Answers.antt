-- What is left of each queue's domain, and the pipeline over the journals that its passes had seen.
use Rattle.std.proofs.Common.{rules, ◌≡◌, ◌+◌, ◌≤◌, ℕ, [], ap, arith, length, subst}
use Rattle.std.specs.List.{AllByRecursion}
use Rattle.orc_queue.specs.contracts.queue.QueueSharedQueue.TheImpl as queue
use Rattle.orc_stages_run.proofs.Went.{are_for, fresh_there, idle_there, known_there, went}
use Rattle.orc_stages_run.proofs.over.run_over.Goals as goal

pub run_stages-requires-clause-desks : goal.run_stages-requires-clause-desks
run_stages-requires-clause-desks g c κs within =
    let slice : c.as_slice.result.now ≡ c.in_ok-queues.field-0.queues.items = search rules in
    fresh_there _ _ c.as_slice.result.now _ slice c.in_ok-queues.ensures.fresh

pub run_stages-requires-clause-agents : goal.run_stages-requires-clause-agents
run_stages-requires-clause-agents g c κs within =
    let made = c.in_ok-queues.ensures in
    let slice : c.as_slice.result.now ≡ c.in_ok-queues.field-0.queues.items = search rules in
    let queues = ap length slice in
    let all : c.args.posters + length c.as_slice.result.now ≡ 1 + c.args.posters + c.args.stages = omega (arith, queues, made.many) in
    known_there _ _ (1 + c.args.posters + c.args.stages) _ _ c.as_slice.result.now slice all made.known

pub end_queues-requires-clause-idle : goal.end_queues-requires-clause-idle
end_queues-requires-clause-idle g c =
    let q = queue.ghosts g.row.L g.row.L-Pass g.row.L-Step g.L.Links g.L.Links-dict g.L.Pass.Destruct-dict in
    let slice : c.as_slice.result.now ≡ c.in_ok-queues.field-0.queues.items = search rules in
    idle_there q _ c.as_slice.result.now _ _ slice c.as_mut_slice.ensures.value c.in_ok-done.ensures.idle

pub end_queues-requires-clause-agents : goal.end_queues-requires-clause-agents
end_queues-requires-clause-agents g c =
    let made = c.in_ok-queues.ensures in
    let slice : c.as_slice.result.now ≡ c.in_ok-queues.field-0.queues.items = search rules in
    let desks = ap length c.as_mut_slice.ensures.value in
    let queues = ap length slice in
    let all : length c.as_mut_slice.result.now ≡ 1 + c.args.posters + c.args.stages = omega (arith, desks, c.in_ok-done.ensures.all, queues, made.many) in
    are_for _ _ (1 + c.args.posters + c.args.stages) _ all _ made.known

pub end_queues-requires-clause-rooms : goal.end_queues-requires-clause-rooms
end_queues-requires-clause-rooms g c =
    let made = c.in_ok-queues.ensures in
    let slice : c.as_slice.result.now ≡ c.in_ok-queues.field-0.queues.items = search rules in
    let desks = ap length c.as_mut_slice.ensures.value in
    let queues = ap length slice in
    let all : 1 + c.args.posters + c.args.stages ≡ length c.as_mut_slice.result.now = omega (arith, desks, c.in_ok-done.ensures.all, queues, made.many) in
    subst (λ (n : ℕ). AllByRecursion (λ room. (room.items ≡ []) × (n ≤ room.cap)) c.in_ok-rooms.rooms.items) all c.in_ok-rooms.ensures.rooms

pub returns : goal.returns
returns g c =
    let made = c.in_ok-queues.ensures in
    let ran = c.in_ok-done.ensures in
    let slice : c.as_slice.result.now ≡ c.in_ok-queues.field-0.queues.items = search rules in
    went _ _ _ _ _ _ c.args.lines.now c.args.posters c.args.stages c.args.rows c.in_ok-queues.field-0.queues.items c.as_slice.result.now
    c.run_stages.new.desks.items c.as_mut_slice.result.now c.in_ok-rests.rests.items _ slice c.as_mut_slice.ensures.value c.in_ok-rests.ensures.0 made.many
    made.made made.known ran.seen ran.pipeline c.end_queues.ensures.left
