use Rattle.std.proofs.Common.{rules, List, subst}
use Rattle.std.proofs.lemmas.List.{with_items_is, places}
use Rattle.orc_pipeline.specs.Run.{CallerMovedFor}
use Rattle.orc_stages.specs.Desks.{StageWorker}
use Rattle.orc_pipeline.proofs.run.move_left.Goals as goal

pub returns-clause-moved : goal.returns-clause-moved
returns-clause-moved g c =
    let q = g.Q.SharedQueue in
    let queues = c.args.queues.now in
    let lines = c.args.lines.now in
    let posters = c.args.posters in
    let outs = c.move_behind.new.outs in
    let one =
    subst (λ (ps : List g.row.Q-Pass.Denot). CallerMovedFor q queues lines posters ps c.move_behind.new.passes c.as_mut_slice-2.result.now c.move_behind.new.workers outs)
    c.as_mut_slice.ensures.value c.move_behind.ensures.moved in
    let two : CallerMovedFor q queues lines posters c.args.desk.now.passes.items c.move_behind.new.passes c.args.workers.now.items c.move_behind.new.workers outs =
    subst (λ (ws : List (StageWorker g.row.Q-Pass.Denot)). CallerMovedFor q queues lines posters c.args.desk.now.passes.items c.move_behind.new.passes ws
    c.move_behind.new.workers outs) c.as_mut_slice-2.ensures.value one in
    let passes = with_items_is c.args.desk.now.passes c.move_behind.new.passes (search (rules, places)) in
    let workers = with_items_is c.args.workers.now c.move_behind.new.workers (search (rules, places)) in
    rw (passes, workers) two
