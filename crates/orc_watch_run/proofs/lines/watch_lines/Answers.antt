use Rattle.std.proofs.Common.{refl, ◌∙◌, arith}
use Rattle.orc_team.proofs.Replies.{through_more, through_none, through_other, through_room}
use Rattle.orc_watch_run.specs.CellView.{cell_view}
use Rattle.orc_watch_run.proofs.Watches.{watching_more, watching_none}
use Rattle.orc_watch_run.proofs.lines.watch_lines.Goals as goal
use Rattle.orc_watch_run.proofs.lines.watch_lines.Goals.{then-index-workers, else-index-workers}

pub loop-index-init : goal.loop-index-init
loop-index-init g c = record {
  pass = c.requires.pass;
  watched = watching_none (cell_view g.L.Links c.args.cell.now.links) _ _ _ _ c.requires.none;
  through = through_none _ _ _ _ c.requires.none;
}

pub loop-index-preserved : goal.loop-index-preserved
loop-index-preserved g c = elim c.if-index-workers.branch [
  | then-index-workers w ↦ rw (w.pass-is, w.replies-is) (record {
    pass = record { usable = w.answer_line.ensures.usable; agent_is = w.answer_line.ensures.agent ∙ c.loop-index.invariant.pass.agent_is };
    watched =
        rw w.push.ensures.items
        (watching_more (cell_view g.L.Links c.args.cell.now.links) _ _ _ _ _ _ _ _ _ _ c.loop-index.invariant.watched
        c.loop-index.invariant.pass.agent_is refl refl w.get.ensures w.answer_line.ensures.answered);
    through = through_more c.requires.worker.0 c.loop-index.invariant.through _ _ w.if-index-workers.true refl w.push.ensures.items
        w.push.ensures.spare;
  })
  | else-index-workers w ↦ rw (w.pass-is, w.replies-is) (record {
    pass = c.loop-index.invariant.pass;
    watched = c.loop-index.invariant.watched;
    through = through_other c.requires.worker.0 c.loop-index.invariant.through w.if-index-workers.false;
  })
]

pub push-requires : goal.push-requires
push-requires g c = through_room c.requires.worker.0 c.loop-index.invariant.through _ c.if-index-workers.true (omega arith) c.requires.room
