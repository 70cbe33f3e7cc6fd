use Rattle.orc_watch_run.specs.CellView.{cell_view}
use Rattle.orc_watch_run.proofs.Watches.{was_set}
use Rattle.orc_watch_run.proofs.answer.publish_word.Goals as goal

pub returns-in-Ok-clause-answered : goal.returns-in-Ok-clause-answered
returns-in-Ok-clause-answered g c =
    was_set (cell_view g.L.Links c.args.cell.now.links) _ _ _ _ _ _ _ _ c.requires.line c.in-Ok.ensures.published
