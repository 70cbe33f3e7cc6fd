use Rattle.std.proofs.Common.{[], ◌∷◌}
use Rattle.orc_pairs_rule.specs.declared.entry.CellEntry.TheVariants.{Seen}
use Rattle.orc_board.proofs.Asking.{asks_first}
use Rattle.orc_watch_run.specs.CellView.{cell_view, of_cell}
use Rattle.orc_watch_run.proofs.Calls.{asks_again, cell_call}
use Rattle.orc_watch_run.proofs.answer.read_parts.Goals as goal

pub loop-init : goal.loop-init
loop-init g c = asks_first of_cell _ _ _ _ _ c.requires.usable

pub returns-in-Ok-clause-seen : goal.returns-in-Ok-clause-seen
returns-in-Ok-clause-seen g c =
    cell_call (cell_view g.L.Links c.args.cell.now.links) _ _ c.loop.invariant.agent
    (λ a. Seen a c.in-Ok.now.0 c.in-Ok.now.1 ∷ []) _ _ _ c.loop.invariant.quiet c.read.ensures.later c.in-Ok.ensures.seen

pub loop-preserved : goal.loop-preserved
loop-preserved g c =
    asks_again g.L.Links c.args.cell.now.links _ _ _ c.loop.invariant c.read.ensures.usable c.read.ensures.agent c.read.ensures.later
    c.in-Err.ensures.none
