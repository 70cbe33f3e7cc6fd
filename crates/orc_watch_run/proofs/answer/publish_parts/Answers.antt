use Rattle.std.proofs.Common.{[], ◌∷◌, Err, ap, refl, ◌∙◌}
use Rattle.orc_board.proofs.CallStretches.{refused_call}
use Rattle.orc_cell.specs.declared.refused.CellRefused.{CellRefused}
use Rattle.orc_cell.specs.declared.refused.CellRefused.TheVariants as refused
use Rattle.orc_pairs_rule.specs.declared.entry.CellEntry.TheVariants.{Published}
use Rattle.orc_board.proofs.Asking.{asks_first}
use Rattle.orc_watch_run.specs.CellView.{cell_view, of_cell}
use Rattle.orc_watch_run.proofs.Calls.{asks_again, cell_call, within_call}
use Rattle.orc_watch_run.proofs.answer.publish_parts.Goals as goal

pub loop-init : goal.loop-init
loop-init g c = asks_first of_cell _ _ _ _ _ c.requires.usable

pub returns-in-Ok-clause-published : goal.returns-in-Ok-clause-published
returns-in-Ok-clause-published g c =
    cell_call (cell_view g.L.Links c.args.cell.now.links) _ _ c.loop.invariant.agent
    (λ a. Published a c.args.left c.args.right c.in-Ok.now.0 c.in-Ok.now.1 ∷ []) _ _ _ c.loop.invariant.quiet c.publish.ensures.later c.in-Ok.ensures.published

pub returns-in-Err-NoNode-clause-refused : goal.returns-in-Err-NoNode-clause-refused
returns-in-Err-NoNode-clause-refused g c =
    refused_call of_cell (cell_view g.L.Links c.args.cell.now.links) _ _ c.loop.invariant.agent refused.NoNode _ refl _ _ _
    c.loop.invariant.quiet
    (cell_call (cell_view g.L.Links c.args.cell.now.links) _ _ c.loop.invariant.agent
    (λ a. []) _ _ _ c.loop.invariant.quiet c.publish.ensures.later c.in-Err-NoNode.ensures.none)
    (within_call _ _ _ _ _ (c.publish.ensures.no_node (c.in-Err-NoNode.is ∙ ap (λ (e : CellRefused). Err e) c.in-Err-NoNode.field-0-is)))

pub returns-in-Err-Spent-clause-refused : goal.returns-in-Err-Spent-clause-refused
returns-in-Err-Spent-clause-refused g c =
    refused_call of_cell (cell_view g.L.Links c.args.cell.now.links) _ _ c.loop.invariant.agent
    (refused.Spent c.in-Err-Spent.spent) _ refl _ _ _ c.loop.invariant.quiet
    (cell_call (cell_view g.L.Links c.args.cell.now.links) _ _ c.loop.invariant.agent
    (λ a. []) _ _ _ c.loop.invariant.quiet c.publish.ensures.later c.in-Err-Spent.ensures.none)
    (within_call _ _ _ _ _ (c.publish.ensures.spent c.in-Err-Spent.spent (c.in-Err-Spent.is ∙ ap (λ (e : CellRefused). Err e) c.in-Err-Spent.field-0-is)))

pub loop-preserved : goal.loop-preserved
loop-preserved g c =
    asks_again g.L.Links c.args.cell.now.links _ _ _ c.loop.invariant c.publish.ensures.usable c.publish.ensures.agent c.publish.ensures.later
    c.in-Err-Again.ensures.none
