use Rattle.std.proofs.Common.{◌∙◌, [], ◌∷◌}
use Rattle.orc_history.specs.declared.set.SetEntry.TheVariants.{Removed}
use Rattle.orc_board.specs.Stretches.{of_set}
use Rattle.orc_board.proofs.Asking.{asks_first, set_asks, set_made}
use Rattle.orc_board.proofs.again.remove_key.Goals as goal

pub loop-init : goal.loop-init
loop-init g c = asks_first of_set _ _ _ _ _ c.requires

pub loop-preserved : goal.loop-preserved
loop-preserved g c =
    set_asks g.S.SharedSet c.args.set.now _ _ _ c.loop.invariant c.remove.ensures.later c.in-Err.ensures.none c.remove.ensures.usable c.remove.ensures.agent

pub returns-in-Ok-clause-removed : goal.returns-in-Ok-clause-removed
returns-in-Ok-clause-removed g c =
    set_made g.S.SharedSet c.args.set.now _ _ _ c.loop.invariant c.remove.ensures.later (λ a. Removed a c.args.key c.in-Ok.yes ∷ []) c.in-Ok.ensures.removed

pub returns-in-Ok-clause-agent : goal.returns-in-Ok-clause-agent
returns-in-Ok-clause-agent g c = c.remove.ensures.agent ∙ c.loop.invariant.agent
