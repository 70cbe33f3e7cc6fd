use Rattle.std.proofs.Common.{◌∙◌, [], ◌∷◌}
use Rattle.orc_history.specs.declared.set.SetEntry.TheVariants.{Added}
use Rattle.orc_history.specs.declared.set.ListRefused.TheVariants.{NoNode, Spent}
use Rattle.orc_board.specs.Stretches.{of_set}
use Rattle.orc_board.proofs.Asking.{asks_first, set_asks, set_made, set_refused}
use Rattle.orc_board.proofs.again.insert_key.Goals as goal

pub loop-init : goal.loop-init
loop-init g c = asks_first of_set _ _ _ _ _ c.requires

pub returns-in-Ok-clause-added : goal.returns-in-Ok-clause-added
returns-in-Ok-clause-added g c =
    set_made g.S.SharedSet c.args.set.now _ _ _ c.loop.invariant c.insert.ensures.later (λ a. Added a c.args.key c.in-Ok.yes ∷ []) c.in-Ok.ensures.added

pub returns-in-Err-NoNode-clause-refused : goal.returns-in-Err-NoNode-clause-refused
returns-in-Err-NoNode-clause-refused g c =
    set_refused g.S.SharedSet c.args.set.now _ _ _ c.loop.invariant c.insert.ensures.later c.in-Err-NoNode.ensures.none NoNode _ c.in-Err-NoNode.field-0-is
    c.in-Err-NoNode.ensures.licence

pub returns-in-Err-Spent-clause-refused : goal.returns-in-Err-Spent-clause-refused
returns-in-Err-Spent-clause-refused g c =
    set_refused g.S.SharedSet c.args.set.now _ _ _ c.loop.invariant c.insert.ensures.later c.in-Err-Spent.ensures.none (Spent c.in-Err-Spent.spent) _
    c.in-Err-Spent.field-0-is c.in-Err-Spent.ensures.licence

pub loop-preserved : goal.loop-preserved
loop-preserved g c =
    set_asks g.S.SharedSet c.args.set.now _ _ _ c.loop.invariant c.insert.ensures.later c.in-Err-Again.ensures.none c.insert.ensures.usable c.insert.ensures.agent

pub returns-in-Ok-clause-agent : goal.returns-in-Ok-clause-agent
returns-in-Ok-clause-agent g c = c.insert.ensures.agent ∙ c.loop.invariant.agent

pub returns-in-Err-NoNode-clause-agent : goal.returns-in-Err-NoNode-clause-agent
returns-in-Err-NoNode-clause-agent g c = c.insert.ensures.agent ∙ c.loop.invariant.agent

pub returns-in-Err-Spent-clause-agent : goal.returns-in-Err-Spent-clause-agent
returns-in-Err-Spent-clause-agent g c = c.insert.ensures.agent ∙ c.loop.invariant.agent
