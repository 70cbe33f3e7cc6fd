use Rattle.orc_stages.proofs.Callers.{between}
use Rattle.orc_stages.proofs.caller.move_between.Goals as goal

pub returns-clause-moved : goal.returns-clause-moved
returns-clause-moved g c =
    between g.Q.SharedQueue c.args.queue.now _ _ _ _ _ _ _ _ _ _ _ _ _ _ c.in-Some.ensures.cases.0 c.in-Some-split_first_mut.ensures.cases.0
    c.requires.passes.1 c.move_rest.ensures.moved c.move_rest.ensures.spare c.move_rest.ensures.last
