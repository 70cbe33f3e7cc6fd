use Rattle.std.proofs.Common.{rules, ◌≡◌, length, refl}
use Rattle.orc_stages.proofs.Callers.{caller_last, caller_of, first_agent}
use Rattle.orc_stages.proofs.caller.+move_all.Goals as goal

pub returns-clause-moved : goal.returns-clause-moved
returns-clause-moved g t c =
    caller_of g.Q.SharedQueue c.in-Some.queue.now _ _ _ _ _ _ _ _ _ _ _ c.in-Some-split_first_mut-2.first.now c.move_between.new.worker _ _ _ _ c.in-Some.ensures.cases.0
    c.in-Some-split_first_mut.ensures.cases.0 c.in-Some-split_first_mut-2.ensures.cases.0 c.move_between.ensures.kept c.move_between.ensures.moved
    c.move_all.ensures.moved

pub returns-in_default-split_first_mut-2-clause-moved : goal.returns-in_default-split_first_mut-2-clause-moved
returns-in_default-split_first_mut-2-clause-moved g t c =
    let none : length c.args.stages.now ≡ 0 = search rules in
    caller_last g.Q.SharedQueue c.in-Some.queue.now _ _ _ _ _ _ _ _ _ _ _ _ _ c.in-Some.ensures.cases.0 c.in-Some-split_first_mut.ensures.cases.0 none refl
    (first_agent g.Q.SharedQueue c.args.agent _ _ _ _ _ _ c.in-Some.ensures.cases.0 c.in-Some-split_first_mut.ensures.cases.0 c.requires.passes)
    c.take_outs.ensures.taken c.take_outs.ensures.last

pub move_between-requires-clause-good : goal.move_between-requires-clause-good
move_between-requires-clause-good g t c = c.requires.good

pub take_outs-requires-clause-none : goal.take_outs-requires-clause-none
take_outs-requires-clause-none g t c = c.requires.no_outs

pub returns-in_default-split_first_mut-2-clause-spare : goal.returns-in_default-split_first_mut-2-clause-spare
returns-in_default-split_first_mut-2-clause-spare g t c = c.take_outs.ensures.spare

pub returns-clause-spare : goal.returns-clause-spare
returns-clause-spare g t c = c.move_all.ensures.spare
