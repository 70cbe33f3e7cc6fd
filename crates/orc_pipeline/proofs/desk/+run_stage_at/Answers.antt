use Rattle.std.proofs.Common.{◌≡◌, ◌-◌, suc, arith}
use Rattle.orc_pipeline.proofs.Desks.{stage_behind}
use Rattle.orc_pipeline.proofs.desk.+run_stage_at.Goals as goal

pub returns-then-skip-gt0-clause-did : goal.returns-then-skip-gt0-clause-did
returns-then-skip-gt0-clause-did g t c =
    let at : c.args.skip ≡ suc (c.args.skip - 1) = omega (arith, c.if-skip-gt0.true) in
    stage_behind g.Q.SharedQueue c.in-Some.queue.now _ _ _ _ _ _ _ _ _ _ _ _ c.in-Some.ensures.cases.0 c.in-Some-split_first_mut.ensures.cases.0 at
    c.run_stage_at.ensures.did

pub run_between-requires-clause-good : goal.run_between-requires-clause-good
run_between-requires-clause-good g t c = c.requires.good

pub run_between-requires-clause-stage : goal.run_between-requires-clause-stage
run_between-requires-clause-stage g t c = c.requires.stage

pub run_between-requires-clause-counts : goal.run_between-requires-clause-counts
run_between-requires-clause-counts g t c = c.requires.counts

pub run_between-requires-clause-none : goal.run_between-requires-clause-none
run_between-requires-clause-none g t c = c.requires.none

pub run_between-requires-clause-room : goal.run_between-requires-clause-room
run_between-requires-clause-room g t c = c.requires.room

pub returns-then-skip-gt0-clause-spare : goal.returns-then-skip-gt0-clause-spare
returns-then-skip-gt0-clause-spare g t c = c.run_stage_at.ensures.spare

pub returns-clause-spare : goal.returns-clause-spare
returns-clause-spare g t c = c.run_between.ensures.spare
