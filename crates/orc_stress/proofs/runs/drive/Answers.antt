use Rattle.std.proofs.Common.{◌∙◌}
use Rattle.orc_stress.proofs.Staying.{stay_parts, stay_ready, stay_twice}
use Rattle.orc_stress.proofs.runs.drive.Goals as goal

pub begin-put-requires : goal.begin-put-requires
begin-put-requires g c = record { ready = c.requires.ready }

pub run_all-passes-requires-clause-ready : goal.run_all-passes-requires-clause-ready
run_all-passes-requires-clause-ready g c κs within = stay_ready _ _ _ _ c.begin-put.ensures.stay

pub run_all-passes-requires-clause-few : goal.run_all-passes-requires-clause-few
run_all-passes-requires-clause-few g c κs within = rw c.begin-put.ensures.len c.requires.few

pub run_all-passes-requires-clause-empty : goal.run_all-passes-requires-clause-empty
run_all-passes-requires-clause-empty g c κs within = c.in_ok-room.ensures.items

pub run_all-passes-requires-clause-room : goal.run_all-passes-requires-clause-room
run_all-passes-requires-clause-room g c κs within = rw (c.begin-put.ensures.len, ← c.len.ensures) c.in_ok-room.ensures.capacity

pub finish-rest-requires : goal.finish-rest-requires
finish-rest-requires g c = record { ready = stay_ready _ _ _ _ c.run_all-passes.ensures.stay }

pub returns-clause-stay : goal.returns-clause-stay
returns-clause-stay g c =
    let called = stay_twice _ _ _ _ _ c.begin-put.ensures.stay c.run_all-passes.ensures.stay in
    stay_twice _ _ _ _ _ called c.finish-rest.ensures.stay

pub returns-clause-calls : goal.returns-clause-calls
returns-clause-calls g c = c.run_all-passes.ensures.calls ∙ stay_parts _ _ c.args.plan.now _ _ c.begin-put.ensures.stay
