use Rattle.orc_stress.specs.Passes.{Stays}
use Rattle.orc_stress.proofs.Staying.{last_of, last_stays, none_stays}
use Rattle.orc_stress.proofs.runs.finish.Goals.{else-has_keys+else-has_pairs, else-has_keys+then-has_pairs, then-has_keys}
use Rattle.orc_stress.proofs.runs.finish.Goals as goal

pub returns-in_default : goal.returns-in_default
returns-in_default g c = record { stay = none_stays _ _ _ _ c.requires.ready c.in_default.ensures.items }

pub find_keys-rest-requires : goal.find_keys-rest-requires
find_keys-rest-requires g c = record { ready = last_of (g.C.Container.ready c.args.container.now) _ _ _ c.requires.ready c.in-Some.ensures.items }

pub see_pairs-requires : goal.see_pairs-requires
see_pairs-requires g c = record { ready = last_of (g.C.Container.ready c.args.container.now) _ _ _ c.requires.ready c.in-Some.ensures.items }

pub take_jobs-requires : goal.take_jobs-requires
take_jobs-requires g c = record { ready = last_of (g.C.Container.ready c.args.container.now) _ _ _ c.requires.ready c.in-Some.ensures.items }

pub returns : goal.returns
returns g c =
    let ready = g.C.Container.ready c.args.container.now in
    let agent = g.C.Container.agent_of c.args.container.now in
    let stays : Stays ready agent c.in-Some.p c.if-has_keys.p = elim c.if-has_keys.branch [
      | then-has_keys w ↦ rw w.p-is w.find_keys-rest.ensures.ready
      | else-has_keys+then-has_pairs w ↦ rw w.p-is w.see_pairs.ensures.ready
      | else-has_keys+else-has_pairs w ↦ rw w.p-is w.take_jobs.ensures.ready
    ] in
    record { stay = last_stays _ _ _ _ _ _ _ c.requires.ready c.in-Some.ensures.items c.in-Ok.ensures.items stays }
