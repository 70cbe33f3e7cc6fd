use Rattle.orc_stress.proofs.Staying.{each_stays, last_of, last_stays, none_stays}
use Rattle.orc_stress.proofs.runs.begin.Goals as goal

pub returns-then-not-has_keys-clause-stay : goal.returns-then-not-has_keys-clause-stay
returns-then-not-has_keys-clause-stay g c = each_stays _ _ _ c.requires.ready

pub returns-in_default-clause-stay : goal.returns-in_default-clause-stay
returns-in_default-clause-stay g c = none_stays _ _ _ _ c.requires.ready c.in_default.ensures.items

pub fill-put-requires : goal.fill-put-requires
fill-put-requires g c = record { ready = last_of (g.C.Container.ready c.args.container.now) _ _ _ c.requires.ready c.in-Some.ensures.items }

pub returns-clause-stay : goal.returns-clause-stay
returns-clause-stay g c =
    last_stays _ _ _ _ _ _ _ c.requires.ready c.in-Some.ensures.items c.in-Ok.ensures.items c.fill-put.ensures.ready
