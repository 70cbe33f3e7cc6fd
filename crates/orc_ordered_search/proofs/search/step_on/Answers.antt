-- By what is in hand.
use Rattle.orc_ordered_search.proofs.search.step_on.Goals as goal

pub step-requires : goal.step-requires
step-requires g c =
    let (start, s, room, w) = c.requires.walks in
    record { pass = c.requires.pass; walks = (start, s, room, rw c.in-Some.is at w) }

pub returns-in-Some : goal.returns-in-Some
returns-in-Some g c =
    let e = c.step.ensures in
    record { pass = e.pass; later = e.later; stepped = λ start s room w. e.stepped start s room (rw c.in-Some.is at w) }

pub pass_lower-requires : goal.pass_lower-requires
pass_lower-requires g c =
    let (start, s, room, w) = c.requires.walks in
    record { pass = c.requires.pass; walks = (start, s, room, rw (c.in-None.is, c.in-Some-left.is) at w) }

pub returns-in-Some-left : goal.returns-in-Some-left
returns-in-Some-left g c =
    let e = c.pass_lower.ensures in
    record { pass = e.pass; later = e.later; stepped = λ start s room w. e.stepped start s room (rw (c.in-None.is, c.in-Some-left.is) at w) }

pub step-requires-in-None-left : goal.step-requires-in-None-left
step-requires-in-None-left g c =
    let (start, s, room, w) = c.requires.walks in
    record { pass = c.requires.pass; walks = (start, s, room, rw (c.in-None.is, c.in-None-left.is) at w) }

pub returns-in-None-left : goal.returns-in-None-left
returns-in-None-left g c =
    let e = c.step-in-None-left.ensures in
    record { pass = e.pass; later = e.later; stepped = λ start s room w. e.stepped start s room (rw (c.in-None.is, c.in-None-left.is) at w) }
