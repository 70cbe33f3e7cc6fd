-- By what the look found.
use Rattle.orc_ordered_search.proofs.search.step_by.Goals as goal

pub step_from-requires-clause-looks : goal.step_from-requires-clause-looks
step_from-requires-clause-looks g c = let (start, s, w) = c.requires.looked in (start, s, rw c.in-Stable.is at w)

pub returns-in-Stable-clause-stepped : goal.returns-in-Stable-clause-stepped
returns-in-Stable-clause-stepped g c = λ start s w. c.step_from.ensures.stepped start s (rw c.in-Stable.is at w)

pub stop-requires-clause-stops : goal.stop-requires-clause-stops
stop-requires-clause-stops g c = let (start, s, w) = c.requires.looked in (start, g.K.Rank.number c.args.wanted, s, rw c.in-Moved.is at w)

pub returns-in-Moved-clause-stepped : goal.returns-in-Moved-clause-stepped
returns-in-Moved-clause-stepped g c = λ start s w. c.stop.ensures.moved start (g.K.Rank.number c.args.wanted) s (rw c.in-Moved.is at w)

pub returns-in-Stable-clause-pass : goal.returns-in-Stable-clause-pass
returns-in-Stable-clause-pass g c = c.step_from.ensures.pass

pub returns-in-Stable-clause-later : goal.returns-in-Stable-clause-later
returns-in-Stable-clause-later g c = c.step_from.ensures.later

pub returns-in-Moved-clause-pass : goal.returns-in-Moved-clause-pass
returns-in-Moved-clause-pass g c = c.stop.ensures.pass

pub returns-in-Moved-clause-later : goal.returns-in-Moved-clause-later
returns-in-Moved-clause-later g c = c.stop.ensures.later
