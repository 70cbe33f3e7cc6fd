-- All nodes are let go.
use Rattle.orc_ordered_search.proofs.Held.{stop_hand}
use Rattle.orc_ordered_search.proofs.Walking.{stops_few}
use Rattle.orc_ordered_search.specs.Reading.{ordering_of}
use Rattle.orc_ordered_search.proofs.search.stop.Goals as goal

pub let_all_go-requires-clause-hands : goal.let_all_go-requires-clause-hands
let_all_go-requires-clause-hands g c =
    let a = c.args in
    let (start, wanted, s, w) = c.requires.stops in
    (s.slots, stop_hand (ordering_of (g.met.K.Rank.ordered _)) start wanted 0 a.walk.left a.walk.first s _ a.walk.at w)

pub returns-clause-moved : goal.returns-clause-moved
returns-clause-moved g c = λ start wanted s w.
    let a = c.args in
    let e = c.let_all_go.ensures in
    stops_few (ordering_of (g.met.K.Rank.ordered _)) start wanted a.walk.left a.walk.first a.walk.at s _ _ w
    (e.gone s.slots (stop_hand (ordering_of (g.met.K.Rank.ordered _)) start wanted 0 a.walk.left a.walk.first s _ a.walk.at w)) (g.met.L.Links.allowed _ _ e.pass)

pub returns-clause-pass : goal.returns-clause-pass
returns-clause-pass g c = c.let_all_go.ensures.pass

pub returns-clause-later : goal.returns-clause-later
returns-clause-later g c = c.let_all_go.ensures.later
