-- The marked node belongs to the run.
use Rattle.std.proofs.Common.{Some, ◌+◌}
use Rattle.orc_heap.specs.Hands.{hand}
use Rattle.orc_heap.proofs.Pieces.{goes_on}
use Rattle.orc_ordered_search.proofs.Held.{fourth_held}
use Rattle.orc_ordered_search.proofs.Stepping.{passed_marked}
use Rattle.orc_ordered_search.specs.Reading.{ordering_of}
use Rattle.orc_ordered_search.proofs.search.step_past.Goals as goal

pub keep_first-first-requires : goal.keep_first-first-requires
keep_first-first-requires g c =
    let a = c.args.walk in
    let (start, wanted, s, w) = c.requires.looks in
    record {
      pass = c.requires.pass;
      held = fourth_held s.slots _ (hand c.args.next w.next_id) (hand a.left w.left_id) (hand a.first w.first_id) (Some a.at) w.id _ w.hands;
    }

pub go_on-requires-clause-pass : goal.go_on-requires-clause-pass
go_on-requires-clause-pass g c = c.keep_first-first.ensures.pass

pub go_on-requires-clause-passed : goal.go_on-requires-clause-passed
go_on-requires-clause-passed g c =
    let d = c.args.links.now in
    let a = c.args in
    let k = c.keep_first-first in
    let (start, wanted, s, w) = c.requires.looks in (
      start,
      wanted,
      s,
      g.K.Rank.number a.walk.rank + 1,
      passed_marked (ordering_of (g.met.K.Rank.ordered _)) start wanted a.walk.left a.walk.first a.walk.at (g.K.Rank.number a.walk.rank) (g.K.Rank.counted a.walk.rank) a.walk.passed a.next
          k.result s _ _ w k.ensures.kept
          (λ i e. g.met.L.Links.fresh_is d a.p.now i c.requires.pass e) (g.met.L.Links.allowed _ _ k.ensures.pass),
    )

pub returns-clause-pass : goal.returns-clause-pass
returns-clause-pass g c = c.go_on.ensures.pass

pub returns-clause-later : goal.returns-clause-later
returns-clause-later g c = goes_on _ _ _ c.keep_first-first.ensures.later c.go_on.ensures.later

pub returns-clause-stepped : goal.returns-clause-stepped
returns-clause-stepped g c = λ start wanted s w.
    let d = c.args.links.now in
    let a = c.args in
    let k = c.keep_first-first in
    c.go_on.ensures.stepped start wanted s (g.K.Rank.number a.walk.rank + 1)
    (passed_marked (ordering_of (g.met.K.Rank.ordered _)) start wanted a.walk.left a.walk.first a.walk.at (g.K.Rank.number a.walk.rank) (g.K.Rank.counted a.walk.rank) a.walk.passed a.next
    k.result s _ _ w k.ensures.kept
    (λ i e. g.met.L.Links.fresh_is d a.p.now i c.requires.pass e) (g.met.L.Links.allowed _ _ k.ensures.pass))
