-- By whether there is a next node.
use Rattle.std.proofs.Common.{Option, subst}
use Rattle.orc_heap.specs.Slots.{Hold}
use Rattle.orc_ordered_search.specs.Reading.{ordering_of, reading_by}
use Rattle.orc_ordered_search.specs.Searches.{Passed}
use Rattle.orc_ordered_search.proofs.Ranking.{passed_linked, passed_read}
use Rattle.orc_ordered_search.proofs.Running.{passed_holds}
use Rattle.orc_ordered_search.proofs.Stepping.{passed_none}
use Rattle.orc_ordered_search.proofs.search.go_on.Goals as goal

pub read-rank-requires : goal.read-rank-requires
read-rank-requires g c =
    let n = g.L.Links.numbers _ in
    let x = ordering_of (g.met.K.Rank.ordered n) in
    let t = g.L.Links.seat _ c.args.p.now in
    let a = c.args in
    let (start, wanted, s, least, w) = c.requires.passed in
    let here = subst (λ (o : Option Hold). Passed (reading_by n g.K.Rank.manner) start wanted least a.passed a.left a.first o s t) c.in-Some.is w in
    record {
      pass = c.requires.pass;
      held = passed_holds x start wanted least a.passed a.left a.first c.in-Some.at s t here;
      linked = passed_linked x start wanted least a.passed a.left a.first c.in-Some.at s t here;
    }

pub returns-in-Some-clause-stepped : goal.returns-in-Some-clause-stepped
returns-in-Some-clause-stepped g c = λ start wanted s least w.
    let n = g.L.Links.numbers _ in
    let t = g.L.Links.seat _ c.args.p.now in
    let a = c.args in
    let e = c.read-rank.ensures in
    let here = subst (λ (o : Option Hold). Passed (reading_by n g.K.Rank.manner) start wanted least a.passed a.left a.first o s t) c.in-Some.is w in
    let r = passed_read (ordering_of (g.met.K.Rank.ordered n)) start wanted least a.passed a.left a.first c.in-Some.at (g.K.Rank.number c.read-rank.result)
    (g.K.Rank.counted c.read-rank.result) s t _ here e.nothing e.rank (g.met.L.Links.allowed _ _ e.pass) in
    (r.0, r.1, e.fits)

pub returns-in-None-clause-stepped : goal.returns-in-None-clause-stepped
returns-in-None-clause-stepped g c = λ start wanted s least w.
    let n = g.L.Links.numbers _ in
    let t = g.L.Links.seat _ c.args.p.now in
    let a = c.args in
    passed_none (ordering_of (g.met.K.Rank.ordered n)) start wanted least a.passed a.left a.first s t
    (subst (λ (o : Option Hold). Passed (reading_by n g.K.Rank.manner) start wanted least a.passed a.left a.first o s t) c.in-None.is w)
