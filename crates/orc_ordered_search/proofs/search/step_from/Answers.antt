-- The node has the rank, or a greater one.
use Rattle.std.proofs.Common.{Bool, [], append-nil, arith, subst}
use Rattle.orc_ordered_search.specs.Searches.{LooksOn}
use Rattle.orc_ordered_search.proofs.Stepping.{looks_above, looks_present}
use Rattle.orc_ordered_search.specs.Reading.{ordering_of, reading_by}
use Rattle.orc_ordered_search.proofs.search.step_from.Goals as goal

pub step_past-requires : goal.step_past-requires
step_past-requires g c =
    let (start, s, w) = c.requires.looks in
    record { pass = c.requires.pass; looks = (start, g.K.Rank.number c.args.wanted, s, rw c.if-mark.true at w) }

pub returns-then-mark : goal.returns-then-mark
returns-then-mark g c =
    let e = c.step_past.ensures in
    record { pass = e.pass; later = e.later; stepped = λ start s w. e.stepped start (g.K.Rank.number c.args.wanted) s (rw c.if-mark.true at w) }

pub step_behind-requires : goal.step_behind-requires
step_behind-requires g c =
    let (start, s, w) = c.requires.looks in
    record { pass = c.requires.pass; looks = (start, s, rw c.if-mark.false at w); lower = c.is_before.ensures.yes c.if-is_before.true }

pub returns-then-is_before : goal.returns-then-is_before
returns-then-is_before g c =
    let e = c.step_behind.ensures in
    record { pass = e.pass; later = e.later; stepped = λ start s w. e.stepped start s (rw c.if-mark.false at w) }

pub returns-then-is_before-2-clause-stepped : goal.returns-then-is_before-2-clause-stepped
returns-then-is_before-2-clause-stepped g c = λ start s w.
    let d = c.args.links.now in
    let n = g.L.Links.numbers d in
    let t = g.L.Links.seat d c.args.p.now in
    let a = c.args in
    let e = c.let_go.ensures in
    let here = subst (λ (b : Bool). LooksOn (reading_by n g.K.Rank.manner) start (g.K.Rank.number a.wanted) a.walk.left a.walk.first a.walk.at (g.K.Rank.number a.walk.rank)
    (g.K.Rank.counted a.walk.rank) a.walk.passed b a.next s t) c.if-mark.false w in
    looks_above (ordering_of (g.met.K.Rank.ordered n)) start (g.K.Rank.number a.wanted) a.walk.left a.walk.first a.walk.at (g.K.Rank.number a.walk.rank) (g.K.Rank.counted a.walk.rank) a.walk.passed a.next
    s t _ here (c.is_before-2.ensures.yes c.if-is_before-2.true) e.let_go (λ i h. g.met.L.Links.fresh_is d a.p.now i c.requires.pass h)
    (g.met.L.Links.allowed _ _ e.pass)

pub returns-clause-stepped : goal.returns-clause-stepped
returns-clause-stepped g c = λ start s w.
    let n = g.L.Links.numbers _ in
    let t = g.L.Links.seat _ c.args.p.now in
    let a = c.args in
    let here = subst (λ (b : Bool). LooksOn (reading_by n g.K.Rank.manner) start (g.K.Rank.number a.wanted) a.walk.left a.walk.first a.walk.at (g.K.Rank.number a.walk.rank)
    (g.K.Rank.counted a.walk.rank) a.walk.passed b a.next s t) c.if-mark.false w in
    looks_present (ordering_of (g.met.K.Rank.ordered n)) start (g.K.Rank.number a.wanted) a.walk.left a.walk.first a.walk.at (g.K.Rank.number a.walk.rank) (g.K.Rank.counted a.walk.rank) a.walk.passed
    a.next s t here (omega (arith, c.is_before.ensures.no c.if-is_before.false, c.is_before-2.ensures.no c.if-is_before-2.false))

pub returns-then-is_before-2-clause-pass : goal.returns-then-is_before-2-clause-pass
returns-then-is_before-2-clause-pass g c = c.let_go.ensures.pass

pub returns-then-is_before-2-clause-later : goal.returns-then-is_before-2-clause-later
returns-then-is_before-2-clause-later g c = c.let_go.ensures.later

pub returns-clause-pass : goal.returns-clause-pass
returns-clause-pass g c = c.requires.pass

pub returns-clause-later : goal.returns-clause-later
returns-clause-later g c = ([], append-nil _)
