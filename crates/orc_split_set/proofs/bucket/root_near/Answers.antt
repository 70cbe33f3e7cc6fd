-- Where the search for the dummy begins, and what it found.
use Rattle.std.proofs.Common.{arith, refl, subst, sym, ◌*◌, ◌+◌, ◌∙◌}
use Rattle.orc_heap.proofs.Pieces.{goes_on}
use Rattle.orc_heap.specs.Slots.{Slots}
use Rattle.orc_ordered_search.specs.Searches.{HasRoom}
use Rattle.orc_ordered_search.proofs.Inserting.{idle_room}
use Rattle.orc_split_set.specs.Beginnings.{seat_before}
use Rattle.orc_split_set.proofs.Rooting.{moved_roots, roots_after}
use Rattle.orc_split_set.proofs.Telling.{told_next}
use Rattle.orc_split_set.proofs.Passes.{seen_on}
use Rattle.orc_split_set.proofs.FewEvents.{few_begun, few_short}
use Rattle.orc_split_set.proofs.bucket.root_near.Goals as goal

pub begin_near-requires-clause-size : goal.begin_near-requires-clause-size
begin_near-requires-clause-size g c = c.size_within.ensures.size _ c.requires.size

pub begin_near-requires-clause-room : goal.begin_near-requires-clause-room
begin_near-requires-clause-room g c =
    let (s, own, q, same, idle) = c.requires.begun in
    subst (λ (z : Slots). HasRoom z) (sym same) (idle_room s idle).room

pub root_from-requires-clause-begins : goal.root_from-requires-clause-begins
root_from-requires-clause-begins g c =
    let d = c.args.links.now in
    let (s, own, q, same, idle) = c.requires.begun in
    let b = c.in-From.ensures.begun s own q same in
    (b.start, seat_before s (g.L.Links.seat d c.begin_near.new.p), idle_room s idle, idle.fresh, b.begins)

pub returns-in-Moved-clause-rooted : goal.returns-in-Moved-clause-rooted
returns-in-Moved-clause-rooted g c = λ s own q same idle.
    moved_roots _ c.args.bucket s _ (c.in-Moved.ensures.begun s own q same) idle.fresh

pub returns-in-From-clause-rooted : goal.returns-in-From-clause-rooted
returns-in-From-clause-rooted g c = λ s own q same idle.
    let d = c.args.links.now in
    let t = g.L.Links.seat d c.begin_near.new.p in
    let b = c.in-From.ensures.begun s own q same in
    roots_after (g.L.Links.numbers d) c.args.bucket s (seat_before s t) (g.L.Links.seat d c.root_from.new.p) b.own b.quiet refl c.root_from.result
    (c.root_from.ensures.rooted b.start (seat_before s t) (idle_room s idle) idle.fresh b.begins)

pub returns-in-From-clause-told : goal.returns-in-From-clause-told
returns-in-From-clause-told g c =
    let (s, own, q, same, idle) = c.requires.begun in
    let e = c.in-From.ensures in
    let from = c.root_from in
    told_next g.L.Links c.args.links.now c.args.p.now c.begin_near.new.p _ ((e.begun s own q same).begins.begins.agent ∙ sym q.puts.agent)
    e.later from.ensures.later from.result from.ensures.told

pub returns-in-Moved-clause-tries : goal.returns-in-Moved-clause-tries
returns-in-Moved-clause-tries g c = λ k low.
    let s = g.L.Links.seat c.args.links.now c.args.p.now in
    let t = g.L.Links.seat c.args.links.now c.begin_near.new.p in
    let e = c.in-Moved.ensures in
    few_short (4 + 2 * k) (2 * k) 4 s t e.agent
    (seen_on g.L.Links g.met.L.Links.steps_add g.met.L.Links.seen_is c.args.links.now c.args.p.now c.begin_near.new.p c.requires.pass e.pass e.later)
    (e.tries k (omega (arith, c.size_within.ensures.within, low))) (omega arith)

pub returns-in-From-clause-tries : goal.returns-in-From-clause-tries
returns-in-From-clause-tries g c = λ k low.
    let s = g.L.Links.seat c.args.links.now c.args.p.now in
    let t = g.L.Links.seat c.args.links.now c.begin_near.new.p in
    let u = g.L.Links.seat c.args.links.now c.root_from.new.p in
    let e = c.in-From.ensures in
    let f = c.root_from.ensures in
    let on = seen_on g.L.Links g.met.L.Links.steps_add g.met.L.Links.seen_is c.args.links.now in
    few_begun 4 (2 * k) (4 + 2 * k) 4 s t u e.agent (on c.args.p.now c.begin_near.new.p c.requires.pass e.pass e.later)
    (on c.begin_near.new.p c.root_from.new.p e.pass f.pass f.later) (e.tries k (omega (arith, c.size_within.ensures.within, low))) f.tries (omega arith)

pub root_from-requires-clause-pass : goal.root_from-requires-clause-pass
root_from-requires-clause-pass g c = c.in-From.ensures.pass

pub returns-in-Moved-clause-pass : goal.returns-in-Moved-clause-pass
returns-in-Moved-clause-pass g c = c.in-Moved.ensures.pass

pub returns-in-Moved-clause-later : goal.returns-in-Moved-clause-later
returns-in-Moved-clause-later g c = c.in-Moved.ensures.later

pub returns-in-From-clause-pass : goal.returns-in-From-clause-pass
returns-in-From-clause-pass g c = c.root_from.ensures.pass

pub returns-in-From-clause-later : goal.returns-in-From-clause-later
returns-in-From-clause-later g c = goes_on _ _ _ c.in-From.ensures.later c.root_from.ensures.later
