-- Where the turn's search begins, and what it found.
use Rattle.std.proofs.Common.{arith, length, refl, ◌*◌, ◌+◌, ◌≤◌}
use Rattle.orc_heap.proofs.Pieces.{goes_on}
use Rattle.orc_ordered_search.specs.Entries.{entry_by}
use Rattle.orc_ordered_search.proofs.Making.{found_over}
use Rattle.orc_split_set.specs.Beginnings.{seat_before}
use Rattle.orc_split_set.specs.Looks.{bucket_now}
use Rattle.orc_split_set.specs.SplitSearches.{split_reading}
use Rattle.orc_split_set.proofs.Crowding.{own_not_moved, puts_grow, seen_grows}
use Rattle.orc_split_set.proofs.Looking.{joins_loads, joins_steps, turn_few}
use Rattle.orc_ordered_search.specs.Ways.{AreLoads}
use Rattle.orc_split_set.proofs.Turning.{turn_after}
use Rattle.orc_split_set.proofs.Passes.{seen_on}
use Rattle.orc_split_set.proofs.FewEvents.{few_begun, few_short}
use Rattle.orc_split_set.proofs.answer.call_turn.Goals as goal

pub call_from-requires-clause-begins : goal.call_from-requires-clause-begins
call_from-requires-clause-begins g c =
    let d = c.args.links.now in
    let s = g.L.Links.seat d c.args.p.now in
    let t = g.L.Links.seat d c.begin.new.p in
    let b = c.in-From.ensures.begun in
    (b.start, seat_before s t, c.requires.room, b.begins)

pub returns-in-Moved-clause-answered : goal.returns-in-Moved-clause-answered
returns-in-Moved-clause-answered g c =
    found_over (split_reading _) _ _ c.in-Moved.ensures.begun

pub returns-in-From-clause-answered : goal.returns-in-From-clause-answered
returns-in-From-clause-answered g c =
    let d = c.args.links.now in
    let s = g.L.Links.seat d c.args.p.now in
    let t = g.L.Links.seat d c.begin.new.p in
    let u = g.L.Links.seat d c.call_from.new.p in
    let b = c.in-From.ensures.begun in
    turn_after (split_reading (g.L.Links.numbers d)) (λ answer. entry_by c.args.call s.agent c.args.key answer) s (seat_before s t) u b.own b.quiet refl c.call_from.result
    (c.call_from.ensures.answered b.start (seat_before s t) c.requires.room b.begins)

pub returns-in-Moved-clause-few : goal.returns-in-Moved-clause-few
returns-in-Moved-clause-few g c = λ asks has many r sees.
    absurd (own_not_moved _ _ _ c.in-Moved.ensures.begun sees)

pub returns-in-From-clause-few : goal.returns-in-From-clause-few
returns-in-From-clause-few g c = λ asks has many r.
    let d = c.args.links.now in
    let n = g.L.Links.numbers d in
    let s = g.L.Links.seat d c.args.p.now in
    let t = g.L.Links.seat d c.begin.new.p in
    let u = g.L.Links.seat d c.call_from.new.p in
    let x = c.in-From.ensures in
    let b = x.begun in
    let e = c.call_from.ensures in
    let grows = seen_grows (g.L.Links.events d) g.L.Links.agent_of (g.met.L.Links.steps_add d) (g.L.Links.journal c.begin.new.p)
    (g.L.Links.journal c.call_from.new.p) t u e.later (g.met.L.Links.seen_is d c.begin.new.p x.pass) (g.met.L.Links.seen_is d c.call_from.new.p e.pass) in
    turn_few n (λ es most. AreLoads es × (length es ≤ most)) joins_loads 0 c.args.key many b.start s (seat_before s t) u (puts_grow s (seat_before s t) b.own b.quiet.puts) grows refl b.begins.begins.below
    (λ nodes to path ends. e.few asks b.start (seat_before s t) c.requires.room b.begins nodes to path ends) (bucket_now n c.args.key s)
    (λ sees. x.few has (record { part = sees.part; is = sees.is; own = sees.own })) has
    (λ sees there. (b.near (record { part = sees.part; is = sees.is; own = sees.own })).1 there) r

pub returns-in-Moved-clause-tries : goal.returns-in-Moved-clause-tries
returns-in-Moved-clause-tries g c = λ k low.
    let s = g.L.Links.seat c.args.links.now c.args.p.now in
    let t = g.L.Links.seat c.args.links.now c.begin.new.p in
    let d = c.args.links.now in
    let e = c.in-Moved.ensures in
    few_short (6 + 2 * k) (2 + 2 * k) 0 s t e.agent
    (seen_on g.L.Links g.met.L.Links.steps_add g.met.L.Links.seen_is d c.args.p.now c.begin.new.p c.requires.pass e.pass e.later) (e.tries k low) (omega arith)

pub returns-in-From-clause-tries : goal.returns-in-From-clause-tries
returns-in-From-clause-tries g c = λ k low.
    let s = g.L.Links.seat c.args.links.now c.args.p.now in
    let t = g.L.Links.seat c.args.links.now c.begin.new.p in
    let u = g.L.Links.seat c.args.links.now c.call_from.new.p in
    let d = c.args.links.now in
    let e = c.in-From.ensures in
    let f = c.call_from.ensures in
    let on = seen_on g.L.Links g.met.L.Links.steps_add g.met.L.Links.seen_is d in
    few_begun 4 (2 + 2 * k) (6 + 2 * k) 0 s t u e.agent (on c.args.p.now c.begin.new.p c.requires.pass e.pass e.later)
    (on c.begin.new.p c.call_from.new.p e.pass f.pass f.later) (e.tries k low) f.tries (omega arith)

pub returns-in-From-clause-taken : goal.returns-in-From-clause-taken
returns-in-From-clause-taken g c = λ removes yes has many r.
    let d = c.args.links.now in
    let n = g.L.Links.numbers d in
    let s = g.L.Links.seat d c.args.p.now in
    let t = g.L.Links.seat d c.begin.new.p in
    let u = g.L.Links.seat d c.call_from.new.p in
    let x = c.in-From.ensures in
    let b = x.begun in
    let e = c.call_from.ensures in
    let grows = seen_grows (g.L.Links.events d) g.L.Links.agent_of (g.met.L.Links.steps_add d) (g.L.Links.journal c.begin.new.p)
    (g.L.Links.journal c.call_from.new.p) t u e.later (g.met.L.Links.seen_is d c.begin.new.p x.pass) (g.met.L.Links.seen_is d c.call_from.new.p e.pass) in
    turn_few n (λ es most. length es ≤ most) joins_steps 1 c.args.key many b.start s (seat_before s t) u (puts_grow s (seat_before s t) b.own b.quiet.puts) grows refl b.begins.begins.below
    (λ nodes to path ends. e.taken removes yes b.start (seat_before s t) c.requires.room b.begins nodes to path ends) (bucket_now n c.args.key s)
    (λ sees. x.few has (record { part = sees.part; is = sees.is; own = sees.own })) has
    (λ sees there. (b.near (record { part = sees.part; is = sees.is; own = sees.own })).1 there) r

pub returns-in-Moved-clause-taken : goal.returns-in-Moved-clause-taken
returns-in-Moved-clause-taken g c = λ removes yes. cc

pub call_from-requires-clause-pass : goal.call_from-requires-clause-pass
call_from-requires-clause-pass g c = c.in-From.ensures.pass

pub returns-in-Moved-clause-pass : goal.returns-in-Moved-clause-pass
returns-in-Moved-clause-pass g c = c.in-Moved.ensures.pass

pub returns-in-Moved-clause-later : goal.returns-in-Moved-clause-later
returns-in-Moved-clause-later g c = c.in-Moved.ensures.later

pub returns-in-From-clause-pass : goal.returns-in-From-clause-pass
returns-in-From-clause-pass g c = c.call_from.ensures.pass

pub returns-in-From-clause-later : goal.returns-in-From-clause-later
returns-in-From-clause-later g c = goes_on _ _ _ c.in-From.ensures.later c.call_from.ensures.later
