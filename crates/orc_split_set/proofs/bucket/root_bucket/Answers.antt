-- By what the look of the bucket's root found.
use Rattle.std.proofs.Common.{arith, refl, ◌*◌, ◌+◌, ◌≤◌}
use Rattle.orc_heap.proofs.Pieces.{goes_on}
use Rattle.orc_ordered_search.proofs.Held.{release_goes}
use Rattle.orc_split_set.specs.Looks.{root_loads}
use Rattle.orc_split_set.proofs.Crowding.{own_not_moved, own_sooner}
use Rattle.orc_split_set.proofs.Looking.{few_none, few_then, look_agent, look_grows, root_few, start_shown}
use Rattle.orc_split_set.proofs.Passes.{seen_on}
use Rattle.orc_split_set.proofs.Preparing.{kept_roots, no_roots, root_held}
use Rattle.orc_split_set.proofs.RootLooks.{look_moved, null_held}
use Rattle.orc_split_set.proofs.Rooting.{moved_roots}
use Rattle.orc_split_set.proofs.Sizes.{looks_none, looks_some}
use Rattle.orc_split_set.proofs.Telling.{told_next}
use Rattle.orc_split_set.proofs.FewEvents.{few_short, few_start, few_still, few_then_more, few_wider, look_made}
use Rattle.orc_split_set.proofs.bucket.root_bucket.Goals as goal

pub returns-then-bucket-eq0-clause-rooted : goal.returns-then-bucket-eq0-clause-rooted
returns-then-bucket-eq0-clause-rooted g c =
    no_roots _ c.args.bucket _ c.if-bucket-eq0.true c.requires.idle.fresh

pub release-requires-clause-held : goal.release-requires-clause-held
release-requires-clause-held g c =
    let d = c.args.links.now in
    let s = g.L.Links.seat d c.args.p.now in
    let t = g.L.Links.seat d c.look.new.p in
    let x = c.in-Stable-default-Some in
    root_held (g.L.Links.numbers d) c.args.bucket s t x.field-0 x.dummy c.requires.idle
    (looks_some c.args.bucket 2 x.field-0 x.field-1 x.dummy s t x.field-1-is x.ensures.looked)

pub returns-in-Stable-default-Some-clause-rooted : goal.returns-in-Stable-default-Some-clause-rooted
returns-in-Stable-default-Some-clause-rooted g c =
    let x = c.in-Stable-default-Some in
    kept_roots _ c.args.bucket _ _ x.field-0 x.dummy c.requires.idle
    (looks_some c.args.bucket 2 x.field-0 x.field-1 x.dummy _ _ x.field-1-is x.ensures.looked) _ (omega (arith, c.if-bucket-eq0.false)) c.requires.bucket
    (g.met.L.Links.obeys _ _ c.requires.pass) (g.met.L.Links.obeys _ _ x.ensures.pass)
    (g.met.L.Links.allowed _ _ x.ensures.pass) (g.met.L.Links.allowed _ _ c.release.ensures.pass)
    (release_goes x.dummy _ _ c.release.ensures.released)

pub root_near-requires-clause-bucket : goal.root_near-requires-clause-bucket
root_near-requires-clause-bucket g c = (omega (arith, c.if-bucket-eq0.false), c.requires.bucket)

pub root_near-requires-clause-begun : goal.root_near-requires-clause-begun
root_near-requires-clause-begun g c =
    let s = g.L.Links.seat _ c.args.p.now in
    let x = c.in-Stable-default-None in
    let k = null_held _ s _ c.args.bucket x.field-0 (looks_none c.args.bucket 2 x.field-0 x.field-1 s _ x.field-1-is x.ensures.looked) in
    (s, k.own, k.quiet, k.slots, c.requires.idle)

pub returns-in-Stable-default-None-clause-rooted : goal.returns-in-Stable-default-None-clause-rooted
returns-in-Stable-default-None-clause-rooted g c =
    let x = c.in-Stable-default-None in
    let k = null_held _ _ _ c.args.bucket x.field-0 (looks_none c.args.bucket 2 x.field-0 x.field-1 _ _ x.field-1-is x.ensures.looked) in
    c.root_near.ensures.rooted _ k.own k.quiet k.slots c.requires.idle

pub returns-in-Moved-clause-rooted : goal.returns-in-Moved-clause-rooted
returns-in-Moved-clause-rooted g c =
    moved_roots _ c.args.bucket _ _
    (look_moved _ c.args.bucket _ _ c.in-Moved.ensures.looked (g.met.L.Links.allowed _ _ c.in-Moved.ensures.pass)) c.requires.idle.fresh

pub returns-in-Stable-default-None-clause-told : goal.returns-in-Stable-default-None-clause-told
returns-in-Stable-default-None-clause-told g c =
    let x = c.in-Stable-default-None in
    let near = c.root_near in
    told_next g.L.Links c.args.links.now c.args.p.now c.look.new.p _ (look_agent c.args.bucket _ _ _ x.ensures.looked) x.ensures.later
    near.ensures.later near.result near.ensures.told

pub returns-then-bucket-eq0-clause-few : goal.returns-then-bucket-eq0-clause-few
returns-then-bucket-eq0-clause-few g c = λ has.
    few_none (root_loads c.args.bucket) _ _ (λ sees. refl)

pub returns-in-Stable-default-Some-clause-few : goal.returns-in-Stable-default-Some-clause-few
returns-in-Stable-default-Some-clause-few g c = λ has.
    let looks = c.in-Stable-default-Some.ensures.looked in
    let gone = (release_goes c.in-Stable-default-Some.dummy _ _ c.release.ensures.released).puts in
    let low : 1 ≤ c.args.bucket = omega (arith, c.if-bucket-eq0.false) in
    few_then (root_loads c.args.bucket) _ _ _ (look_grows c.args.bucket _ _ _ looks) (look_agent c.args.bucket _ _ _ looks) gone
    (root_few c.args.bucket c.args.bucket _ _ _ low looks)

pub returns-in-Stable-default-None-clause-few : goal.returns-in-Stable-default-None-clause-few
returns-in-Stable-default-None-clause-few g c = λ has sees.
    let d = c.args.links.now in
    let n = g.L.Links.numbers d in
    let s = g.L.Links.seat d c.args.p.now in
    let t = g.L.Links.seat d c.look.new.p in
    let u = g.L.Links.seat d c.root_near.new.p in
    let x = c.in-Stable-default-None in
    let looks = looks_none c.args.bucket 2 x.field-0 x.field-1 s t x.field-1-is x.ensures.looked in
    let e = c.root_near.ensures in
    let grows = seen_on g.L.Links g.met.L.Links.steps_add g.met.L.Links.seen_is d c.look.new.p c.root_near.new.p x.ensures.pass e.pass e.later in
    absurd (start_shown n s t c.args.bucket x.field-0 (omega (arith, c.if-bucket-eq0.false)) looks (g.met.L.Links.allowed d c.look.new.p x.ensures.pass) has
    (own_sooner s t u (look_grows c.args.bucket s t _ looks) grows sees))

pub returns-in-Moved-clause-few : goal.returns-in-Moved-clause-few
returns-in-Moved-clause-few g c = λ has sees.
    absurd (own_not_moved _ _ _ (look_moved _ c.args.bucket _ _ c.in-Moved.ensures.looked (g.met.L.Links.allowed _ _ c.in-Moved.ensures.pass)) sees)

pub returns-then-bucket-eq0-clause-tries : goal.returns-then-bucket-eq0-clause-tries
returns-then-bucket-eq0-clause-tries g c = λ k low.
    let s = g.L.Links.seat c.args.links.now c.args.p.now in
    few_wider (4 + 2 * k) 0 1 0 6 s s (omega arith) (omega arith) (few_start (4 + 2 * k) s)

pub returns-in-Stable-default-Some-clause-tries : goal.returns-in-Stable-default-Some-clause-tries
returns-in-Stable-default-Some-clause-tries g c = λ k low.
    let s = g.L.Links.seat c.args.links.now c.args.p.now in
    let t = g.L.Links.seat c.args.links.now c.look.new.p in
    let u = g.L.Links.seat c.args.links.now c.release.new.p in
    let x = c.in-Stable-default-Some in
    let looks = x.ensures.looked in
    let grows = look_grows c.args.bucket _ _ _ looks in
    few_still (4 + 2 * k) 1 6 s t u grows c.release.ensures.released.puts
    (few_short (4 + 2 * k) 2 6 s t (look_agent c.args.bucket _ _ _ looks) grows (look_made _ 2 _ _ _ looks) (omega arith))

pub returns-in-Stable-default-None-clause-tries : goal.returns-in-Stable-default-None-clause-tries
returns-in-Stable-default-None-clause-tries g c = λ k low.
    let s = g.L.Links.seat c.args.links.now c.args.p.now in
    let t = g.L.Links.seat c.args.links.now c.look.new.p in
    let u = g.L.Links.seat c.args.links.now c.root_near.new.p in
    let x = c.in-Stable-default-None in
    let looks = x.ensures.looked in
    let e = c.root_near.ensures in
    few_then_more (4 + 2 * k) 2 4 s t u (look_agent c.args.bucket _ _ _ looks) (look_grows c.args.bucket _ _ _ looks)
    (seen_on g.L.Links g.met.L.Links.steps_add g.met.L.Links.seen_is c.args.links.now c.look.new.p c.root_near.new.p x.ensures.pass e.pass e.later) (look_made _ 2 _ _ _ looks) (e.tries k low)

pub returns-in-Moved-clause-tries : goal.returns-in-Moved-clause-tries
returns-in-Moved-clause-tries g c = λ k low.
    let s = g.L.Links.seat c.args.links.now c.args.p.now in
    let t = g.L.Links.seat c.args.links.now c.look.new.p in
    let looks = c.in-Moved.ensures.looked in
    few_short (4 + 2 * k) 2 6 s t (look_agent c.args.bucket _ _ _ looks) (look_grows c.args.bucket _ _ _ looks) (look_made _ 2 _ _ _ looks) (omega arith)

pub release-requires-clause-pass : goal.release-requires-clause-pass
release-requires-clause-pass g c = c.in-Stable-default-Some.ensures.pass

pub root_near-requires-clause-pass : goal.root_near-requires-clause-pass
root_near-requires-clause-pass g c = c.in-Stable-default-None.ensures.pass

pub returns-in-Stable-default-Some-clause-pass : goal.returns-in-Stable-default-Some-clause-pass
returns-in-Stable-default-Some-clause-pass g c = c.release.ensures.pass

pub returns-in-Stable-default-Some-clause-later : goal.returns-in-Stable-default-Some-clause-later
returns-in-Stable-default-Some-clause-later g c = goes_on _ _ _ c.in-Stable-default-Some.ensures.later c.release.ensures.later

pub returns-in-Stable-default-None-clause-pass : goal.returns-in-Stable-default-None-clause-pass
returns-in-Stable-default-None-clause-pass g c = c.root_near.ensures.pass

pub returns-in-Stable-default-None-clause-later : goal.returns-in-Stable-default-None-clause-later
returns-in-Stable-default-None-clause-later g c = goes_on _ _ _ c.in-Stable-default-None.ensures.later c.root_near.ensures.later

pub returns-in-Moved-clause-pass : goal.returns-in-Moved-clause-pass
returns-in-Moved-clause-pass g c = c.in-Moved.ensures.pass

pub returns-in-Moved-clause-later : goal.returns-in-Moved-clause-later
returns-in-Moved-clause-later g c = c.in-Moved.ensures.later
