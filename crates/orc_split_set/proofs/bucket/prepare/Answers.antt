-- The read of the size, and then the bucket's root.
use Rattle.std.proofs.Common.{arith, subst, sym, ◌%◌, ◌*◌, ◌+◌, ◌<◌, ◌∙◌, ℕ}
use Rattle.orc_heap.proofs.Pieces.{goes_on}
use Rattle.orc_split_rule.specs.SplitDiscipline.{greatest}
use Rattle.orc_heap.specs.Seats.{heap_of}
use Rattle.orc_split_set.specs.Looks.{HasStart, LoadsFew, root_loads}
use Rattle.orc_split_set.specs.Rootings.{Roots}
use Rattle.orc_split_set.proofs.Calling.{call_idle}
use Rattle.orc_split_set.proofs.Passes.{seen_on}
use Rattle.orc_split_set.proofs.Reaching.{moved_after, none_before, prepares_few}
use Rattle.orc_split_set.proofs.Preparing.{bucket_low, no_turns, prepares_by, prepares_moved}
use Rattle.orc_split_set.proofs.Telling.{told_next}
use Rattle.orc_split_set.proofs.FewEvents.{few_begun, few_short, few_start, few_wider}
use Rattle.orc_split_set.proofs.bucket.prepare.Goals as goal

pub returns-then-turns-eq0-clause-prepared : goal.returns-then-turns-eq0-clause-prepared
returns-then-turns-eq0-clause-prepared g c =
    no_turns _ c.args.key c.args.turns _ c.if-turns-eq0.true c.requires.idle.fresh

pub root_bucket-requires-clause-bucket : goal.root_bucket-requires-clause-bucket
root_bucket-requires-clause-bucket g c =
    let n = g.L.Links.numbers c.args.links.now in
    subst (λ (x : ℕ). c.args.key % x < greatest n) (sym c.from.ensures) (bucket_low (greatest n) c.in-Some.size c.args.key c.in-Some.ensures.read.is_size)

pub root_bucket-requires-clause-idle : goal.root_bucket-requires-clause-idle
root_bucket-requires-clause-idle g c =
    let r = c.in-Some.ensures.read in
    record { slots = r.slots ∙ c.requires.idle.slots; fresh = r.quiet.fresh ∙ c.requires.idle.fresh }

pub returns-in-Some-clause-prepared : goal.returns-in-Some-clause-prepared
returns-in-Some-clause-prepared g c =
    let n = g.L.Links.numbers _ in
    let t = g.L.Links.seat _ c.read_size.new.p in
    let u = g.L.Links.seat _ c.root_bucket.new.p in
    let e = c.in-Some.ensures in
    prepares_by n c.args.key c.args.turns c.in-Some.size _ t u e.read (g.met.L.Links.allowed _ _ e.pass)
    (λ zero. omega (arith, zero, c.if-turns-eq0.false)) c.root_bucket.result
    (subst (λ (x : ℕ). Roots n (c.args.key % x) t c.root_bucket.result u) c.from.ensures c.root_bucket.ensures.rooted)

pub returns-in-None-clause-prepared : goal.returns-in-None-clause-prepared
returns-in-None-clause-prepared g c =
    prepares_moved _ c.args.key c.args.turns _ _
    c.in-None.ensures.read c.requires.idle.fresh (λ zero. omega (arith, zero, c.if-turns-eq0.false))

pub returns-in-Some-clause-told : goal.returns-in-Some-clause-told
returns-in-Some-clause-told g c =
    let e = c.in-Some.ensures in
    let root = c.root_bucket in
    told_next g.L.Links c.args.links.now c.args.p.now c.read_size.new.p _ e.read.quiet.puts.agent e.later root.ensures.later root.result root.ensures.told

pub returns-in-Some-clause-idle : goal.returns-in-Some-clause-idle
returns-in-Some-clause-idle g c = call_idle (returns-in-Some-clause-prepared g c).call c.requires.idle

pub returns-in-None-clause-idle : goal.returns-in-None-clause-idle
returns-in-None-clause-idle g c = call_idle (returns-in-None-clause-prepared g c).call c.requires.idle

pub returns-then-turns-eq0-clause-few : goal.returns-then-turns-eq0-clause-few
returns-then-turns-eq0-clause-few g c = λ gap others has.
    none_before _ _ gap

pub returns-in-Some-clause-few : goal.returns-in-Some-clause-few
returns-in-Some-clause-few g c = λ gap others has.
    let n = g.L.Links.numbers _ in
    let t = g.L.Links.seat _ c.read_size.new.p in
    let u = g.L.Links.seat _ c.root_bucket.new.p in
    let r = c.in-Some.ensures.read in
    let e = c.root_bucket.ensures in
    let grows = seen_on g.L.Links g.met.L.Links.steps_add g.met.L.Links.seen_is _ c.read_size.new.p c.root_bucket.new.p c.in-Some.ensures.pass e.pass e.later in
    prepares_few n c.args.key c.in-Some.size _ t u gap others r (g.met.L.Links.allowed _ _ c.in-Some.ensures.pass)
    grows (subst (λ (x : ℕ). HasStart (heap_of n t) (c.args.key % x) → LoadsFew (root_loads (c.args.key % x)) t u) c.from.ensures e.few) has

pub returns-in-None-clause-few : goal.returns-in-None-clause-few
returns-in-None-clause-few g c = λ gap others has sees.
    absurd (moved_after _ _ _ gap others c.in-None.ensures.read sees)

pub returns-then-turns-eq0-clause-tries : goal.returns-then-turns-eq0-clause-tries
returns-then-turns-eq0-clause-tries g c = λ k low.
    let s = g.L.Links.seat c.args.links.now c.args.p.now in
    few_wider (6 + 2 * k) 0 1 0 6 s s (omega arith) (omega arith) (few_start (6 + 2 * k) s)

pub returns-in-Some-clause-tries : goal.returns-in-Some-clause-tries
returns-in-Some-clause-tries g c = λ k low.
    let s = g.L.Links.seat c.args.links.now c.args.p.now in
    let t = g.L.Links.seat c.args.links.now c.read_size.new.p in
    let u = g.L.Links.seat c.args.links.now c.root_bucket.new.p in
    let e = c.in-Some.ensures in
    let f = c.root_bucket.ensures in
    let on = seen_on g.L.Links g.met.L.Links.steps_add g.met.L.Links.seen_is c.args.links.now in
    few_begun (4 + 2 * k) 2 (6 + 2 * k) 6 s t u e.read.quiet.puts.agent (on c.args.p.now c.read_size.new.p c.requires.pass e.pass e.later)
    (on c.read_size.new.p c.root_bucket.new.p e.pass f.pass f.later) e.tries
    (f.tries k (omega (arith, e.read.is_size.0, c.requires.most.0, low))) (omega arith)

pub returns-in-None-clause-tries : goal.returns-in-None-clause-tries
returns-in-None-clause-tries g c = λ k low.
    let s = g.L.Links.seat c.args.links.now c.args.p.now in
    let t = g.L.Links.seat c.args.links.now c.read_size.new.p in
    let e = c.in-None.ensures in
    few_short (6 + 2 * k) 2 6 s t e.read.quiet.puts.agent
    (seen_on g.L.Links g.met.L.Links.steps_add g.met.L.Links.seen_is c.args.links.now c.args.p.now c.read_size.new.p c.requires.pass e.pass e.later) e.tries (omega arith)

pub root_bucket-requires-clause-pass : goal.root_bucket-requires-clause-pass
root_bucket-requires-clause-pass g c = c.in-Some.ensures.pass

pub returns-in-Some-clause-pass : goal.returns-in-Some-clause-pass
returns-in-Some-clause-pass g c = c.root_bucket.ensures.pass

pub returns-in-Some-clause-later : goal.returns-in-Some-clause-later
returns-in-Some-clause-later g c = goes_on _ _ _ c.in-Some.ensures.later c.root_bucket.ensures.later

pub returns-in-None-clause-pass : goal.returns-in-None-clause-pass
returns-in-None-clause-pass g c = c.in-None.ensures.pass

pub returns-in-None-clause-later : goal.returns-in-None-clause-later
returns-in-None-clause-later g c = c.in-None.ensures.later
