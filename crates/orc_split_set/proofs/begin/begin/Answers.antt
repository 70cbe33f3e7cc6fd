-- The read of the size, and then the roots.
use Rattle.std.proofs.Common.{arith, subst, sym, ◌∙◌}
use Rattle.orc_heap.proofs.Pieces.{goes_on}
use Rattle.orc_heap.specs.Slots.{Slots}
use Rattle.orc_ordered_search.specs.Searches.{HasRoom}
use Rattle.orc_split_set.proofs.Beginning.{begins_key}
use Rattle.orc_split_set.proofs.Crowding.{own_not_moved, own_read, own_sooner, puts_grow}
use Rattle.orc_split_set.proofs.Looking.{read_few}
use Rattle.orc_split_set.proofs.Passes.{seen_on}
use Rattle.orc_split_set.proofs.begin.begin.Goals as goal

pub begin_near-requires-clause-room : goal.begin_near-requires-clause-room
begin_near-requires-clause-room g c = subst (λ (z : Slots). HasRoom z) (sym c.in-Some.ensures.read.slots) c.requires.room

pub returns-in-Some-clause-begun : goal.returns-in-Some-clause-begun
returns-in-Some-clause-begun g c =
    let n = g.L.Links.numbers _ in
    let s = g.L.Links.seat _ c.args.p.now in
    let t = g.L.Links.seat _ c.read_size.new.p in
    let u = g.L.Links.seat _ c.begin_near.new.p in
    let r = c.in-Some.ensures.read in
    let e = c.begin_near.ensures in
    let grows = seen_on g.L.Links g.met.L.Links.steps_add g.met.L.Links.seen_is _ c.read_size.new.p c.begin_near.new.p c.in-Some.ensures.pass e.pass e.later in
    begins_key n c.args.key c.in-Some.size s u c.begin_near.result
    (λ sees. own_read n c.in-Some.size s t r (own_sooner s t u (puts_grow s t r.own r.quiet.puts) grows sees)) (e.begun s r.own r.quiet r.slots)

pub returns-in-Some-clause-few : goal.returns-in-Some-clause-few
returns-in-Some-clause-few g c = λ has.
    let d = c.args.links.now in
    let n = g.L.Links.numbers d in
    let s = g.L.Links.seat d c.args.p.now in
    let t = g.L.Links.seat d c.read_size.new.p in
    let u = g.L.Links.seat d c.begin_near.new.p in
    let e = c.begin_near.ensures in
    read_few n c.args.key c.in-Some.size s t u c.in-Some.ensures.read
    (seen_on g.L.Links g.met.L.Links.steps_add g.met.L.Links.seen_is d c.read_size.new.p c.begin_near.new.p c.in-Some.ensures.pass e.pass e.later) e.few has

pub returns-in-None-clause-few : goal.returns-in-None-clause-few
returns-in-None-clause-few g c = λ has k.
    absurd (own_not_moved _ _ _ c.in-None.ensures.read k)

pub returns-in-Some-clause-agent : goal.returns-in-Some-clause-agent
returns-in-Some-clause-agent g c =
    c.begin_near.ensures.agent ∙ c.in-Some.ensures.read.quiet.puts.agent

pub returns-in-None-clause-agent : goal.returns-in-None-clause-agent
returns-in-None-clause-agent g c = c.in-None.ensures.read.quiet.puts.agent

pub returns-in-Some-clause-tries : goal.returns-in-Some-clause-tries
returns-in-Some-clause-tries g c = λ k low.
    let e = c.in-Some.ensures in
    omega (arith, e.tries, c.begin_near.ensures.tries k (omega (arith, e.read.is_size.0, c.requires.most.0, low)))

pub returns-in-None-clause-tries : goal.returns-in-None-clause-tries
returns-in-None-clause-tries g c = λ k low. omega (arith, c.in-None.ensures.tries)

pub begin_near-requires-clause-pass : goal.begin_near-requires-clause-pass
begin_near-requires-clause-pass g c = c.in-Some.ensures.pass

pub returns-in-Some-clause-pass : goal.returns-in-Some-clause-pass
returns-in-Some-clause-pass g c = c.begin_near.ensures.pass

pub returns-in-Some-clause-later : goal.returns-in-Some-clause-later
returns-in-Some-clause-later g c = goes_on _ _ _ c.in-Some.ensures.later c.begin_near.ensures.later

pub returns-in-None-clause-pass : goal.returns-in-None-clause-pass
returns-in-None-clause-pass g c = c.in-None.ensures.pass

pub returns-in-None-clause-later : goal.returns-in-None-clause-later
returns-in-None-clause-later g c = c.in-None.ensures.later
