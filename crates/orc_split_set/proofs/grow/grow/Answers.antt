-- By what the look of the size's root found.
use Rattle.std.proofs.Common.{None, Option, Some, [], ap, arith, subst, sym, ℕ, ◌∙◌, ◌≡◌, ◌≤◌}
use Rattle.orc_heap.proofs.Pieces.{goes_on}
use Rattle.orc_heap.proofs.Hands.{hand_held, holds_of}
use Rattle.orc_heap.specs.Calls.{Looks}
use Rattle.orc_heap.specs.Slots.{IsFree, Slots, id_in}
use Rattle.orc_heap.specs.declared.events.Place.TheVariants.{Root}
use Rattle.orc_heap.specs.declared.holds.Looked.TheVariants.{Stable}
use Rattle.orc_ordered_search.proofs.Inserting.{idle_room}
use Rattle.orc_split_rule.specs.SplitDiscipline.{greatest}
use Rattle.orc_split_set.specs.Beginnings.{Held}
use Rattle.orc_split_set.specs.Growths.{ShowsSize}
use Rattle.orc_split_set.proofs.Growing.{doubles_after, doubles_held, doubles_moved, free_beside, null_shows, still_shows}
use Rattle.orc_ordered_search.proofs.Ranking.{looks_from}
use Rattle.orc_split_set.proofs.RootLooks.{look_moved, null_held}
use Rattle.orc_split_set.proofs.Sizes.{SizeHeld, looks_none, looks_some, size_held}
use Rattle.orc_split_set.proofs.Telling.{told_later}
use Rattle.orc_split_set.proofs.grow.grow.Given.{Over}
use Rattle.orc_split_set.proofs.grow.grow.Goals.{In-Stable-default-None, In-Stable-default-Some}
use Rattle.orc_split_set.proofs.FewEvents.{look_made}
use Rattle.orc_split_set.proofs.grow.grow.Goals as goal

-- the root names a node of a size
sized : (g : Over) (c : In-Stable-default-Some g) → let d = c.args.links.now in
    SizeHeld (g.L.Links.numbers d) c.in-Stable-default-Some.node (g.L.Links.seat d c.args.p.now) (g.L.Links.seat d c.look.new.p)
sized g c =
    let d = c.args.links.now in
    let n = g.L.Links.numbers d in
    let s = g.L.Links.seat d c.args.p.now in
    let t = g.L.Links.seat d c.look.new.p in
    let x = c.in-Stable-default-Some in
    let some = subst (λ (k : ℕ). 1 ≤ k) c.requires.most.0 c.requires.most.1 in
    let looks = looks_from (Root c.args.most) (Root (greatest n)) 2 _ s t (ap Root c.requires.most.0)
    (looks_some c.args.most 2 x.field-0 x.field-1 x.node s t x.field-1-is x.ensures.looked) in
    size_held n _ x.node s t (g.met.L.Links.obeys d c.args.p.now c.requires.pass) (g.met.L.Links.allowed d c.look.new.p x.ensures.pass)
    (idle_room s c.requires.idle).room some looks

-- it is null
unset : (g : Over) (c : In-Stable-default-None g) → let d = c.args.links.now in let n = g.L.Links.numbers d in
    Looks (Root (greatest n)) 2 (g.L.Links.seat d c.args.p.now) (Stable c.in-Stable-default-None.field-0 None) (g.L.Links.seat d c.look.new.p)
unset g c =
    let d = c.args.links.now in
    let s = g.L.Links.seat d c.args.p.now in
    let t = g.L.Links.seat d c.look.new.p in
    let x = c.in-Stable-default-None in
    looks_from (Root c.args.most) (Root (greatest (g.L.Links.numbers d))) 2 _ s t (ap Root c.requires.most.0)
    (looks_none c.args.most 2 x.field-0 x.field-1 s t x.field-1-is x.ensures.looked)

-- and the pass holds what it held
kept : (g : Over) (c : In-Stable-default-None g) → let d = c.args.links.now in
    Held (g.L.Links.numbers d) (g.L.Links.seat d c.args.p.now) (g.L.Links.seat d c.look.new.p)
kept g c =
    let n = g.L.Links.numbers c.args.links.now in
    null_held n _ _ (greatest n) c.in-Stable-default-None.field-0 (unset g c)

pub double_held-requires-clause-node : goal.double_held-requires-clause-node
double_held-requires-clause-node g c =
    let k = sized g (goal.at.double_held-requires-clause-node g c).In-Stable-default-Some in
    let s = g.L.Links.seat _ c.args.p.now in
    let t = g.L.Links.seat _ c.look.new.p in
    let held = hand_held s.slots t.slots [] c.in-Stable-default-Some.node k.id k.hands in
    record { id = k.id; size = k.size; held = held; node = k.node; is_size = k.is_size }

pub double_held-requires-clause-one : goal.double_held-requires-clause-one
double_held-requires-clause-one g c =
    free_beside _ c.in-Stable-default-Some.node _ _
    (sized g (goal.at.double_held-requires-clause-one g c).In-Stable-default-Some) c.requires.idle

pub double_held-requires-clause-fresh : goal.double_held-requires-clause-fresh
double_held-requires-clause-fresh g c = c.in-Stable-default-Some.ensures.looked.fresh ∙ c.requires.idle.fresh

pub returns-in-Stable-default-Some-clause-doubled : goal.returns-in-Stable-default-Some-clause-doubled
returns-in-Stable-default-Some-clause-doubled g c =
    let k = sized g (goal.at.returns-in-Stable-default-Some-clause-doubled g c).In-Stable-default-Some in
    let d = c.args.links.now in
    let n = g.L.Links.numbers d in
    let s = g.L.Links.seat d c.args.p.now in
    let t = g.L.Links.seat d c.look.new.p in
    let x = c.in-Stable-default-Some in
    let target = Some (id_in t.slots x.node) in
    let same : target ≡ Some k.id = ap (λ (i : ℕ). Some i) (holds_of t.slots x.node k.id (hand_held s.slots t.slots [] x.node k.id k.hands)).1 in
    doubles_held n (ShowsSize n target t) x.node s t _ c.double_held.result k
    (λ sees. subst (λ (o : Option ℕ). ShowsSize n o t) (sym same)
    (still_shows n s t k.own (record { to = Some k.id; mark = k.mark }) k.quiet (g.met.L.Links.obeys _ _ x.ensures.pass) k.shows sees))
    c.double_held.ensures.doubled

pub returns-in-Stable-default-Some-clause-told : goal.returns-in-Stable-default-Some-clause-told
returns-in-Stable-default-Some-clause-told g c =
    let q = (sized g (goal.at.returns-in-Stable-default-Some-clause-told g c).In-Stable-default-Some).quiet in
    told_later g.L.Links g.met.L.Links.steps_add g.met.L.Links.seen_is _ c.args.p.now c.look.new.p _ _ c.requires.pass c.in-Stable-default-Some.ensures.pass
    q.puts q.some c.in-Stable-default-Some.ensures.later c.double_held.ensures.later c.double_held.result c.double_held.ensures.told

pub double-requires-clause-one : goal.double-requires-clause-one
double-requires-clause-one g c =
    let k = kept g (goal.at.double-requires-clause-one g c).In-Stable-default-None in
    subst (λ (z : Slots). IsFree z 1) (sym k.slots) (idle_room _ c.requires.idle).one

pub double-requires-clause-fresh : goal.double-requires-clause-fresh
double-requires-clause-fresh g c = c.in-Stable-default-None.ensures.looked.fresh ∙ c.requires.idle.fresh

pub returns-in-Stable-default-None-clause-doubled : goal.returns-in-Stable-default-None-clause-doubled
returns-in-Stable-default-None-clause-doubled g c =
    let at = (goal.at.returns-in-Stable-default-None-clause-doubled g c).In-Stable-default-None in
    let d = c.args.links.now in
    let n = g.L.Links.numbers d in
    let s = g.L.Links.seat d c.args.p.now in
    let t = g.L.Links.seat d c.look.new.p in
    let x = c.in-Stable-default-None in
    let k = kept g at in
    doubles_after n (ShowsSize n None t) s t _ k.own c.double.result k.quiet k.slots
    (λ sees. null_shows n s t x.field-0 (unset g at) (g.met.L.Links.obeys _ _ x.ensures.pass)
    (g.met.L.Links.allowed _ _ x.ensures.pass) sees) c.double.ensures.doubled

pub returns-in-Stable-default-None-clause-told : goal.returns-in-Stable-default-None-clause-told
returns-in-Stable-default-None-clause-told g c =
    let q = (kept g (goal.at.returns-in-Stable-default-None-clause-told g c).In-Stable-default-None).quiet in
    told_later g.L.Links g.met.L.Links.steps_add g.met.L.Links.seen_is _ c.args.p.now c.look.new.p _ _ c.requires.pass c.in-Stable-default-None.ensures.pass
    q.puts q.some c.in-Stable-default-None.ensures.later c.double.ensures.later c.double.result c.double.ensures.told

pub returns-in-Moved-clause-doubled : goal.returns-in-Moved-clause-doubled
returns-in-Moved-clause-doubled g c =
    doubles_moved _ _ _ (look_moved _ c.args.most _ _ c.in-Moved.ensures.looked (g.met.L.Links.allowed _ _ c.in-Moved.ensures.pass))
    c.requires.idle.fresh

pub returns-in-Stable-default-Some-clause-tries : goal.returns-in-Stable-default-Some-clause-tries
returns-in-Stable-default-Some-clause-tries g c =
    omega (arith, look_made _ 2 _ _ _ c.in-Stable-default-Some.ensures.looked, c.double_held.ensures.tries)

pub returns-in-Stable-default-None-clause-tries : goal.returns-in-Stable-default-None-clause-tries
returns-in-Stable-default-None-clause-tries g c =
    omega (arith, look_made _ 2 _ _ _ c.in-Stable-default-None.ensures.looked, c.double.ensures.tries)

pub returns-in-Moved-clause-tries : goal.returns-in-Moved-clause-tries
returns-in-Moved-clause-tries g c =
    omega (arith, look_made _ 2 _ _ _ c.in-Moved.ensures.looked)

pub double_held-requires-clause-pass : goal.double_held-requires-clause-pass
double_held-requires-clause-pass g c = c.in-Stable-default-Some.ensures.pass

pub double-requires-clause-pass : goal.double-requires-clause-pass
double-requires-clause-pass g c = c.in-Stable-default-None.ensures.pass

pub returns-in-Stable-default-Some-clause-pass : goal.returns-in-Stable-default-Some-clause-pass
returns-in-Stable-default-Some-clause-pass g c = c.double_held.ensures.pass

pub returns-in-Stable-default-Some-clause-later : goal.returns-in-Stable-default-Some-clause-later
returns-in-Stable-default-Some-clause-later g c = goes_on _ _ _ c.in-Stable-default-Some.ensures.later c.double_held.ensures.later

pub returns-in-Stable-default-None-clause-pass : goal.returns-in-Stable-default-None-clause-pass
returns-in-Stable-default-None-clause-pass g c = c.double.ensures.pass

pub returns-in-Stable-default-None-clause-later : goal.returns-in-Stable-default-None-clause-later
returns-in-Stable-default-None-clause-later g c = goes_on _ _ _ c.in-Stable-default-None.ensures.later c.double.ensures.later

pub returns-in-Moved-clause-pass : goal.returns-in-Moved-clause-pass
returns-in-Moved-clause-pass g c = c.in-Moved.ensures.pass

pub returns-in-Moved-clause-later : goal.returns-in-Moved-clause-later
returns-in-Moved-clause-later g c = c.in-Moved.ensures.later
