-- With a new size node, or without one, or where there would be too many buckets.
use Rattle.std.proofs.Common.{Option, Some, [], ap, append-nil, arith, refl, subst, sym, ℕ, ◌*◌, ◌∙◌, ◌≡◌}
use Rattle.orc_heap.proofs.Pieces.{goes_on}
use Rattle.orc_heap.proofs.Hands.{holds_of}
use Rattle.orc_heap.specs.Calls.{Gives}
use Rattle.orc_heap.specs.Heap.{link_to}
use Rattle.orc_heap.specs.Seats.{heap_of}
use Rattle.orc_heap.specs.Slots.{Holds, SlotNode, Slots}
use Rattle.orc_heap.specs.declared.events.Place.TheVariants.{Root}
use Rattle.orc_ordered_search.proofs.Held.{release_goes}
use Rattle.orc_ordered_search.proofs.Marking.{part_fact, worn_since}
use Rattle.orc_ordered_search.specs.Searches.{HoldsIfAny, target_at}
use Rattle.orc_split_rule.specs.Watches.{StandsFor}
use Rattle.orc_split_set.specs.Growths.{ShowsSize, SwingsSize}
use Rattle.orc_split_set.specs.declared.bucket.Rooted.{Rooted}
use Rattle.orc_split_set.proofs.Growing.{doubles, doubles_many, doubles_none, held_beside, size_allowed, size_node, stands_puts, swing_slots, swings_size}
use Rattle.orc_split_set.proofs.Telling.{grown_told, told_wider}
use Rattle.orc_split_set.proofs.grow.double.Given.{Over}
use Rattle.orc_split_set.proofs.grow.double.Goals.{In-Ok}
use Rattle.orc_split_set.proofs.Sizing.{made_most}
use Rattle.orc_split_set.proofs.FewEvents.{swung_made}
use Rattle.orc_split_set.proofs.grow.double.Goals as goal

-- a node of twice the size was given
given : (g : Over) (c : In-Ok g) → let d = c.args.links.now in
    Gives (g.L.Links.numbers d) 1 (2 * c.args.size) 2 (g.L.Links.seat d c.args.p.now) c.in-Ok.new (g.L.Links.seat d c.give.new.p)
given g c =
    let d = c.args.links.now in
    let twice : c.from.result * 2 ≡ 2 * c.args.size = omega (arith, c.from.ensures) in
    subst (λ (v : ℕ). Gives (g.L.Links.numbers d) 1 v 2 (g.L.Links.seat d c.args.p.now) c.in-Ok.new (g.L.Links.seat d c.give.new.p)) twice
    c.in-Ok.ensures.given

-- the old one is still held
kept : (g : Over) (c : In-Ok g) → let d = c.args.links.now in let u = g.L.Links.seat d c.give.new.p in
    HoldsIfAny u.slots c.args.old.now × (target_at u.slots c.args.old.now ≡ target_at (g.L.Links.seat d c.args.p.now).slots c.args.old.now)
kept g c =
    let s = g.L.Links.seat c.args.links.now c.args.p.now in
    let e = c.in-Ok.ensures.given in
    let x : Option SlotNode = Some (record { row = c.in-Ok.new.row; id = e.id }) in
    let h = held_beside s.slots c.args.old.now x c.requires.old.0 c.requires.one.empty in
    (subst (λ (z : Slots). HoldsIfAny z c.args.old.now) (sym e.slots) h.0, ap (λ (z : Slots). target_at z c.args.old.now) e.slots ∙ h.1)

pub swing-swung-requires-clause-place : goal.swing-swung-requires-clause-place
swing-swung-requires-clause-place g c = omega (arith, c.requires.most.0, c.requires.most.1)

pub swing-swung-requires-clause-links : goal.swing-swung-requires-clause-links
swing-swung-requires-clause-links g c =
    let u = g.L.Links.seat c.args.links.now c.give.new.p in
    let new = (given g (goal.at.swing-swung-requires-clause-links g c).In-Ok) in
    let k = size_node _ (2 * c.args.size) _ u c.in-Ok.new new c.requires.one in
    (c.link_to.ensures.held u.slots (kept g (goal.at.swing-swung-requires-clause-links g c).In-Ok).0, (holds_of u.slots c.in-Ok.new new.id k.held).0)

pub swing-swung-requires-clause-allowed : goal.swing-swung-requires-clause-allowed
swing-swung-requires-clause-allowed g c =
    let n = g.L.Links.numbers c.args.links.now in
    let s = g.L.Links.seat c.args.links.now c.args.p.now in
    let u = g.L.Links.seat c.args.links.now c.give.new.p in
    let e = c.in-Ok.ensures in
    let new = (given g (goal.at.swing-swung-requires-clause-allowed g c).In-Ok) in
    let to = target_at s.slots c.args.old.now in
    let stands = subst (λ (o : Option ℕ). StandsFor (heap_of n u) o c.args.size) (sym (kept g (goal.at.swing-swung-requires-clause-allowed g c).In-Ok).1)
    (stands_puts n s u _ to c.args.size e.given.puts (g.met.L.Links.allowed _ _ e.pass) c.requires.old.1) in
    size_allowed n u c.args.most c.args.size new.id c.in-Ok.new _ (target_at u.slots c.args.old.now) c.requires.most.0 c.requires.most.1
    (omega (arith, c.if-size-most.false)) (g.met.L.Links.obeys _ _ e.pass) (size_node n (2 * c.args.size) s u c.in-Ok.new new c.requires.one)
    (c.link_to.ensures.link u.slots) stands

pub release-requires-clause-held : goal.release-requires-clause-held
release-requires-clause-held g c =
    let u = g.L.Links.seat c.args.links.now c.give.new.p in
    let f = c.swing-swung.ensures in
    let new = (given g (goal.at.release-requires-clause-held g c).In-Ok) in
    let k = size_node _ (2 * c.args.size) _ u c.in-Ok.new new c.requires.one in
    subst (λ (z : Slots). Holds z c.in-Ok.new) (sym (swing_slots u _ _ _ _ _ c.swing-swung.result f.swung f.none))
    (holds_of u.slots c.in-Ok.new new.id k.held).0

pub returns-in-Ok-clause-doubled : goal.returns-in-Ok-clause-doubled
returns-in-Ok-clause-doubled g c =
    let n = g.L.Links.numbers c.args.links.now in
    let s = g.L.Links.seat c.args.links.now c.args.p.now in
    let u = g.L.Links.seat c.args.links.now c.give.new.p in
    let v = g.L.Links.seat c.args.links.now c.release.new.p in
    let f = c.swing-swung.ensures in
    let size = 2 * c.args.size in
    let new = (given g (goal.at.returns-in-Ok-clause-doubled g c).In-Ok) in
    let k = size_node n size s u c.in-Ok.new new c.requires.one in
    let old = target_at u.slots c.args.old.now in
    let swung = swings_size n size c.in-Ok.new new.id u _ v k (release_goes c.in-Ok.new _ v c.release.ensures.released) _ _ _ old c.swing-swung.result
    (ap (λ (i : ℕ). link_to i) (holds_of u.slots c.in-Ok.new new.id k.held).1) (ap Root c.requires.most.0) (c.link_to.ensures.link u.slots)
    (g.met.L.Links.allowed _ _ f.pass) f.swung f.none in
    doubles n size s u c.in-Ok.new new c.requires.one v c.grown_of.result (target_at s.slots c.args.old.now) (g.met.L.Links.allowed _ _ c.in-Ok.ensures.pass)
    (subst (λ (o : Option ℕ). SwingsSize n o c.in-Ok.new u c.grown_of.result v) (kept g (goal.at.returns-in-Ok-clause-doubled g c).In-Ok).1
    (subst (λ (r : Rooted). SwingsSize n old c.in-Ok.new u r v) (sym c.grown_of.ensures) swung))

pub returns-in-Ok-clause-told : goal.returns-in-Ok-clause-told
returns-in-Ok-clause-told g c =
    let d = c.args.links.now in
    let by = (g.L.Links.seat d c.give.new.p).agent in
    let e = c.in-Ok.ensures in
    let f = c.swing-swung.ensures in
    let worn = worn_since (g.L.Links.worn d) g.L.Links.agent_of by by _ _ _ (g.met.L.Links.worn_stays d by) refl ([], append-nil _) f.later
    c.swing-swung.result f.worn in
    let told = grown_told g.L.Links g.met.L.Links.lacking_stays g.met.L.Links.worn_stays d c.give.new.p c.swing-swung.new.p c.release.new.p
    c.release.ensures.later c.swing-swung.result worn c.grown_of.result c.grown_of.ensures in
    told_wider g.L.Links g.met.L.Links.lacking_stays g.met.L.Links.worn_stays d c.args.p.now c.give.new.p c.release.new.p _ e.given.puts.agent e.later
    ([], append-nil _) c.grown_of.result told

pub returns-in-Err-clause-doubled : goal.returns-in-Err-clause-doubled
returns-in-Err-clause-doubled g c =
    let s = g.L.Links.seat _ c.args.p.now in
    doubles_none _ (ShowsSize _ (target_at s.slots c.args.old.now) s) s _ c.in-Err.ensures.none c.requires.fresh

pub returns-in-Err-clause-told : goal.returns-in-Err-clause-told
returns-in-Err-clause-told g c =
    let s = g.L.Links.seat _ c.args.p.now in
    let e = c.in-Err.ensures in
    part_fact g.L.Links.agent_of s.agent _ _ (g.L.Links.lacking _ s.agent _) e.later e.lacking

pub returns-then-size-most-clause-doubled : goal.returns-then-size-most-clause-doubled
returns-then-size-most-clause-doubled g c =
    let s = g.L.Links.seat _ c.args.p.now in
    doubles_many _ s (target_at s.slots c.args.old.now) c.args.size c.requires.fresh c.requires.old.1
    (omega (arith, c.requires.most.0, c.if-size-most.true))

pub returns-in-Ok-clause-tries : goal.returns-in-Ok-clause-tries
returns-in-Ok-clause-tries g c =
    let f = c.swing-swung.ensures in
    omega (
      arith,
      made_most 3 _ _ _ c.in-Ok.ensures.given.puts (omega arith),
      swung_made _ _ _ _ c.swing-swung.result _ _ f.swung f.none,
      made_most 0 _ _ [] c.release.ensures.released.puts (omega arith),
    )

pub returns-in-Err-clause-tries : goal.returns-in-Err-clause-tries
returns-in-Err-clause-tries g c =
    made_most 4 _ _ [] c.in-Err.ensures.none.puts (omega arith)

pub swing-swung-requires-clause-pass : goal.swing-swung-requires-clause-pass
swing-swung-requires-clause-pass g c = c.in-Ok.ensures.pass

pub release-requires-clause-pass : goal.release-requires-clause-pass
release-requires-clause-pass g c = c.swing-swung.ensures.pass

pub returns-in-Ok-clause-pass : goal.returns-in-Ok-clause-pass
returns-in-Ok-clause-pass g c = c.release.ensures.pass

pub returns-in-Ok-clause-later : goal.returns-in-Ok-clause-later
returns-in-Ok-clause-later g c = goes_on _ _ _ c.in-Ok.ensures.later (goes_on _ _ _ c.swing-swung.ensures.later c.release.ensures.later)

pub returns-in-Err-clause-pass : goal.returns-in-Err-clause-pass
returns-in-Err-clause-pass g c = c.in-Err.ensures.pass

pub returns-in-Err-clause-later : goal.returns-in-Err-clause-later
returns-in-Err-clause-later g c = c.in-Err.ensures.later
