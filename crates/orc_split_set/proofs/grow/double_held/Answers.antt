-- The read of the old size, a try to double it, and the old node's release.
use Rattle.std.proofs.Common.{Option, Some, [], ap, arith, subst, sym, ℕ, ◌∙◌, ◌≡◌}
use Rattle.orc_heap.proofs.Pieces.{goes_on}
use Rattle.orc_heap.proofs.Hands.{holds_of}
use Rattle.orc_heap.specs.Heap.{shown}
use Rattle.orc_heap.specs.Journals.{run_heap}
use Rattle.orc_heap.specs.Seats.{heap_of}
use Rattle.orc_heap.specs.Slots.{IsFree, Slots, id_in}
use Rattle.orc_heap.specs.declared.events.Place.TheVariants.{Root}
use Rattle.orc_ordered_search.specs.Searches.{HoldsIfAny, target_at}
use Rattle.orc_split_rule.specs.SplitDiscipline.{IsSizeNode, greatest}
use Rattle.orc_split_set.specs.Growths.{ShowsSize}
use Rattle.orc_split_set.proofs.Growing.{doubles_read, holds_size}
use Rattle.orc_split_set.proofs.Sizes.{values_puts}
use Rattle.orc_split_set.proofs.Telling.{told_wider}
use Rattle.orc_split_set.proofs.Sizing.{made_most}
use Rattle.orc_split_set.proofs.grow.double_held.Goals as goal

pub value-size-requires-clause-held : goal.value-size-requires-clause-held
value-size-requires-clause-held g c =
    let s = g.L.Links.seat c.args.links.now c.args.p.now in
    (holds_of s.slots c.args.node c.requires.node.id c.requires.node.held).0

pub overflow_cast-size : goal.overflow_cast-size
overflow_cast-size g c =
    let k = c.requires.node in
    let is = holds_size _ c.args.node c.value-size.result _ _ k c.value-size.ensures.nothing (g.met.L.Links.allowed _ _ c.value-size.ensures.pass)
    c.value-size.ensures.value in
    record { fits = omega (arith, is.0, k.is_size.0, c.requires.most.0, c.ranges.most.fits) }

pub double-doubled-requires-clause-old : goal.double-doubled-requires-clause-old
double-doubled-requires-clause-old g c =
    let n = g.L.Links.numbers _ in
    let t = g.L.Links.seat _ c.args.p.now in
    let u = g.L.Links.seat _ c.value-size.new.p in
    let k = c.requires.node in
    let o = c.value-size.ensures.nothing in
    let all = g.met.L.Links.allowed _ _ c.value-size.ensures.pass in
    let is = holds_size n c.args.node c.value-size.result t u k o all c.value-size.ensures.value in
    let node = values_puts n t u _ k.id k.size 2 o.puts all k.node in (
      subst (λ (z : Slots). HoldsIfAny z (Some c.args.node)) (sym o.slots) (holds_of t.slots c.args.node k.id k.held).0,
      subst (λ (i : ℕ). IsSizeNode (heap_of n u) i c.value-size.result) (sym is.1) (subst (λ (v : ℕ). IsSizeNode (heap_of n u) k.id v) (sym is.0) node),
    )

pub double-doubled-requires-clause-one : goal.double-doubled-requires-clause-one
double-doubled-requires-clause-one g c = subst (λ (z : Slots). IsFree z 1) (sym c.value-size.ensures.nothing.slots) c.requires.one

pub double-doubled-requires-clause-fresh : goal.double-doubled-requires-clause-fresh
double-doubled-requires-clause-fresh g c = c.value-size.ensures.nothing.fresh ∙ c.requires.fresh

pub let_go-requires-clause-held : goal.let_go-requires-clause-held
let_go-requires-clause-held g c =
    let t = g.L.Links.seat _ c.args.p.now in
    let k = c.requires.node in
    subst (λ (z : Slots). HoldsIfAny z (Some c.args.node)) (sym (c.double-doubled.ensures.doubled.call.slots ∙ c.value-size.ensures.nothing.slots))
    (holds_of t.slots c.args.node k.id k.held).0

pub returns-clause-doubled : goal.returns-clause-doubled
returns-clause-doubled g c =
    let n = g.L.Links.numbers _ in
    let t = g.L.Links.seat _ c.args.p.now in
    let u = g.L.Links.seat _ c.value-size.new.p in
    let v = g.L.Links.seat _ c.double-doubled.new.p in
    let o = c.value-size.ensures.nothing in
    let target = Some (id_in t.slots c.args.node) in
    let same : target_at u.slots (Some c.args.node) ≡ target = ap (λ (z : Slots). Some (id_in z c.args.node)) o.slots in
    record {
      mid = v;
      doubles = doubles_read n (ShowsSize n (target_at u.slots (Some c.args.node)) u) (ShowsSize n target t) t u v c.double-doubled.result o
          (λ shows seen. subst (λ (x : Option ℕ). ShowsSize n x u) (sym same) (ap (λ z. shown (run_heap n z) (Root (greatest n))) seen ∙ shows))
          c.double-doubled.ensures.doubled;
      gone = c.let_go.ensures.let_go;
    }

pub returns-clause-told : goal.returns-clause-told
returns-clause-told g c =
    let made = c.double-doubled in
    told_wider g.L.Links g.met.L.Links.lacking_stays g.met.L.Links.worn_stays c.args.links.now c.args.p.now c.value-size.new.p made.new.p _
    c.value-size.ensures.nothing.puts.agent c.value-size.ensures.later c.let_go.ensures.later made.result made.ensures.told

pub returns-clause-tries : goal.returns-clause-tries
returns-clause-tries g c =
    omega (
      arith,
      made_most 0 _ _ [] c.value-size.ensures.nothing.puts (omega arith),
      c.double-doubled.ensures.tries,
      made_most 0 _ _ [] c.let_go.ensures.let_go.puts (omega arith),
    )

pub double-doubled-requires-clause-pass : goal.double-doubled-requires-clause-pass
double-doubled-requires-clause-pass g c = c.value-size.ensures.pass

pub let_go-requires-clause-pass : goal.let_go-requires-clause-pass
let_go-requires-clause-pass g c = c.double-doubled.ensures.pass

pub returns-clause-pass : goal.returns-clause-pass
returns-clause-pass g c = c.let_go.ensures.pass

pub returns-clause-later : goal.returns-clause-later
returns-clause-later g c = goes_on _ _ _ c.value-size.ensures.later (goes_on _ _ _ c.double-doubled.ensures.later c.let_go.ensures.later)
