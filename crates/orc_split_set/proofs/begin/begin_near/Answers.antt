-- Root after root, for fewer and fewer buckets.
use Rattle.std.proofs.Common.{[], append-nil, ap, arith, refl, subst, sym, ℕ, ◌++◌, ◌%◌, ◌∙◌, ◌≡◌}
use Rattle.orc_heap.proofs.Pieces.{goes_on}
use Rattle.orc_heap.specs.Heap.{Heap}
use Rattle.orc_heap.specs.Journals.{run_heap}
use Rattle.orc_heap.specs.Seats.{heap_of}
use Rattle.orc_heap.specs.Slots.{Slots}
use Rattle.orc_ordered_search.specs.Searches.{HasRoom}
use Rattle.orc_split_rule.specs.SplitOrder.{bucket_of}
use Rattle.orc_split_set.specs.Looks.{HasStart, root_loads}
use Rattle.orc_split_set.specs.NewNodes.{node_value}
use Rattle.orc_split_set.proofs.Beginning.{begins_later, from_root, half_begins, half_by, half_size}
use Rattle.orc_split_set.proofs.Crowding.{own_heap, own_later, own_sooner, puts_grow}
use Rattle.orc_split_set.proofs.Looking.{few_heap, few_none, few_same}
use Rattle.orc_split_set.proofs.Passes.{seen_on}
use Rattle.orc_split_set.proofs.Preparing.{size_some}
use Rattle.orc_split_set.proofs.FewEvents.{half_level}
use Rattle.orc_split_set.proofs.begin.begin_near.Goals as goal

pub loop-size-init : goal.loop-size-init
loop-size-init g c = record {
  pass = c.requires.pass;
  later = ([], append-nil _);
  grew = ([], append-nil _);
  size = c.requires.size;
  begins = c.requires.begins;
  by = omega arith;
  room = c.requires.room;
  levels = λ k low. (k, low, omega arith);
  agent = refl;
  still = λ has sees. (refl, refl);
  held = λ s own q same. record { own = own; quiet = q; slots = same };
}

pub loop-size-smaller : goal.loop-size-smaller
loop-size-smaller g c = omega (arith, c.loop-size-test.true)

pub loop-size-preserved : goal.loop-size-preserved
loop-size-preserved g c =
    let d = c.args.links.now in
    let n = g.L.Links.numbers d in
    let i = c.loop-size.invariant in
    let e = c.in_default.ensures in
    let two = c.loop-size-test.true in
    let s0 = g.L.Links.seat d c.args.p.now in
    let t = g.L.Links.seat d c.loop-size.p in
    let u = g.L.Links.seat d c.begin_at.new.p in
    let grows = seen_on g.L.Links g.met.L.Links.steps_add g.met.L.Links.seen_is d c.loop-size.p c.begin_at.new.p i.pass e.pass e.later in
    let v = node_value c.args.new in
    record {
      pass = e.pass;
      later = goes_on _ _ _ i.later e.later;
      grew = goes_on _ _ _ i.grew grows;
      size = half_size _ c.loop-size.size i.size.1 (omega (arith, two)) i.size.2 i.size.0;
      begins = half_begins c.args.new c.loop-size.size i.begins;
      by =
          let half = half_by (node_value c.args.new) c.loop-size.size i.size.1 (omega (arith, two)) i.size.2 in
          omega (arith, half, i.by);
      room = subst (λ (z : Slots). HasRoom z) (sym (e.held refl)) i.room;
      levels = λ k low.
          let (j, high, made) = i.levels k low in
          let (less, is, half) = half_level c.loop-size.size j (omega (arith, two)) high in
          (less, half, omega (arith, made, e.tries, is));
      agent = e.agent ∙ i.agent;
      still = λ has sees.
          let (same, seen) = i.still has (own_sooner s0 t u i.grew grows sees) in
          let last = own_later s0 t u i.grew grows i.agent sees in
          let there = subst (λ z. HasStart (run_heap n z) (bucket_of v c.loop-size.size)) (sym seen)
          (subst (λ (x : ℕ). HasStart (heap_of n s0) x) same has) in
          let (half, none) = e.none refl there last in
          (same ∙ half, last.is ∙ (ap (λ z. t.seen ++ z) none ∙ (append-nil t.seen ∙ seen)));
      held = λ s own q same. (let k = i.held s own q same in e.begun s k.own k.quiet k.slots);
    }

pub begin_at-requires : goal.begin_at-requires
begin_at-requires g c =
    record {
      size = (c.loop-size.invariant.size, omega (arith, c.loop-size-test.true));
      begins = c.loop-size.invariant.begins;
      pass = c.loop-size.invariant.pass;
      room = c.loop-size.invariant.room;
    }

pub returns : goal.returns
returns g c =
    record {
      begun = λ s own q same.
          let n = g.L.Links.numbers _ in
          let i = c.loop-size.invariant in
          let s0 = g.L.Links.seat _ c.args.p.now in
          let t = g.L.Links.seat _ c.loop-size.p in
          let k = i.held s own q same in
          let first = puts_grow s s0 own q.puts in
          let v = node_value c.args.new in
          let one : c.loop-size.size ≡ 1 = omega (arith, c.loop-size-test.false, size_some _ c.loop-size.size i.size) in
          from_root n c.args.new s t k.own k.quiet k.slots c.args.size
          (λ sees has.
          let heap : heap_of n t ≡ heap_of n s0 = own_heap n s t k.own k.quiet sees ∙ sym (own_heap n s s0 own q (own_sooner s s0 t first i.grew sees)) in
          let (bucket, seen) = i.still (subst (λ (h : Heap). HasStart h (bucket_of v c.args.size)) heap has) (own_later s s0 t first i.grew q.puts.agent sees) in
          let zero : v % 1 ≡ 0 = omega arith in
          bucket ∙ (ap (λ (x : ℕ). v % x) one ∙ zero));
      few = λ has.
          let v = node_value c.args.new in
          few_none (root_loads (bucket_of v c.args.size)) _ _
          (λ sees. (c.loop-size.invariant.still has sees).1);
      tries = λ k low.
          let (j, high, made) = c.loop-size.invariant.levels k low in
          omega (arith, made);
      pass = c.loop-size.invariant.pass;
      later = c.loop-size.invariant.later;
      agent = c.loop-size.invariant.agent;
    }

pub returns-in-Some : goal.returns-in-Some
returns-in-Some g c =
    record {
      begun = λ s own q slots.
          let n = g.L.Links.numbers _ in
          let i = c.loop-size.invariant in
          let e = c.in-Some.ensures in
          let s0 = g.L.Links.seat _ c.args.p.now in
          let t = g.L.Links.seat _ c.loop-size.p in
          let u = g.L.Links.seat _ c.begin_at.new.p in
          let grows = seen_on g.L.Links g.met.L.Links.steps_add g.met.L.Links.seen_is _ c.loop-size.p c.begin_at.new.p i.pass e.pass e.later in
          let k = i.held s own q slots in
          let first = puts_grow s s0 own q.puts in
          let whole = goes_on _ _ _ i.grew grows in
          let v = node_value c.args.new in
          begins_later n c.args.new c.loop-size.size c.args.size i.by s u
          (λ sees has.
          let sees_t = own_sooner s t u (puts_grow s t k.own k.quiet.puts) grows sees in
          let sees_s0 = own_sooner s s0 u first whole sees in
          let last = own_later s t u (puts_grow s t k.own k.quiet.puts) grows k.quiet.puts.agent sees in
          let heap : heap_of n u ≡ heap_of n s0 = few_heap n (root_loads (bucket_of v c.loop-size.size)) t u (e.few c.in-Some.begun refl) last
          ∙ (own_heap n s t k.own k.quiet sees_t ∙ sym (own_heap n s s0 own q sees_s0)) in
          (i.still (subst (λ (h : Heap). HasStart h (bucket_of v c.args.size)) heap has) (own_later s s0 t first i.grew q.puts.agent sees_t)).0)
          c.in-Some.begun (e.begun s k.own k.quiet k.slots);
      few = λ has sees.
          let d = c.args.links.now in
          let i = c.loop-size.invariant in
          let s0 = g.L.Links.seat d c.args.p.now in
          let t = g.L.Links.seat d c.loop-size.p in
          let u = g.L.Links.seat d c.begin_at.new.p in
          let grows = seen_on g.L.Links g.met.L.Links.steps_add g.met.L.Links.seen_is d c.loop-size.p c.begin_at.new.p i.pass c.in-Some.ensures.pass c.in-Some.ensures.later in
          let v = node_value c.args.new in
          let (same, seen) = i.still has (own_sooner s0 t u i.grew grows sees) in
          few_same (root_loads (bucket_of v c.loop-size.size)) (root_loads (bucket_of v c.args.size)) s0 t u i.grew grows i.agent seen
          (ap (λ (x : ℕ). root_loads x) (sym same)) (c.in-Some.ensures.few c.in-Some.begun refl) sees;
      agent = c.in-Some.ensures.agent ∙ c.loop-size.invariant.agent;
      tries = λ k low.
          let (j, high, made) = c.loop-size.invariant.levels k low in
          let (less, is, half) = half_level c.loop-size.size j (omega (arith, c.loop-size-test.true)) high in
          omega (arith, made, c.in-Some.ensures.tries, is);
      pass = c.in-Some.ensures.pass;
      later = goes_on _ _ _ c.loop-size.invariant.later c.in-Some.ensures.later;
    }
