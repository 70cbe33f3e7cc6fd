-- A rank of rows: a row that is no longer fresh, and to whose node no Move made a link, links such rows of lower rank alone.
use Rattle.std.proofs.Common.{Bool, ap, arith, cond, false, inl, inr, refl, subst, sym, true, ℕ, ⊎_elim, ◌*◌, ◌+◌, ◌-◌, ◌/◌, ◌<◌, ◌∙◌, ◌≡◌, ◌≤◌, ◌⊎◌, zero, suc}
use Rattle.std.proofs.lemmas.Bool.{eq-eqb, eqb-true, false≢true, ltb-true}
use Rattle.std.specs.Option.{option_map}
use Rattle.std.specs.Prelude.{None, Option, Some, if◌then◌else◌, is_none, slice_get, ◌&&◌, ◌==◌}
use Rattle.orc_core.proofs.Within.{and_both}
use Rattle.orc_core.specs.Actions.{clear_word}
use Rattle.orc_core.specs.After.{after}
use Rattle.orc_core.specs.RecordParts.{is_due, names, number_of, same_target}
use Rattle.orc_core.specs.declared.ops.Op.{Op}
use Rattle.orc_core.specs.declared.ops.Op.TheVariants.{Fill as FillStep, GateTake, LinkCas, LinkStore, SetRetired}
use Rattle.orc_core.specs.declared.records.Agent.{Agent}
use Rattle.orc_core.specs.declared.records.Reading.{Reading}
use Rattle.orc_heap.proofs.Changes.{get-change, get-change_same}
use Rattle.orc_heap.proofs.Linked.{linked_after}
use Rattle.orc_heap.specs.Acts.{as_linked, change_target, heap_after, set_link, with_link, with_side}
use Rattle.orc_heap.specs.Allowed.{IsLinkedNode, MovesLinked}
use Rattle.orc_heap.specs.Heap.{Heap, Node}
use Rattle.orc_heap.specs.declared.events.Act.{Act}
use Rattle.orc_heap.specs.declared.events.Act.TheVariants.{Move}
use Rattle.orc_heap.specs.declared.events.Link.{Link}
use Rattle.orc_heap.specs.declared.events.Place.{Place}
use Rattle.orc_heap.specs.declared.events.Place.TheVariants.{Next as NodePlace, Root as RootPlace, Side as SidePlace}
use Rattle.orc_projection.proofs.Shows.{Fitting, Shows, heap_then}
use Rattle.orc_projection.proofs.Still.{out_before}
use Rattle.orc_projection.proofs.StoreStep.{store_doomed}
use Rattle.orc_projection.specs.PresentIds.{PresentIds, node_link, node_place, with_taken}
use Rattle.orc_projection.specs.Projection.{act_of, ids_after, is_taken}
use Rattle.orc_sound.proofs.Balances.{to_row-link}
use Rattle.orc_sound.proofs.Facts.{LawfulStep, incs, linked_in, out, to_row}
use Rattle.orc_sound.proofs.Outs.{cas_place_out, linked_link, none_linked, store_cases, takes_free, zero_one}
use Rattle.orc_sound.proofs.Pending.{OneChange, try_waits}
use Rattle.orc_sound.proofs.Seats.{both_ways, not_true, seat_other, seat_same}
use Rattle.orc_sound.proofs.Sources.{links_source, takes}
use Rattle.orc_sound.proofs.Sums.{sum_zero}
use Rattle.orc_sound.proofs.Uses.{fresh_uses, inc_uses}
use Rattle.orc_sound.proofs.World.{World, read_by, record_by, step_world}
use Rattle.orc_sound.specs.Linked.{uses}
use Rattle.orc_words.specs.Bounds.{Bounds}
use Rattle.orc_words.specs.Packed.{bit, count_bits, link_word}
use Rattle.orc_words.specs.Places.{link_at}
use Rattle.orc_words.specs.declared.packed.RowLink.{RowLink}
use Rattle.orc_words.specs.declared.place.Word.{Word}
use Rattle.orc_words.specs.declared.place.Word.TheVariants.{Counter, Enrolled, Gate, Next, Root, Side}

-- no Move made a link to the row's node
abbrev pub IsUnlinked : PresentIds → Heap → ℕ → Type 0
IsUnlinked p h j = IsLinkedNode h (p.node j) → ⊥

-- no agent has the row fresh
abbrev pub IsFreshNowhere : World → ℕ → Type 0
IsFreshNowhere z j = (x : ℕ) → names (z.seats x).fresh j ≡ false

-- such a rank: among nodes to which no Move made a link, the rank falls along each link i of a row j that is fresh nowhere
pub record RanksRows (z : World) (p : PresentIds) (h : Heap) : Type 0 where
  pub rank : ℕ → ℕ
  pub falls : (i j q : ℕ) → out (z.memory (Gate j)) ≡ 1 → IsFreshNowhere z j → IsUnlinked p h j → to_row (z.memory (link_at i j)) q ≡ 1
      → IsUnlinked p h q → rank q < rank j

linked_stays : (a : ℕ) (o : Option Act) (h : Heap) (id : ℕ) → Fitting a o h → IsLinkedNode h id → IsLinkedNode (heap_then a o h) id
linked_stays a None h id f k = k
linked_stays a (Some act) h id f k = let s = linked_after a act h id k.node f k.there k.linked in record { node = s.node; there = s.there; linked = s.linked }

target_linked : (o : Option ℕ) (g : Heap) (id : ℕ) (n : Node) → o ≡ Some id → slice_get g.nodes id ≡ Some n → IsLinkedNode (change_target as_linked o g) id
target_linked o g id n e k = rw e (record { node = as_linked n; there = get-change_same as_linked id g.nodes n k; linked = refl })

-- a Move links its target
moved_linked : (a : ℕ) (place : Place) (from to : Link) (h : Heap) (id : ℕ) (n : Node) → to.to ≡ Some id → slice_get h.nodes id ≡ Some n
    → IsLinkedNode (heap_after a (Move place from to) h) id
moved_linked a (RootPlace r) from to h id n e k = target_linked to.to (set_link (RootPlace r) to h) id n e k
moved_linked a (NodePlace i) from to h id n e k =
    elim (get-change (with_link to) i id h.nodes n k) [
      | inl r ↦ target_linked to.to (set_link (NodePlace i) to h) id (with_link to n) e r.1
      | inr r ↦ target_linked to.to (set_link (NodePlace i) to h) id n e r.1
    ]
moved_linked a (SidePlace i) from to h id n e k =
    elim (get-change (with_side to) i id h.nodes n k) [
      | inl r ↦ target_linked to.to (set_link (SidePlace i) to h) id (with_side to n) e r.1
      | inr r ↦ target_linked to.to (set_link (SidePlace i) to h) id n e r.1
    ]

node_same : (p : PresentIds) (d : Agent) (v : ℕ) (op : Op) (j : ℕ) → (takes op d v j ≡ true → ⊥) → (ids_after p d v op).node j ≡ p.node j
node_same p d v (GateTake r) j n = cases (is_taken d v) refl
  where
    cases : (t : Bool) → is_taken d v ≡ t → (if t then with_taken r p else p).node j ≡ p.node j
    cases false e = refl
    cases true e = other (j == r) refl
      where
        other : (u : Bool) → (j == r) ≡ u → (if u then p.given else p.node j) ≡ p.node j
        other false g = refl
        other true g = absurd (n (rw (eq-eqb r j (sym (eqb-true j r g)), e) refl))
node_same p d v op j n = refl

-- a row that is taken is fresh
taken_fresh : (op : Op) (d : Agent) (v j : ℕ) → takes op d v j ≡ true → names (after op d v).fresh j ≡ true
taken_fresh (GateTake r) d v j h = let f = and_both _ _ h in let e : (v == 2 * number_of d.looked) ≡ true = f.1 in rw e f.0
taken_fresh op d v j h = absurd (false≢true h)

not_taken : (z : World) (a : ℕ) (op : Op) (j : ℕ) → IsFreshNowhere (step_world z a op) j → takes op (z.seats a) (read_by z a op) j ≡ true → ⊥
not_taken z a op j n t =
    both_ways (names (record_by z a op).fresh j) (taken_fresh op (z.seats a) (read_by z a op) j t) (rw (seat_same z.seats a (record_by z a op)) at (n a))

abbrev After : (z : World) (p : PresentIds) (h : Heap) (a : ℕ) (op : Op) (o : Option Act) → ℕ → Type 0
After z p h a op o j = IsLinkedNode (heap_then a o h) ((ids_after p (z.seats a) (read_by z a op) op).node j) → ⊥

unlinked_before : (z : World) (p : PresentIds) (h : Heap) (a : ℕ) (op : Op) (o : Option Act) (j : ℕ) → Fitting a o h
    → (takes op (z.seats a) (read_by z a op) j ≡ true → ⊥) → After z p h a op o j → IsUnlinked p h j
unlinked_before z p h a op o j f n u k = u (rw (node_same p (z.seats a) (read_by z a op) op j n) (linked_stays a o h (p.node j) f k))

-- a word that was written or not, where no write to it leads to the row
put_link : (y : Bool) (new mine q : ℕ) → (y ≡ true → to_row new q ≡ 1 → to_row mine q ≡ 1) → to_row (cond y new mine) q ≡ 1 → to_row mine q ≡ 1
put_link true new mine q f e = f refl e
put_link false new mine q f e = e

-- an exchange of a link word leaves what it was, if it isn't won
exchanged : (won : Bool) (new old mine q : ℕ) → (won ≡ true → ⊥) → old ≡ mine → to_row (cond won new old) q ≡ 1 → to_row mine q ≡ 1
exchanged true new old mine q n same e = absurd (n refl)
exchanged false new old mine q n same e = rw same at e

-- a link that stays, or is moved at a once linked node
cas_link : (b : Bounds) (z : World) (p : PresentIds) (h : Heap) (a : ℕ) (w : Word) (x t : RowLink) (want : Option RowLink) (i j q : ℕ)
    → LawfulStep b z a (LinkCas w x t)
    → ((act : Act) → act_of p (z.seats a) (read_by z a (LinkCas w x t)) (LinkCas w x t) want ≡ Some act → MovesLinked act h) → IsUnlinked p h j
    → to_row ((step_world z a (LinkCas w x t)).memory (link_at i j)) q ≡ 1 → to_row (z.memory (link_at i j)) q ≡ 1
cas_link b z p h a (Root k) x t want zero j q l m u e = e
cas_link b z p h a (Root k) x t want (suc n) j q l m u e = e
cas_link b z p h a (Side k) x t want zero j q l m u e = e
cas_link b z p h a (Next k) x t want (suc n) j q l m u e = e
cas_link b z p h a (Next k) x t want zero j q l m u e =
    put_link (j == k) (cond (z.memory (Next k) == link_word x) (link_word t) (z.memory (Next k))) (z.memory (Next j)) q
    (λ s. exchanged (z.memory (Next k) == link_word x) (link_word t) (z.memory (Next k)) (z.memory (Next j)) q
    (λ won. u (rw (eqb-true j k s) (m (Move (NodePlace (p.node k)) (node_link p x) (node_link p t)) (rw won refl))))
    (ap (λ y. z.memory (Next y)) (sym (eqb-true j k s)))) e
cas_link b z p h a (Side k) x t want (suc n) j q l m u e =
    put_link (j == k) (cond (z.memory (Side k) == link_word x) (link_word t) (z.memory (Side k))) (z.memory (Side j)) q
    (λ s. exchanged (z.memory (Side k) == link_word x) (link_word t) (z.memory (Side k)) (z.memory (Side j)) q
    (λ won. u (rw (eqb-true j k s) (m (Move (SidePlace (p.node k)) (node_link p x) (node_link p t)) (rw won refl))))
    (ap (λ y. z.memory (Side y)) (sym (eqb-true j k s)))) e
cas_link b z p h a w x t want i j q l m u e = absurd (cas_place_out b z a w x t l)

-- a link that is stored in a row which is fresh nowhere afterwards has no target
store_link : (b : Bounds) (z : World) (a r n : ℕ) (k : RowLink) (j q : ℕ) → LawfulStep b z a (LinkStore r k n)
    → IsFreshNowhere (step_world z a (LinkStore r k n)) j → (j == r) ≡ true → to_row (link_word k) q ≡ 1 → ⊥
store_link b z a r n k j q l f g y =
    ⊎_elim
    (λ x. both_ways (names (z.seats a).fresh j) (rw (eqb-true j r g) x) (rw (seat_same z.seats a (record_by z a (LinkStore r k n))) at (f a)))
    (λ d. no_target k.to (store_doomed b (z.memory Enrolled) a r n k (z.seats a) l.fits unfresh).1 y)
    (store_cases b (z.memory Enrolled) a r n k (z.seats a) l.fits)
  where
    no_target : (o : Option ℕ) → is_none o ≡ true → to_row (link_word (record { to = o; mark = k.mark })) q ≡ 1 → ⊥
    no_target None g y = zero_one (to_row-link (record { to = None; mark = k.mark }) q) y
    no_target (Some c) g y = false≢true g

    unfresh : names (z.seats a).fresh r ≡ false
    unfresh = rw (← eqb-true j r g) (rw (seat_same z.seats a (record_by z a (LinkStore r k n))) at (f a))

-- the link words of rows that are out and not fresh are the same before, but for Moves at once linked nodes
link_before : (b : Bounds) (z : World) (p : PresentIds) (h : Heap) (a : ℕ) (op : Op) (want : Option RowLink) (i j q : ℕ) → LawfulStep b z a op
    → ((act : Act) → act_of p (z.seats a) (read_by z a op) op want ≡ Some act → MovesLinked act h) → IsUnlinked p h j → IsFreshNowhere (step_world z a op) j
    → to_row ((step_world z a op).memory (link_at i j)) q ≡ 1 → to_row (z.memory (link_at i j)) q ≡ 1
link_before b z p h a (LinkCas w x t) want i j q l m u n e = cas_link b z p h a w x t want i j q l m u e
link_before b z p h a (LinkStore r k zero) want zero j q l m u n e =
    put_link (j == r) (link_word k) (z.memory (Next j)) q (λ s y. absurd (store_link b z a r 0 k j q l n s y)) e
link_before b z p h a (LinkStore r k zero) want (suc i) j q l m u n e = e
link_before b z p h a (LinkStore r k (suc c)) want zero j q l m u n e = e
link_before b z p h a (LinkStore r k (suc c)) want (suc i) j q l m u n e =
    put_link (j == r) (link_word k) (z.memory (Side j)) q (λ s y. absurd (store_link b z a r (suc c) k j q l n s y)) e
link_before b z p h a (FillStep r which v) want i j q l m u n e =
    ⊎_elim (λ o. o) (λ x. absurd (false≢true x)) (links_source b (z.memory Enrolled) a (FillStep r which v) (z.seats a) z.memory i j q l.fits e)
link_before b z p h a op want i j q l m u n e =
    ⊎_elim (λ o. o) (λ x. absurd (false≢true x)) (links_source b (z.memory Enrolled) a op (z.seats a) z.memory i j q l.fits e)

-- the step ends no freshness but by a Move to the row, or by a SetRetired
abbrev pub ends_fresh : Op → Agent → ℕ → ℕ → Bool
ends_fresh (SetRetired r n) d v j = (v == clear_word n) && names d.fresh r && (r == j)
ends_fresh _ d v j = false

-- a row that is fresh stays so, but where a Move linked it or its bit was set
fresh_stays : (b : Bounds) (z : World) (p : PresentIds) (h : Heap) (a : ℕ) (op : Op) (want : Option RowLink) (o : Option Act) (j : ℕ) → LawfulStep b z a op
    → Shows b z p h → act_of p (z.seats a) (read_by z a op) op want ≡ o
    → ends_fresh op (z.seats a) (read_by z a op) j ≡ false → names (z.seats a).fresh j ≡ true → (names (record_by z a op).fresh j ≡ true) ⊎ IsLinkedNode
    (heap_then a o h) (p.node j)
fresh_stays b z p h a (GateTake r) want o j l s e g f = inl (taken (z.memory (Gate r) == 2 * number_of (z.seats a).looked))
  where
    none : (x : Option ℕ) → is_none x ≡ true → names x j ≡ true → ⊥
    none None u v = false≢true v
    none (Some y) u v = false≢true u

    taken : (t : Bool) → names (cond t (Some r) (z.seats a).fresh) j ≡ true
    taken false = f
    taken true = absurd (none (z.seats a).fresh (and_both _ _ (and_both _ _ (and_both _ _ (and_both _ _ l.fits).0).0).0).1 f)
fresh_stays b z p h a (SetRetired r n) want o j l s e g f = inl (tried (z.memory (Counter r) == clear_word n) refl)
  where
    tried : (t : Bool) → (z.memory (Counter r) == clear_word n) ≡ t
        → names (cond t (cond (names (z.seats a).fresh r) None (z.seats a).fresh) (z.seats a).fresh) j ≡ true
    tried false k = f
    tried true k = mine (names (z.seats a).fresh r) refl
      where
        only : (x : Option ℕ) → names x r ≡ true → names x j ≡ true → (r == j) ≡ true
        only None u v = absurd (false≢true u)
        only (Some y) u v = eq-eqb r j (sym (eqb-true y r u) ∙ eqb-true y j v)

        mine : (u : Bool) → names (z.seats a).fresh r ≡ u → names (cond u None (z.seats a).fresh) j ≡ true
        mine false v = f
        mine true v = absurd (false≢true (sym g ∙ rw (k, v) (only (z.seats a).fresh v f)))
fresh_stays b z p h a (LinkCas w x t) want o j l s e g f = cases (z.memory w == link_word x) refl
  where
    same_fresh : (c d : Option ℕ) → same_target c d ≡ true → names c j ≡ true → d ≡ Some j
    same_fresh None None u v = absurd (false≢true v)
    same_fresh None (Some y) u v = absurd (false≢true v)
    same_fresh (Some y) None u v = absurd (false≢true u)
    same_fresh (Some y) (Some c) u v = ap Some (sym (eqb-true y c u) ∙ eqb-true y j v)

    linked : (z.memory w == link_word x) ≡ true → t.to ≡ Some j → (place : Place) → node_place p w ≡ Some place → IsLinkedNode (heap_then a o h) (p.node j)
    linked won to place at =
        let n = s.rows j (l.counted.used_out a j (fresh_uses (z.seats a) j f)) in
        let acts : act_of p (z.seats a) (z.memory w) (LinkCas w x t) want ≡ Some (Move place (node_link p x) (node_link p t)) = rw (at, won) refl in
        let made : o ≡ Some (Move place (node_link p x) (node_link p t)) = sym e ∙ acts in
        rw made (moved_linked a place (node_link p x) (node_link p t) h (p.node j) n.node (ap (option_map p.node) to) n.there)

    at_place : (z.memory w == link_word x) ≡ true → t.to ≡ Some j → IsLinkedNode (heap_then a o h) (p.node j)
    at_place won to = by_word w refl
      where
        by_word : (y : Word) → w ≡ y → IsLinkedNode (heap_then a o h) (p.node j)
        by_word (Root i) k = linked won to (RootPlace i) (ap (node_place p) k)
        by_word (Next i) k = linked won to (NodePlace (p.node i)) (ap (node_place p) k)
        by_word (Side i) k = linked won to (SidePlace (p.node i)) (ap (node_place p) k)
        by_word y k = absurd (rw k at (cas_place_out b z a w x t l))

    cases : (u : Bool) → (z.memory w == link_word x) ≡ u
        → (names (cond u (cond (same_target x.to t.to) (z.seats a).fresh (cond (same_target (z.seats a).fresh t.to) None (z.seats a).fresh))
        (z.seats a).fresh) j ≡ true) ⊎ IsLinkedNode (heap_then a o h) (p.node j)
    cases false k = inl f
    cases true k = changed (same_target x.to t.to)
      where
        changed : (y : Bool) → (names (cond y (z.seats a).fresh (cond (same_target (z.seats a).fresh t.to) None (z.seats a).fresh)) j ≡ true) ⊎ IsLinkedNode
            (heap_then a o h) (p.node j)
        changed true = inl f
        changed false = taken (same_target (z.seats a).fresh t.to) refl
          where
            taken : (c : Bool) → same_target (z.seats a).fresh t.to ≡ c
                → (names (cond c None (z.seats a).fresh) j ≡ true) ⊎ IsLinkedNode (heap_then a o h) (p.node j)
            taken false d = inl f
            taken true d = inr (at_place k (same_fresh (z.seats a).fresh t.to d f))
fresh_stays b z p h a op want o j l s e g f = inl f

no_fresh_before : (b : Bounds) (z : World) (p : PresentIds) (h : Heap) (a : ℕ) (op : Op) (want : Option RowLink) (o : Option Act) (j : ℕ)
    → LawfulStep b z a op → Shows b z p h → act_of p (z.seats a) (read_by z a op) op want ≡ o
    → ends_fresh op (z.seats a) (read_by z a op) j ≡ false → (takes op (z.seats a) (read_by z a op) j ≡ true → ⊥) → After z p h a op o j → IsFreshNowhere
    (step_world z a op) j → IsFreshNowhere z j
no_fresh_before b z p h a op want o j l s e g k u n x = not_true (names (z.seats x).fresh j) (λ f. cases (x == a) refl f)
  where
    cases : (t : Bool) → (x == a) ≡ t → names (z.seats x).fresh j ≡ true → ⊥
    cases false c f = both_ways (names (z.seats x).fresh j) f (rw (seat_other z.seats a x (record_by z a op) (λ d. false≢true (sym c ∙ eq-eqb x a d))) at (n x))
    cases true c f =
        ⊎_elim
        (λ m. both_ways (names (record_by z a op).fresh j) m (rw (seat_same z.seats a (record_by z a op)) at (n a)))
        (λ m. u (rw (node_same p (z.seats a) (read_by z a op) op j k) m))
        (fresh_stays b z p h a op want o j l s e g (rw (eqb-true x a c) at f))

-- where no row's freshness ends by a SetRetired, the same rank serves
same_falls : (b : Bounds) (z : World) (p : PresentIds) (h : Heap) (a : ℕ) (op : Op) (want : Option RowLink) (o : Option Act) (k : RanksRows z p h)
    → LawfulStep b z a op → Shows b z p h
    → act_of p (z.seats a) (read_by z a op) op want ≡ o → Fitting a o h → ((act : Act) → o ≡ Some act → MovesLinked act h) → (i j q : ℕ) → ends_fresh op
    (z.seats a) (read_by z a op) j ≡ false
    → out ((step_world z a op).memory (Gate j)) ≡ 1 → IsFreshNowhere (step_world z a op) j → After z p h a op o j
    → to_row ((step_world z a op).memory (link_at i j)) q ≡ 1 → After z p h a op o q → k.rank q < k.rank j
same_falls b z p h a op want o k l s e f m i j q g out_j n u t v =
    let nt = not_taken z a op j n in
    let was = out_before b z a op j l nt out_j in
    let unlinked = unlinked_before z p h a op o j f nt u in
    let link = link_before b z p h a op want i j q l (λ act at. m act (sym e ∙ at)) unlinked n t in
    let q_out = l.counted.links_out i j q was link in
    let qt : takes op (z.seats a) (read_by z a op) q ≡ true → ⊥ = λ y. zero_one (takes_free op (z.seats a) z.memory a q y) q_out in
    k.falls i j q was (no_fresh_before b z p h a op want o j l s e g nt u n) unlinked link (unlinked_before z p h a op o q f qt v)

-- a fresh row whose bit is set has no link at all
retired_unlinked : (b : Bounds) (z : World) (a r n : ℕ) → LawfulStep b z a (SetRetired r n) → OneChange (z.seats a) → names (z.seats a).fresh r ≡ true
    → (z.memory (Counter r) == clear_word n) ≡ true → linked_in b z.memory r ≡ 0
retired_unlinked b z a r n l o f v =
    let h = ltb-true r b.rows (and_both _ _ (and_both _ _ l.fits).0).0 in
    let c = l.counted.balance r h in
    let w : count_bits (z.memory (Counter r)) ≡ 4194304 = rw (eqb-true (z.memory (Counter r)) (clear_word n) v) (clear_count n) in
    let i : incs b z.seats r ≡ 0 = sum_zero b.agents (λ x. bit (names (z.seats x).inc r)) none in
    omega arith
  where
    clear_count : (n : ℕ) → count_bits (clear_word n) ≡ 4194304
    clear_count n = omega arith

    none : (x : ℕ) → bit (names (z.seats x).inc r) ≡ 0
    none x = cases (x == a) refl
      where
        no_inc : (y : Option ℕ) → y ≡ None → bit (names y r) ≡ 0
        no_inc None u = refl
        no_inc (Some y) u = cc

        due_is : (y : Option Reading) → is_due y r n ≡ true → y ≡ None → ⊥
        due_is None u w = false≢true u
        due_is (Some y) u w = cc

        cases : (t : Bool) → (x == a) ≡ t → bit (names (z.seats x).inc r) ≡ 0
        cases false e =
            ap bit (not_true (names (z.seats x).inc r)
            (λ k. both_ways (uses (z.seats x) r) (inc_uses (z.seats x) r k) (l.counted.fresh_alone a x r f (λ d. false≢true (sym e ∙ eq-eqb x a d)))))
        cases true e = rw (eqb-true x a e) (no_inc (z.seats a).inc (own (try_waits (z.seats a).due (z.seats a).inc (z.seats a).dec r n l.forced)))
          where
            own : (is_due (z.seats a).due r n ≡ true) ⊎ (((z.seats a).due ≡ None) × ((z.seats a).inc ≡ None) × ((z.seats a).dec ≡ None))
                → (z.seats a).inc ≡ None
            own (inr y) = y.1
            own (inl y) = ⊎_elim (λ d. absurd (due_is (z.seats a).due y d)) (λ i. i) o

-- the ranks of the targets of a row's links, together
targets : World → ℕ → (ℕ → ℕ) → ℕ
targets z r rank = rank (z.memory (Next r) / 2 - 1) + rank (z.memory (Side r) / 2 - 1)

target_within : (z : World) (r : ℕ) (rank : ℕ → ℕ) (i : ℕ) → rank (z.memory (link_at i r) / 2 - 1) ≤ targets z r rank
unfolding targets
target_within z r rank zero = omega arith
target_within z r rank (suc i) = omega arith

-- the rank of a row whose bit is set while it is fresh is raised above those of its links' targets
raised : World → ℕ → (ℕ → ℕ) → ℕ → ℕ
raised z r rank x = cond (x == r) (targets z r rank + 1) (rank x)

retired_falls : (b : Bounds) (z : World) (p : PresentIds) (h : Heap) (a r n : ℕ) (want : Option RowLink) (k : RanksRows z p h)
    → LawfulStep b z a (SetRetired r n) → Shows b z p h → OneChange (z.seats a)
    → (z.memory (Counter r) == clear_word n) ≡ true → names (z.seats a).fresh r ≡ true → (i j q : ℕ)
    → out ((step_world z a (SetRetired r n)).memory (Gate j)) ≡ 1 → IsFreshNowhere (step_world z a (SetRetired r n)) j → IsUnlinked p h j
    → to_row ((step_world z a (SetRetired r n)).memory (link_at i j)) q ≡ 1 → IsUnlinked p h q → raised z r k.rank q < raised z r k.rank j
unfolding raised
retired_falls b z p h a r n want k l s o won f i j q out_j nf u after v = cases (q == r) refl (j == r) refl
  where
    was : out (z.memory (Gate j)) ≡ 1
    was = out_j

    t : to_row (z.memory (link_at i j)) q ≡ 1
    t = link_before b z p h a (SetRetired r n) want i j q l (λ act at. cc) u nf after

    unlinked : linked_in b z.memory r ≡ 0
    unlinked = retired_unlinked b z a r n l o f won

    not_target : q ≡ r → ⊥
    not_target e = none_linked unlinked (linked_link b z i j r l.counted was (rw e at t))

    target_is : (w : ℕ) → to_row w q ≡ 1 → w / 2 - 1 ≡ q
    target_is w e = let y = eqb-true (w / 2) (q + 1) (bit_true (w / 2 == q + 1) e) in omega arith
      where
        bit_true : (c : Bool) → bit c ≡ 1 → c ≡ true
        bit_true true y = refl
        bit_true false y = absurd (omega arith)

    more : (x y z : ℕ) → x ≡ y → y ≤ z → x < z + 1
    more x y z e le = omega arith

    cases : (c : Bool) → (q == r) ≡ c → (d : Bool) → (j == r) ≡ d
        → cond c (targets z r k.rank + 1) (k.rank q) < cond d (targets z r k.rank + 1) (k.rank j)
    cases true e d g = absurd (not_target (eqb-true q r e))
    cases false e true g =
        more (k.rank q) (k.rank (z.memory (link_at i r) / 2 - 1)) (targets z r k.rank)
        (ap k.rank (sym (subst (λ y. z.memory (link_at i y) / 2 - 1 ≡ q) (eqb-true j r g) (target_is (z.memory (link_at i j)) t))))
        (target_within z r k.rank i)
    cases false e false g =
        same_falls b z p h a (SetRetired r n) want None k l s refl tt (λ act at. cc) i j q (other (r == j) refl) out_j nf u after v
      where
        other : (y : Bool) → (r == j) ≡ y → ((z.memory (Counter r) == clear_word n) && names (z.seats a).fresh r && y) ≡ false
        other false w = rw (won, f) refl
        other true w = absurd (false≢true (sym g ∙ eq-eqb j r (sym (eqb-true r j w))))

pub rank_step : (b : Bounds) (z : World) (p : PresentIds) (h : Heap) (a : ℕ) (op : Op) (want : Option RowLink) → LawfulStep b z a op → Shows b z p h
    → OneChange (z.seats a)
    → Fitting a (act_of p (z.seats a) (read_by z a op) op want) h → ((act : Act) → act_of p (z.seats a) (read_by z a op) op want ≡ Some act → MovesLinked act h)
    → RanksRows z p h → RanksRows (step_world z a op) (ids_after p (z.seats a) (read_by z a op) op)
    (heap_then a (act_of p (z.seats a) (read_by z a op) op want) h)
rank_step b z p h a (SetRetired r n) want l s o f m k = cases ((z.memory (Counter r) == clear_word n) && names (z.seats a).fresh r) refl
  where
    cases : (t : Bool) → ((z.memory (Counter r) == clear_word n) && names (z.seats a).fresh r) ≡ t → RanksRows (step_world z a (SetRetired r n)) p h
    cases true e =
        let y = and_both (z.memory (Counter r) == clear_word n) (names (z.seats a).fresh r) e in
        record { rank = raised z r k.rank; falls = λ i j q g n u t v. retired_falls b z p h a r _ want k l s o y.0 y.1 i j q g n u t v }
    cases false e =
        record {
          rank = k.rank;
          falls = λ i j q g n u t v. same_falls b z p h a (SetRetired r _) want None k l s refl tt (λ act at. cc) i j q
              (none (r == j)) g n u t v;
        }
      where
        both_false : (c d y : Bool) → (c && d) ≡ false → (c && d && y) ≡ false
        both_false true true y w = absurd (false≢true (sym w))
        both_false true false y w = refl
        both_false false d y w = refl

        none : (y : Bool) → ((z.memory (Counter r) == clear_word n) && names (z.seats a).fresh r && y) ≡ false
        none y = both_false (z.memory (Counter r) == clear_word n) (names (z.seats a).fresh r) y e
rank_step b z p h a op want l s o f m k =
    record {
      rank = k.rank;
      falls = λ i j q g n u t v. same_falls b z p h a op want
          (act_of p (z.seats a) (read_by z a op) op want) k l s refl f m i j q refl g n u t v;
    }
