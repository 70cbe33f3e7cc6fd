-- Pieces of a call, one after another; and what a pass holds over them.
use Rattle.std.proofs.Common.{Bool, List, None, Option, Some, [], ap, append-nil, append_assoc, arith, false, refl, subst, sym, true, ℕ, ◌++◌, ◌∙◌, ◌∷◌, ◌≡◌, ◌≢◌, ◌≤◌}
use Rattle.std.proofs.lemmas.Bool.{ne_eqb}
use Rattle.std.proofs.lemmas.List.{append_cancel_left}
use Rattle.std.specs.List.{list_any, slice_get, slice_set}
use Rattle.std.specs.Prelude.{if◌then◌else◌, ◌==◌}
use mathlib.Core.List.{IsPrefix}
use Rattle.orc_heap.proofs.Calls.{Puts-trans, filter-at, part_allowed}
use Rattle.orc_heap.proofs.Fresh.{IsOwnNode, own_node_told, touched_by}
use Rattle.orc_heap.proofs.Moved.{moves_in-append}
use Rattle.orc_heap.proofs.OwnParts.{alone_own, begins_own, moves_after_own, moves_from_own-append, own_from_left, own_from_right}
use Rattle.orc_heap.proofs.Slots.{get-set_other, given-back, held_apart, holds-other, holds-there, id-other, id-there}
use Rattle.orc_heap.proofs.Stays.{allowed-left, allowed-right, stays}
use Rattle.orc_heap.specs.Allowed.{AllAllowed, IsLinkedNode, MovesLinked}
use Rattle.orc_heap.specs.Calls.{Releases, Swings, unless_node}
use Rattle.orc_heap.specs.Heap.{Heap, HeapNumbers, Node}
use Rattle.orc_heap.specs.Journals.{FitsAfter, points_to, run_heap}
use Rattle.orc_heap.specs.Moves.{AllOwn, from_own, moves_in}
use Rattle.orc_heap.specs.OwnEvents.{Puts}
use Rattle.orc_heap.specs.Seats.{IsUntouched, Seat, heap_of, link_in}
use Rattle.orc_heap.specs.Slots.{Hold, Holds, IsFree, id_in}
use Rattle.orc_heap.specs.declared.events.Event.{Event}
use Rattle.orc_heap.specs.declared.holds.At.{At}
use Rattle.orc_heap.specs.declared.holds.Want.{Want}

-- a journal that went on, and on
pub goes_on : {A : Type 0} (xs ys zs : List A) → IsPrefix xs ys → IsPrefix ys zs → IsPrefix xs zs
goes_on xs ys zs (us, one) (vs, two) = (us ++ vs, sym (append_assoc xs us vs) ∙ (ap (λ z. z ++ vs) one ∙ two))

module _ {N : Type 0} where
  -- the same events, told twice
  pub one_part : (s t : Seat N) (xs ys : List (Event N)) (p : Puts s xs t) (q : Puts s ys t) → p.part ≡ q.part
  one_part s t xs ys p q = append_cancel_left s.seen p.part q.part (sym p.is ∙ q.is)

  -- a release at the end
  pub puts_released : (s a t : Seat N) (xs : List (Event N)) → Puts s xs a → Puts a [] t → Puts s xs t
  puts_released s a t xs p q = subst (λ z. Puts s z t) (append-nil xs) (Puts-trans s a t xs [] p q)

  -- two pieces of a call, and the whole of them
  module _ (s a t : Seat N) (xs ys zs : List (Event N)) (p : Puts s xs a) (q : Puts a ys t) (w : Puts s zs t) where
    -- what is new is what was new first and what is new since
    pub new_is : w.part ≡ p.part ++ q.part
    new_is = append_cancel_left s.seen w.part (p.part ++ q.part) (sym w.is ∙ (q.is ∙ (ap (λ z. z ++ q.part) p.is ∙ append_assoc s.seen p.part q.part)))

    -- Moves of a piece are Moves of the whole
    pub moves_left : moves_in p.part ≤ moves_in w.part
    moves_left = rw new_is (omega (arith, moves_in-append p.part q.part))

    pub moves_right : moves_in q.part ≤ moves_in w.part
    moves_right = rw new_is (omega (arith, moves_in-append p.part q.part))

    pub own_moves_left : moves_in (from_own s.agent p.part) ≤ moves_in (from_own s.agent w.part)
    own_moves_left = rw new_is (omega (arith, moves_from_own-append s.agent p.part q.part))

    pub own_moves_right : moves_in (from_own a.agent q.part) ≤ moves_in (from_own s.agent w.part)
    own_moves_right = rw (new_is, p.agent) (omega (arith, moves_from_own-append s.agent p.part q.part))

    -- where no other agent steps in the whole, none does in a piece
    pub own_part_left : AllOwn s.agent (from_own s.agent w.part) → AllOwn s.agent (from_own s.agent p.part)
    own_part_left alone = own_from_left s.agent p.part q.part (subst (λ z. AllOwn s.agent (from_own s.agent z)) new_is alone)

    pub own_part_right : AllOwn s.agent (from_own s.agent w.part) → AllOwn a.agent (from_own a.agent q.part)
    own_part_right alone =
        subst (λ (x : ℕ). AllOwn x (from_own x q.part)) (sym p.agent)
        (own_from_right s.agent p.part q.part (subst (λ z. AllOwn s.agent (from_own s.agent z)) new_is alone))

  -- what stands after a call's first event stands after an own event
  pub moves_then : (s a t : Seat N) (e : Event N) (rest ys zs : List (Event N)) (p : Puts s (e ∷ rest) a) (q : Puts a ys t) (w : Puts s zs t)
      → e.agent ≡ s.agent
      → moves_in q.part ≤ moves_in (from_own s.agent w.part)
  moves_then s a t e rest ys zs p q w own =
      let f = filter-at (λ x. x.agent == s.agent) p.part [] e rest p.own_is in
      let is : w.part ≡ f.before ++ e ∷ (f.later ++ q.part) = new_is s a t (e ∷ rest) ys zs p q w
      ∙ (ap (λ z. z ++ q.part) f.is ∙ append_assoc f.before (e ∷ f.later) q.part) in
      rw is (omega (arith, moves_after_own s.agent f.before e (f.later ++ q.part) own, moves_in-append f.later q.part))

  -- what a look put into a free slot
  pub record InSlot (s : Seat N) (slot id : ℕ) (h : Hold) (t : Seat N) : Type 0 where
    pub at : h.slot ≡ slot
    pub slots : t.slots ≡ slice_set s.slots slot (Some (record { row = h.row; id = id }))

  module _ (s t : Seat N) (slot id : ℕ) (h : Hold) (free : IsFree s.slots slot) (i : InSlot s slot id h t) where
    pub slot_holds : Holds t.slots h
    slot_holds = holds-there s.slots t.slots slot id h free.empty i.at i.slots

    pub slot_id : id_in t.slots h ≡ id
    slot_id = id-there s.slots t.slots slot id h free.empty i.at i.slots

    pub slot_free : (other : ℕ) → other ≢ slot → IsFree s.slots other → IsFree t.slots other
    slot_free other ne k = record {
      above = k.above;
      below = k.below;
      empty = ap (λ z. slice_get z other) i.slots ∙ (get-set_other s.slots slot other _ ne ∙ k.empty);
    }

    pub slot_other : (k : Hold) → Holds s.slots k → Holds t.slots k
    slot_other k held = subst (λ z. Holds z k) (sym i.slots) (holds-other s.slots slot _ k (held_apart s.slots k slot held free) held)

    pub slot_other_id : (k : Hold) → Holds s.slots k → id_in t.slots k ≡ id_in s.slots k
    slot_other_id k held = ap (λ z. id_in z k) i.slots ∙ id-other s.slots slot _ k (held_apart s.slots k slot held free)

    -- a release gives the slots back
    pub slot_released : (u v : Seat N) → u.slots ≡ t.slots → Releases u h v → v.slots ≡ s.slots
    slot_released u v same w = w.slots ∙ (ap (λ z. slice_set z h.slot None) same ∙ given-back s.slots t.slots slot id h free.empty i.at i.slots)

  -- a once linked node isn't the fresh one
  pub linked_not_fresh : (n : HeapNumbers) (s : Seat N) (id : ℕ) → ((i : ℕ) → s.fresh ≡ Some i → IsUntouched s.agent (heap_of n s) i)
      → IsLinkedNode (heap_of n s) id → s.fresh ≢ Some id
  linked_not_fresh n s id untouched l = λ e.
      let u = untouched id e in
      let both : Some u.node ≡ Some l.node = sym u.there ∙ l.there in
      let same : u.node ≡ l.node = cc in
      let bad : true ≡ false = sym l.linked ∙ (ap (λ (x : Node). x.linked) (sym same) ∙ u.unlinked) in
      cc

-- the fresh node stays fresh where another is linked or released
pub unless_other : (fresh : Option ℕ) (id : ℕ) → fresh ≢ Some id → unless_node fresh (Some id) ≡ fresh
unless_other None id ne = refl
unless_other (Some i) id ne = rw (ne_eqb id i (λ e. ne (ap (λ (x : ℕ). Some x) (sym e)))) refl

module _ {N : Type 0} where
  pub release_fresh : (n : HeapNumbers) (u v : Seat N) (h : Hold) → ((i : ℕ) → u.fresh ≡ Some i → IsUntouched u.agent (heap_of n u) i)
      → IsLinkedNode (heap_of n u) (id_in u.slots h)
      → Releases u h v → v.fresh ≡ u.fresh
  release_fresh n u v h untouched l w = w.fresh ∙ unless_other u.fresh (id_in u.slots h) (linked_not_fresh n u (id_in u.slots h) untouched l)

  -- a swing that missed leaves the fresh node
  pub missed_fresh : {at : At} {from to : Want} {noted : Option N} {s t : Seat N} {done : Bool} → Swings at from to noted s done t → done ≡ false
      → t.fresh ≡ s.fresh
  missed_fresh {to = to} {s = s} {t = t} w is = subst (λ (b : Bool). t.fresh ≡ (if b then unless_node s.fresh (link_in s.slots to).to else s.fresh)) is w.fresh

-- what a call's events leave, where the discipline allows them
module _ {N : Type 0} (n : HeapNumbers) (holds : List (Event N) → Type 0) (may : List (Event N) → Event N → Type 0)
    (keeps : (es : List (Event N)) (e : Event N) → holds es → may es e → holds (es ++ e ∷ []))
  where
    -- where no other agent steps, what follows from the own events, wherever they stand, holds of the heap
    pub alone_holds : (P : Heap → Type 0) (s t : Seat N) (own : List (Event N)) (p : Puts s own t) → holds s.seen → AllAllowed may [] t.seen
        → ((es : List (Event N)) → holds es → AllAllowed may es own → P (run_heap n (es ++ own)))
        → AllOwn s.agent (from_own s.agent p.part) → P (heap_of n t)
    alone_holds P s t own p k all_t told alone =
        let b = begins_own s.agent p.part in
        let is = b.is ∙ ap (λ z. b.before ++ z) (alone_own s.agent p.part own p.own_is alone) in
        let whole = subst (λ z. AllAllowed may s.seen z) is (part_allowed may s t own p all_t) in
        let first = allowed-left may s.seen b.before own whole in
        let there = told (s.seen ++ b.before) (stays may holds keeps s.seen b.before k first) (allowed-right may s.seen b.before own whole) in
        subst (λ z. P (run_heap n z)) (append_assoc s.seen b.before own ∙ (ap (λ z. s.seen ++ z) (sym is) ∙ sym p.is)) there

    -- the fresh node stays the pass's own, changed by its own events alone
    pub own_node_puts : (fits : (es : List (Event N)) (e : Event N) → holds es → may es e → FitsAfter n es e)
        → (moves : (es : List (Event N)) (e : Event N) → holds es → may es e → MovesLinked e.act (run_heap n es))
        → (s t : Seat N) (own : List (Event N)) (p : Puts s own t) → holds s.seen → AllAllowed may [] t.seen
        → (id : ℕ) (x : Node) → IsOwnNode n s.agent id s.seen x → list_any (λ e. points_to e.act id) own ≡ false
        → IsOwnNode n s.agent id t.seen (touched_by id own x)
    own_node_puts fits moves s t own p k all id x o away =
        let r = own_node_told n holds may keeps fits moves s.agent id s.seen p.part x k (part_allowed may s t own p all) o (rw p.own_is away) in
        subst (λ (es : List (Event N)). IsOwnNode n s.agent id es (touched_by id own x)) (sym p.is)
        (subst (λ (es : List (Event N)). IsOwnNode n s.agent id (s.seen ++ p.part) (touched_by id es x)) p.own_is r)
