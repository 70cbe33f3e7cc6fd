-- What the disciplines for tests allow, and what becomes of a fresh node.
use Rattle.std.proofs.Common.{Bool, List, None, Option, Some, false, refl, true, ℕ, ◌++◌, ◌∙◌, ◌≡◌}
use Rattle.std.proofs.lemmas.Bool.{eq-eqb}
use Rattle.std.specs.Prelude.{if◌then◌else◌}
use Rattle.orc_plain_domain.specs.Twins.{TwinsMay}
use Rattle.orc_heap.proofs.Known.{known-later}
use Rattle.orc_heap.proofs.Pieces.{InSlot, slot_id, slot_released}
use Rattle.orc_heap.specs.Acts.{IsKnown, IsTarget}
use Rattle.orc_heap.specs.Allowed.{Later}
use Rattle.orc_heap.specs.AnyFit.{AnyFit}
use Rattle.orc_heap.specs.Calls.{Gives, MayMove, Releases, unless_node}
use Rattle.orc_heap.specs.Heap.{HeapNumbers}
use Rattle.orc_heap.specs.Journals.{run_heap}
use Rattle.orc_heap.specs.Seats.{HoldsWant, Seat, link_in}
use Rattle.orc_heap.specs.Slots.{Hold, Holds, IsFree, id_in}
use Rattle.orc_heap.specs.declared.events.Event.{Event}
use Rattle.orc_heap.specs.declared.holds.At.TheVariants.{Root as AtRoot}
use Rattle.orc_heap.specs.declared.holds.Want.TheVariants.{Node as WantNode, Null as WantNull}
use Rattle.orc_heap.specs.declared.holds.Want.{Want}

abbrev KnownAt : {N : Type 0} → HeapNumbers → Seat N → Type 0
KnownAt n s = (h : Hold) → Holds s.slots h → IsKnown s.agent (run_heap n s.seen) (id_in s.slots h)

-- what is held stays a target for the pass's agent
target_later : {N : Type 0} (n : HeapNumbers) (may : List (Event N) → Event N → Type 0) (s : Seat N) → KnownAt n s → (to : Want) → HoldsWant s.slots to
    → (more : List (Event N)) → Later may s.agent s.seen more → IsTarget s.agent (run_heap n (s.seen ++ more)) (link_in s.slots to).to
target_later n may s known (WantNull mark) held more later = tt
target_later n may s known (WantNode h mark) held more later = known-later n may s.agent (id_in s.slots h.now) s.seen more later.allowed (known h.now held)

module _ {N : Type 0} (n : HeapNumbers) (s : Seat N) (known : KnownAt n s) where
  -- a root may be swung, under the discipline with two links
  pub may_swing : (root : ℕ) (from to : Want) → HoldsWant s.slots to → MayMove (TwinsMay n) n s (AtRoot root) from to None
  may_swing root from to held more later there =
      record { fits = (there, target_later n (TwinsMay n) s known to held more later); of_root = tt; plain = refl }

  -- and where whatever fits is allowed
  pub any_swing : (root : ℕ) (from to : Want) → HoldsWant s.slots to → MayMove (AnyFit n) n s (AtRoot root) from to None
  any_swing root from to held more later there = ((there, target_later n (AnyFit n) s known to held more later), tt)

-- what is fresh after a swing
abbrev swung : Bool → Option ℕ → Option ℕ → Option ℕ
swung done fresh to = if done then unless_node fresh to else fresh

-- a fresh node that maybe was linked and unlinked, and then released, is fresh no more
none_fresh : (linked unlinked : Bool) (id : ℕ) → unless_node (swung unlinked (swung linked (Some id) (Some id)) None) (Some id) ≡ None
none_fresh true true id = rw (eq-eqb id id refl) refl
none_fresh true false id = rw (eq-eqb id id refl) refl
none_fresh false true id = rw (eq-eqb id id refl) refl
none_fresh false false id = rw (eq-eqb id id refl) refl

-- a node that was given, maybe linked, maybe unlinked, and released: the slots are as before, and no node is fresh
module _ {N : Type 0} {n : HeapNumbers} {slot first second : ℕ} (h : Hold) (s t a b e v : Seat N) (free : IsFree s.slots slot)
    (g : Gives n slot first second s h t) (aimed_slots : a.slots ≡ t.slots) (linked_slots : b.slots ≡ a.slots) (unlinked_slots : e.slots ≡ b.slots)
    (w : Releases e h v)
  where
    same : e.slots ≡ t.slots
    same = unlinked_slots ∙ (linked_slots ∙ aimed_slots)

    in_slot : InSlot s slot g.id h t
    in_slot = record { at = g.slot_is; slots = g.slots }

    pub slots_back : v.slots ≡ s.slots
    slots_back = slot_released s t slot g.id h free in_slot e v same w

    pub none_left : (linked unlinked : Bool) → a.fresh ≡ t.fresh → b.fresh ≡ swung linked a.fresh (Some (id_in a.slots h))
        → e.fresh ≡ swung unlinked b.fresh None → v.fresh ≡ None
    none_left linked unlinked aimed_fresh linked_fresh unlinked_fresh =
        let id = slot_id s t slot g.id h free in_slot in
        w.fresh ∙ rw (unlinked_fresh, same, linked_fresh, aimed_slots, aimed_fresh, g.fresh, id) (none_fresh linked unlinked g.id)
