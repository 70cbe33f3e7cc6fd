-- Two looks, two values, two releases: what is held on the way, what was read, and that the stack stays.
use Rattle.std.proofs.Common.{[], ap, arith, refl, subst, sym, ℕ, ◌∙◌, ◌≡◌, ◌≢◌}
use Rattle.std.specs.List.{slice_get, slice_set}
use Rattle.std.specs.Prelude.{None, Option, Some}
use Rattle.orc_heap.proofs.ByAnswer.{unless_fresh}
use Rattle.orc_heap.proofs.Slots.{get-set_other, given-back, holds-other, holds-there, id-other, id-there}
use Rattle.orc_heap.specs.Allowed.{AllAllowed}
use Rattle.orc_heap.specs.Calls.{ReadsValue, Releases}
use Rattle.orc_heap.specs.Heap.{HeapNumbers}
use Rattle.orc_heap.specs.Seats.{Seat, heap_of}
use Rattle.orc_heap.specs.Slots.{Hold, Holds, IsFree, Slots, id_in}
use Rattle.orc_heap.specs.declared.events.Place.{Place}
use Rattle.orc_heap.specs.declared.events.Place.TheVariants.{Next}
use Rattle.links_example.specs.OwnRoots.{OwnRootsMay}
use Rattle.links_example.specs.Stacks.{FindsNode, HasNode, HasTwo, StackLeadsTo, StackStays, stack_node}
use Rattle.links_example.proofs.Stays.{nodes_stay, top_stays}

pub StackStays-trans : (n : HeapNumbers) (s t u : Seat ℕ) → StackStays n s t → StackStays n t u → StackStays n s u
StackStays-trans n s t u p q = record {
  agent = q.agent ∙ p.agent;
  slots = q.slots ∙ p.slots;
  fresh = q.fresh ∙ p.fresh;
  top = λ to k. q.top to (p.top to k);
  nodes = λ id v b k. q.nodes id v b (p.nodes id v b k);
}

-- what was found is held, until it is released
module _ {n : HeapNumbers} {place : Place} {slot : ℕ} {s : Seat ℕ} {h : Hold} {t : Seat ℕ} (free : IsFree s.slots slot) (f : FindsNode n place slot s h t) where
  pub found_holds : Holds t.slots h
  found_holds = holds-there s.slots t.slots slot f.id h free.empty f.slot_is f.slots

  pub found_kept : {slots : Slots} → slots ≡ t.slots → Holds slots h
  found_kept same = subst (λ z. Holds z h) (sym same) found_holds

  pub found_id : id_in t.slots h ≡ f.id
  found_id = id-there s.slots t.slots slot f.id h free.empty f.slot_is f.slots

  -- another free slot stays free
  pub found_free : (other : ℕ) → other ≢ slot → IsFree s.slots other → IsFree t.slots other
  found_free other ne k = record {
    above = k.above;
    below = k.below;
    empty = ap (λ z. slice_get z other) f.slots ∙ (get-set_other s.slots slot other _ ne ∙ k.empty);
  }

  -- after a release of it, all is as it was
  pub found_released : {u v : Seat ℕ} → AllAllowed (OwnRootsMay n) [] v.seen → StackStays n t u → s.fresh ≡ None → Releases u h v → StackStays n s v
  found_released {u} {v} all k none w = record {
    agent = w.puts.agent ∙ (k.agent ∙ f.agent);
    slots = w.slots ∙ (ap (λ z. slice_set z h.slot None) k.slots ∙ given-back s.slots t.slots slot f.id h free.empty f.slot_is f.slots);
    fresh = w.fresh ∙ (unless_fresh u.fresh _ (k.fresh ∙ (f.fresh ∙ none)) ∙ sym none);
    top = λ to l. top_stays n u v [] all w.puts refl to (k.top to (f.top to l));
    nodes = λ id v2 b l. nodes_stay n u v [] all w.puts id v2 b (k.nodes id v2 b (f.nodes id v2 b l));
  }

  -- what was held in another slot stays held
  pub found_other : (k : Hold) → k.slot ≢ slot → Holds s.slots k → Holds t.slots k
  found_other k ne held = subst (λ z. Holds z k) (sym f.slots) (holds-other s.slots slot _ k ne held)

  pub found_other_id : (k : Hold) → k.slot ≢ slot → id_in t.slots k ≡ id_in s.slots k
  found_other_id k ne = ap (λ z. id_in z k) f.slots ∙ id-other s.slots slot _ k ne

-- the value of a node of the stack
pub value_read : (n : HeapNumbers) (t : Seat ℕ) (id value result : ℕ) (below : Option ℕ) → HasNode n t id value below
    → ReadsValue (heap_of n t) id 0 result → result ≡ value
value_read n t id value result below node r =
    let both : Some r.node ≡ Some (stack_node t.agent value below) = sym r.there ∙ node in
    let same : r.node ≡ stack_node t.agent value below = cc in
    r.is value (ap (λ x. x.first) same)

-- two looks, the second one at the link of the node that the first one found
pub record FindsTwo (n : HeapNumbers) (root : Place) (upper lower : Hold) (s0 s1 s2 : Seat ℕ) : Type 0 where
  pub free : IsFree s0.slots 3
  pub free_lower : IsFree s1.slots 4
  pub one : FindsNode n root 3 s0 upper s1
  pub two : FindsNode n (Next (id_in s1.slots upper)) 4 s1 lower s2

pub two_found : {n : HeapNumbers} {root : Place} {upper lower : Hold} {s0 s1 s2 : Seat ℕ} → IsFree s0.slots 3 → IsFree s0.slots 4
    → FindsNode n root 3 s0 upper s1 → FindsNode n (Next (id_in s1.slots upper)) 4 s1 lower s2 → FindsTwo n root upper lower s0 s1 s2
two_found free free_other one two =
    record { free = free; free_lower = found_free free one 4 (λ e. omega (arith, e)) free_other; one = one; two = two }

module _ {n : HeapNumbers} {root : Place} {upper lower : Hold} {s0 s1 s2 : Seat ℕ} (f : FindsTwo n root upper lower s0 s1 s2) where
  pub upper_holds : Holds s2.slots upper
  upper_holds = found_other f.free_lower f.two upper (λ e. omega (arith, e, f.one.slot_is)) (found_holds f.free f.one)

  -- the release of the lower node
  pub lower_released : {s4 s5 : Seat ℕ} → s0.fresh ≡ None → StackStays n s2 s4 → AllAllowed (OwnRootsMay n) [] s5.seen → Releases s4 lower s5
      → StackStays n s1 s5
  lower_released fresh stays all w = found_released f.free_lower f.two all stays (f.one.fresh ∙ fresh) w

  -- a value of each
  pub pair_read : {s3 s4 : Seat ℕ} → StackStays n s2 s3 → StackStays n s2 s4 → (a b first second : ℕ) (pair : HasTwo n s0 a b)
      → StackLeadsTo n s0 root pair.upper_id → ReadsValue (heap_of n s3) (id_in s2.slots upper) 0 first
      → ReadsValue (heap_of n s4) (id_in s3.slots lower) 0 second → first ≡ a × second ≡ b
  pair_read {s3} {s4} v1 v2 a b first second pair leads r1 r2 =
      let up = pair.upper_id in
      let low = pair.lower_id in
      let up_is : id_in s1.slots upper ≡ up = found_id f.free f.one ∙ f.one.is up leads in
      let at_up : HasNode n s1 up a (Some low) = f.one.nodes up a (Some low) pair.upper_node in
      let at_low : HasNode n s2 low b None = f.two.nodes low b None (f.one.nodes low b None pair.lower_node) in
      let low_is : id_in s2.slots lower ≡ low =
      found_id f.free_lower f.two ∙ f.two.is low (a, subst (λ i. HasNode n s1 i a (Some low)) (sym up_is) at_up) in
      let up_stays : id_in s2.slots upper ≡ up = found_other_id f.free_lower f.two upper (λ e. omega (arith, e, f.one.slot_is)) ∙ up_is in
      let low_stays : id_in s3.slots lower ≡ low = ap (λ z. id_in z lower) v1.slots ∙ low_is in (
        value_read n s3 _ a first (Some low)
            (subst (λ i. HasNode n s3 i a (Some low)) (sym up_stays) (v1.nodes up a (Some low) (f.two.nodes up a (Some low) at_up))) r1,
        value_read n s4 _ b second None (subst (λ i. HasNode n s4 i b None) (sym low_stays) (v2.nodes low b None at_low)) r2,
      )
