-- The nodes that a search has in hand, and that they are let go.
use Rattle.std.proofs.Common.{List, None, Option, Some, [], ap, arith, subst, suc, sym, zero, ℕ, ◌<◌, ◌∙◌, ◌∷◌, ◌≡◌, ◌≢◌, ◌≤◌}
use Rattle.orc_heap.proofs.Calls.{Puts-trans}
use Rattle.orc_heap.proofs.Hands.{hand_held, hands_done, hands_drop, hands_none, hands_swap, hands_with_none, holds_of}
use Rattle.orc_heap.proofs.Pieces.{linked_not_fresh, unless_other}
use Rattle.orc_heap.proofs.SingleActs.{linked_node}
use Rattle.orc_heap.specs.Allowed.{AllAllowed, IsLinkedNode}
use Rattle.orc_heap.specs.Calls.{Releases, unless_node}
use Rattle.orc_heap.specs.Hands.{Hand, Hands, IsApart, IsApartOf, IsHeldApart, hand}
use Rattle.orc_heap.specs.OwnEvents.{Puts}
use Rattle.orc_heap.specs.Seats.{IsUntouched, Seat, heap_of}
use Rattle.orc_heap.specs.Slots.{Hold, IsFree, Slots}
use Rattle.orc_heap.specs.declared.events.Event.{Event}
use Rattle.orc_heap.specs.declared.events.Link.{Link}
use Rattle.orc_heap.specs.declared.events.Place.{Place}
use Rattle.orc_ordered_chains.specs.Chains.{FollowsOn, IsAbove, IsRun}
use Rattle.orc_ordered_chains.proofs.Acts.{rank_linked}
use Rattle.orc_ordered_search.specs.Reading.{Ordering}
use Rattle.orc_ordered_search.specs.Searches.{AllGone, BeginsRun, FindsAbsent, FindsPresent, HandIds, HasRoom, HoldsIfAny, InHand, IsLinkedIfAny, LeadsOver, LetsGo, NextFollows, Stops, left_place, node_of, slot_in}
use Rattle.orc_ordered_search.proofs.Quiets.{linked_on}

-- what is linked isn't fresh
abbrev pub FreshIs : {N : Type 0} → Ordering N → Seat N → Type 0
FreshIs ord s = (i : ℕ) → s.fresh ≡ Some i → IsUntouched s.agent (heap_of ord.reading.numbers s) i

pub release_goes : {N : Type 0} (h : Hold) (s t : Seat N) → Releases s h t → LetsGo (Some h) s t
release_goes h s t r = record { slots = r.slots; fresh = r.fresh; puts = r.puts }

pub goes_hands : {N : Type 0} (s : Slots) (t u : Seat N) (node : Option Hold) (id : ℕ) (hs : List Hand) → LetsGo node t u → Hands s t.slots (hand node id ∷ hs)
    → Hands s u.slots hs
goes_hands s t u None id hs g k = hands_none s u.slots hs id (subst (λ (z : Slots). Hands s z (hand None id ∷ hs)) (sym g.slots) k)
goes_hands s t u (Some h) id hs g k = hands_drop s t.slots u.slots hs h id k g.slots

pub goes_fresh : {N : Type 0} (ord : Ordering N) (s : Slots) (t u : Seat N) (node : Option Hold) (id : ℕ) (hs : List Hand) → FreshIs ord t → LetsGo node t u
    → Hands s t.slots (hand node id ∷ hs) → IsLinkedIfAny ord.reading t node id → u.fresh ≡ t.fresh
goes_fresh {N} ord s t u None id hs fresh g k l = g.fresh
goes_fresh {N} ord s t u (Some h) id hs fresh g k l =
    let (held, is) = holds_of t.slots h id (hand_held s t.slots hs h id k) in
    g.fresh ∙ (ap (λ (x : ℕ). unless_node t.fresh (Some x)) is ∙ unless_other t.fresh id (linked_not_fresh ord.reading.numbers t id fresh l))

held_any : (before after : Slots) (o : Option Hold) (id : ℕ) (hs : List Hand) → IsHeldApart before after o id hs → HoldsIfAny after o
held_any before after None id hs k = tt
held_any before after (Some h) id hs k = (holds_of after h id k.0).0

pub first_held : (before after : Slots) (o : Option Hold) (id : ℕ) (hs : List Hand) → Hands before after (hand o id ∷ hs) → HoldsIfAny after o
first_held before after o id hs k = held_any before after o id hs k.held.0

pub second_held : (before after : Slots) (x : Hand) (o : Option Hold) (id : ℕ) (hs : List Hand) → Hands before after (x ∷ hand o id ∷ hs) → HoldsIfAny
    after o
second_held before after x o id hs k = held_any before after o id hs k.held.1.0

pub third_held : (before after : Slots) (x y : Hand) (o : Option Hold) (id : ℕ) (hs : List Hand) → Hands before after (x ∷ y ∷ hand o id ∷ hs)
    → HoldsIfAny after o
third_held before after x y o id hs k = held_any before after o id hs k.held.1.1.0

pub fourth_held : (before after : Slots) (x y z : Hand) (o : Option Hold) (id : ℕ) (hs : List Hand) → Hands before after (x ∷ y ∷ z ∷ hand o id ∷ hs)
    → HoldsIfAny after o
fourth_held before after x y z o id hs k = held_any before after o id hs k.held.1.1.1.0

-- the nodes that a search names are once linked

pub left_linked : {N : Type 0} (ord : Ordering N) (t : Seat N) (start : Place) (wanted : ℕ) (left : Option Hold) (id : ℕ)
    → FollowsOn ord.reading.order (heap_of ord.reading.numbers t) (left_place (ord.reading.order.root wanted) left id) wanted → IsLinkedIfAny ord.reading t left id
left_linked {N} ord t start wanted None id f = tt
left_linked {N} ord t start wanted (Some h) id (low, own, less, same) = rank_linked ord.reading.order (heap_of ord.reading.numbers t) id low own

pub first_linked : {N : Type 0} (ord : Ordering N) (t : Seat N) (first : Option Hold) (id : ℕ) (from : Link) (over : List ℕ) (to : Option ℕ)
    → BeginsRun first id over → IsRun (heap_of ord.reading.numbers t) from over to → IsLinkedIfAny ord.reading t first id
first_linked {N} ord t None id from over to b run = tt
first_linked {N} ord t (Some h) id from over to (others, is) run = in_run (subst (λ z. IsRun (heap_of ord.reading.numbers t) from z to) is run)
  where
    in_run : IsRun (heap_of ord.reading.numbers t) from (id ∷ others) to → IsLinkedNode (heap_of ord.reading.numbers t) id
    in_run (to_is, next, own, mark, rest) = linked_node (heap_of ord.reading.numbers t) id next own

pub next_linked : {N : Type 0} (ord : Ordering N) (t : Seat N) (next : Option Hold) (id next_id : ℕ) → NextFollows ord.reading id (node_of next next_id) t
    → IsLinkedIfAny ord.reading t next next_id
next_linked {N} ord t None id next_id f = tt
next_linked {N} ord t (Some h) id next_id (key, own, follows) = rank_linked ord.reading.order (heap_of ord.reading.numbers t) next_id key own

pub right_linked : {N : Type 0} (ord : Ordering N) (t : Seat N) (right : Option Hold) (id key : ℕ) → IsAbove ord.reading.order (heap_of ord.reading.numbers t) (node_of right id) key
    → IsLinkedIfAny ord.reading t right id
right_linked {N} ord t None id key a = tt
right_linked {N} ord t (Some h) id key (high, own, less) = rank_linked ord.reading.order (heap_of ord.reading.numbers t) id high own

-- so they can be let go

pub three_hands : (s t : Slots) (x y z : Hand) → Hands s t (x ∷ y ∷ z ∷ []) → Hands s t (x ∷ y ∷ z ∷ hand None 0 ∷ [])
three_hands s t x y z k =
    let o = hand None 0 in
    let a = hands_with_none s t (x ∷ y ∷ z ∷ []) 0 k in
    let b = hands_swap s t [] o x (y ∷ z ∷ []) a in
    let c = hands_swap s t (x ∷ []) o y (z ∷ []) b in
    hands_swap s t (x ∷ y ∷ []) o z [] c

-- the left place, the run behind it, and what stands behind that
pub leads_hand : {N : Type 0} (ord : Ordering N) {start : Place} {key : ℕ} {left first : Option Hold} {to : Option ℕ} {s t : Seat N}
    {own part : List (Event N)} {slots : Slots} (ids : HandIds) → LeadsOver ord.reading start key left first ids.left_id ids.first_id to s own t part
    → (at next : Option Hold) → Hands slots t.slots (hand left ids.left_id ∷ hand first ids.first_id ∷ hand at ids.id ∷ hand next ids.next_id ∷ [])
    → IsLinkedIfAny ord.reading t at ids.id → IsLinkedIfAny ord.reading t next ids.next_id → InHand ord.reading slots left first at next t
leads_hand ord {start} {key} {left} {first} {to} {s} {t} ids l at next hands at_linked linked = record {
  ids = ids;
  hands = hands;
  left_linked = left_linked ord t start key left ids.left_id l.below;
  first_linked = first_linked ord t first ids.first_id l.from l.over to l.begins l.run;
  linked = at_linked;
  next_linked = linked;
}

module _ {N : Type 0} (ord : Ordering N) (start : Place) (key passed : ℕ) (left first : Option Hold) (s t : Seat N) where
  pub absent_hand : (right : Option Hold) → FindsAbsent ord.reading start key passed left first right s t → InHand ord.reading s.slots left first right None t
  absent_hand right f =
      leads_hand ord (record { left_id = f.left_id; first_id = f.first_id; id = f.right_id; next_id = 0 }) f.behind.leads right None
      (three_hands s.slots t.slots (hand left f.left_id) (hand first f.first_id) (hand right f.right_id) f.hands)
      (right_linked ord t right f.right_id key f.above) tt

  pub present_hand : (node : Hold) (next : Option Hold) → FindsPresent ord.reading start key passed left first node next s t → InHand ord.reading s.slots left first (Some node) next t
  present_hand node next f =
      leads_hand ord f.ids f.behind.leads (Some node) next f.hands
      (rank_linked ord.reading.order (heap_of ord.reading.numbers t) f.id key f.is_of.has_key) (next_linked ord t next f.id f.next_id f.follows)

  pub stop_hand : (at : Hold) → Stops ord.reading start key left first at s t → InHand ord.reading s.slots left first (Some at) None t
  stop_hand at w =
      leads_hand ord (record { left_id = w.left_id; first_id = w.first_id; id = w.id; next_id = 0 }) w.behind.leads (Some at) None
      (three_hands s.slots t.slots (hand left w.left_id) (hand first w.first_id) (hand (Some at) w.id) w.hands)
      (rank_linked ord.reading.order (heap_of ord.reading.numbers t) w.id w.key w.has_key) tt

-- they stay in hand over events
pub in_hand_on : {N : Type 0} (ord : Ordering N) (slots : Slots) (left first at next : Option Hold) (t u : Seat N) (ys : List (Event N)) → Puts t ys u
    → AllAllowed ord.may [] u.seen → u.slots ≡ t.slots
    → InHand ord.reading slots left first at next t → InHand ord.reading slots left first at next u
in_hand_on {N} ord slots left first at next t u ys p all same h = record {
  ids = h.ids;
  hands = subst (λ (z : Slots). Hands slots z (hand left h.left_id ∷ hand first h.first_id ∷ hand at h.id ∷ hand next h.next_id ∷ [])) (sym same) h.hands;
  left_linked = linked_on ord t u ys p all left h.left_id h.left_linked;
  first_linked = linked_on ord t u ys p all first h.first_id h.first_linked;
  linked = linked_on ord t u ys p all at h.id h.linked;
  next_linked = linked_on ord t u ys p all next h.next_id h.next_linked;
}

-- four nodes are let go

module _ {N : Type 0} (ord : Ordering N) (s : Slots) (t u v x y : Seat N) (a b c e : Option Hold) (w : InHand ord.reading s a b c e t) (ga : LetsGo a t u)
    (gb : LetsGo b u v) (gc : LetsGo c v x) (ge : LetsGo e x y) where
  h2 : Hand
  h2 = hand b w.first_id

  h3 : Hand
  h3 = hand c w.id

  h4 : Hand
  h4 = hand e w.next_id

  pub second_hands : Hands s u.slots (hand b w.first_id ∷ hand c w.id ∷ hand e w.next_id ∷ [])
  second_hands = goes_hands s t u a w.left_id (hand b w.first_id ∷ hand c w.id ∷ hand e w.next_id ∷ []) ga w.hands

  pub third_hands : Hands s v.slots (hand c w.id ∷ hand e w.next_id ∷ [])
  third_hands = goes_hands s u v b w.first_id (hand c w.id ∷ hand e w.next_id ∷ []) gb second_hands

  pub fourth_hands : Hands s x.slots (hand e w.next_id ∷ [])
  fourth_hands = goes_hands s v x c w.id (hand e w.next_id ∷ []) gc third_hands

  pub four_go : FreshIs ord t → FreshIs ord u → FreshIs ord v → FreshIs ord x → AllAllowed ord.may [] u.seen → AllAllowed ord.may [] v.seen
      → AllAllowed ord.may [] x.seen → AllGone s t y
  four_go ft fu fv fx all_u all_v all_x =
      let lb = linked_on ord t u [] ga.puts all_u b w.first_id w.first_linked in
      let lc = linked_on ord u v [] gb.puts all_v c w.id (linked_on ord t u [] ga.puts all_u c w.id w.linked) in
      let le = linked_on ord v x [] gc.puts all_x e w.next_id (linked_on ord u v [] gb.puts all_v e w.next_id
      (linked_on ord t u [] ga.puts all_u e w.next_id w.next_linked)) in
      let same_u = goes_fresh ord s t u a w.left_id (hand b w.first_id ∷ hand c w.id ∷ hand e w.next_id ∷ []) ft ga w.hands w.left_linked in
      let same_v = goes_fresh ord s u v b w.first_id (hand c w.id ∷ hand e w.next_id ∷ []) fu gb second_hands lb in
      let same_x = goes_fresh ord s v x c w.id (hand e w.next_id ∷ []) fv gc third_hands lc in
      let same_y = goes_fresh ord s x y e w.next_id [] fx ge fourth_hands le in
      record {
        slots_are = hands_done s y.slots (goes_hands s x y e w.next_id [] ge fourth_hands);
        fresh = same_y ∙ (same_x ∙ (same_v ∙ same_u));
        puts = Puts-trans t v y [] [] (Puts-trans t u v [] [] ga.puts gb.puts) (Puts-trans v x y [] [] gc.puts ge.puts);
      }

-- the free slot

apart_in : (slot : ℕ) (o : Option Hold) → slot ≢ slot_in o → IsApartOf slot o
apart_in slot None ne = tt
apart_in slot (Some h) ne = ne

pub walk_apart : (left first : Option Hold) (at : Hold) (left_id first_id id slot : ℕ) → slot ≢ slot_in left → slot ≢ slot_in first → slot ≢ at.slot
    → IsApart slot (hand left left_id ∷ hand first first_id ∷ hand (Some at) id ∷ [])
walk_apart left first at left_id first_id id slot a b c = (apart_in slot left a, (apart_in slot first b, (c, tt)))

pub room_at : (slots : Slots) (slot : ℕ) → HasRoom slots → 2 ≤ slot → slot < 6 → IsFree slots slot
room_at slots zero room low high = absurd (omega (arith, low))
room_at slots (suc zero) room low high = absurd (omega (arith, low))
room_at slots (suc (suc zero)) room low high = room.two
room_at slots (suc (suc (suc zero))) room low high = room.three
room_at slots (suc (suc (suc (suc zero)))) room low high = room.four
room_at slots (suc (suc (suc (suc (suc zero))))) room low high = room.five
room_at slots (suc (suc (suc (suc (suc (suc k)))))) room low high = absurd (omega (arith, high))
