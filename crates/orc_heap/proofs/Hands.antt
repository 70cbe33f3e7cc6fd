-- Nodes are taken in hand and let go.
use Rattle.std.proofs.Common.{Bool, List, None, Option, Some, [], ap, arith, false, length, refl, suc, sym, true, zero, ℕ, ◌++◌, ◌==◌, ◌∙◌, ◌∷◌, ◌≡◌, ◌≢◌}
use Rattle.std.proofs.lemmas.Bool.{eqb-false, eqb-true}
use Rattle.std.specs.List.{slice_get, slice_set}
use Rattle.orc_heap.proofs.Slots.{get-set_other, get-set_same}
use Rattle.orc_heap.specs.Slots.{Hold, Holds, IsFree, SlotNode, Slots, id_in, id_of}
use Rattle.orc_heap.specs.Hands.{AreHeld, Hand, Hands, HoldsId, IsApart, IsApartOf, IsHeldApart, hand}

pub holds_of : (slots : Slots) (h : Hold) (id : ℕ) → HoldsId slots h id → Holds slots h × (id_in slots h ≡ id)
holds_of slots h id e =
    let is : id_in slots h ≡ id = ap id_of e in
    (rw is e, is)

length-set : {A : Type 0} (xs : List A) (i : ℕ) (x : A) → length (slice_set xs i x) ≡ length xs
length-set [] i x = refl
length-set (y ∷ xs) zero x = refl
length-set (y ∷ xs) (suc i) x = ap suc (length-set xs i x)

held_other : (s t : Slots) (slot : ℕ) (x : Option SlotNode) (hs : List Hand) → IsApart slot hs → AreHeld s t hs → AreHeld s (slice_set t slot x) hs
held_other s t slot x [] apart held = tt
held_other s t slot x (y ∷ hs) apart held = (one y.hold apart.0 held.0, held_other s t slot x hs apart.1 held.1)
  where
    one : (o : Option Hold) → IsApartOf slot o → IsHeldApart s t o y.id hs → IsHeldApart s (slice_set t slot x) o y.id hs
    one None ne held = tt
    one (Some h) ne held = (get-set_other t slot h.slot x (λ e. ne (sym e)) ∙ held.0, held.1, held.2)

pub hands_take : (s t u : Slots) (hs : List Hand) (h : Hold) (id : ℕ) → Hands s t hs → IsApart h.slot hs → slice_get s h.slot ≡ Some None
    → u ≡ slice_set t h.slot (Some (record { row = h.row; id = id }))
    → Hands s u (hand (Some h) id ∷ hs)
hands_take s t u hs h id k apart free is =
    let node : Option SlotNode = Some (record { row = h.row; id = id }) in
    rw is (record {
      same_length = length-set t h.slot node ∙ k.same_length;
      others = λ slot a. get-set_other t h.slot slot node a.0 ∙ k.others slot a.1;
      held = ((get-set_same t h.slot None node (k.others h.slot apart ∙ free), free, apart), held_other s t h.slot node hs apart k.held);
    })

pub hands_drop : (s t u : Slots) (hs : List Hand) (h : Hold) (id : ℕ) → Hands s t (hand (Some h) id ∷ hs) → u ≡ slice_set t h.slot None → Hands s u hs
hands_drop s t u hs h id k is = rw is (record {
  same_length = length-set t h.slot None ∙ k.same_length;
  others = λ slot a. cases slot a (slot == h.slot) refl;
  held = held_other s t h.slot None hs k.held.0.2 k.held.1;
})
  where
    cases : (slot : ℕ) → IsApart slot hs → (b : Bool) → (slot == h.slot) ≡ b → slice_get (slice_set t h.slot None) slot ≡ slice_get s slot
    cases slot a true e =
        let same : slot ≡ h.slot = eqb-true slot h.slot e in
        rw same (get-set_same t h.slot (Some (record { row = h.row; id = id })) None k.held.0.0 ∙ sym k.held.0.1)
    cases slot a false e =
        let ne : slot ≢ h.slot = eqb-false slot h.slot e in
        get-set_other t h.slot slot None ne ∙ k.others slot (ne, a)

pub hands_none : (s t : Slots) (hs : List Hand) (id : ℕ) → Hands s t (hand None id ∷ hs) → Hands s t hs
hands_none s t hs id k = record { same_length = k.same_length; others = λ slot a. k.others slot (tt, a); held = k.held.1 }

pub hands_with_none : (s t : Slots) (hs : List Hand) (id : ℕ) → Hands s t hs → Hands s t (hand None id ∷ hs)
hands_with_none s t hs id k = record { same_length = k.same_length; others = λ slot a. k.others slot a.1; held = (tt, k.held) }

-- hands in another order

apart_swap : (slot : ℕ) (xs : List Hand) (x y : Hand) (ys : List Hand) → IsApart slot (xs ++ x ∷ y ∷ ys) → IsApart slot (xs ++ y ∷ x ∷ ys)
apart_swap slot [] x y ys a = (a.1.0, (a.0, a.1.1))
apart_swap slot (z ∷ xs) x y ys a = (a.0, apart_swap slot xs x y ys a.1)

held_swap : (s t : Slots) (xs : List Hand) (x y : Hand) (ys : List Hand) → AreHeld s t (xs ++ x ∷ y ∷ ys) → AreHeld s t (xs ++ y ∷ x ∷ ys)
held_swap s t [] x y ys held = (second x.hold y.hold held.0 held.1.0, (first x.hold held.0, held.1.1))
  where
    first : (o : Option Hold) → IsHeldApart s t o x.id (y ∷ ys) → IsHeldApart s t o x.id ys
    first None h = tt
    first (Some h) held = (held.0, held.1, held.2.1)

    apart : (o : Option Hold) (h : Hold) → IsHeldApart s t o x.id (hand (Some h) y.id ∷ ys) → IsApartOf h.slot o
    apart None h held = tt
    apart (Some k) h held = λ e. held.2.0 (sym e)

    second : (o q : Option Hold) → IsHeldApart s t o x.id (hand q y.id ∷ ys) → IsHeldApart s t q y.id ys → IsHeldApart s t q y.id (hand o x.id ∷ ys)
    second o None a b = tt
    second o (Some h) a b = (b.0, b.1, (apart o h a, b.2))
held_swap s t (z ∷ xs) x y ys held = (one z.hold held.0, held_swap s t xs x y ys held.1)
  where
    one : (o : Option Hold) → IsHeldApart s t o z.id (xs ++ x ∷ y ∷ ys) → IsHeldApart s t o z.id (xs ++ y ∷ x ∷ ys)
    one None h = tt
    one (Some h) held = (held.0, held.1, apart_swap h.slot xs x y ys held.2)

pub hands_swap : (s t : Slots) (xs : List Hand) (x y : Hand) (ys : List Hand) → Hands s t (xs ++ x ∷ y ∷ ys) → Hands s t (xs ++ y ∷ x ∷ ys)
hands_swap s t xs x y ys k =
    record { same_length = k.same_length; others = λ slot a. k.others slot (apart_swap slot xs y x ys a); held = held_swap s t xs x y ys k.held }

-- no hand is left

same_lists : {A : Type 0} (xs ys : List A) → length xs ≡ length ys → ((i : ℕ) → slice_get xs i ≡ slice_get ys i) → xs ≡ ys
same_lists [] [] len same = refl
same_lists [] (y ∷ ys) len same = absurd (omega (arith, len))
same_lists (x ∷ xs) [] len same = absurd (omega (arith, len))
same_lists (x ∷ xs) (y ∷ ys) len same =
    let first : Some x ≡ Some y = same 0 in
    let is : x ≡ y = cc in
    rw is (ap (λ z. y ∷ z) (same_lists xs ys (omega (arith, len)) (λ i. same (suc i))))

pub hands_done : (s t : Slots) → Hands s t [] → t ≡ s
hands_done s t k = same_lists t s k.same_length (λ i. k.others i tt)

-- the first hand is held
pub hand_held : (s t : Slots) (hs : List Hand) (h : Hold) (id : ℕ) → Hands s t (hand (Some h) id ∷ hs) → HoldsId t h id
hand_held s t hs h id k = k.held.0.0

-- a slot that was free still is, if it is no hand's
pub free_in : (s t : Slots) (hs : List Hand) (slot : ℕ) → Hands s t hs → IsApart slot hs → IsFree s slot → IsFree t slot
free_in s t hs slot k apart free = record { above = free.above; below = free.below; empty = k.others slot apart ∙ free.empty }
