-- Slots of which one is set.
use Rattle.std.proofs.Common.{List, [], ap, refl, suc, sym, zero, ℕ, ◌∙◌, ◌∷◌, ◌≡◌, ◌≢◌}
use Rattle.std.specs.List.{slice_get, slice_set}
use Rattle.std.specs.Prelude.{None, Option, Some}
use Rattle.orc_heap.specs.Slots.{Hold, Holds, IsFree, SlotNode, Slots, id_in, id_of}

-- the slot that was set
pub get-set_same : {A : Type 0} (xs : List A) (i : ℕ) (x y : A) → slice_get xs i ≡ Some x → slice_get (slice_set xs i y) i ≡ Some y
get-set_same (z ∷ xs) zero x y e = refl
get-set_same (z ∷ xs) (suc i) x y e = get-set_same xs i x y e
get-set_same [] i x y e = cc

-- another slot
pub get-set_other : {A : Type 0} (xs : List A) (i j : ℕ) (y : A) → j ≢ i → slice_get (slice_set xs i y) j ≡ slice_get xs j
get-set_other [] i j y ne = refl
get-set_other (z ∷ xs) zero zero y ne = absurd (ne refl)
get-set_other (z ∷ xs) zero (suc j) y ne = refl
get-set_other (z ∷ xs) (suc i) zero y ne = refl
get-set_other (z ∷ xs) (suc i) (suc j) y ne = get-set_other xs i j y (λ e. ne (ap suc e))

-- a slot that is set back
pub set-back : {A : Type 0} (xs : List A) (i : ℕ) (x y : A) → slice_get xs i ≡ Some x → slice_set (slice_set xs i y) i x ≡ xs
set-back (z ∷ xs) zero x y e = let same : z ≡ x = cc in ap (λ v. v ∷ xs) (sym same)
set-back (z ∷ xs) (suc i) x y e = ap (λ v. z ∷ v) (set-back xs i x y e)
set-back [] i x y e = cc

-- what is put into a free slot is held there
module _ (old new : Slots) (slot id : ℕ) (h : Hold) (free : slice_get old slot ≡ Some None) (at : h.slot ≡ slot)
    (is : new ≡ slice_set old slot (Some (record { row = h.row; id = id })))
  where
    pub held-there : slice_get new h.slot ≡ Some (Some (record { row = h.row; id = id }))
    held-there = rw (is, at) (get-set_same old slot None (Some (record { row = h.row; id = id })) free)

    pub id-there : id_in new h ≡ id
    id-there = ap id_of held-there

    pub holds-there : Holds new h
    holds-there = rw id-there held-there

    -- and a release gives the slots back
    pub given-back : slice_set new h.slot None ≡ old
    given-back = rw (is, at) (set-back old slot None (Some (record { row = h.row; id = id })) free)

-- a slot that is held is another than a free one
pub held_apart : (slots : Slots) (h : Hold) (slot : ℕ) → Holds slots h → IsFree slots slot → h.slot ≢ slot
held_apart slots h slot held free = λ e. let both : ◌≡◌ {A = Option (Option SlotNode)} (Some (Some (record { row = h.row; id = id_in slots h })))
    (Some None) = sym held ∙ (ap (λ i. slice_get slots i) e ∙ free.empty) in cc

-- what another slot holds stays held
pub holds-other : (slots : Slots) (slot : ℕ) (x : Option SlotNode) (h : Hold) → h.slot ≢ slot → Holds slots h → Holds (slice_set slots slot x) h
holds-other slots slot x h ne held =
    let e = get-set_other slots slot h.slot x ne in
    let i : id_in (slice_set slots slot x) h ≡ id_in slots h = ap id_of e in
    rw i (e ∙ held)

pub id-other : (slots : Slots) (slot : ℕ) (x : Option SlotNode) (h : Hold) → h.slot ≢ slot → id_in (slice_set slots slot x) h ≡ id_in slots h
id-other slots slot x h ne = ap id_of (get-set_other slots slot h.slot x ne)
