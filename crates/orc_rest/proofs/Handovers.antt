-- What settling does to handover words, and what a fresh row's counter word is.
use Rattle.std.proofs.Common.{Bool, arith, cond, false, refl, sym, true, zero, ℕ, ◌%◌, ◌+◌, ◌/◌, ◌∙◌, ◌≡◌, ◌≢◌, suc}
use Rattle.std.proofs.lemmas.Bool.{eq-eqb, eqb-true, false≢true}
use Rattle.std.specs.Prelude.{◌&&◌, ◌==◌}
use Rattle.orc_core.proofs.Within.{and_both}
use Rattle.orc_core.specs.RecordParts.{is_empty, scanned, slot_of}
use Rattle.orc_core.specs.declared.ops.CounterUse.TheVariants.{Check}
use Rattle.orc_core.specs.declared.ops.Op.{Op}
use Rattle.orc_core.specs.declared.ops.Op.TheVariants.{CounterLoad, Fill as FillStep, Hand, LinkCas, LinkLoad, Read, TakeIn, LinkStore, HandoverLook}
use Rattle.orc_core.specs.declared.records.SlotUse.{SlotUse}
use Rattle.orc_core.specs.declared.records.SlotUse.TheVariants.{Empty, Held, Published}
use Rattle.orc_rest.specs.Work.{IsSettlingStep}
use Rattle.orc_sound.proofs.Facts.{LawfulStep}
use Rattle.orc_sound.proofs.World.{World, step_world}
use Rattle.orc_sound.specs.SoundParts.{slot_word}
use Rattle.orc_words.specs.Bounds.{Bounds}
use Rattle.orc_words.specs.declared.place.Word.TheVariants.{Handover, Slot}

empty_word : (s : SlotUse) → is_empty s ≡ true → slot_word s ≡ 0
empty_word Empty h = refl
empty_word (Published q) h = absurd (false≢true h)
empty_word (Held q) h = absurd (false≢true h)

named_slot : (n r : ℕ) → n ≡ 0 → n ≡ r + 1 → ⊥
named_slot n r e f = omega arith

-- the handover word beside an empty slot of the agent that settles, if it is 0, stays 0
pub own_handover : (b : Bounds) (z : World) (a : ℕ) (op : Op) (k : ℕ) → LawfulStep b z a op → IsSettlingStep z.memory op (z.seats a)
    → z.memory (Handover a k) ≡ 0 → (step_world z a op).memory (Handover a k) ≡ 0
own_handover b z a (Hand i) k p s o = cases ((a == i / 8) && (k == i % 8)) refl
  where
    found : (a ≡ i / 8) → (k ≡ i % 8) → ⊥
    found x y =
        let same : z.memory (Slot a k) ≡ z.memory (Slot (i / 8) (i % 8)) = rw (x, y) refl in
        named_slot (z.memory (Slot a k)) (scanned (z.seats a).scan) ((p.counted.slots a).words k ∙ empty_word (slot_of (z.seats a) k) (s.0 k)) (same ∙ s.1)

    cases : (t : Bool) → ((a == i / 8) && (k == i % 8)) ≡ t → cond t (scanned (z.seats a).scan + 1) (z.memory (Handover a k)) ≡ 0
    cases false g = o
    cases true g = let y = and_both (a == i / 8) (k == i % 8) g in absurd (found (eqb-true a (i / 8) y.0) (eqb-true k (i % 8) y.1))
own_handover b z a (TakeIn i) k p s o = cases ((a == a) && (k == i))
  where
    cases : (t : Bool) → cond t zero (z.memory (Handover a k)) ≡ 0
    cases true = refl
    cases false = o
own_handover b z a (CounterLoad q Check) k p s o = absurd s
own_handover b z a (LinkCas w x t) k p s o = absurd s
own_handover b z a (LinkLoad w j) k p s o = absurd s
own_handover b z a (FillStep r w v) k p s o = absurd s
own_handover b z a (Read r w) k p s o = absurd s
own_handover b z a (HandoverLook i) k p s o = absurd s
own_handover b z a (LinkStore q l zero) k p s o = o
own_handover b z a (LinkStore q l (suc n)) k p s o = o
own_handover b z a op k p s o = o

-- where no slot names a row, nothing is handed over
pub no_hand : (b : Bounds) (z : World) (a k : ℕ) → LawfulStep b z a (Hand k) → IsSettlingStep z.memory (Hand k) (z.seats a)
    → ((x j : ℕ) → is_empty (slot_of (z.seats x) j) ≡ true) → ⊥
no_hand b z a k p s e = named_slot (z.memory (Slot (k / 8) (k % 8))) (scanned (z.seats a).scan)
    ((p.counted.slots (k / 8)).words (k % 8) ∙ empty_word (slot_of (z.seats (k / 8)) (k % 8)) (e (k / 8) (k % 8))) s.1

-- where no slot of another agent names a row, the handover words of others that are 0 stay so
pub other_handover : (b : Bounds) (z : World) (a : ℕ) (op : Op) (x k : ℕ) → LawfulStep b z a op → x ≢ a → IsSettlingStep z.memory op (z.seats a)
    → ((y j : ℕ) → y ≢ a → is_empty (slot_of (z.seats y) j) ≡ true) → z.memory (Handover x k) ≡ 0 → (step_world z a op).memory (Handover x k) ≡ 0
other_handover b z a (Hand i) x k p ne s q o = absurd (no_hand b z a i p s all_empty)
  where
    all_empty : (y j : ℕ) → is_empty (slot_of (z.seats y) j) ≡ true
    all_empty y j = cases (y == a) refl
      where
        cases : (t : Bool) → (y == a) ≡ t → is_empty (slot_of (z.seats y) j) ≡ true
        cases true e = rw (eqb-true y a e) (s.0 j)
        cases false e = q y j (λ d. false≢true (sym e ∙ eq-eqb y a d))
other_handover b z a (TakeIn i) x k p ne s q o = cases ((x == a) && (k == i))
  where
    cases : (t : Bool) → cond t zero (z.memory (Handover x k)) ≡ 0
    cases true = refl
    cases false = o
other_handover b z a (CounterLoad r Check) x k p ne s q o = absurd s
other_handover b z a (LinkCas w y t) x k p ne s q o = absurd s
other_handover b z a (LinkLoad w j) x k p ne s q o = absurd s
other_handover b z a (FillStep r w v) x k p ne s q o = absurd s
other_handover b z a (Read r w) x k p ne s q o = absurd s
other_handover b z a (HandoverLook i) x k p ne s q o = absurd s
other_handover b z a (LinkStore r l zero) x k p ne s q o = o
other_handover b z a (LinkStore r l (suc n)) x k p ne s q o = o
other_handover b z a op x k p ne s q o = o
