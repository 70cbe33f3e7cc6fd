-- A slot word says what the record says of the slot.
use Rattle.std.proofs.Common.{Bool, List, [], arith, cond, false, get_or-set_other, get_or-set_same, length, refl, suc, sym, true, zero, ℕ, ◌%◌, ◌+◌, ◌/◌, ◌<◌, ◌∙◌, ◌∷◌, ◌≡◌}
use Rattle.std.proofs.Math.ListN.{length-set}
use Rattle.std.proofs.lemmas.Bool.{eq-eqb, eqb-false, eqb-true, false≢true, ltb-true}
use Rattle.std.specs.Prelude.{None, Some, slice_index_or, slice_set, ◌==◌}
use Rattle.orc_words.specs.Bounds.{Bounds}
use Rattle.orc_words.specs.declared.place.Word.{Word}
use Rattle.orc_words.specs.declared.place.Word.TheVariants.{Enrolled, First, Next, Root, Second, Slot, Side}
use Rattle.orc_core.proofs.Within.{and_both}
use Rattle.orc_words.specs.Operations.{word_after}
use Rattle.orc_core.specs.Actions.{action_of}
use Rattle.orc_core.specs.After.{after, promoted}
use Rattle.orc_core.specs.Allowed.{fits}
use Rattle.orc_core.specs.RecordParts.{is_published, names, slot_of}
use Rattle.orc_core.specs.declared.ops.Op.{Op}
use Rattle.orc_core.specs.declared.ops.Op.TheVariants.{Arm, Clear, Fill, LinkCas, LinkLoad, Publish, Read, SlotLook, LinkStore, MoveOn}
use Rattle.orc_core.specs.declared.records.Agent.{Agent}
use Rattle.orc_core.specs.declared.records.SlotUse.{SlotUse}
use Rattle.orc_core.specs.declared.records.SlotUse.TheVariants.{Empty, Held, Published}
use Rattle.orc_sound.proofs.Facts.{SlotFits, SlotsFit}
use Rattle.orc_sound.proofs.Sources.{write_same}
use Rattle.orc_sound.proofs.World.{World, read_by, record_by, step_world, write}
use Rattle.orc_sound.specs.SoundParts.{slot_word}

-- what one write to an agent's own slot leaves
set_fits : (m : Word → ℕ) (d : Agent) (a j k v : ℕ) (x : SlotUse) → j < length d.slots → v ≡ slot_word x → SlotFits m d a k
    → write m (Slot a j) v (Slot a k) ≡ slot_word (slice_index_or (slice_set d.slots j x) k Empty)
set_fits m d a j k v x l e h = rw (eq-eqb a a refl) (cases (k == j) refl)
  where
    cases : (t : Bool) → (k == j) ≡ t → cond t v (m (Slot a k)) ≡ slot_word (slice_index_or (slice_set d.slots j x) k Empty)
    cases true p = rw (eqb-true k j p, get_or-set_same d.slots j x Empty l) e
    cases false p = rw (get_or-set_other d.slots j k x Empty (λ q. eqb-false k j p q)) h

promoted_word : (s : SlotUse) (v : ℕ) → slot_word (promoted s v) ≡ slot_word s
promoted_word Empty v = refl
promoted_word (Held r) v = refl
promoted_word (Published r) v = grind arith

promoted_fits : (d : Agent) (j k v w : ℕ) → j < length d.slots → w ≡ slot_word (slot_of d k)
    → w ≡ slot_word (slice_index_or (slice_set d.slots j (promoted (slot_of d j) v)) k Empty)
promoted_fits d j k v w l h = cases (k == j) refl
  where
    cases : (t : Bool) → (k == j) ≡ t → w ≡ slot_word (slice_index_or (slice_set d.slots j (promoted (slot_of d j) v)) k Empty)
    cases true p =
        rw (eqb-true k j p, get_or-set_same d.slots j (promoted (slot_of d j) v) Empty l) (rw (eqb-true k j p) at h ∙ sym (promoted_word (slot_of d j) v))
    cases false p = rw (get_or-set_other d.slots j k (promoted (slot_of d j) v) Empty (λ q. eqb-false k j p q)) h

publish_word : (t : Bool) (q : ℕ) → q + 1 ≡ slot_word (cond t (Held q) (Published q))
publish_word true q = refl
publish_word false q = refl

pub own_fits : (b : Bounds) (e a : ℕ) (op : Op) (d : Agent) (m : Word → ℕ) (k : ℕ) → fits b e a op d ≡ true → length d.slots ≡ 8 → SlotFits m d a k
    → SlotFits (write m (action_of a op d).word (word_after (action_of a op d).operation (m (action_of a op d).word)))
    (after op d (m (action_of a op d).word)) a k
own_fits b e a (LinkLoad p None) d m k f l h = rw (write_same m p (Slot a k)) h
own_fits b e a (LinkLoad p (Some j)) d m k f l h =
    rw (write_same m p (Slot a k)) (promoted_fits d j k (m p) _ (rw l (ltb-true _ _ (and_both _ _ (and_both _ _ f).0).1)) h)
own_fits b e a (Publish j q) d m k f l h = set_fits m d a j k (q + 1) _ (rw l (ltb-true _ _ (and_both _ _ (and_both _ _ (and_both _ _ f).0).0).1))
    (publish_word (names d.fresh q) q) h
own_fits b e a (MoveOn j q) d m k f l h = set_fits m d a j k (q + 1) _ (rw l (ltb-true _ _ (and_both _ _ (and_both _ _ (and_both _ _ (and_both _ _ f).0).0).0).1))
    (publish_word (names d.fresh q) q) h
own_fits b e a (Clear j) d m k f l h = set_fits m d a j k 0 Empty (rw l (ltb-true _ _ (and_both _ _ (and_both _ _ f).0).0)) refl h
own_fits b e a (Arm q) d m k f l h = set_fits m d a 0 k (q + 1) (Held q) (rw l (omega arith)) refl h
own_fits b e a (LinkCas (Root i) x t) d m k f l h = h
own_fits b e a (LinkCas (Next i) x t) d m k f l h = h
own_fits b e a (LinkCas (Side i) x t) d m k f l h = h
own_fits b e a (LinkCas p x t) d m k f l h = grind arith
own_fits b e a (SlotLook j) d m k f l h = rw (write_same m (Slot (j / 8) (j % 8)) (Slot a k)) h
own_fits b e a (Fill q w v) d m k f l h = grind arith
own_fits b e a (Read q w) d m k f l h = rw (write_same m (cond (w == 0) (First q) (Second q)) (Slot a k)) h
own_fits b e a (LinkStore lq ll zero) d m k f l h = h
own_fits b e a (LinkStore lq ll (suc ln)) d m k f l h = h
own_fits b e a op d m k f l h = h

pub other_slot : (b : Bounds) (e a : ℕ) (op : Op) (d : Agent) (m : Word → ℕ) (x k : ℕ) → fits b e a op d ≡ true → (x == a) ≡ false
    → write m (action_of a op d).word (word_after (action_of a op d).operation (m (action_of a op d).word)) (Slot x k) ≡ m (Slot x k)
other_slot b e a (LinkLoad p j) d m x k f n = write_same m p (Slot x k)
other_slot b e a (Publish j q) d m x k f n = rw n
other_slot b e a (MoveOn j q) d m x k f n = rw n
other_slot b e a (Clear j) d m x k f n = rw n
other_slot b e a (Arm q) d m x k f n = rw n
other_slot b e a (LinkCas (Root i) y t) d m x k f n = refl
other_slot b e a (LinkCas (Next i) y t) d m x k f n = refl
other_slot b e a (LinkCas (Side i) y t) d m x k f n = refl
other_slot b e a (LinkCas p y t) d m x k f n = grind arith
other_slot b e a (SlotLook j) d m x k f n = write_same m (Slot (j / 8) (j % 8)) (Slot x k)
other_slot b e a (Fill q w v) d m x k f n = grind arith
other_slot b e a (Read q w) d m x k f n = write_same m (cond (w == 0) (First q) (Second q)) (Slot x k)
other_slot b e a (LinkStore lq ll zero) d m x k f n = refl
other_slot b e a (LinkStore lq ll (suc ln)) d m x k f n = refl
other_slot b e a op d m x k f n = refl

-- a step keeps the number of slots, and that slot 0 is never Published
eight_kept : (op : Op) (d : Agent) (v : ℕ) → length d.slots ≡ 8 → length (after op d v).slots ≡ 8
eight_kept (LinkLoad p None) d v h = h
eight_kept (LinkLoad p (Some k)) d v h = length-set d.slots k _ ∙ h
eight_kept (Publish k q) d v h = length-set d.slots k _ ∙ h
eight_kept (MoveOn k q) d v h = length-set d.slots k _ ∙ h
eight_kept (Clear k) d v h = length-set d.slots k _ ∙ h
eight_kept (Arm q) d v h = length-set d.slots 0 _ ∙ h
eight_kept op d v h = h

set_first : (ss : List SlotUse) (k : ℕ) (x : SlotUse) → is_published (slice_index_or ss 0 Empty) ≡ false → (k ≡ 0 → is_published x ≡ false)
    → is_published (slice_index_or (slice_set ss k x) 0 Empty) ≡ false
set_first [] k x h n = h
set_first (s ∷ ss) zero x h n = n refl
set_first (s ∷ ss) (suc k) x h n = h

promoted_first : (s : SlotUse) (v : ℕ) → is_published s ≡ false → is_published (promoted s v) ≡ false
promoted_first Empty v h = refl
promoted_first (Held r) v h = refl
promoted_first (Published r) v h = absurd (false≢true (sym h))

first_kept : (b : Bounds) (e a : ℕ) (op : Op) (d : Agent) (v : ℕ) → fits b e a op d ≡ true → is_published (slot_of d 0) ≡ false
    → is_published (slot_of (after op d v) 0) ≡ false
first_kept b e a (LinkLoad p None) d v f h = h
first_kept b e a (LinkLoad p (Some k)) d v f h = set_first d.slots k _ h (λ n. promoted_first (slot_of d k) v (rw n h))
first_kept b e a (Publish k q) d v f h = let g = ltb-true 0 k (and_both _ _ (and_both _ _ (and_both _ _ f).0).0).0 in
    set_first d.slots k _ h (λ n. absurd (omega arith))
first_kept b e a (MoveOn k q) d v f h = let g = ltb-true 0 k (and_both _ _ (and_both _ _ (and_both _ _ (and_both _ _ f).0).0).0).0 in
    set_first d.slots k _ h (λ n. absurd (omega arith))
first_kept b e a (Clear k) d v f h = set_first d.slots k Empty h (λ n. refl)
first_kept b e a (Arm q) d v f h = set_first d.slots 0 (Held q) h (λ n. refl)
first_kept b e a op d v f h = h

pub slots_step : (b : Bounds) (z : World) (a : ℕ) (op : Op) → fits b (z.memory Enrolled) a op (z.seats a) ≡ true
    → ((x : ℕ) → SlotsFit z.memory (z.seats x) x) → (x : ℕ) → SlotsFit (step_world z a op).memory ((step_world z a op).seats x) x
slots_step b z a op f h x = cases (x == a) refl
  where
    cases : (t : Bool) → (x == a) ≡ t → SlotsFit (step_world z a op).memory (cond t (record_by z a op) (z.seats x)) x
    cases true p = rw (eqb-true x a p) (record {
      eight = eight_kept op (z.seats a) (read_by z a op) (h a).eight;
      words = λ k. own_fits b (z.memory Enrolled) a op (z.seats a) z.memory k f (h a).eight ((h a).words k);
      first = first_kept b (z.memory Enrolled) a op (z.seats a) (read_by z a op) f (h a).first;
    })
    cases false p =
        record {
          eight = (h x).eight;
          words = λ k. rw (other_slot b (z.memory Enrolled) a op (z.seats a) z.memory x k f p) ((h x).words k);
          first =
              (h x).first;
        }
