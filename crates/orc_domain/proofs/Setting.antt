-- Slots that are cleared and set.
use Rattle.std.proofs.Common.{List, None, Some, [], ap, false, refl, subst, suc, sym, true, zero, ℕ, ◌<◌, ◌∙◌, ◌≡◌, ◌∷◌}
use Rattle.std.proofs.lemmas.Bool.{lt-ltb, ltb-true}
use Rattle.std.specs.Prelude.{length, nat_lt, not, slice_get, slice_index_or, slice_set, ◌&&◌, ◌||◌}
use Rattle.orc_core.proofs.Within.{and_both, may_parts}
use Rattle.orc_core.specs.Allowed.{may}
use Rattle.orc_core.specs.RecordParts.{any_holds, holds, holds_fresh, is_empty, slot_of}
use Rattle.orc_core.specs.declared.ops.Op.TheVariants.{Clear, TakeIn}
use Rattle.orc_core.specs.declared.records.Agent.{Agent}
use Rattle.orc_core.specs.declared.records.SlotUse.{SlotUse}
use Rattle.orc_core.specs.declared.records.SlotUse.TheVariants.{Empty, Published}
use Rattle.orc_heap.specs.declared.discipline.Discipline as discipline
use Rattle.orc_machine_board.specs.Kinds.{asks}
use Rattle.orc_machine_board.specs.Rules.{bounds_in}
use Rattle.orc_machine_board.specs.declared.machine.MachineShape.{MachineShape}
use Rattle.orc_domain.proofs.Seats.{calm_forced, only, set_then, sets}
use Rattle.orc_machine_rest.proofs.TakenIn.{done_then}
use Rattle.orc_domain.proofs.Stages.{Stage, Steps, done_one, seat}
use Rattle.orc_domain.specs.Calls.{Unlocks}
use Rattle.orc_machine_rest.specs.OwnSteps.{HasDone}
use Rattle.orc_domain.specs.Seats.{IsCalm}
use Rattle.orc_words.specs.Bounds.{Bounds}

-- items that are set
pub set_same : {A : Type 0} (xs : List A) (k : ℕ) (x : A) → slice_get xs k ≡ Some x → slice_set xs k x ≡ xs
set_same [] k x e = refl
set_same (y ∷ ys) zero x e = let same : y ≡ x = cc in ap (λ z. z ∷ ys) (sym same)
set_same (y ∷ ys) (suc k) x e = ap (λ z. y ∷ z) (set_same ys k x e)

pub set_twice : {A : Type 0} (xs : List A) (k : ℕ) (x y : A) → slice_set (slice_set xs k x) k y ≡ slice_set xs k y
set_twice [] k x y = refl
set_twice (z ∷ zs) zero x y = refl
set_twice (z ∷ zs) (suc k) x y = ap (λ l. z ∷ l) (set_twice zs k x y)

pub set_back : (ss : List SlotUse) (k : ℕ) → slice_index_or ss k Empty ≡ Empty → slice_set ss k Empty ≡ ss
set_back [] k e = refl
set_back (s ∷ ss) zero e = ap (λ z. z ∷ ss) (sym e)
set_back (s ∷ ss) (suc k) e = ap (λ z. s ∷ z) (set_back ss k e)

pub set_length : (slots : List SlotUse) (k : ℕ) (x : SlotUse) → length (slice_set slots k x) ≡ length slots
set_length [] k x = refl
set_length (s ∷ ss) zero x = refl
set_length (s ∷ ss) (suc k) x = ap suc (set_length ss k x)

-- a row that is only published is held as little as before
pub published_holds : (ss : List SlotUse) (k r q : ℕ) → slice_index_or ss k Empty ≡ Empty → any_holds (slice_set ss k (Published r)) q ≡ any_holds ss q
published_holds [] k r q e = refl
published_holds (s ∷ ss) zero r q e = ap (λ z. holds z q || any_holds ss q) (sym e)
published_holds (s ∷ ss) (suc k) r q e = ap (λ z. holds s q || z) (published_holds ss k r q e)

-- a slot that is emptied is empty
pub set_empty : (slots : List SlotUse) (k : ℕ) → slice_index_or (slice_set slots k Empty) k Empty ≡ Empty
set_empty [] k = refl
set_empty (s ∷ ss) zero = refl
set_empty (s ∷ ss) (suc k) = set_empty ss k

-- a calm agent may clear a slot that names a row, unless it holds the fresh row
pub clear_may : (b : Bounds) (a k : ℕ) (e : Agent) → a < b.agents → k < 8 → IsCalm e → is_empty (slot_of e k) ≡ false
    → holds_fresh e.fresh (slot_of e k) ≡ false
    → may b 0 a (Clear k) e ≡ true
clear_may b a k e h eight calm full free =
    let agent = lt-ltb a b.agents h in
    let on = calm.enrolled in
    let first = calm_forced e (Clear k) calm in
    let low = lt-ltb k 8 eight in
    let one : not (is_empty (slot_of e k)) ≡ true = ap not full in
    let two : not (holds_fresh e.fresh (slot_of e k)) ≡ true = ap not free in
    λ i. ((agent i && on i) && first i) && ((low i && one i) && two i)

-- a calm agent may take in what was handed over beside an empty slot
pub take_in_may : (b : Bounds) (a k : ℕ) (e : Agent) → a < b.agents → IsCalm e → k < 8 → is_empty (slot_of e k) ≡ true → may b 0 a (TakeIn k) e ≡ true
take_in_may b a k e h calm eight free =
    let agent = lt-ltb a b.agents h in
    let on = calm.enrolled in
    let first = calm_forced e (TakeIn k) calm in
    let low = lt-ltb k 8 eight in
    λ i. ((agent i && on i) && first i) && (low i && free i)

-- so it may after it cleared the slot
pub may_take_in : (b : Bounds) (a k : ℕ) (d e : Agent) → IsCalm d → may b 0 a (Clear k) d ≡ true → e ≡ record d { slots = slice_set d.slots k Empty }
    → may b 0 a (TakeIn k) e ≡ true
may_take_in b a k d e calm can is =
    let parts = may_parts b 0 a (Clear k) d can in
    let eight = (and_both (nat_lt k 8) (not (is_empty (slot_of d k)))
    (and_both (nat_lt k 8 && not (is_empty (slot_of d k))) (not (holds_fresh d.fresh (slot_of d k))) parts.fits).0).0 in
    let next : Agent = record d { slots = slice_set d.slots k Empty } in
    subst (λ (z : Agent). may b 0 a (TakeIn k) z ≡ true) (sym is)
    (take_in_may b a k next parts.agent (record { enrolled = calm.enrolled; due = calm.due; inc = calm.inc; dec = calm.dec })
    (ltb-true k 8 eight) (ap is_empty (set_empty d.slots k)))

module _ {D N : Type 0} {d : discipline.Ghosts D N} {k : MachineShape N} (s t u : Stage d k) (slot n o : ℕ) (one : Steps (Clear slot) s n t)
    (two : Steps (TakeIn slot) t o u) where
  pub unlocks : Unlocks (bounds_in k) slot s.view u.view
  unlocks =
      let first = sets (asks (Clear slot)) None s t n one slot Empty (ap (λ (e : Agent). e.slots) one.record_is) (ap (λ (e : Agent). e.fresh) one.record_is) in
      let second = only (asks (TakeIn slot)) None t u o two (ap (λ (e : Agent). e.slots) two.record_is) (ap (λ (e : Agent). e.fresh) two.record_is) in
      record {
        sets = set_then (seat s) (seat t) (seat u) [] [] slot None first second;
        same = record {
          enrolled = ap (λ (e : Agent). e.enrolled) two.record_is ∙ ap (λ (e : Agent). e.enrolled) one.record_is;
          slots = ap (λ (e : Agent). e.slots) two.record_is ∙ ap (λ (e : Agent). e.slots) one.record_is;
          fresh = ap (λ (e : Agent). e.fresh) two.record_is ∙ ap (λ (e : Agent). e.fresh) one.record_is;
          due = ap (λ (e : Agent). e.due) two.record_is ∙ ap (λ (e : Agent). e.due) one.record_is;
          inc = ap (λ (e : Agent). e.inc) two.record_is ∙ ap (λ (e : Agent). e.inc) one.record_is;
          dec = ap (λ (e : Agent). e.dec) two.record_is ∙ ap (λ (e : Agent). e.dec) one.record_is;
          doom = ap (λ (e : Agent). e.doom) two.record_is ∙ ap (λ (e : Agent). e.doom) one.record_is;
          scan = ap (λ (e : Agent). e.scan) two.record_is ∙ ap (λ (e : Agent). e.scan) one.record_is;
        };
        done = done_then s.view.agent s.view.journal t.view.journal u.view.journal (Clear slot ∷ []) (TakeIn slot ∷ [])
            (done_one (asks (Clear slot)) None s t n one)
            (subst (λ a. HasDone a (TakeIn slot ∷ []) t.view.journal u.view.journal) one.agent (done_one (asks (TakeIn slot)) None t u o two));
      }
