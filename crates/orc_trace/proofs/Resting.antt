-- The tests by which a state is seen to be at rest.
use Rattle.std.proofs.Common.{Bool, List, [], ap, arith, false, refl, sym, true, ℕ, ◌<◌, ◌∙◌, ◌∷◌, ◌≡◌, ◌≤◌}
use Rattle.std.proofs.lemmas.Bool.{eq-eqb, eqb-true, false≢true}
use Rattle.std.proofs.lemmas.List.{nil_from_length}
use Rattle.std.specs.List.{list_any}
use Rattle.std.specs.Prelude.{None, Option, Some, is_none, not, ◌==◌}
use Rattle.orc_words.specs.Packed.{bit}
use Rattle.orc_words.specs.declared.place.Word.TheVariants.{Handover}
use Rattle.orc_core.proofs.Within.{and_both}
use Rattle.orc_core.specs.Counts.{handovers}
use Rattle.orc_core.specs.Machine.{Machine, record_at, word_in}
use Rattle.orc_core.specs.RecordParts.{any_holds}
use Rattle.orc_core.specs.declared.records.Agent.{Agent}
use Rattle.orc_core.specs.declared.records.SlotUse.{SlotUse}
use Rattle.orc_core.specs.declared.records.SlotUse.TheVariants.{Empty, Held, Published}
use Rattle.orc_rest.specs.Rest.{IsAtRest, IsResting}
use Rattle.orc_sound.proofs.Decided.{all_hold, all_there, not_is}
use Rattle.orc_sound.proofs.Sums.{sum_member, sum_same, sum_zero}
use Rattle.orc_trace.specs.Watched.{at_rest, slot_holds, rests, rests_at}

no_hold : (slots : List SlotUse) (r : ℕ) → list_any slot_holds slots ≡ false → any_holds slots r ≡ false
no_hold [] r h = refl
no_hold (Empty ∷ ss) r h = no_hold ss r h
no_hold (Published q ∷ ss) r h = no_hold ss r h
no_hold (Held q ∷ ss) r h = absurd (false≢true (sym h))

none_held : (slots : List SlotUse) → ((r : ℕ) → any_holds slots r ≡ false) → list_any slot_holds slots ≡ false
none_held [] h = refl
none_held (Empty ∷ ss) h = none_held ss h
none_held (Published q ∷ ss) h = none_held ss h
none_held (Held q ∷ ss) h = absurd (false≢true (sym (rw (eq-eqb q q refl) at (h q))))

no_part : {A : Type 0} (o : Option A) → is_none o ≡ true → o ≡ None
no_part None h = refl
no_part (Some x) h = absurd (false≢true h)

resting : (d : Agent) → rests d ≡ true → IsResting d
resting d h =
    let list = and_both _ _ h in
    let doom = and_both _ _ list.0 in
    let scan = and_both _ _ doom.0 in
    let hand = and_both _ _ scan.0 in
    let due = and_both _ _ hand.0 in
    let dec = and_both _ _ due.0 in
    let inc = and_both _ _ dec.0 in
    let fresh = and_both _ _ inc.0 in
    record {
      holds = λ r. no_hold d.slots r (not_is _ fresh.0);
      fresh = no_part d.fresh fresh.1;
      inc = no_part d.inc inc.1;
      dec = no_part d.dec dec.1;
      due = no_part d.due due.1;
      hand = no_part d.hand hand.1;
      scan = no_part d.scan scan.1;
      doom = no_part d.doom doom.1;
      list = nil_from_length d.list.items (eqb-true _ _ list.1);
    }

is_resting : (d : Agent) → IsResting d → rests d ≡ true
is_resting d h = rw (none_held d.slots h.holds, h.fresh, h.inc, h.dec, h.due, h.hand, h.scan, h.doom, h.list) refl

zero_bit : (b : Bool) → bit (not b) ≤ 0 → b ≡ true
zero_bit true h = refl
zero_bit false h = absurd (omega arith)

no_handover : (m : Machine) (a k : ℕ) → (handovers m a == 0) ≡ true → k < 8 → word_in m (Handover a k) ≡ 0
no_handover m a k h l =
    let z = eqb-true _ _ h in
    let one = sum_member 8 k (λ j. bit (not (word_in m (Handover a j) == 0))) l in
    eqb-true _ _ (zero_bit (word_in m (Handover a k) == 0) (omega arith))

no_handovers : (m : Machine) (a : ℕ) → ((k : ℕ) → k < 8 → word_in m (Handover a k) ≡ 0) → (handovers m a == 0) ≡ true
no_handovers m a h =
    eq-eqb _ _
    (sum_same 8 (λ k. bit (not (word_in m (Handover a k) == 0))) (λ k. 0) (λ k l. ap (λ w. bit (not (w == 0))) (h k l)) ∙ sum_zero 8 (λ k. 0) (λ k. refl))

pub rest_is : (m : Machine) → at_rest m ≡ true → IsAtRest m
rest_is m h = record {
  agents = λ a l. resting (record_at m a) (and_both _ _ (all_there m.bounds.agents a (rests_at m) h l)).0;
  handovers = λ a k l j. no_handover m a k (and_both _ _ (all_there m.bounds.agents a (rests_at m) h l)).1 j;
}

pub is_rest : (m : Machine) → IsAtRest m → at_rest m ≡ true
is_rest m h =
    all_hold m.bounds.agents (rests_at m)
    (λ a l. rw (is_resting (record_at m a) (h.agents a l), no_handovers m a (λ k j. h.handovers a k l j)) refl)
