-- Once each agent has drained alone, one after another, the state is at rest. And how it is known that each drained alone.
use Rattle.std.proofs.Common.{[], Bool, arith, ap, false, refl, subst, suc, sym, true, zero, ℕ, ◌+◌, ◌∙◌, ◌<◌, ◌≡◌, ◌≢◌, ◌≤◌}
use Rattle.std.proofs.lemmas.Bool.{eqb-false, eqb-true, false≢true, ltb-true}
use Rattle.std.specs.Prelude.{nat_lt, ◌==◌}
use Rattle.orc_words.specs.Bounds.{Bounds}
use Rattle.orc_words.specs.declared.place.Word.TheVariants.{Handover}
use Rattle.orc_core.specs.Machine.{Machine, nobody, record_at, word_in}
use Rattle.orc_core.specs.RecordParts.{any_holds, holds, is_empty, slot_of}
use Rattle.orc_core.specs.declared.records.Agent.{Agent}
use Rattle.orc_core.specs.declared.records.SlotUse.{SlotUse}
use Rattle.orc_core.specs.declared.records.SlotUse.TheVariants.{Empty, Held, Published}
use Rattle.orc_sound.proofs.AllFits.{run_bounds, run_fits}
use Rattle.orc_sound.proofs.Quiet.{held_at}
use Rattle.orc_sound.proofs.Seats.{not_true}
use Rattle.orc_rest.specs.Drains.{DrainedAlone, DrainedInOrder}
use Rattle.orc_rest.specs.Rest.{IsAtRest}
use Rattle.orc_rest.proofs.Calls.{all_empty}
use Rattle.orc_rest.proofs.Turns.{own_keep, reached_on}
use Rattle.orc_rest.specs.Records.{IsBetweenRounds, IsDone, IsStill}
use Rattle.orc_rest.specs.Turns.{IsReachedState, NoSlotsBut}

-- what holds once the agents below i have drained
record SoFar (agents i : ℕ) (m : Machine) : Type 0 where
  reached : IsReachedState m
  bounds : m.bounds.agents ≡ agents
  ready : (x : ℕ) → x < agents → IsBetweenRounds (record_at m x)
  done : (x : ℕ) → x < i → IsDone (record_at m x)
  hands : (x k : ℕ) → x < i → k < 8 → word_in m (Handover x k) ≡ 0

nobody_empty : (room j : ℕ) → is_empty (slot_of (nobody room) j) ≡ true
nobody_empty room zero = refl
nobody_empty room (suc zero) = refl
nobody_empty room (suc (suc zero)) = refl
nobody_empty room (suc (suc (suc zero))) = refl
nobody_empty room (suc (suc (suc (suc zero)))) = refl
nobody_empty room (suc (suc (suc (suc (suc zero))))) = refl
nobody_empty room (suc (suc (suc (suc (suc (suc zero)))))) = refl
nobody_empty room (suc (suc (suc (suc (suc (suc (suc zero))))))) = refl
nobody_empty room (suc (suc (suc (suc (suc (suc (suc (suc j)))))))) = refl

absent : (m : Machine) (x : ℕ) → IsReachedState m → m.bounds.agents ≤ x → record_at m x ≡ nobody m.bounds.rows
absent m x k =
    subst (λ w. w.bounds.agents ≤ x → record_at w x ≡ nobody w.bounds.rows) (sym k.is)
    (λ l. let e = (run_fits k.bounds k.steps k.shape k.lawful).counted.enrolment in let o = e.most in e.empty x (omega arith))

no_slots : (agents i : ℕ) (m : Machine) → SoFar agents i m → NoSlotsBut i m
no_slots agents i m s x j ne = cases (nat_lt x agents) refl
  where
    cases : (t : Bool) → nat_lt x agents ≡ t → is_empty (slot_of (record_at m x) j) ≡ true
    cases true e = all_empty (record_at m x) (s.ready x (ltb-true x agents e)).still j
    cases false e =
        let l : agents ≤ x = grind arith in let b = s.bounds in
        subst (λ d. is_empty (slot_of d j) ≡ true) (sym (absent m x s.reached (omega arith))) (nobody_empty m.bounds.rows j)

drain_next : (agents i : ℕ) (m n : Machine) → i < agents → SoFar agents i m → DrainedAlone i m n → SoFar agents (i + 1) n
drain_next agents i m n l s d = record {
  reached = reached_on m n d.drained.steps s.reached d.drained.lawful d.drained.is;
  bounds = ap (λ (b : Bounds). b.agents) same ∙ s.bounds;
  ready = λ x h. by_agent x h;
  done = λ x h. below x (x == i) refl h;
  hands = λ x k h j. hand x k (x == i) refl h j;
}
  where
    same : n.bounds ≡ m.bounds
    same = ap (λ (w : Machine). w.bounds) d.drained.is ∙ run_bounds m d.drained.steps

    kept : (x : ℕ) → x ≢ i → record_at n x ≡ record_at m x
    kept x ne = ap (λ w. record_at w x) d.drained.is ∙ own_keep m i x d.drained.steps d.alone ne

    by_agent : (x : ℕ) → x < agents → IsBetweenRounds (record_at n x)
    by_agent x h = cases (x == i) refl
      where
        cases : (t : Bool) → (x == i) ≡ t → IsBetweenRounds (record_at n x)
        cases true e = subst (λ y. IsBetweenRounds (record_at n y)) (sym (eqb-true x i e)) d.between
        cases false e = subst IsBetweenRounds (sym (kept x (eqb-false x i e))) (s.ready x h)

    below : (x : ℕ) (t : Bool) → (x == i) ≡ t → x < i + 1 → IsDone (record_at n x)
    below x true e h = subst (λ y. IsDone (record_at n y)) (sym (eqb-true x i e)) (d.drained.done [] d.drained.steps refl tt d.alone)
    below x false e h = let ne : x ≢ i = eqb-false x i e in subst IsDone (sym (kept x ne)) (s.done x (omega arith))

    hand : (x k : ℕ) (t : Bool) → (x == i) ≡ t → x < i + 1 → k < 8 → word_in n (Handover x k) ≡ 0
    hand x k true e h j = subst (λ y. word_in n (Handover y k) ≡ 0) (sym (eqb-true x i e)) (d.drained.hands [] d.drained.steps refl tt d.alone k j)
    hand x k false e h j =
        let ne : x ≢ i = eqb-false x i e in let b = s.bounds in
        d.drained.others [] d.drained.steps refl tt d.alone (no_slots agents i m s) x k (omega arith) j ne (s.hands x k (omega arith) j)

-- after so many drains
drains : (agents n : ℕ) (ms : ℕ → Machine) → n ≤ agents → SoFar agents 0 (ms 0) → DrainedInOrder n ms → SoFar agents n (ms n)
drains agents zero ms l s d = s
drains agents (suc n) ms l s d =
    let before = drains agents n ms (omega arith) s (λ i h. d i (omega arith)) in
    let last = d n (omega arith) in
    subst (λ k. SoFar agents k (ms k)) (one n) (drain_next agents n (ms n) (ms (n + 1)) (omega arith) before last)
  where
    one : (n : ℕ) → n + 1 ≡ suc n
    one n = omega arith

no_holds : (d : Agent) (r : ℕ) → IsStill d → any_holds d.slots r ≡ false
no_holds d r s = not_true (any_holds d.slots r) (λ h. let w = held_at d.slots r h in none (slot_of d w.at) (all_empty d s w.at) w.hold)
  where
    none : (u : SlotUse) → is_empty u ≡ true → holds u r ≡ true → ⊥
    none Empty e h = false≢true h
    none (Published q) e h = false≢true h
    none (Held q) e h = false≢true e

-- each agent drained alone, in order: the state is at rest
pub rest_after_drains : (agents : ℕ) (ms : ℕ → Machine) → IsReachedState (ms 0) → (ms 0).bounds.agents ≡ agents
    → ((x : ℕ) → x < agents → IsBetweenRounds (record_at (ms 0) x))
    → DrainedInOrder agents ms → IsAtRest (ms agents)
rest_after_drains agents ms q b r d =
    let s = drains agents agents ms (omega arith)
    (record { reached = q; bounds = b; ready = r; done = λ x h. absurd (omega arith); hands = λ x k h j. absurd (omega arith) }) d in
    let e = s.bounds in
    record {
      agents = λ a h.
          let y = s.ready a (omega arith) in
          record {
            holds = λ x. no_holds (record_at (ms agents) a) x y.still;
            fresh = y.still.calm.fresh;
            inc = y.still.calm.inc;
            dec = y.still.dec;
            due =
                y.still.due;
            doom = y.doom;
            hand = (s.done a (omega arith)).hand;
            scan = (s.done a (omega arith)).scan;
            list = (s.done a (omega arith)).list;
          };
      handovers = λ a k h j. s.hands a k (omega arith) j;
    }
