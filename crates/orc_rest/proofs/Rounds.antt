-- Rounds of settling.
use Rattle.std.proofs.Common.{Bool, List, [], ap, arith, false, refl, subst, sym, true, ℕ, ⊎_elim, ◌*◌, ◌+◌, ◌<◌, ◌∷◌, ◌≡◌, ◌≤◌}
use Rattle.std.proofs.lemmas.Bool.{false≢true, lt-ltb}
use Rattle.std.specs.Prelude.{None, Option, Some, is_none, is_some, ◌&&◌, ◌==◌, ◌||◌}
use Rattle.orc_core.specs.Listed.{first_is}
use Rattle.orc_core.specs.Machine.{Machine, is_allowed, new_machine, record_at}
use Rattle.orc_core.specs.RecordParts.{names, scans}
use Rattle.orc_core.specs.Runs.{run}
use Rattle.orc_core.specs.declared.ops.CounterUse.TheVariants.{Start}
use Rattle.orc_core.specs.declared.ops.Op.TheVariants.{CounterLoad}
use Rattle.orc_core.specs.declared.records.Doom.{Doom}
use Rattle.orc_core.specs.declared.records.Scan.{Scan}
use Rattle.orc_rest.proofs.ForRuns.{work_within}
use Rattle.orc_rest.proofs.Stages.{allowed}
use Rattle.orc_rest.specs.Records.{IsBetweenRounds, IsDone, IsScannedNext}
use Rattle.orc_rest.specs.Rounds.{Rounds, Went}
use Rattle.orc_rest.specs.Turns.{IsReachedState}
use Rattle.orc_rest.specs.Work.{uncut, work_left}
use Rattle.orc_sound.proofs.AllFits.{run_bounds, run_fits}
use Rattle.orc_sound.proofs.ForRuns.{hand_within}
use Rattle.orc_sound.proofs.Rows.{listings_cons}
use Rattle.orc_sound.specs.RetirementToken.{listings}
use Rattle.orc_words.specs.Bounds.{Bounds}
use Rattle.orc_words.specs.Packed.{bit}

pub hand_row : (m : Machine) (a r : ℕ) → IsReachedState m → names (record_at m a).hand r ≡ true → r < m.bounds.rows
hand_row m a r k = subst (λ x. names (record_at x a).hand r ≡ true → r < x.bounds.rows) (sym k.is)
    (λ h. subst (λ (c : Bounds). r < c.rows) (sym (run_bounds (new_machine k.bounds) k.steps)) (hand_within k.bounds k.steps a r k.shape k.lawful h))

listed_row : (m : Machine) (a r : ℕ) → IsReachedState m → 0 < listings (record_at m a).list.items r → r < m.bounds.rows
listed_row m a r k = subst (λ x. 0 < listings (record_at x a).list.items r → r < x.bounds.rows) (sym k.is)
    ((run_fits k.bounds k.steps k.shape k.lawful).rows.listed a r)

first_listed : (xs : List ℕ) (r : ℕ) → first_is xs r ≡ true → 0 < listings xs r
first_listed [] r h = absurd (false≢true h)
first_listed (x ∷ xs) r h = let e = listings_cons x xs r in let f = ap bit h in omega arith

-- a scan may begin
pub start_allowed : (m : Machine) (a r : ℕ) → IsReachedState m → a < m.bounds.agents → IsBetweenRounds (record_at m a) → IsScannedNext r (record_at m a)
    → (record_at m a).scan ≡ None → is_allowed m a (CounterLoad r Start) ≡ true
start_allowed m a r k h d n e =
    let w = ⊎_elim (λ s. absurd (no_scan (record_at m a).scan s e)) (λ w. w.1) n in
    allowed m a (CounterLoad r Start) h d.still.calm.enrolled (rw (d.still.due, d.still.calm.inc, d.still.dec) refl)
    (rw (lt-ltb r m.bounds.rows (row (record_at m a).hand refl w), e, d.doom, w) refl)
  where
    no_scan : (o : Option Scan) → scans o r ≡ true → o ≡ None → ⊥
    no_scan None s e = false≢true s
    no_scan (Some x) s e = cc

    row : (o : Option ℕ) → (record_at m a).hand ≡ o → (names o r || (is_none o && first_is (record_at m a).list.items r)) ≡ true → r < m.bounds.rows
    row None g w = listed_row m a r k (first_listed (record_at m a).list.items r w)
    row (Some q) g w = hand_row m a r k (subst (λ o. names o r ≡ true) (sym g) (left (q == r) w))
      where
        left : (t : Bool) → (t || false) ≡ true → t ≡ true
        left true h = h
        left false h = h

pub positive : (o : Option Doom) → 1 ≤ uncut o
positive None = omega arith
positive (Some d) = omega arith

-- as many turns as there were rounds to make
abbrev pub rounds_made : (a left : ℕ) (m n : Machine) → Went a left m n → Rounds a left m n
rounds_made a left m n w = record {
  steps = w.turn.steps;
  lawful = w.turn.lawful;
  is = w.turn.is;
  done = λ all less. let f = w.turn.falls all in let p = positive (record_at n a).doom in absurd (omega arith);
  hands = w.turn.hands;
  others = w.turn.others;
}

-- turns after which nothing is left
abbrev pub rounds_done : (a x left : ℕ) (m n : Machine) → Went a x m n → IsDone (record_at n a) → Rounds a left m n
rounds_done a x left m n w d = record {
  steps = w.turn.steps;
  lawful = w.turn.lawful;
  is = w.turn.is;
  done = λ all less. d;
  hands = w.turn.hands;
  others = w.turn.others;
}

pub reached_work : (m : Machine) (a : ℕ) → IsReachedState m → a < m.bounds.agents → (record_at m a).dec ≡ None → (record_at m a).due ≡ None
    → work_left m a ≤ 4 * (m.bounds.rows + 8 * m.bounds.agents)
reached_work m a k = subst (λ x. a < x.bounds.agents → (record_at x a).dec ≡ None → (record_at x a).due ≡ None
    → work_left x a ≤ 4 * (x.bounds.rows + 8 * x.bounds.agents)) (sym k.is)
    (λ h d u. let e = run_bounds (new_machine k.bounds) k.steps in subst
    (λ (c : Bounds). work_left (run (new_machine k.bounds) k.steps) a ≤ 4 * (c.rows + 8 * c.agents)) (sym e)
    (work_within k.bounds k.steps a k.shape k.lawful (subst (λ (c : Bounds). a < c.agents) e h) d u))

pub no_some : {A : Type 0} (o : Option A) → is_some o ≡ false → o ≡ None
no_some None h = refl
no_some (Some x) h = absurd (false≢true (sym h))
