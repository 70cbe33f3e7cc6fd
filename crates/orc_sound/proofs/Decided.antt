-- The tests that `sound` makes are the parts of a sound state.
use Rattle.std.proofs.Common.{Bool, arith, false, refl, suc, sym, true, zero, ℕ, ⊎_elim, ◌+◌, ◌-◌, ◌/◌, ◌<◌, ◌≡◌, ◌≢◌}
use Rattle.std.proofs.lemmas.Bool.{eq-eqb, eqb-false, eqb-true, false≢true, lt-ltb, ltb-true}
use Rattle.std.proofs.lemmas.Int.{ints}
use Rattle.std.specs.Prelude.{None, Option, Some, nat_lt, not, pos, ◌&&◌, ◌+ℤ◌, ◌-ℤ◌, ◌==◌, ◌||◌}
use Rattle.orc_words.specs.Packed.{count_bits}
use Rattle.orc_words.specs.declared.place.Word.TheVariants.{Counter}
use Rattle.orc_core.proofs.Within.{and_both}
use Rattle.orc_core.specs.Counts.{is_out, links_to}
use Rattle.orc_core.specs.Machine.{Machine, record_at, word_in}
use Rattle.orc_core.specs.RecordParts.{holds, names, saw}
use Rattle.orc_core.specs.Sums.{some_below}
use Rattle.orc_core.specs.declared.records.Reading.{Reading}
use Rattle.orc_core.specs.declared.records.SlotUse.{SlotUse}
use Rattle.orc_core.specs.declared.records.SlotUse.TheVariants.{Empty, Held, Published}
use Rattle.orc_sound.proofs.Seats.{either}
use Rattle.orc_sound.proofs.Shown.{count_zero}
use Rattle.orc_sound.specs.Decisions.{all_below, named_passes, out_in, row_held, row_seen, target_fits, unreachable_in}
use Rattle.orc_sound.specs.Linked.{IsOut, IsUnreachable, changes, held, linked}

pub all_there : (n i : ℕ) (p : ℕ → Bool) → all_below n p ≡ true → i < n → p i ≡ true
all_there zero i p h l = absurd (omega arith)
all_there (suc n) i p h l = there (all_below n p) (p n) refl refl (and_both (all_below n p) (p n) h) (all_there n i p)
  where
    there : (s t : Bool) → all_below n p ≡ s → p n ≡ t → (all_below n p ≡ true) × (p n ≡ true) → (all_below n p ≡ true → i < n → p i ≡ true) → p i ≡ true
    there s t e f g before = cases (i == n) refl
      where
        cases : (u : Bool) → (i == n) ≡ u → p i ≡ true
        cases true k = rw (eqb-true i n k) g.1
        cases false k = let d : i ≢ n = eqb-false i n k in before g.0 (omega arith)

pub all_hold : (n : ℕ) (p : ℕ → Bool) → ((i : ℕ) → i < n → p i ≡ true) → all_below n p ≡ true
all_hold zero p h = refl
all_hold (suc n) p h = rw (all_hold n p (λ i l. h i (omega arith)), h n (omega arith))

-- a name that passes, and a name
pub passes_at : (o : Option ℕ) (p : ℕ → Bool) (r : ℕ) → named_passes o p ≡ true → names o r ≡ true → p r ≡ true
passes_at None p r h k = absurd (false≢true k)
passes_at (Some q) p r h k = rw (← eqb-true q r k) h

pub passes_all : (o : Option ℕ) (p : ℕ → Bool) → ((r : ℕ) → names o r ≡ true → p r ≡ true) → named_passes o p ≡ true
passes_all None p h = refl
passes_all (Some q) p h = h q (eq-eqb q q refl)

pub seen_row : (o : Option Reading) (r : ℕ) → names (row_seen o) r ≡ saw o r
seen_row None r = refl
seen_row (Some s) r = refl

pub held_name : (s : SlotUse) (r : ℕ) → names (row_held s) r ≡ holds s r
held_name Empty r = refl
held_name (Published q) r = refl
held_name (Held q) r = refl

-- being out
pub out_is : (m : Machine) (r : ℕ) → out_in m r ≡ true → IsOut m r
out_is m r h = let p = and_both (nat_lt r m.bounds.rows) (is_out m r) h in (ltb-true r m.bounds.rows p.0, p.1)

pub is_out_in : (m : Machine) (r : ℕ) → IsOut m r → out_in m r ≡ true
is_out_in m r h = rw (lt-ltb r m.bounds.rows h.0) h.1

pub target_is : (m : Machine) (w r : ℕ) → target_fits m w ≡ true → links_to w r ≡ true → IsOut m r
target_is m w r h k = out_is m r (named_target (w / 2) (eqb-true (w / 2) (r + 1) k) h)
  where
    named_target : (n : ℕ) → n ≡ r + 1 → ((n == 0) || out_in m (n - 1)) ≡ true → out_in m r ≡ true
    named_target n e g = let d : n - 1 ≡ r = omega arith in rw d at (other n e g)
      where
        other : (n : ℕ) → n ≡ r + 1 → ((n == 0) || out_in m (n - 1)) ≡ true → out_in m (n - 1) ≡ true
        other n e g = ⊎_elim (λ z. let y = eqb-true n 0 z in absurd (omega arith)) (λ o. o) (either (n == 0) (out_in m (n - 1)) g)

pub is_target_in : (m : Machine) (w : ℕ) → ((r : ℕ) → links_to w r ≡ true → IsOut m r) → target_fits m w ≡ true
is_target_in m w h = cases (w / 2 == 0) refl
  where
    cases : (t : Bool) → (w / 2 == 0) ≡ t → (t || out_in m (w / 2 - 1)) ≡ true
    cases true e = refl
    cases false e = let n : w / 2 ≢ 0 = eqb-false (w / 2) 0 e in is_out_in m (w / 2 - 1) (h (w / 2 - 1) (eq-eqb (w / 2) (w / 2 - 1 + 1) (omega arith)))

-- counts
pub count_back : (c i l d : ℕ) → pos c -ℤ pos 4194304 ≡ (pos l -ℤ pos i) +ℤ pos d → c + i ≡ 4194304 + l + d
count_back c i l d e = omega (arith, ints)

pub zero_count : (c : ℕ) → pos c -ℤ pos 4194304 ≡ pos 0 → c ≡ 4194304
zero_count c e = omega (arith, ints)

pub four_true : (a b c d : Bool) → (a && b && c && d) ≡ true → (a ≡ true) × (b ≡ true) × (c ≡ true) × (d ≡ true)
four_true a b c d h = let p = and_both (a && b && c) d h in let q = and_both (a && b) c p.0 in let r = and_both a b q.0 in (r.0, r.1, q.1, p.1)

pub not_is : (b : Bool) → not b ≡ true → b ≡ false
not_is true h = absurd (false≢true h)
not_is false h = refl

pub is_not : (b : Bool) → b ≡ false → not b ≡ true
is_not true h = absurd (false≢true (sym h))
is_not false h = refl

pub unreachable_is : (m : Machine) (r : ℕ) → unreachable_in m r ≡ true → IsUnreachable m r
unreachable_is m r h =
    let p = four_true (linked m r == 0) (not (held m r)) (not (some_below m.bounds.agents (λ a. changes (record_at m a) r)))
    (count_bits (word_in m (Counter r)) == 4194304) h in
    record {
      linked = eqb-true (linked m r) 0 p.0;
      held = not_is (held m r) p.1;
      changes =
          not_is (some_below m.bounds.agents (λ a. changes (record_at m a) r)) p.2;
      count =
          count_zero (word_in m (Counter r)) (eqb-true (count_bits (word_in m (Counter r))) 4194304 p.3);
    }

pub is_unreachable : (m : Machine) (r : ℕ) → IsUnreachable m r → unreachable_in m r ≡ true
is_unreachable m r h =
    rw (
      eq-eqb (linked m r) 0 h.linked,
      h.held,
      h.changes,
      eq-eqb (count_bits (word_in m (Counter r))) 4194304 (zero_count (count_bits (word_in m (Counter r))) h.count),
    )
