-- The backlog is what waits with the agents: each retired row in no work list is in one handover word, hand, scan or doom, and what is there is retired.
use Rattle.std.proofs.Common.{Bool, List, ap, arith, false, refl, sym, true, ℕ, suc, zero, ◌+◌, ◌-◌, ◌<◌, ◌∙◌, ◌≡◌, ◌≢◌, ◌≤◌}
use Rattle.std.proofs.lemmas.Bool.{eq-eqb, eqb-false, eqb-true, false≢true}
use Rattle.std.specs.List.{list_any}
use Rattle.std.specs.Prelude.{None, Option, Some, is_some, not, ◌&&◌, ◌==◌, ◌||◌}
use Rattle.orc_words.specs.Bounds.{Bounds, IsShape}
use Rattle.orc_words.specs.Packed.{bit}
use Rattle.orc_words.specs.declared.place.Word.TheVariants.{Handover}
use Rattle.orc_core.specs.Counts.{handovers, is_retired}
use Rattle.orc_core.specs.Machine.{Machine, new_machine, record_at, word_in}
use Rattle.orc_core.specs.RecordParts.{names, scans}
use Rattle.orc_core.specs.Runs.{IsLawful, run}
use Rattle.orc_core.specs.Sums.{count_below, some_below, sum_below}
use Rattle.orc_core.specs.declared.ops.Op.{Op}
use Rattle.orc_core.specs.declared.records.Agent.{Agent}
use Rattle.orc_core.specs.declared.records.Doom.{Doom}
use Rattle.orc_core.specs.declared.records.Scan.{Scan}
use Rattle.orc_sound.proofs.AllFits.{AllFits, run_fits}
use Rattle.orc_sound.proofs.ForRuns.{run_sound}
use Rattle.orc_sound.proofs.Found.{some_listed}
use Rattle.orc_sound.proofs.Shown.{below_none, word_shown}
use Rattle.orc_sound.proofs.Sums.{sum_add, sum_point, sum_same, sum_swap, sum_zero}
use Rattle.orc_sound.proofs.World.{world_of}
use Rattle.orc_sound.specs.Backlog.{backlog, is_listed}
use Rattle.orc_sound.specs.Doomed.{dooms}
use Rattle.orc_sound.specs.RetirementToken.{dooming, listings, places_of, tokens}
use Rattle.orc_sound.specs.Sound.{IsSound}
use Rattle.orc_trace.specs.Watched.{has_bit, waiting}

-- the parts of a record, but for its work list, that have the row
abbrev parts : Agent → ℕ → ℕ
parts d r = bit (names d.hand r) + bit (scans d.scan r) + bit (dooming d.doom r)

-- the handover words of an agent that have the row
abbrev handed : Machine → ℕ → ℕ → ℕ
handed m r a = count_below 8 (λ k. word_in m (Handover a k) == r + 1)

-- ---- each part has one row

hand_once : (n : ℕ) (o : Option ℕ) → ((r : ℕ) → names o r ≡ true → r < n) → sum_below n (λ r. bit (names o r)) ≡ bit (is_some o)
hand_once n None h = sum_zero n (λ r. 0) (λ r. refl)
hand_once n (Some q) h = sum_point n q (h q (eq-eqb q q refl))

scan_once : (n : ℕ) (o : Option Scan) → ((r : ℕ) → scans o r ≡ true → r < n) → sum_below n (λ r. bit (scans o r)) ≡ bit (is_some o)
scan_once n None h = sum_zero n (λ r. 0) (λ r. refl)
scan_once n (Some s) h = sum_point n s.row (h s.row (eq-eqb s.row s.row refl))

and_false : (b : Bool) → (b && false) ≡ false
and_false true = refl
and_false false = refl

and_true : (b : Bool) → (b && true) ≡ b
and_true true = refl
and_true false = refl

doom_once : (n : ℕ) (o : Option Doom) → ((r : ℕ) → dooms o r ≡ true → r < n) → sum_below n (λ r. bit (dooming o r)) ≡ bit (has_bit o)
doom_once n None h = sum_zero n (λ r. 0) (λ r. refl)
doom_once n (Some d) h = cases d.bare refl
  where
    cases : (t : Bool) → d.bare ≡ t → sum_below n (λ r. bit ((d.row == r) && not d.bare)) ≡ bit (not d.bare)
    cases true e = rw e (sum_zero n (λ r. bit ((d.row == r) && false)) (λ r. ap bit (and_false (d.row == r))))
    cases false e =
        rw e
        (sum_same n (λ r. bit ((d.row == r) && true)) (λ r. bit (d.row == r)) (λ r l. ap bit (and_true (d.row == r))) ∙
        sum_point n d.row (h d.row (eq-eqb d.row d.row refl)))

name_of : (w r : ℕ) → w ≢ 0 → bit (w == r + 1) ≡ bit ((w - 1) == r)
name_of w r h = grind arith

zero_names_none : (r : ℕ) → bit (0 == r + 1) ≡ 0
zero_names_none r = grind arith

word_once : (n w : ℕ) → ((r : ℕ) → w ≡ r + 1 → r < n) → sum_below n (λ r. bit (w == r + 1)) ≡ bit (not (w == 0))
word_once n w h = cases (w == 0) refl
  where
    cases : (t : Bool) → (w == 0) ≡ t → sum_below n (λ r. bit (w == r + 1)) ≡ bit (not (w == 0))
    cases true e = let z = eqb-true w 0 e in rw z (sum_zero n (λ r. bit (0 == r + 1)) zero_names_none)
    cases false e =
        let some : w ≢ 0 = eqb-false w 0 e in
        let named : w ≡ (w - 1) + 1 = omega (arith, some) in
        rw e (sum_same n (λ r. bit (w == r + 1)) (λ r. bit ((w - 1) == r)) (λ r l. name_of w r some) ∙ sum_point n (w - 1) (h (w - 1) named))

-- ---- each row has one place

some_entry : (xs : List ℕ) (r : ℕ) → list_any (λ q. q == r) xs ≡ true → 1 ≤ listings xs r
some_entry xs r h = positive (listings xs r) (sym (some_listed xs r) ∙ h)
  where
    positive : (n : ℕ) → not (n == 0) ≡ true → 1 ≤ n
    positive n e = grind arith

no_entry : (xs : List ℕ) (r : ℕ) → list_any (λ q. q == r) xs ≡ false → listings xs r ≡ 0
no_entry xs r h = none (listings xs r) (sym (some_listed xs r) ∙ h)
  where
    none : (n : ℕ) → not (n == 0) ≡ false → n ≡ 0
    none n e = grind arith

some_lists : (n : ℕ) (lists : ℕ → List ℕ) (r : ℕ) → some_below n (λ a. list_any (λ q. q == r) (lists a)) ≡ true → 1 ≤ sum_below n (λ a. listings (lists a) r)
some_lists zero lists r h = absurd (false≢true h)
some_lists (suc n) lists r h = cases (some_below n (λ a. list_any (λ q. q == r) (lists a))) refl h (some_lists n lists r)
  where
    cases : (t : Bool) → some_below n (λ a. list_any (λ q. q == r) (lists a)) ≡ t → (t || list_any (λ q. q == r) (lists n)) ≡ true
        → (some_below n (λ a. list_any (λ q. q == r) (lists a)) ≡ true → 1 ≤ sum_below n (λ a. listings (lists a) r))
        → 1 ≤ sum_below n (λ a. listings (lists a) r) + listings (lists n) r
    cases true e g before = let k = before e in omega arith
    cases false e g before = let k = some_entry (lists n) r g in omega arith

one_place : (m : Machine) (r : ℕ) → tokens m r ≡ bit (is_retired m r)
    → bit (is_retired m r && not (is_listed m r)) ≡ sum_below m.bounds.agents (λ a. parts (record_at m a) r) + sum_below m.bounds.agents (handed m r)
one_place m r token = cases (is_retired m r) (is_listed m r) refl refl
  where
    lists : ℕ → List ℕ
    lists a = (record_at m a).list.items

    split : sum_below m.bounds.agents (λ a. places_of (record_at m a) r)
        ≡ sum_below m.bounds.agents (λ a. parts (record_at m a) r) + sum_below m.bounds.agents (λ a. listings (record_at m a).list.items r)
    split = sum_add m.bounds.agents (λ a. parts (record_at m a) r) (λ a. listings (record_at m a).list.items r)

    cases : (t u : Bool) → is_retired m r ≡ t → is_listed m r ≡ u
        → bit (t && not u) ≡ sum_below m.bounds.agents (λ a. parts (record_at m a) r) + sum_below m.bounds.agents (handed m r)
    cases false u e f = let b = rw e at token in let s = split in omega arith
    cases true true e f =
        let b = rw e at token in
        let s = split in
        let l = some_lists m.bounds.agents (λ a. (record_at m a).list.items) r f in
        omega arith
    cases true false e f =
        let b = rw e at token in
        let s = split in
        let l = sum_same m.bounds.agents (λ a. listings (record_at m a).list.items r) (λ a. 0)
        (λ a k. no_entry (record_at m a).list.items r (below_none m.bounds.agents a (λ x. list_any (λ q. q == r) (record_at m x).list.items) f k)) in
        let z = sum_zero m.bounds.agents (λ a. 0) (λ a. refl) in
        omega arith

-- ---- all rows

-- what a state's parts name is in the table
record NamesRows (m : Machine) : Type 0 where
  hand : (a r : ℕ) → a < m.bounds.agents → names (record_at m a).hand r ≡ true → r < m.bounds.rows
  scan : (a r : ℕ) → a < m.bounds.agents → scans (record_at m a).scan r ≡ true → r < m.bounds.rows
  doom : (a r : ℕ) → a < m.bounds.agents → dooms (record_at m a).doom r ≡ true → r < m.bounds.rows
  handover : (a k r : ℕ) → a < m.bounds.agents → k < 8 → word_in m (Handover a k) ≡ r + 1 → r < m.bounds.rows

parts_of_rows : (m : Machine) (a : ℕ) → NamesRows m → a < m.bounds.agents
    → sum_below m.bounds.rows (λ r. parts (record_at m a) r)
    ≡ bit (is_some (record_at m a).hand) + bit (is_some (record_at m a).scan) + bit (has_bit (record_at m a).doom)
parts_of_rows m a s l =
    let h = hand_once m.bounds.rows (record_at m a).hand (λ r e. s.hand a r l e) in
    let c = scan_once m.bounds.rows (record_at m a).scan (λ r e. s.scan a r l e) in
    let d = doom_once m.bounds.rows (record_at m a).doom (λ r e. s.doom a r l e) in
    let i = sum_add m.bounds.rows (λ r. bit (names (record_at m a).hand r) + bit (scans (record_at m a).scan r)) (λ r. bit (dooming (record_at m a).doom r)) in
    let j = sum_add m.bounds.rows (λ r. bit (names (record_at m a).hand r)) (λ r. bit (scans (record_at m a).scan r)) in
    omega arith

words_of_rows : (m : Machine) (a : ℕ) → NamesRows m → a < m.bounds.agents → sum_below m.bounds.rows (λ r. handed m r a) ≡ handovers m a
words_of_rows m a s l =
    sum_swap m.bounds.rows 8 (λ r k. bit (word_in m (Handover a k) == r + 1)) ∙
    sum_same 8 (λ k. sum_below m.bounds.rows (λ r. bit (word_in m (Handover a k) == r + 1))) (λ k. bit (not (word_in m (Handover a k) == 0)))
    (λ k j. word_once m.bounds.rows (word_in m (Handover a k)) (λ r e. s.handover a k r l j e))

backlog_waits : (m : Machine) → NamesRows m → ((r : ℕ) → r < m.bounds.rows → tokens m r ≡ bit (is_retired m r)) → backlog m ≡ waiting m
backlog_waits m s token =
    let n = m.bounds.rows in
    let k = m.bounds.agents in
    let e = sum_same n (λ r. bit (is_retired m r && not (is_listed m r))) (λ r. sum_below k (λ a. parts (record_at m a) r) + sum_below k (handed m r))
    (λ r l. one_place m r (token r l)) in
    let d = sum_add n (λ r. sum_below k (λ a. parts (record_at m a) r)) (λ r. sum_below k (handed m r)) in
    let p = sum_swap n k (λ r a. parts (record_at m a) r) in
    let q = sum_swap n k (λ r a. handed m r a) in
    let i = sum_same k (λ a. sum_below n (λ r. parts (record_at m a) r))
    (λ a. bit (is_some (record_at m a).hand) + bit (is_some (record_at m a).scan) + bit (has_bit (record_at m a).doom))
    (λ a l. parts_of_rows m a s l) in
    let j = sum_same k (λ a. sum_below n (λ r. handed m r a)) (handovers m) (λ a l. words_of_rows m a s l) in
    let t = sum_add k (λ a. bit (is_some (record_at m a).hand) + bit (is_some (record_at m a).scan) + bit (has_bit (record_at m a).doom)) (handovers m) in
    omega arith

names_rows : (m : Machine) → AllFits m.bounds (world_of m) → IsSound m → NamesRows m
names_rows m f s = record {
  hand = λ a r l e. f.rows.in_hand a r e;
  scan = λ a r l e. s.scans.row a r l e;
  doom = λ a r l e. (s.doomed.out a r l e).0;
  handover = λ a k r l j e. f.rows.handed a k r (word_shown m (Handover a k) (l, j) ∙ e);
}

-- so the backlog is counted with the agents alone
pub backlog_is : (b : Bounds) (steps : List (ℕ × Op)) → IsShape b → IsLawful (new_machine b) steps
    → backlog (run (new_machine b) steps) ≡ waiting (run (new_machine b) steps)
backlog_is b steps shape l =
    let m = run (new_machine b) steps in
    let s = run_sound b steps shape l in
    backlog_waits m (names_rows m (run_fits b steps shape l) s) s.token.one
