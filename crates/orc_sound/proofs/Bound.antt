-- At most nine retired rows an agent are in no work list: one in each handover word, and one in hand, scan or doom.
use Rattle.std.proofs.Common.{Bool, List, [], ap, arith, false, refl, sym, true, ℕ, ◌*◌, ◌+◌, ◌-◌, ◌<◌, ◌∷◌, ◌≡◌, ◌≤◌}
use Rattle.std.proofs.lemmas.Bool.{eqb-true, false≢true}
use Rattle.std.specs.List.{list_any}
use Rattle.std.specs.Prelude.{None, Option, Some, is_some, not, ◌&&◌, ◌==◌, ◌||◌}
use Rattle.orc_words.specs.Packed.{bit, retired_bit}
use Rattle.orc_words.specs.declared.place.Word.{Word}
use Rattle.orc_words.specs.declared.place.Word.TheVariants.{Counter, Handover}
use Rattle.orc_core.specs.Counts.{is_retired}
use Rattle.orc_core.specs.Machine.{Machine, record_at, word_in}
use Rattle.orc_core.specs.RecordParts.{names, scans}
use Rattle.orc_core.specs.Sums.{sum_below}
use Rattle.orc_core.specs.declared.records.Agent.{Agent}
use Rattle.orc_core.specs.declared.records.Doom.{Doom}
use Rattle.orc_core.specs.declared.records.Scan.{Scan}
use Rattle.orc_sound.proofs.Facts.{Counted, handed_in, hands_row}
use Rattle.orc_sound.proofs.Rows.{listings_cons}
use Rattle.orc_sound.proofs.Shown.{below_none, word_shown}
use Rattle.orc_sound.proofs.Sums.{sum_add, sum_mono, sum_point_le, sum_same, sum_swap, sum_times, sum_zero}
use Rattle.orc_sound.proofs.World.{world_of}
use Rattle.orc_sound.specs.Backlog.{backlog, is_listed}
use Rattle.orc_sound.specs.RetirementToken.{HasOnePart, dooming, listings}

abbrev held_parts : Agent → ℕ → ℕ
held_parts d r = bit (names d.hand r) + bit (scans d.scan r) + bit (dooming d.doom r)

hand_once : (n : ℕ) (o : Option ℕ) → sum_below n (λ r. bit (names o r)) ≤ bit (is_some o)
hand_once n None = let e = sum_zero n (λ r. 0) (λ r. refl) in omega arith
hand_once n (Some q) = sum_point_le n q

scan_once : (n : ℕ) (o : Option Scan) → sum_below n (λ r. bit (scans o r)) ≤ bit (is_some o)
scan_once n None = let e = sum_zero n (λ r. 0) (λ r. refl) in omega arith
scan_once n (Some s) = sum_point_le n s.row

and_le : (a b : Bool) → bit (a && b) ≤ bit a
and_le true true = omega arith
and_le true false = omega arith
and_le false b = omega arith

doom_once : (n : ℕ) (o : Option Doom) → sum_below n (λ r. bit (dooming o r)) ≤ bit (is_some o)
doom_once n None = let e = sum_zero n (λ r. 0) (λ r. refl) in omega arith
doom_once n (Some d) = let e = sum_mono n (λ r. bit ((d.row == r) && not d.bare)) (λ r. bit (d.row == r)) (λ r l. and_le (d.row == r) (not d.bare)) in
    let p = sum_point_le n d.row in omega arith

parts_once : (n : ℕ) (d : Agent) → HasOnePart d → sum_below n (λ r. held_parts d r) ≤ 1
parts_once n d o =
    let h = hand_once n d.hand in
    let s = scan_once n d.scan in
    let e = doom_once n d.doom in
    let i = sum_add n (λ r. bit (names d.hand r) + bit (scans d.scan r)) (λ r. bit (dooming d.doom r)) in
    let j = sum_add n (λ r. bit (names d.hand r)) (λ r. bit (scans d.scan r)) in
    omega arith

hand_le : (w r : ℕ) → hands_row w r ≤ bit ((w - 1) == r)
hand_le w r = grind arith

word_once : (n w : ℕ) → sum_below n (λ r. hands_row w r) ≤ 1
word_once n w = let e = sum_mono n (λ r. hands_row w r) (λ r. bit ((w - 1) == r)) (λ r l. hand_le w r) in let p = sum_point_le n (w - 1) in omega arith

eight_words : (n a : ℕ) (m : Word → ℕ) → sum_below n (λ r. sum_below 8 (λ k. hands_row (m (Handover a k)) r)) ≤ 8
eight_words n a m =
    let s = sum_swap n 8 (λ r k. hands_row (m (Handover a k)) r) in
    let e = sum_mono 8 (λ k. sum_below n (λ r. hands_row (m (Handover a k)) r)) (λ k. 1) (λ k l. word_once n (m (Handover a k))) in
    let t = sum_times 8 1 in
    omega arith

unlisted : (xs : List ℕ) (r : ℕ) → list_any (λ q. q == r) xs ≡ false → listings xs r ≡ 0
unlisted [] r h = refl
unlisted (x ∷ xs) r h = first (x == r) refl h (unlisted xs r)
  where
    first : (t : Bool) → (x == r) ≡ t → (t || list_any (λ q. q == r) xs) ≡ false → (list_any (λ q. q == r) xs ≡ false → listings xs r ≡ 0)
        → listings (x ∷ xs) r ≡ 0
    first true e g rest = absurd (false≢true (sym g))
    first false e g rest = let k = listings_cons x xs r in let i = rest g in let j = ap bit e in omega arith

-- a retired row in no work list is in a handover word, or in an agent's hand, scan or doom
one_place : (m : Machine) (r : ℕ) → Counted m.bounds (world_of m) → r < m.bounds.rows
    → bit (is_retired m r && not (is_listed m r)) ≤ sum_below m.bounds.agents (λ a. held_parts (record_at m a) r) + handed_in m.bounds (world_of m).memory r
one_place m r s h = cases (is_retired m r) (is_listed m r) refl refl
  where
    cases : (t u : Bool) → is_retired m r ≡ t → is_listed m r ≡ u → bit (t && not u) ≤ sum_below m.bounds.agents (λ a. held_parts (record_at m a) r)
        + handed_in m.bounds (world_of m).memory r
    cases false u e f = omega arith
    cases true true e f = omega arith
    cases true false e f =
        let b = rw (word_shown m (Counter r) h) at (s.token r h) in
        let c = eqb-true (retired_bit (word_in m (Counter r))) 1 e in
        let p = sum_add m.bounds.agents (λ a. held_parts (record_at m a) r) (λ a. listings (record_at m a).list.items r) in
        let l = sum_same m.bounds.agents (λ a. listings (record_at m a).list.items r) (λ a. 0)
        (λ a k. unlisted (record_at m a).list.items r (below_none m.bounds.agents a (λ x. list_any (λ q. q == r) (record_at m x).list.items) f k)) in
        let z = sum_zero m.bounds.agents (λ a. 0) (λ a. refl) in
        omega arith

pub backlog_bound : (m : Machine) → Counted m.bounds (world_of m) → backlog m ≤ 9 * m.bounds.agents
backlog_bound m s =
    let n = m.bounds.rows in
    let k = m.bounds.agents in
    let e = sum_mono n (λ r. bit (is_retired m r && not (is_listed m r)))
    (λ r. sum_below k (λ a. held_parts (record_at m a) r) + handed_in m.bounds (world_of m).memory r) (λ r h. one_place m r s h) in
    let d = sum_add n (λ r. sum_below k (λ a. held_parts (record_at m a) r)) (λ r. handed_in m.bounds (world_of m).memory r) in
    let p = sum_swap n k (λ r a. held_parts (record_at m a) r) in
    let q = sum_swap n k (λ r a. sum_below 8 (λ j. hands_row ((world_of m).memory (Handover a j)) r)) in
    let i = sum_mono k (λ a. sum_below n (λ r. held_parts (record_at m a) r)) (λ a. 1) (λ a h. parts_once n (record_at m a) (s.one_part a)) in
    let j = sum_mono k (λ a. sum_below n (λ r. sum_below 8 (λ j. hands_row ((world_of m).memory (Handover a j)) r))) (λ a. 8)
    (λ a h. eight_words n a (world_of m).memory) in
    let t = sum_times k 1 in
    let u = sum_times k 8 in
    omega arith
