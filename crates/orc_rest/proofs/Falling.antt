-- The steps of settle, and what they lower.
use Rattle.std.proofs.Common.{Bool, arith, cond, false, refl, sym, true, ℕ, ◌%◌, ◌*◌, ◌+◌, ◌<◌, ◌∙◌, ◌≡◌, ◌≤◌}
use Rattle.std.proofs.lemmas.Bool.{false≢true}
use Rattle.std.specs.Prelude.{None, Option, Some, is_some, not, ◌&&◌, ◌==◌, ◌||◌}
use Rattle.orc_core.proofs.Within.{and_both}
use Rattle.orc_core.specs.RecordParts.{doom_cut, scans}
use Rattle.orc_core.specs.Sums.{sum_below}
use Rattle.orc_core.specs.declared.ops.CounterUse.TheVariants.{End, Start}
use Rattle.orc_core.specs.declared.ops.Op.{Op}
use Rattle.orc_core.specs.declared.ops.Op.TheVariants.{Arm, Clear, CounterLoad, Dec, Free, Hand, LinkStore, SetRetired, SlotLook, TakeIn, Unretire}
use Rattle.orc_core.specs.declared.records.Doom.{Doom}
use Rattle.orc_core.specs.declared.records.Scan.{Scan}
use Rattle.orc_rest.proofs.Steps.{arm_work, clear_work, cut_work, dec_work, end_work, free_work, hand_work, look_work, start_work, take_in_work}
use Rattle.orc_rest.proofs.Steps.{try_work, unretire_doom_work, unretire_scan_work, work_after, work_in}
use Rattle.orc_rest.specs.Work.{IsSettlingStep, drop_of, is_full, is_open, open_at, slots_open, staleness, uncut}
use Rattle.orc_sound.proofs.AllFits.{AllFits}
use Rattle.orc_sound.proofs.Facts.{LawfulStep}
use Rattle.orc_sound.proofs.Rows.{list_length}
use Rattle.orc_sound.proofs.Sums.{sum_le, sum_mono, sum_times}
use Rattle.orc_sound.proofs.World.{World}
use Rattle.orc_words.specs.Bounds.{Bounds}
use Rattle.orc_words.specs.Packed.{bit}
use Rattle.orc_words.specs.declared.place.Word.{Word}
use Rattle.orc_words.specs.declared.place.Word.TheVariants.{Counter, Gate, Handover, Slot}

lower : (x y : ℕ) → x ≡ y → x + 0 ≤ y
lower x y e = omega arith

lower_le : (x y : ℕ) → x ≤ y → x + 0 ≤ y
lower_le x y e = omega arith

unretire_work : (b : Bounds) (z : World) (a q : ℕ) → LawfulStep b z a (Unretire q)
    → work_after b z a (Unretire q) + bit (is_some (z.seats a).scan) ≤ work_in b z a
unretire_work b z a q p = cases (doom_cut b.links (z.seats a).doom q) refl
  where
    scan_is : (o : Option Scan) → scans o q ≡ true → bit (is_some o) ≡ 1
    scan_is None h = absurd (false≢true h)
    scan_is (Some s) h = refl

    cut_is : (o : Option Doom) → doom_cut b.links o q ≡ true → bit (is_some o) ≡ 1
    cut_is None h = absurd (false≢true h)
    cut_is (Some s) h = refl

    scan_parts : (u v w x : Bool) → ((u && not v && w) || x) ≡ true → x ≡ false → (u ≡ true) × (v ≡ false)
    scan_parts true false w x h e = (refl, refl)
    scan_parts true true w x h e = absurd (false≢true (sym e ∙ h))
    scan_parts false v w x h e = absurd (false≢true (sym e ∙ h))

    cases : (t : Bool) → doom_cut b.links (z.seats a).doom q ≡ t → work_after b z a (Unretire q) + bit (is_some (z.seats a).scan) ≤ work_in b z a
    cases true h =
        let w = unretire_doom_work b z a q p h in
        let o = p.counted.one_part a in
        let c = cut_is (z.seats a).doom h in
        omega arith
    cases false h =
        let s = scan_parts _ _ _ _ (and_both _ _ p.fits).1 h in
        let w = unretire_scan_work b z a q p s.0 s.1 in
        let o = scan_is (z.seats a).scan s.0 in
        omega arith

pub settling_work : (b : Bounds) (z : World) (a : ℕ) (op : Op) → LawfulStep b z a op → ((r : ℕ) → scans (z.seats a).scan r ≡ true → r < b.rows)
    → IsSettlingStep z.memory op (z.seats a) → work_after b z a op + drop_of op (z.seats a) ≤ work_in b z a
settling_work b z a (CounterLoad q Start) p r h = lower _ _ (start_work b z a q p)
settling_work b z a (CounterLoad q End) p r h = end_work b z a q p
settling_work b z a (SlotLook k) p r h = lower _ _ (look_work b z a k p)
settling_work b z a (Hand k) p r h = hand_work b z a k p r (h.0 0) h.1
settling_work b z a (LinkStore q l nr) p r h = lower_le _ _ (cut_work b z a q nr l p h.0 h.1)
settling_work b z a (Arm q) p r h = lower _ _ (arm_work b z a q p)
settling_work b z a (Dec q) p r h = lower_le _ _ (dec_work b z a q p h)
settling_work b z a (SetRetired q n) p r h = lower_le _ _ (try_work b z a q n p h.0 h.1)
settling_work b z a (Unretire q) p r h = unretire_work b z a q p
settling_work b z a (Free q) p r h = free_work b z a q p
settling_work b z a (Clear k) p r h = lower_le _ _ (clear_work b z a k p)
settling_work b z a (TakeIn k) p r h = rw h (lower_le _ _ (take_in_work b z a (rw h at p)))
settling_work b z a op p r h = absurd h

-- at most one for each slot
opens_le : (b : Bounds) (m : Word → ℕ) (a : ℕ) → slots_open b m a ≤ 8 * b.agents
opens_le b m a =
    let e = sum_mono b.agents (λ x. sum_below 8 (open_at m a x)) (λ x. 8)
    (λ x h. sum_le 8 (open_at m a x) (λ j. open_one ((x == a) && (j == 0)) (m (Slot x j)) (m (Handover x j)))) in
    let t = sum_times b.agents 8 in
    omega arith
  where
    open_one : (t : Bool) (v w : ℕ) → cond t 0 (is_open v w) ≤ 1
    open_one true v w = omega arith
    open_one false v w = bit_one _
      where
        bit_one : (u : Bool) → bit u ≤ 1
        bit_one true = omega arith
        bit_one false = omega arith

stale_le : (m : Word → ℕ) (o : Option Scan) → staleness m o ≤ 2
stale_le m None = omega arith
stale_le m (Some s) = cases (m (Counter s.row) == s.word)
  where
    cases : (t : Bool) → cond t 0 2 ≤ 2
    cases true = omega arith
    cases false = omega arith

full_le : (w : ℕ) → is_full w ≤ 1
full_le w = cases (w == 0)
  where
    cases : (t : Bool) → bit (not t) ≤ 1
    cases true = omega arith
    cases false = omega arith

uncut_le : (o : Option Doom) → uncut o ≤ 3
uncut_le None = omega arith
uncut_le (Some d) = omega arith

-- with nothing pending, the work is within the bound on rounds
pub work_bound : (b : Bounds) (z : World) (a : ℕ) → AllFits b z → a < b.agents → (z.seats a).dec ≡ None → (z.seats a).due ≡ None
    → work_in b z a ≤ 4 * (b.rows + 8 * b.agents)
work_bound b z a s h d u =
    let l = list_length b z a s.counted s.rows h in
    let p = s.counted.one_part a in
    let o = sum_le b.rows (λ r. z.memory (Gate r) % 2) (λ r. parity (z.memory (Gate r))) in
    let e = opens_le b z.memory a in
    let t = stale_le z.memory (z.seats a).scan in
    let f = full_le (z.memory (Handover a 0)) in
    let c = uncut_le (z.seats a).doom in
    rw (d, u) (omega arith)
  where
    parity : (w : ℕ) → w % 2 ≤ 1
    parity w = omega arith
