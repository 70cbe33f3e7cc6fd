-- Where each step of settling is allowed, by what the calls before it left.
use Rattle.std.proofs.Common.{Bool, ap, arith, cond, false, get_or-set_same, length, refl, subst, sym, true, ℕ, ◌*◌, ◌+◌, ◌<◌, ◌∙◌, ◌≡◌, ◌≢◌, ◌≤◌}
use Rattle.std.proofs.lemmas.Bool.{eq-eqb, eqb-false, eqb-true, false≢true, lt-ltb}
use Rattle.std.specs.Prelude.{None, Option, Some, is_some, slice_set, ◌==◌}
use Rattle.orc_core.specs.After.{after, due_after}
use Rattle.orc_core.specs.Allowed.{fits, forced, stands}
use Rattle.orc_core.specs.Machine.{Machine, is_allowed, new_machine, record_at, word_in}
use Rattle.orc_core.specs.RecordParts.{is_clear, is_empty, scan_empty, scans, slot_of}
use Rattle.orc_core.specs.Runs.{run}
use Rattle.orc_core.specs.declared.ops.CounterUse.TheVariants.{End}
use Rattle.orc_core.specs.declared.ops.Op.{Op}
use Rattle.orc_core.specs.declared.ops.Op.TheVariants.{Arm, CounterLoad, Dec, Free, LinkStore, Unretire}
use Rattle.orc_core.specs.declared.records.Agent.{Agent}
use Rattle.orc_core.specs.declared.records.Reading.{Reading}
use Rattle.orc_core.specs.declared.records.Scan.{Scan}
use Rattle.orc_core.specs.declared.records.SlotUse.TheVariants.{Empty, Held}
use Rattle.orc_rest.proofs.Stages.{allowed, dec_row, scanned_row}
use Rattle.orc_rest.specs.Records.{DueFits, IsDoomOf, IsScanOf, IsSettling, IsStill, SameTasks}
use Rattle.orc_rest.specs.Rounds.{AfterStep, Went}
use Rattle.orc_rest.specs.Turns.{IsReachedState}
use Rattle.orc_sound.proofs.AllFits.{run_fits}
use Rattle.orc_sound.proofs.DoomedStep.{out_below}
use Rattle.orc_sound.proofs.World.{world_of}
use Rattle.orc_sound.specs.Doomed.{dooms}
use Rattle.orc_words.specs.Bounds.{Bounds}
use Rattle.orc_words.specs.Operations.{word_add, word_sub}
use Rattle.orc_words.specs.Packed.{bit, count_bits, sequence_of}
use Rattle.orc_words.specs.declared.place.Word.TheVariants.{Enrolled}

pub agents_on : (m n : Machine) (a : ℕ) → n.bounds ≡ m.bounds → a < m.bounds.agents → a < n.bounds.agents
agents_on m n a e h = subst (λ (b : Bounds). a < b.agents) (sym e) h

rows_on : (m n : Machine) (r : ℕ) → n.bounds ≡ m.bounds → r < m.bounds.rows → r < n.bounds.rows
rows_on m n r e h = subst (λ (b : Bounds). r < b.rows) (sym e) h

-- a step is allowed by what the record is
allowed_at : (n : Machine) (a : ℕ) (op : Op) (d : Agent) → record_at n a ≡ d → a < n.bounds.agents → stands op d ≡ true → forced d op ≡ true
    → fits n.bounds (word_in n Enrolled) a op d ≡ true → is_allowed n a op ≡ true
allowed_at n a op d e h s f t = allowed n a op h (subst (λ x. stands op x ≡ true) (sym e) s) (subst (λ x. forced x op ≡ true) (sym e) f)
    (subst (λ x. fits n.bounds (word_in n Enrolled) a op x ≡ true) (sym e) t)

-- the scanned row is held in slot 0
pub arm_scanned : (m : Machine) (a r : ℕ) → IsReachedState m → a < m.bounds.agents → IsStill (record_at m a) → scans (record_at m a).scan r ≡ true
    → scan_empty (record_at m a).scan ≡ false → is_allowed m a (Arm r) ≡ true
arm_scanned m a r k h s e g = allowed m a (Arm r) h s.calm.enrolled (rw (s.due, s.calm.inc, s.dec) refl)
    (rw (lt-ltb r m.bounds.rows (scanned_row m a r k e), s.zero, s.dec, e, g) refl)

held_zero : (d : Agent) (r : ℕ) → length d.slots ≡ 8 → slot_of (record d { slots = slice_set d.slots 0 (Held r) }) 0 ≡ Held r
held_zero d r l = get_or-set_same d.slots 0 (Held r) Empty (rw l (omega arith))

pub unretire_armed : (m n : Machine) (a r : ℕ) → IsReachedState m → a < m.bounds.agents → IsStill (record_at m a) → scans (record_at m a).scan r ≡ true
    → scan_empty (record_at m a).scan ≡ false → n.bounds ≡ m.bounds → AfterStep a (Arm r) m n → is_allowed n a (Unretire r) ≡ true
unretire_armed m n a r k h s e g b w =
    allowed_at n a (Unretire r) (after (Arm r) (record_at m a) w.word) w.is (agents_on m n a b h) s.calm.enrolled (rw (s.due, s.calm.inc, s.dec) refl)
    (rw (lt-ltb r n.bounds.rows (rows_on m n r b (scanned_row m a r k e)), held_zero (record_at m a) r s.calm.eight, e, g, eq-eqb r r refl) refl)

due_fits : (b : Bounds) (r w : ℕ) (o : Option Reading) → r < b.rows → w < 18446744073709551616 → o ≡ None → DueFits b (due_after r w o)
due_fits b r w o h l e = cases (is_clear w)
  where
    none : DueFits b o
    none = subst (DueFits b) (sym e) tt

    cases : (t : Bool) → DueFits b (cond t (Some (record { row = r; number = sequence_of w })) o)
    cases true = (h, omega arith)
    cases false = none

pub due_unretired : (m n o : Machine) (a r : ℕ) → IsReachedState m → IsStill (record_at m a) → scans (record_at m a).scan r ≡ true → n.bounds ≡ m.bounds
    → o.bounds ≡ n.bounds → AfterStep a (Arm r) m n → AfterStep a (Unretire r) n o → DueFits o.bounds (record_at o a).due
due_unretired m n o a r k s e b c w v =
    let old : (record_at n a).due ≡ None = ap (λ (d : Agent). d.due) w.is ∙ s.due in
    let fit = due_fits o.bounds r (word_sub v.word 8388608) (record_at n a).due (rows_on n o r c (rows_on m n r b (scanned_row m a r k e)))
    (below v.word) old in
    subst (λ (d : Agent). DueFits o.bounds d.due) (sym v.is) (either (is_some (record_at n a).scan) fit (subst (DueFits o.bounds) (sym old) tt))
  where
    below : (w : ℕ) → word_sub w 8388608 < 18446744073709551616
    below w = omega arith

    either : (t : Bool) → DueFits o.bounds (due_after r (word_sub v.word 8388608) (record_at n a).due) → DueFits o.bounds (record_at n a).due
        → DueFits o.bounds (cond t (due_after r (word_sub v.word 8388608) (record_at n a).due) (record_at n a).due)
    either true x y = x
    either false x y = y

pub scan_some : (o : Option Scan) (r : ℕ) → scans o r ≡ true → bit (is_some o) ≡ 1
scan_some None r h = absurd (false≢true h)
scan_some (Some s) r h = refl

-- the pending decrement
pub arm_dec : (m : Machine) (a r : ℕ) → IsReachedState m → a < m.bounds.agents → IsSettling (record_at m a) → slot_of (record_at m a) 0 ≡ Empty
    → (record_at m a).due ≡ None → (record_at m a).dec ≡ Some r → is_allowed m a (Arm r) ≡ true
arm_dec m a r k h c z e d = allowed m a (Arm r) h c.enrolled (rw (e, c.inc, d, eq-eqb r r refl) refl)
    (rw (lt-ltb r m.bounds.rows (dec_row m a r k d), z, d, eq-eqb r r refl) refl)

pub dec_armed : (m n : Machine) (a r : ℕ) → IsReachedState m → a < m.bounds.agents → IsSettling (record_at m a) → (record_at m a).due ≡ None
    → (record_at m a).dec ≡ Some r → n.bounds ≡ m.bounds → AfterStep a (Arm r) m n → is_allowed n a (Dec r) ≡ true
dec_armed m n a r k h c e d b w =
    allowed_at n a (Dec r) (after (Arm r) (record_at m a) w.word) w.is (agents_on m n a b h) c.enrolled (rw (e, c.inc, d, eq-eqb r r refl) refl)
    (rw (lt-ltb r n.bounds.rows (rows_on m n r b (dec_row m a r k d)), held_zero (record_at m a) r c.eight, d, eq-eqb r r refl) refl)

pub due_decremented : (m n o : Machine) (a r : ℕ) → IsReachedState m → (record_at m a).due ≡ None → (record_at m a).dec ≡ Some r → n.bounds ≡ m.bounds
    → o.bounds ≡ n.bounds → AfterStep a (Arm r) m n → AfterStep a (Dec r) n o → DueFits o.bounds (record_at o a).due
due_decremented m n o a r k e d b c w v =
    let old : (record_at n a).due ≡ None = ap (λ (d : Agent). d.due) w.is ∙ e in
    subst (λ (d : Agent). DueFits o.bounds d.due) (sym v.is) (due_fits o.bounds r (word_add v.word 16777215) (record_at n a).due
    (rows_on n o r c (rows_on m n r b (dec_row m a r k d))) (below v.word) old)
  where
    below : (w : ℕ) → word_add w 16777215 < 18446744073709551616
    below w = omega arith

-- a doomed row
pub doomed_row : (m : Machine) (a r cuts : ℕ) → IsReachedState m → IsDoomOf r cuts (record_at m a).doom → r < m.bounds.rows
doomed_row m a r cuts k e = subst (λ x. dooms (record_at x a).doom r ≡ true → r < x.bounds.rows) (sym k.is) below
    (subst (λ o. dooms o r ≡ true) (sym e) (eq-eqb r r refl))
  where
    below : dooms (record_at (run (new_machine k.bounds) k.steps) a).doom r ≡ true → r < (run (new_machine k.bounds) k.steps).bounds.rows
    below h = let f = run_fits k.bounds k.steps k.shape k.lawful in out_below (run (new_machine k.bounds) k.steps).bounds
        (world_of (run (new_machine k.bounds) k.steps)) r f.counted (f.doomed.gone a r h).is_out

-- the next link of the doomed row
pub cut_allowed : (m : Machine) (a r number : ℕ) → number < m.bounds.links → IsReachedState m → a < m.bounds.agents → IsStill (record_at m a)
    → IsDoomOf r number (record_at m a).doom → is_allowed m a (LinkStore r (record { to = None; mark = false }) number) ≡ true
cut_allowed m a r number low k h s e = allowed m a (LinkStore r (record { to = None; mark = false }) number) h s.calm.enrolled
    (rw (s.due, s.calm.inc, s.dec) refl)
    (rw (
      lt-ltb r m.bounds.rows (doomed_row m a r number k e),
      lt-ltb number m.bounds.links low,
      s.zero,
      s.calm.fresh,
      e,
      eq-eqb r r refl,
      eq-eqb number number refl,
    ) refl)

-- the doom after the link is out
pub doom_is_cut : (m n o : Machine) (a r number : ℕ) → IsDoomOf r number (record_at m a).doom
    → AfterStep a (LinkStore r (record { to = None; mark = false }) number) m n → SameTasks (record_at n a) (record_at o a)
    → IsDoomOf r (number + 1) (record_at o a).doom
doom_is_cut m n o a r number e w k = k.doom ∙ (ap (λ (d : Agent). d.doom) w.is ∙ rw (e, eq-eqb r r refl, eq-eqb number number refl) refl)

-- once all links are out
pub unretire_cut : (m : Machine) (a r cuts : ℕ) → cuts ≡ m.bounds.links → IsReachedState m → a < m.bounds.agents → IsStill (record_at m a)
    → (record_at m a).scan ≡ None → IsDoomOf r cuts (record_at m a).doom → is_allowed m a (Unretire r) ≡ true
unretire_cut m a r cuts all k h s scan e = allowed m a (Unretire r) h s.calm.enrolled (rw (s.due, s.calm.inc, s.dec) refl)
    (rw (lt-ltb r m.bounds.rows (doomed_row m a r cuts k e), e, eq-eqb cuts m.bounds.links all, scan, eq-eqb r r refl) refl)

pub free_bare : (m n : Machine) (a r cuts : ℕ) → IsReachedState m → a < m.bounds.agents → IsStill (record_at m a) → (record_at m a).scan ≡ None
    → IsDoomOf r cuts (record_at m a).doom → n.bounds ≡ m.bounds → AfterStep a (Unretire r) m n → is_allowed n a (Free r) ≡ true
free_bare m n a r cuts k h s scan e b w =
    allowed_at n a (Free r) (after (Unretire r) (record_at m a) w.word) w.is (agents_on m n a b h) s.calm.enrolled
    (rw (scan, s.due, s.calm.inc, s.dec) refl)
    (rw (lt-ltb r n.bounds.rows (rows_on m n r b (doomed_row m a r cuts k e)), e, eq-eqb r r refl) refl)

-- a turn that lowers the work by more lowers it by less
abbrev pub went_less : (a x y : ℕ) (m n : Machine) → y ≤ x → Went a x m n → Went a y m n
went_less a x y m n h w = record {
  turn = record {
    steps = w.turn.steps;
    lawful = w.turn.lawful;
    is = w.turn.is;
    falls = λ all. let f = w.turn.falls all in
        omega arith;
    hands = w.turn.hands;
    others = w.turn.others;
  };
  reached = w.reached;
  bounds = w.bounds;
}

pub end_allowed : (m : Machine) (a r k : ℕ) → IsReachedState m → a < m.bounds.agents → IsStill (record_at m a) → IsScanOf r k (record_at m a).scan
    → k ≡ 8 * m.bounds.agents → is_allowed m a (CounterLoad r End) ≡ true
end_allowed m a r k q h s f e =
    let scanned : scans (record_at m a).scan r ≡ true = subst (λ o. scans o r ≡ true) (sym f.is) (eq-eqb r r refl) in
    allowed m a (CounterLoad r End) h s.calm.enrolled (rw (s.due, s.calm.inc, s.dec) refl)
    (rw (
      lt-ltb r m.bounds.rows (scanned_row m a r q scanned),
      f.is,
      eq-eqb r r refl,
      eq-eqb (count_bits f.word) 4194304 f.empty,
      eq-eqb k
          (8 * m.bounds.agents) e,
    ) refl)

-- all slots of an agent that is still are empty
pub all_empty : (d : Agent) → IsStill d → (j : ℕ) → is_empty (slot_of d j) ≡ true
all_empty d s j = cases (j == 0) refl
  where
    cases : (t : Bool) → (j == 0) ≡ t → is_empty (slot_of d j) ≡ true
    cases true e = rw (eqb-true j 0 e, s.zero) refl
    cases false e = let n : j ≢ 0 = eqb-false j 0 e in rw (s.calm.slots j (omega arith)) refl
