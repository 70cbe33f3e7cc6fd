-- A scan's kept word is older than its row's word, or agrees with it and the scan is quiet.
use Rattle.std.proofs.Common.{Bool, List, ap, arith, cond, false, length, refl, sym, true, ℕ, ⊎_elim, ◌%◌, ◌*◌, ◌+◌, ◌/◌, ◌<◌, ◌^◌, ◌∙◌, ◌≡◌, ◌≤◌, ◌⊎◌}
use Rattle.std.proofs.lemmas.Bool.{eq-eqb, eqb-false, eqb-true, false≢true, ltb-true}
use Rattle.std.proofs.lemmas.List.{get_or_past}
use Rattle.std.specs.Prelude.{None, Option, Some, is_none, nat_lt, slice_index_or, ◌&&◌, ◌==◌, ◌||◌}
use Rattle.orc_words.specs.Bounds.{Bounds}
use Rattle.orc_words.specs.Packed.{bit, count_bits, retired_bit, sequence_of}
use Rattle.orc_words.specs.declared.place.Word.TheVariants.{Counter, Enrolled, Slot}
use Rattle.orc_core.proofs.Within.{and_both}
use Rattle.orc_core.specs.After.{scan_on}
use Rattle.orc_core.specs.Allowed.{fits}
use Rattle.orc_core.specs.Listed.{first_is}
use Rattle.orc_core.specs.RecordParts.{any_holds, holds, kept, names, scan_at, scan_empty, scan_found, scans, slot_of}
use Rattle.orc_core.specs.declared.ops.CounterUse.TheVariants.{Check, End, Start}
use Rattle.orc_core.specs.declared.ops.Op.{Op}
use Rattle.orc_core.specs.declared.ops.Op.TheVariants.{CounterLoad, Dec, Hand, Inc, SlotLook, Unretire, DecHeld}
use Rattle.orc_core.specs.declared.records.Agent.{Agent}
use Rattle.orc_core.specs.declared.records.Scan.{Scan}
use Rattle.orc_core.specs.declared.records.SlotUse.{SlotUse}
use Rattle.orc_core.specs.declared.records.SlotUse.TheVariants.{Empty, Held, Published}
use Rattle.orc_sound.proofs.Bits.{dec_bounds, dec_held_bounds, inc_bounds, retired_one, scan_places}
use Rattle.orc_sound.proofs.CounterWords.{dec_sequence, inc_sequence}
use Rattle.orc_sound.proofs.DoomedStep.{EndingStep, agent_below, count_stays, ends, sequence_stays, two_places}
use Rattle.orc_sound.proofs.Facts.{Counted, EnrolmentFits, Gone, LawfulStep, decs}
use Rattle.orc_sound.proofs.Outs.{read_out, zero_one}
use Rattle.orc_sound.proofs.Quiet.{Around, Loose, Pinned, begins_quiet, counts_row, held_at, not_pinned_at_end, passed_over, quiet_stays}
use Rattle.orc_sound.proofs.Seats.{either, not_true}
use Rattle.orc_sound.proofs.Sources.{write_same}
use Rattle.orc_sound.proofs.Sums.{sum_member}
use Rattle.orc_sound.proofs.Tokens.{listings_first}
use Rattle.orc_sound.proofs.Uses.{any_of}
use Rattle.orc_sound.proofs.World.{World, read_by, record_by, step_world}
use Rattle.orc_sound.specs.Linked.{uses}
use Rattle.orc_sound.specs.SoundParts.{slot_word}
use Rattle.orc_sound.specs.RetirementToken.{places_of}

abbrev pub IsQuiet : Bounds → World → ℕ → ℕ → Type 0
IsQuiet b z r k = Pinned b z r k ⊎ Loose b z r k

pub record ScanFits (b : Bounds) (z : World) (s : Option Scan) : Type 0 where
  pub row : (r : ℕ) → scans s r ≡ true → r < b.rows
  pub set : (r : ℕ) → scans s r ≡ true → retired_bit (kept s) ≡ 1
  pub older : (r : ℕ) → scans s r ≡ true → sequence_of (kept s) ≤ sequence_of (z.memory (Counter r))
  pub count : (r : ℕ) → scans s r ≡ true → sequence_of (z.memory (Counter r)) ≡ sequence_of (kept s) → count_bits (z.memory (Counter r)) ≡ count_bits (kept s)
  pub empty : scan_found s ≡ true → scan_empty s ≡ true
  pub place : (k : ℕ) → scan_found s ≡ true → scan_at s k ≡ true → k < 8 * b.agents
  pub quiet : (r k : ℕ) → scans s r ≡ true → scan_empty s ≡ true → scan_at s k ≡ true → sequence_of (z.memory (Counter r)) ≡ sequence_of (kept s)
      → IsQuiet b z r k

-- a step at a state whose scans fit, and whose sequences are low
pub record ScanStep (b : Bounds) (z : World) (a : ℕ) (op : Op) : Type 0 where
  pub lawful : LawfulStep b z a op
  pub scans : (x : ℕ) → ScanFits b z (z.seats x).scan
  pub low : (q : ℕ) → sequence_of (z.memory (Counter q)) < 2 ^ 39 + 2 ^ 19

pub empty_kept : (s : Option Scan) → scan_empty s ≡ true → count_bits (kept s) ≡ 4194304
empty_kept None h = absurd (false≢true h)
empty_kept (Some s) h = eqb-true (count_bits s.word) 4194304 h

scan_agent : (b : Bounds) (z : World) (a r : ℕ) → EnrolmentFits b z → scans (z.seats a).scan r ≡ true → a < b.agents
scan_agent b z a r s h = agent_below b z a s (λ e. false≢true (rw e at h))

scanned_bit : (b : Bounds) (z : World) (x r : ℕ) → Counted b z → r < b.rows → scans (z.seats x).scan r ≡ true → retired_bit (z.memory (Counter r)) ≡ 1
scanned_bit b z x r s l h = retired_one b z x r s (scan_agent b z x r s.enrolment h) l (scan_places (z.seats x) r h)

-- a row has one scan
one_scan : (b : Bounds) (z : World) (x a r : ℕ) → Counted b z → r < b.rows → scans (z.seats x).scan r ≡ true → scans (z.seats a).scan r ≡ true → x ≡ a
one_scan b z x a r s l h k = cases (x == a) refl
  where
    cases : (t : Bool) → (x == a) ≡ t → x ≡ a
    cases true e = eqb-true x a e
    cases false e =
        absurd (two_places b z x a r s (scan_agent b z x r s.enrolment h) (scan_agent b z a r s.enrolment k) (eqb-false x a e) l
        (scan_places (z.seats x) r h) (scan_places (z.seats a) r k))

-- a step that counts the row raises its sequence by one
pub sequence_counts : (b : Bounds) (z : World) (a : ℕ) (op : Op) (r : ℕ) → LawfulStep b z a op
    → ((q : ℕ) → sequence_of (z.memory (Counter q)) < 2 ^ 39 + 2 ^ 19) → counts_row op r ≡ true
    → sequence_of ((step_world z a op).memory (Counter r)) ≡ sequence_of (z.memory (Counter r)) + 1
sequence_counts b z a (Inc q) r p l h = rw (← eqb-true q r h, eq-eqb q q refl) (inc_sequence (z.memory (Counter q)) (l q) (inc_bounds b z a q p))
sequence_counts b z a (Dec q) r p l h = rw (← eqb-true q r h, eq-eqb q q refl) (dec_sequence (z.memory (Counter q)) (l q) (dec_bounds b z a q p))
sequence_counts b z a (DecHeld q) r p l h = rw (← eqb-true q r h, eq-eqb q q refl) (dec_sequence (z.memory (Counter q)) (l q) (dec_held_bounds b z a q p))
sequence_counts b z a op r p l h = absurd (false≢true h)

pub sequence_rises : (b : Bounds) (z : World) (a : ℕ) (op : Op) (r : ℕ) → ScanStep b z a op
    → sequence_of (z.memory (Counter r)) ≤ sequence_of ((step_world z a op).memory (Counter r))
sequence_rises b z a op r p = cases (counts_row op r) refl
  where
    cases : (t : Bool) → counts_row op r ≡ t → sequence_of (z.memory (Counter r)) ≤ sequence_of ((step_world z a op).memory (Counter r))
    cases true e = let k = sequence_counts b z a op r p.lawful p.low e in omega arith
    cases false e = let k = sequence_stays b z a op r p.lawful p.low e in omega arith

-- where a row's sequence is still the kept one, the step doesn't count the row
pub uncounted : (b : Bounds) (z : World) (a : ℕ) (op : Op) (x r : ℕ) → ScanStep b z a op → scans (z.seats x).scan r ≡ true
    → sequence_of ((step_world z a op).memory (Counter r)) ≡ sequence_of (kept (z.seats x).scan)
    → (counts_row op r ≡ false) × (sequence_of (z.memory (Counter r)) ≡ sequence_of (kept (z.seats x).scan))
uncounted b z a op x r p h e = cases (counts_row op r) refl
  where
    cases : (t : Bool) → counts_row op r ≡ t → (counts_row op r ≡ false) × (sequence_of (z.memory (Counter r)) ≡ sequence_of (kept (z.seats x).scan))
    cases true t = let k = sequence_counts b z a op r p.lawful p.low t in let o = (p.scans x).older r h in absurd (omega arith)
    cases false t = (t, sym (sequence_stays b z a op r p.lawful p.low t) ∙ e)

around : (b : Bounds) (z : World) (a : ℕ) (op : Op) (x r : ℕ) → ScanStep b z a op → scans (z.seats x).scan r ≡ true
    → scan_empty (z.seats x).scan ≡ true → sequence_of (z.memory (Counter r)) ≡ sequence_of (kept (z.seats x).scan) → Around b z a op r
around b z a op x r p h e q =
    let l = (p.scans x).row r h in
    let s = p.lawful.counted in
    record {
      agent = p.lawful.agent;
      forced = p.lawful.forced;
      fits = p.lawful.fits;
      balance = s.balance r l;
      count = (p.scans x).count r h q ∙ empty_kept (z.seats x).scan e;
      not_fresh = not_true (names (z.seats a).fresh r) (λ k. zero_one (s.fresh_bit a r k) (scanned_bit b z x r s l h));
      other_scan = λ k. rw (← one_scan b z x a r s l h k) e;
      places_out = λ w k. read_out b z a w s k;
    }

-- a scan fits the state after any step
fits_after : (b : Bounds) (z : World) (a : ℕ) (op : Op) → ScanStep b z a op → (x : ℕ) → ScanFits b (step_world z a op) (z.seats x).scan
fits_after b z a op p x = record {
  row = (p.scans x).row;
  set = (p.scans x).set;
  older = λ r h. let k = (p.scans x).older r h in let j = sequence_rises b z a op r p in omega arith;
  count = λ r h e. let u = uncounted b z a op x r p h e in count_stays b z a op r p.lawful u.0 ∙ (p.scans x).count r h u.1;
  empty = (p.scans x).empty;
  place = (p.scans x).place;
  quiet = λ r k h e g q. let u = uncounted b z a op x r p h q in quiet_stays b z a op r k (around b z a op x r p h e u.1) u.0 ((p.scans x).quiet r k h e g u.1);
}

pub none_fits : (b : Bounds) (z : World) → ScanFits b z None
none_fits b z = record {
  row = λ r h. absurd (false≢true h);
  set = λ r h. absurd (false≢true h);
  older = λ r h. absurd (false≢true h);
  count = λ r h. absurd (false≢true h);
  empty = λ h. absurd (false≢true h);
  place = λ k h. absurd (false≢true h);
  quiet = λ r k h. absurd (false≢true h);
}

-- a scan that begins fits
start_fits : (b : Bounds) (z : World) (q w : ℕ) → Counted b z → q < b.rows → retired_bit w ≡ 1 → z.memory (Counter q) ≡ w
    → ScanFits b z (Some (record { row = q; word = w; place = 0; found = false }))
start_fits b z q w s l t m = record {
  row = λ r h. rw (← eqb-true q r h) l;
  set = λ r h. t;
  older = λ r h. let e = same r h in omega arith;
  count = λ r h k. ap count_bits (same r h);
  empty = λ h. absurd (false≢true h);
  place = λ k h. absurd (false≢true h);
  quiet = λ r k h e g i. rw (sym (eqb-true 0 k g)) (begins_quiet b z r (λ x. s.inc_held x r));
}
  where
    same : (r : ℕ) → (q == r) ≡ true → z.memory (Counter r) ≡ w
    same r h = rw (← eqb-true q r h) m

pub slot_within : (ss : List SlotUse) (j r : ℕ) → length ss ≡ 8 → holds (slice_index_or ss j Empty) r ≡ true → j < 8
slot_within ss j r e h = cases (nat_lt j (length ss)) refl
  where
    cases : (t : Bool) → nat_lt j (length ss) ≡ t → j < 8
    cases true g = let k = ltb-true j (length ss) g in omega arith
    cases false g = let k : length ss ≤ j = grind arith in absurd (false≢true (rw (get_or_past ss j Empty k) at h))

-- what a slot word names is held there, or published
pub hold_word : (b : Bounds) (z : World) (x j r : ℕ) → Counted b z → holds (slot_of (z.seats x) j) r ≡ true → (j < 8) × (z.memory (Slot x j) ≡ r + 1)
hold_word b z x j r s h = (slot_within (z.seats x).slots j r (s.slots x).eight h, (s.slots x).words j ∙ held_word (slot_of (z.seats x) j) r h)
  where
    held_word : (u : SlotUse) (r : ℕ) → holds u r ≡ true → slot_word u ≡ r + 1
    held_word Empty r h = absurd (false≢true h)
    held_word (Published q) r h = absurd (false≢true h)
    held_word (Held q) r h = ap (λ n. n + 1) (eqb-true q r h)

look_fits : (b : Bounds) (z : World) (k v : ℕ) (s : Option Scan) → Counted b z → k < 8 * b.agents → scan_empty s ≡ true → scan_at s k ≡ true
    → v ≡ z.memory (Slot (k / 8) (k % 8)) → ScanFits b z s → ScanFits b z (scan_on s v)
look_fits b z k v None c l e g m f = f
look_fits b z k v (Some s) c l e g m f = record {
  row = f.row;
  set = f.set;
  older = f.older;
  count = f.count;
  empty = λ h. e;
  place = λ j h i. found_place j (v == s.row + 1) h i;
  quiet = λ r j h o i q. look_quiet r j (v == s.row + 1) refl h o i q;
}
  where
    found_place : (j : ℕ) (t : Bool) → t ≡ true → (cond t s.place (s.place + 1) == j) ≡ true → j < 8 * b.agents
    found_place j true h i = let n = eqb-true s.place j i in let o = eqb-true s.place k g in omega arith
    found_place j false h i = absurd (false≢true h)

    look_quiet : (r j : ℕ) (t : Bool) → (v == s.row + 1) ≡ t → (s.row == r) ≡ true → (count_bits s.word == 4194304) ≡ true
        → (cond t s.place (s.place + 1) == j) ≡ true → sequence_of (z.memory (Counter r)) ≡ sequence_of s.word → IsQuiet b z r j
    look_quiet r j true u h o i q = f.quiet r j h o i q
    look_quiet r j false u h o i q =
        let n = eqb-true (s.place + 1) j i in
        let p = eqb-true s.place k g in
        let d = eqb-false v (s.row + 1) u in
        let e = eqb-true s.row r h in
        rw (← n, p) (passed_over b z r k (λ x y y2. hold_word b z x y r c y2) (λ w. d (m ∙ w ∙ ap (λ x. x + 1) (sym e))) (f.quiet r k h o g q))

hand_places : (d : Agent) (q : ℕ) → names d.hand q ≡ true → 0 < places_of d q
hand_places d q h = grind arith

list_places : (d : Agent) (q : ℕ) → first_is d.list.items q ≡ true → 0 < places_of d q
list_places d q h = let e = listings_first d.list.items q q h in let f = ap bit (eq-eqb q q refl) in omega arith

start_places : (d : Agent) (q : ℕ) → (names d.hand q || (is_none d.hand && first_is d.list.items q)) ≡ true → 0 < places_of d q
start_places d q h =
    ⊎_elim (λ k. hand_places d q k) (λ k. list_places d q (and_both _ _ k).1) (either (names d.hand q) (is_none d.hand && first_is d.list.items q) h)

pub end_parts : (b : Bounds) (e a q : ℕ) (d : Agent) → fits b e a (CounterLoad q End) d ≡ true → (q < b.rows) × (scans d.scan q ≡ true)
end_parts b e a q d f =
    let g = and_both (nat_lt q b.rows) (scans d.scan q)
    (and_both (nat_lt q b.rows && scans d.scan q) (scan_empty d.scan)
    (and_both (nat_lt q b.rows && scans d.scan q && scan_empty d.scan) (scan_at d.scan (8 * b.agents)) f).0).0 in
    (ltb-true q b.rows g.0, g.1)

-- the stepping agent's new scan fits, where its old one does
fits_new : (b : Bounds) (z : World) (a : ℕ) (op : Op) → LawfulStep b z a op → Counted b (step_world z a op)
    → ScanFits b (step_world z a op) (z.seats a).scan → ScanFits b (step_world z a op) (record_by z a op).scan
fits_new b z a (CounterLoad q Check) p s f = f
fits_new b z a (CounterLoad q Start) p s f =
    let l = ltb-true q b.rows (and_both _ _ (and_both _ _ (and_both _ _ p.fits).0).0).0 in
    start_fits b (step_world z a (CounterLoad q Start)) q (z.memory (Counter q)) s l
    (retired_one b z a q p.counted p.agent l (start_places (z.seats a) q (and_both _ _ p.fits).1)) (write_same z.memory (Counter q) (Counter q))
fits_new b z a (CounterLoad q End) p s f = cases (z.memory (Counter q) == kept (z.seats a).scan)
  where
    l : q < b.rows
    l = (end_parts b (z.memory Enrolled) a q (z.seats a) p.fits).0

    h : scans (z.seats a).scan q ≡ true
    h = (end_parts b (z.memory Enrolled) a q (z.seats a) p.fits).1

    cases : (t : Bool)
        → ScanFits b (step_world z a (CounterLoad q End)) (cond t None (Some (record { row = q; word = z.memory (Counter q); place = 0; found = false })))
    cases true = none_fits b (step_world z a (CounterLoad q End))
    cases false = start_fits b (step_world z a (CounterLoad q End)) q (z.memory (Counter q)) s l (scanned_bit b z a q p.counted l h)
        (write_same z.memory (Counter q) (Counter q))
fits_new b z a (Unretire q) p s f = none_fits b (step_world z a (Unretire q))
fits_new b z a (Hand k) p s f = none_fits b (step_world z a (Hand k))
fits_new b z a (SlotLook k) p s f =
    look_fits b (step_world z a (SlotLook k)) k (z.memory (Slot (k / 8) (k % 8))) (z.seats a).scan s
    (ltb-true k (8 * b.agents) (and_both _ _ (and_both _ _ (and_both _ _ p.fits).0).0).0)
    (and_both _ _ (and_both _ _ (and_both _ _ p.fits).0).0).1 (and_both _ _ p.fits).1
    (sym (write_same z.memory (Slot (k / 8) (k % 8)) (Slot (k / 8) (k % 8)))) f
fits_new b z a op p s f = f

pub scans_step : (b : Bounds) (z : World) (a : ℕ) (op : Op) → ScanStep b z a op → Counted b (step_world z a op) → (x : ℕ)
    → ScanFits b (step_world z a op) ((step_world z a op).seats x).scan
scans_step b z a op p s x = cases (x == a)
  where
    cases : (t : Bool) → ScanFits b (step_world z a op) (cond t (record_by z a op) (z.seats x)).scan
    cases true = fits_new b z a op p.lawful s (fits_after b z a op p a)
    cases false = fits_after b z a op p x

summand_zero : {n m : ℕ} → n ≤ m → m ≡ 0 → n ≡ 0
summand_zero h k = omega arith

-- a row that a quiet scan found in no slot is gone
quiet_gone : (b : Bounds) (z : World) (a r : ℕ) → Counted b z → r < b.rows → scans (z.seats a).scan r ≡ true
    → count_bits (z.memory (Counter r)) ≡ 4194304 → Loose b z r (8 * b.agents) → Gone b z r
quiet_gone b z a r s l h c q = record {
  is_out = s.bit_out r t;
  unlinked = let e = s.balance r l in let n = q.no_inc in omega arith;
  unused = λ x. not_true (uses (z.seats x) r) (λ u. used x (agent_below b z x s.enrolment (λ e. false≢true (rw e at u))) u);
}
  where
    t : retired_bit (z.memory (Counter r)) ≡ 1
    t = scanned_bit b z a r s l h

    no_decs_left : decs b z.seats r ≡ 0
    no_decs_left = let e = s.balance r l in let n = q.no_inc in omega arith

    held : (x : ℕ) → x < b.agents → any_holds (z.seats x).slots r ≡ true → ⊥
    held x i k = let w = held_at (z.seats x).slots r k in let j = (hold_word b z x w.at r s w.hold).0 in let o = q.late x w.at i w.hold in absurd (omega arith)

    one_zero_bit : (y : Bool) → bit y ≡ 0 → y ≡ true → ⊥
    one_zero_bit y e k = zero_one e (ap bit k)

    used : (x : ℕ) → x < b.agents → uses (z.seats x) r ≡ true → ⊥
    used x i u =
        ⊎_elim
        (λ k. held x i k)
        (λ g. ⊎_elim
        (λ k. zero_one (s.fresh_bit x r k) t)
        (λ g. ⊎_elim
        (λ k. one_zero_bit (names (z.seats x).inc r) (summand_zero (sum_member b.agents x (λ y. bit (names (z.seats y).inc r)) i) q.no_inc) k)
        (λ g. ⊎_elim
        (λ k. one_zero_bit (names (z.seats x).dec r) (summand_zero (sum_member b.agents x (λ y. bit (names (z.seats y).dec r)) i) no_decs_left) k)
        (λ k. held x i (s.due_held x r k))
        g)
        g)
        g)
        (any_of _ _ _ _ _ u)

end_gone : (b : Bounds) (z : World) (a q : ℕ) → ScanStep b z a (CounterLoad q End) → z.memory (Counter q) ≡ kept (z.seats a).scan → Gone b z q
end_gone b z a q p e =
    let f = p.lawful.fits in
    let h = (and_both _ _ (and_both _ _ (and_both _ _ f).0).0).1 in
    let o = (and_both _ _ (and_both _ _ f).0).1 in
    let g = (and_both _ _ f).1 in
    let s = p.lawful.counted in
    ⊎_elim
    (λ pinned. absurd (not_pinned_at_end b z q (λ x j k. (hold_word b z x j q s k).0) pinned))
    (λ loose. quiet_gone b z a q s ((p.scans a).row q h) h ((p.scans a).count q h (ap sequence_of e) ∙ empty_kept (z.seats a).scan o) loose)
    ((p.scans a).quiet q (8 * b.agents) h o g (ap sequence_of e))

-- what a step dooms is gone
pub ending : (b : Bounds) (z : World) (a : ℕ) (op : Op) → ScanStep b z a op → EndingStep b z a op
ending b z a op p = record { lawful = p.lawful; gone = gone_by b z a op p }
  where
    gone_by : (b : Bounds) (z : World) (a : ℕ) (op : Op) → ScanStep b z a op → (r : ℕ) → ends op (z.seats a) (read_by z a op) r ≡ true → Gone b z r
    gone_by b z a (CounterLoad q Check) p r h = absurd (false≢true h)
    gone_by b z a (CounterLoad q Start) p r h = absurd (false≢true h)
    gone_by b z a (CounterLoad q End) p r h =
        rw (← eqb-true q r (and_both _ _ h).0) (end_gone b z a q p (eqb-true (z.memory (Counter q)) (kept (z.seats a).scan) (and_both _ _ h).1))
    gone_by b z a op p r h = absurd (false≢true h)
