-- What each kind of step that settles does to the work that is left.
use Rattle.std.proofs.Common.{Bool, List, [], ap, arith, cond, drop, false, length, refl, sym, true, zero, ℕ, ◌%◌, ◌*◌, ◌+◌, ◌/◌, ◌<◌, ◌∙◌, ◌∷◌, ◌≡◌, ◌≢◌, ◌≤◌, suc, ◌-◌}
use Rattle.std.proofs.lemmas.Bool.{eq-eqb, eqb-true, false≢true, ltb-true, ne_eqb}
use Rattle.std.proofs.lemmas.List.{length_push}
use Rattle.std.specs.Prelude.{None, Option, Some, is_none, is_some, not, ◌&&◌, ◌==◌, ◌||◌}
use Rattle.orc_core.proofs.Order.{nothing_pending}
use Rattle.orc_core.proofs.Within.{and_both}
use Rattle.orc_core.specs.Actions.{clear_word}
use Rattle.orc_core.specs.After.{bared, cut_of, due_after, scan_on}
use Rattle.orc_core.specs.Allowed.{completes, forced}
use Rattle.orc_core.specs.Listed.{Listed, first_is, listed_more, listed_name, listed_rest}
use Rattle.orc_core.specs.RecordParts.{doom_cut, doom_at, is_due, is_empty, kept, names, same_target, scan_empty, scan_found, scanned, scans, slot_of}
use Rattle.orc_core.specs.Sums.{sum_below}
use Rattle.orc_core.specs.declared.ops.CounterUse.TheVariants.{End, Start}
use Rattle.orc_core.specs.declared.ops.Op.{Op}
use Rattle.orc_core.specs.declared.ops.Op.TheVariants.{Arm, Clear, CounterLoad, Dec, Free, Hand, LinkStore, SetRetired, SlotLook, TakeIn, Unretire}
use Rattle.orc_core.specs.declared.records.Agent.{Agent}
use Rattle.orc_core.specs.declared.records.Doom.{Doom}
use Rattle.orc_core.specs.declared.records.Reading.{Reading}
use Rattle.orc_core.specs.declared.records.Scan.{Scan}
use Rattle.orc_core.specs.declared.records.SlotUse.{SlotUse}
use Rattle.orc_core.specs.declared.records.SlotUse.TheVariants.{Empty, Held, Published}
use Rattle.orc_rest.specs.Work.{is_full, open_at, slots_open, staleness, uncut, work_of}
use Rattle.orc_sound.proofs.Bits.{scan_places, unretire_one}
use Rattle.orc_sound.proofs.CountedStep.{scan_no_doom}
use Rattle.orc_sound.proofs.CounterWords.{clear_count}
use Rattle.orc_sound.proofs.Facts.{HasToken, LawfulStep, SlotsFit, hands_row}
use Rattle.orc_sound.proofs.Outs.{bare_dooms}
use Rattle.orc_sound.proofs.Pending.{dec_waits}
use Rattle.orc_sound.proofs.Sources.{write_same}
use Rattle.orc_sound.proofs.Sums.{sum_change, sum_member, sum_put, sum_same}
use Rattle.orc_sound.proofs.World.{World, record_by, step_world, write}
use Rattle.orc_sound.specs.Doomed.{dooms_cut}
use Rattle.orc_sound.specs.RetirementToken.{HasOnePart, places_of}
use Rattle.orc_sound.specs.SoundParts.{slot_word}
use Rattle.orc_words.specs.Bounds.{Bounds}
use Rattle.orc_words.specs.Operations.{word_add, word_sub}
use Rattle.orc_words.specs.Packed.{bit, count_bits, link_word, named, retired_bit}
use Rattle.orc_words.specs.declared.packed.RowLink.{RowLink}
use Rattle.orc_words.specs.declared.place.Word.{Word}
use Rattle.orc_words.specs.declared.place.Word.TheVariants.{Counter, Gate, Handover, Next, Slot, Side}
use Rattle.orc_words.specs.Places.{link_at}
use Rattle.orc_sound.proofs.DoomedStep.{number_below}

-- the work that is left in the state as functions
abbrev pub work_in : Bounds → World → ℕ → ℕ
work_in b z a = work_of b z.memory a (z.seats a)

abbrev pub work_after : Bounds → World → ℕ → Op → ℕ
work_after b z a op = work_of b (step_world z a op).memory a (record_by z a op)

slot_read : (m : Word → ℕ) (x j y i : ℕ) → write m (Slot x j) (m (Slot x j)) (Slot y i) ≡ m (Slot y i)
slot_read m x j y i = write_same m (Slot x j) (Slot y i)

no_scan : (o : Option Scan) → is_none o ≡ true → o ≡ None
no_scan None h = refl
no_scan (Some x) h = absurd (false≢true h)

begun_stale : (m : Word → ℕ) (q : ℕ) → staleness (write m (Counter q) (m (Counter q)))
    (Some (record { row = q; word = m (Counter q); place = 0; found = false })) ≡ 0
begun_stale m q = rw (write_same m (Counter q) (Counter q), eq-eqb (m (Counter q)) (m (Counter q)) refl)

begun_entries : (o : Option ℕ) (l : Listed) (q : ℕ) → (names o q || (is_none o && first_is l.items q)) ≡ true
    → length (cond (names o q) l (listed_rest l)).items + 1 ≡ length l.items + bit (is_some o)
begun_entries None l q h = first l.items h
  where
    first : (xs : List ℕ) → first_is xs q ≡ true → length (drop 1 xs) + 1 ≡ length xs + 0
    first [] h = absurd (false≢true h)
    first (x ∷ xs) h = omega arith
begun_entries (Some x) l q h = cases (x == q) h
  where
    cases : (t : Bool) → (t || false) ≡ true → length (cond t l (listed_rest l)).items + 1 ≡ length l.items + 1
    cases true h = refl
    cases false h = absurd (false≢true h)

pub start_work : (b : Bounds) (z : World) (a q : ℕ) → LawfulStep b z a (CounterLoad q Start) → work_after b z a (CounterLoad q Start) ≡ work_in b z a
start_work b z a q p =
    let n : (z.seats a).scan ≡ None = no_scan (z.seats a).scan (and_both _ _ (and_both _ _ (and_both _ _ p.fits).0).0).1 in
    let e = begun_entries (z.seats a).hand (z.seats a).list q (and_both _ _ p.fits).1 in
    rw (n, begun_stale z.memory q) (omega arith)

-- slots and handover words that stay
slots_same : (b : Bounds) (m n : Word → ℕ) (a : ℕ) → ((x j : ℕ) → n (Slot x j) ≡ m (Slot x j)) → ((x j : ℕ) → n (Handover x j) ≡ m (Handover x j))
    → slots_open b n a ≡ slots_open b m a
slots_same b m n a s h = sum_same b.agents _ _ (λ x l. sum_same 8 (open_at n a x) (open_at m a x) (λ j k. rw (s x j, h x j) refl))

open_other : (m n : Word → ℕ) (a x : ℕ) → ((j : ℕ) → n (Slot x j) ≡ m (Slot x j)) → ((j : ℕ) → n (Handover x j) ≡ m (Handover x j))
    → sum_below 8 (open_at m a x) ≡ sum_below 8 (open_at n a x)
open_other m n a x s h = sum_same 8 (open_at m a x) (open_at n a x) (λ j k. rw (s j, h j) refl)

-- one slot, with its handover word, that changes
slots_put : (b : Bounds) (m n : Word → ℕ) (a x j : ℕ) → x < b.agents → j < 8
    → ((y i : ℕ) → y ≢ x → n (Slot y i) ≡ m (Slot y i)) → ((y i : ℕ) → y ≢ x → n (Handover y i) ≡ m (Handover y i))
    → ((i : ℕ) → i ≢ j → n (Slot x i) ≡ m (Slot x i)) → ((i : ℕ) → i ≢ j → n (Handover x i) ≡ m (Handover x i))
    → slots_open b n a + open_at m a x j ≡ slots_open b m a + open_at n a x j
slots_put b m n a x j hx hj sy hy si hi =
    let e = sum_change b.agents x (λ y. sum_below 8 (open_at m a y)) (λ y. sum_below 8 (open_at n a y)) hx
    (λ y ne. open_other m n a y (λ i. sy y i ne) (λ i. hy y i ne)) in
    let f = sum_change 8 j (open_at m a x) (open_at n a x) hj (λ i ne. rw (si i ne, hi i ne) refl) in
    omega arith

-- a slot word that is written
slot_put : (b : Bounds) (m : Word → ℕ) (a x j v : ℕ) → x < b.agents → j < 8
    → slots_open b (write m (Slot x j) v) a + open_at m a x j ≡ slots_open b m a + open_at (write m (Slot x j) v) a x j
slot_put b m a x j v hx hj = slots_put b m (write m (Slot x j) v) a x j hx hj (λ y i ne. rw (ne_eqb y x ne)) (λ y i ne. refl)
    (λ i ne. rw (eq-eqb x x refl, ne_eqb i j ne)) (λ i ne. refl)

handover_put : (b : Bounds) (m : Word → ℕ) (a x j v : ℕ) → x < b.agents → j < 8
    → slots_open b (write m (Handover x j) v) a + open_at m a x j ≡ slots_open b m a + open_at (write m (Handover x j) v) a x j
handover_put b m a x j v hx hj = slots_put b m (write m (Handover x j) v) a x j hx hj (λ y i ne. refl) (λ y i ne. rw (ne_eqb y x ne)) (λ i ne. refl)
    (λ i ne. rw (eq-eqb x x refl, ne_eqb i j ne))

open_zero : (m : Word → ℕ) (a : ℕ) → open_at m a a 0 ≡ 0
open_zero m a = rw (eq-eqb a a refl)

look_entries : (o : Option Scan) (w : ℕ) → bit (is_some (scan_on o w)) ≡ bit (is_some o)
look_entries None w = refl
look_entries (Some s) w = refl

pub look_work : (b : Bounds) (z : World) (a k : ℕ) → LawfulStep b z a (SlotLook k) → work_after b z a (SlotLook k) ≡ work_in b z a
look_work b z a k p =
    let v = z.memory (Slot (k / 8) (k % 8)) in
    let m = write z.memory (Slot (k / 8) (k % 8)) v in
    let s = slots_same b z.memory m a (λ x j. slot_read z.memory (k / 8) (k % 8) x j) (λ x j. refl) in
    let e = look_entries (z.seats a).scan v in
    let t : staleness m (scan_on (z.seats a).scan v) ≡ staleness z.memory (z.seats a).scan = stale_slot (z.seats a).scan v in
    omega arith
  where
    stale_slot : (o : Option Scan) (v : ℕ) → staleness (write z.memory (Slot (k / 8) (k % 8)) (z.memory (Slot (k / 8) (k % 8))))
        (scan_on o v) ≡ staleness z.memory o
    stale_slot None v = refl
    stale_slot (Some s) v = refl

pub end_work : (b : Bounds) (z : World) (a q : ℕ) → LawfulStep b z a (CounterLoad q End) → work_after b z a (CounterLoad q End) + 1 ≤ work_in b z a
end_work b z a q p =
    let f = and_both _ _ (and_both _ _ (and_both _ _ p.fits).0).0 in
    let d = scan_no_doom (z.seats a) q (p.counted.one_part a) f.1 in
    let s = begun_stale z.memory q in
    cases (z.memory (Counter q) == kept (z.seats a).scan) refl f.1 d s
  where
    scanned_word : (o : Option Scan) → scans o q ≡ true → (z.memory (Counter q) == kept o) ≡ false → staleness z.memory o ≡ 2
    scanned_word None h e = absurd (false≢true h)
    scanned_word (Some s) h e = rw (eqb-true s.row q h, e)

    some_scan : (o : Option Scan) → scans o q ≡ true → bit (is_some o) ≡ 1
    some_scan None h = absurd (false≢true h)
    some_scan (Some s) h = refl

    cases : (t : Bool) → (z.memory (Counter q) == kept (z.seats a).scan) ≡ t → scans (z.seats a).scan q ≡ true → (z.seats a).doom ≡ None
        → staleness (write z.memory (Counter q) (z.memory (Counter q))) (Some (record { row = q; word = z.memory (Counter q); place = 0; found = false })) ≡ 0
        → work_after b z a (CounterLoad q End) + 1 ≤ work_in b z a
    cases true e h d s = let k = some_scan (z.seats a).scan h in rw (e, d) (omega arith)
    cases false e h d s = let k = some_scan (z.seats a).scan h in let g = scanned_word (z.seats a).scan h e in rw (e, d, s) (omega arith)

pub arm_work : (b : Bounds) (z : World) (a q : ℕ) → LawfulStep b z a (Arm q) → work_after b z a (Arm q) ≡ work_in b z a
arm_work b z a q p =
    let s = slot_put b z.memory a a 0 (q + 1) p.agent (omega arith) in
    let e = open_zero z.memory a in
    let f = open_zero (write z.memory (Slot a 0) (q + 1)) a in
    let t = stale_arm (z.seats a).scan in
    omega arith
  where
    stale_arm : (o : Option Scan) → staleness (write z.memory (Slot a 0) (q + 1)) o ≡ staleness z.memory o
    stale_arm None = refl
    stale_arm (Some s) = refl

pub clear_work : (b : Bounds) (z : World) (a k : ℕ) → LawfulStep b z a (Clear k) → work_after b z a (Clear k) ≤ work_in b z a
clear_work b z a k p =
    let s = slot_put b z.memory a a k 0 p.agent (ltb-true k 8 (and_both _ _ (and_both _ _ p.fits).0).0) in
    let f : open_at (write z.memory (Slot a k) 0) a a k ≡ 0 = rw (eq-eqb a a refl, eq-eqb k k refl) (closed (k == 0)) in
    let t = stale_clear (z.seats a).scan in
    omega arith
  where
    closed : (t : Bool) → cond t zero zero ≡ zero
    closed true = refl
    closed false = refl

    stale_clear : (o : Option Scan) → staleness (write z.memory (Slot a k) 0) o ≡ staleness z.memory o
    stale_clear None = refl
    stale_clear (Some s) = refl

pub free_work : (b : Bounds) (z : World) (a q : ℕ) → LawfulStep b z a (Free q) → work_after b z a (Free q) + 1 ≤ work_in b z a
free_work b z a q p =
    let f = and_both _ _ p.fits in
    let h = ltb-true q b.rows f.0 in
    let o = (p.doomed.gone a q (bare_dooms (z.seats a).doom q f.1)).is_out in
    let c = cut_doom (z.seats a).doom (p.doomed.cut a q f.1) in
    let e = sum_put b.rows q (λ r x. x % 2) (λ r. z.memory (Gate r)) ((z.memory (Gate q) + 18446744073709551615) % 18446744073709551616) h in
    let s = stale_free (z.seats a).scan in
    let l = p.shape.links.1 in
    omega arith
  where
    cut_doom : (o : Option Doom) → dooms_cut b.links o q ≡ true → uncut o ≡ 1 + (2 - b.links)
    cut_doom None h = absurd (false≢true h)
    cut_doom (Some d) h = let c : d.cuts ≡ b.links = eqb-true d.cuts b.links (and_both _ _ h).1 in rw c refl

    stale_free : (o : Option Scan) → staleness (write z.memory (Gate q) ((z.memory (Gate q) + 18446744073709551615) % 18446744073709551616)) o ≡ staleness
        z.memory o
    stale_free None = refl
    stale_free (Some s) = refl

named_one : (w : ℕ) → bit (is_some (named w)) ≤ is_full w
named_one w = grind arith

listed_length : (l : Listed) (n : Option ℕ) → length (listed_name l n).items ≡ length l.items + bit (is_some n)
listed_length l None = omega arith
listed_length l (Some q) = length_push l.items q

pub take_in_work : (b : Bounds) (z : World) (a : ℕ) → LawfulStep b z a (TakeIn 0) → work_after b z a (TakeIn 0) ≤ work_in b z a
take_in_work b z a p =
    let w = z.memory (Handover a 0) in
    let s = handover_put b z.memory a a 0 0 p.agent (omega arith) in
    let e = open_zero z.memory a in
    let f = open_zero (write z.memory (Handover a 0) 0) a in
    let t = stale_take (z.seats a).scan in
    let n = named_one w in
    let l = listed_length (z.seats a).list (named w) in
    rw (eq-eqb a a refl) (omega arith)
  where
    stale_take : (o : Option Scan) → staleness (write z.memory (Handover a 0) 0) o ≡ staleness z.memory o
    stale_take None = refl
    stale_take (Some s) = refl

empty_part : {A : Type 0} (o : Option A) → bit (is_some o) ≡ 0 → o ≡ None
empty_part None h = refl
empty_part (Some x) h = absurd (omega arith)

doom_no_scan : (links : ℕ) (d : Agent) (q : ℕ) → HasOnePart d → doom_cut links d.doom q ≡ true → d.scan ≡ None
doom_no_scan links d q o h = let k = cut_one d.doom h in empty_part d.scan (omega arith)
  where
    cut_one : (o : Option Doom) → doom_cut links o q ≡ true → bit (is_some o) ≡ 1
    cut_one None h = absurd (false≢true h)
    cut_one (Some x) h = refl

scan_no_hand : (d : Agent) → HasOnePart d → is_some d.scan ≡ true → d.hand ≡ None
scan_no_hand d o h = let k = ap bit h in empty_part d.hand (omega arith)

-- what is pending before a step
no_dec : (d : Agent) (op : Op) → completes op ≡ false → forced d op ≡ true → (d.due ≡ None) × (d.inc ≡ None) × (d.dec ≡ None)
no_dec d op c h = let n = nothing_pending d.due d.inc d.dec op c h in (n.0, n.1, n.2)

one_of : {A : Type 0} (o : Option A) → bit (is_some o) ≤ 1
one_of None = omega arith
one_of (Some x) = omega arith

-- a doomed row's next link is taken out
cut_more : (o : Option Doom) (q n : ℕ) → n < 2 → doom_at o q n ≡ true → uncut (cut_of o q n) + 1 ≡ uncut o
cut_more None q n l h = absurd (false≢true h)
cut_more (Some d) q n l h = let e : d.cuts ≡ n = eqb-true d.cuts n (and_both _ _ h).1 in rw (h, e) (omega arith)

stale_cut : (m : Word → ℕ) (q n v : ℕ) (o : Option Scan) → staleness (write m (link_at n q) v) o ≡ staleness m o
stale_cut m q n v None = refl
stale_cut m q zero v (Some s) = refl
stale_cut m q (suc n) v (Some s) = refl

pub cut_work : (b : Bounds) (z : World) (a q nr : ℕ) (l : RowLink) → LawfulStep b z a (LinkStore q l nr) → doom_at (z.seats a).doom q nr ≡ true → l.to ≡ None
    → work_after b z a (LinkStore q l nr) ≤ work_in b z a
cut_work b z a q zero l p c t =
    let n = nothing_pending (z.seats a).due (z.seats a).inc (z.seats a).dec (LinkStore q l 0) refl p.forced in
    let o = one_of (cond (same_target (named (z.memory (Next q) / 2)) None) (z.seats a).dec (named (z.memory (Next q) / 2))) in
    let e = cut_more (z.seats a).doom q 0 (number_below b z a q 0 l p) c in
    let d : bit (is_some (z.seats a).dec) ≡ 0 = rw n.2 refl in
    let s = stale_cut z.memory q 0 (link_word l) (z.seats a).scan in
    rw t (omega arith)
cut_work b z a q (suc k) l p c t =
    let n = nothing_pending (z.seats a).due (z.seats a).inc (z.seats a).dec (LinkStore q l (suc k)) refl p.forced in
    let o = one_of (cond (same_target (named (z.memory (Side q) / 2)) None) (z.seats a).dec (named (z.memory (Side q) / 2))) in
    let e = cut_more (z.seats a).doom q (suc k) (number_below b z a q (suc k) l p) c in
    let d : bit (is_some (z.seats a).dec) ≡ 0 = rw n.2 refl in
    let s = stale_cut z.memory q (suc k) (link_word l) (z.seats a).scan in
    rw t (omega arith)

dec_named : (o : Option ℕ) (q : ℕ) → names o q ≡ true → bit (is_some o) ≡ 1
dec_named None q h = absurd (false≢true h)
dec_named (Some x) q h = refl

pub dec_work : (b : Bounds) (z : World) (a q : ℕ) → LawfulStep b z a (Dec q) → (z.seats a).scan ≡ None → work_after b z a (Dec q) ≤ work_in b z a
dec_work b z a q p n =
    let w = dec_waits (z.seats a).due (z.seats a).inc (z.seats a).dec q p.forced in
    let o = one_of (due_after q (word_add (z.memory (Counter q)) 16777215) (z.seats a).due) in
    let d = dec_named (z.seats a).dec q (and_both _ _ (and_both _ _ p.fits).0).1 in
    rw n (omega arith)

due_some : (o : Option Reading) (q n : ℕ) → is_due o q n ≡ true → bit (is_some o) ≡ 1
due_some None q n h = absurd (false≢true h)
due_some (Some x) q n h = refl

-- the bit of a due row is tried
pub try_work : (b : Bounds) (z : World) (a q n : ℕ) → LawfulStep b z a (SetRetired q n) → (z.seats a).scan ≡ None → is_due (z.seats a).due q n ≡ true
    → work_after b z a (SetRetired q n) ≤ work_in b z a
try_work b z a q n p e h =
    let d = due_some (z.seats a).due q n h in
    let l = more (z.memory (Counter q) == clear_word n) in
    rw e (omega arith)
  where
    more : (t : Bool) → length (cond t (listed_more (z.seats a).list q) (z.seats a).list).items ≤ length (z.seats a).list.items + 1
    more true = let k = length_push (z.seats a).list.items q in omega arith
    more false = omega arith

-- a bit is cleared
pub unretire_scan_work : (b : Bounds) (z : World) (a q : ℕ) → LawfulStep b z a (Unretire q) → scans (z.seats a).scan q ≡ true
    → scan_empty (z.seats a).scan ≡ false → work_after b z a (Unretire q) + 1 ≤ work_in b z a
unretire_scan_work b z a q p h e =
    let n = nothing_pending (z.seats a).due (z.seats a).inc (z.seats a).dec (Unretire q) refl p.forced in
    let d = scan_no_doom (z.seats a) q (p.counted.one_part a) h in
    let k = some_scan (z.seats a).scan h in
    let c = clear_count (z.memory (Counter q)) (unretire_one b z a q p) in
    let g = due_stale (z.seats a).scan h e c in
    rw (d, n.0, scan_is (z.seats a).scan h) (omega arith)
  where
    some_scan : (o : Option Scan) → scans o q ≡ true → bit (is_some o) ≡ 1
    some_scan None h = absurd (false≢true h)
    some_scan (Some s) h = refl

    scan_is : (o : Option Scan) → scans o q ≡ true → is_some o ≡ true
    scan_is None h = absurd (false≢true h)
    scan_is (Some s) h = refl

    due_stale : (o : Option Scan) → scans o q ≡ true → scan_empty o ≡ false
        → count_bits ((z.memory (Counter q) + 18446744073701163008) % 18446744073709551616) ≡ count_bits (z.memory (Counter q))
        → bit (is_some (due_after q (word_sub (z.memory (Counter q)) 8388608) None)) ≤ staleness z.memory o
    due_stale None h e c = absurd (false≢true h)
    due_stale (Some s) h e c = rw (eqb-true s.row q h) (same (z.memory (Counter q)) s.word (z.memory (Counter q) == s.word) refl e c)
      where
        same : (v w : ℕ) (t : Bool) → (v == w) ≡ t → (count_bits w == 4194304) ≡ false
            → count_bits ((v + 18446744073701163008) % 18446744073709551616) ≡ count_bits v
            → bit (is_some (due_after q (word_sub v 8388608) None)) ≤ cond t 0 2
        same v w false t e c = let k = one_of (due_after q (word_sub v 8388608) None) in omega arith
        same v w true t e c = let k = eqb-true v w t in grind arith

pub unretire_doom_work : (b : Bounds) (z : World) (a q : ℕ) → LawfulStep b z a (Unretire q) → doom_cut b.links (z.seats a).doom q ≡ true
    → work_after b z a (Unretire q) ≤ work_in b z a
unretire_doom_work b z a q p h =
    let e = doom_no_scan b.links (z.seats a) q (p.counted.one_part a) h in
    let u = bared_uncut (z.seats a).doom in
    rw e (omega arith)
  where
    bared_uncut : (o : Option Doom) → uncut (bared o) ≡ uncut o
    bared_uncut None = refl
    bared_uncut (Some d) = refl

-- the row that was found is handed over
pub hand_work : (b : Bounds) (z : World) (a k : ℕ) → LawfulStep b z a (Hand k) → ((r : ℕ) → scans (z.seats a).scan r ≡ true → r < b.rows)
    → is_empty (slot_of (z.seats a) 0) ≡ true → z.memory (Slot (k / 8) (k % 8)) ≡ scanned (z.seats a).scan + 1 → work_after b z a (Hand k) + 1 ≤ work_in b z a
hand_work b z a k p rows e w =
    let x = k / 8 in
    let j = k % 8 in
    let f = and_both _ _ (and_both _ _ p.fits).0 in
    let r = scanned (z.seats a).scan in
    let hk = ltb-true k (8 * b.agents) f.0 in
    let hx : x < b.agents = omega arith in
    let hj : j < 8 = omega arith in
    let s = handover_put b z.memory a x j (r + 1) hx hj in
    let c = found_scans (z.seats a).scan f.1 in
    let o = other_place e (p.counted.slots a) w in
    let u = before o w (token_other b z a x j r (p.counted.token r (rows r c)) p.agent hx hj c) in
    let v = after_open o w in
    let h = found_one (z.seats a).scan f.1 in
    let n = scan_no_hand (z.seats a) (p.counted.one_part a) h in
    let t = named_one (z.memory (Handover x j)) in
    let i = ap bit h in
    let g = one_of (named (z.memory (Handover x j))) in
    let m = other_full o in
    rw (n, m) (omega arith)
  where
    found_scans : (o : Option Scan) → scan_found o ≡ true → scans o (scanned o) ≡ true
    found_scans None h = h
    found_scans (Some s) h = eq-eqb s.row s.row refl

    found_one : (o : Option Scan) → scan_found o ≡ true → is_some o ≡ true
    found_one None h = absurd (false≢true h)
    found_one (Some x) h = refl

    empty_word : (s : SlotUse) → is_empty s ≡ true → slot_word s ≡ 0
    empty_word Empty h = refl
    empty_word (Published q) h = absurd (false≢true h)
    empty_word (Held q) h = absurd (false≢true h)

    other_place : is_empty (slot_of (z.seats a) 0) ≡ true → SlotsFit z.memory (z.seats a) a → z.memory (Slot (k / 8) (k % 8)) ≡ scanned (z.seats a).scan + 1
        → ((k / 8 == a) && (k % 8 == 0)) ≡ false
    other_place e s w = cases ((k / 8 == a) && (k % 8 == 0)) refl
      where
        cases : (t : Bool) → ((k / 8 == a) && (k % 8 == 0)) ≡ t → t ≡ false
        cases false h = refl
        cases true h =
            let y = and_both (k / 8 == a) (k % 8 == 0) h in
            let zero_word : z.memory (Slot a 0) ≡ 0 = s.words 0 ∙ empty_word (slot_of (z.seats a) 0) e in
            let at : z.memory (Slot a 0) ≡ scanned (z.seats a).scan + 1 = rw (eqb-true (k / 8) a y.0, eqb-true (k % 8) 0 y.1) at w in
            absurd (omega arith)

    before : ((k / 8 == a) && (k % 8 == 0)) ≡ false → z.memory (Slot (k / 8) (k % 8)) ≡ scanned (z.seats a).scan + 1
        → (z.memory (Handover (k / 8) (k % 8)) == scanned (z.seats a).scan + 1) ≡ false → open_at z.memory a (k / 8) (k % 8) ≡ 1
    before o w h = rw (o, w, h) (open_one (scanned (z.seats a).scan))
      where
        open_one : (n : ℕ) → bit (not (n + 1 == 0) && not false) ≡ 1
        open_one n = grind arith

    after_open : ((k / 8 == a) && (k % 8 == 0)) ≡ false → z.memory (Slot (k / 8) (k % 8)) ≡ scanned (z.seats a).scan + 1
        → open_at (write z.memory (Handover (k / 8) (k % 8)) (scanned (z.seats a).scan + 1)) a (k / 8) (k % 8) ≡ 0
    after_open o w = rw (
      o,
      w,
      eq-eqb (k / 8) (k / 8) refl,
      eq-eqb (k % 8) (k % 8) refl,
      eq-eqb (scanned (z.seats a).scan + 1)
          (scanned (z.seats a).scan + 1) refl,
    ) (open_none (scanned (z.seats a).scan))
      where
        open_none : (n : ℕ) → bit (not (n + 1 == 0) && not true) ≡ 0
        open_none n = grind arith

    other_full : ((k / 8 == a) && (k % 8 == 0)) ≡ false → write z.memory (Handover (k / 8) (k % 8)) (scanned (z.seats a).scan + 1) (Handover a 0) ≡ z.memory
        (Handover a 0)
    other_full o = cases ((a == k / 8) && (0 == k % 8)) refl
      where
        cases : (t : Bool) → ((a == k / 8) && (0 == k % 8)) ≡ t → cond t (scanned (z.seats a).scan + 1) (z.memory (Handover a 0)) ≡ z.memory (Handover a 0)
        cases false h = refl
        cases true h =
            let y = and_both (a == k / 8) (0 == k % 8) h in
            let i = eqb-true a (k / 8) y.0 in
            let j = eqb-true 0 (k % 8) y.1 in
            absurd (false≢true (sym o ∙ rw (eq-eqb (k / 8) a (sym i), eq-eqb (k % 8) 0 (sym j)) refl))

    token_other : (b : Bounds) (z : World) (a x j r : ℕ) → HasToken b z r → a < b.agents → x < b.agents → j < 8 → scans (z.seats a).scan r ≡ true
        → (z.memory (Handover x j) == r + 1) ≡ false
    token_other b z a x j r t ha hx hj s = cases (z.memory (Handover x j) == r + 1) refl
      where
        cases : (u : Bool) → (z.memory (Handover x j) == r + 1) ≡ u → u ≡ false
        cases false h = refl
        cases true h =
            let i = sum_member b.agents a (λ y. places_of (z.seats y) r) ha in
            let k = scan_places (z.seats a) r s in
            let l = sum_member b.agents x (λ y. sum_below 8 (λ i. hands_row (z.memory (Handover y i)) r)) hx in
            let m = sum_member 8 j (λ i. hands_row (z.memory (Handover x i)) r) hj in
            let n : hands_row (z.memory (Handover x j)) r ≡ 1 = ap bit h in
            let q : retired_bit (z.memory (Counter r)) ≤ 1 = omega arith in
            absurd (omega arith)
