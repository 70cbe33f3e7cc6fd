-- Each step keeps the counts and the tokens, and so all that they agree on.
use Rattle.std.proofs.Common.{Bool, ap, arith, cond, false, inr, refl, sym, true, ℕ, ⊎_elim, ◌%◌, ◌/◌, ◌<◌, ◌∙◌, ◌≡◌, ◌⊎◌}
use Rattle.std.proofs.lemmas.Bool.{eq-eqb, false≢true, ltb-true}
use Rattle.std.specs.Prelude.{None, Option, Some, is_none, is_some, ◌&&◌, ◌==◌, ◌||◌}
use Rattle.orc_words.specs.Bounds.{Bounds}
use Rattle.orc_words.specs.Packed.{bit}
use Rattle.orc_words.specs.Places.{IsWithin}
use Rattle.orc_words.specs.declared.place.Word.{Word}
use Rattle.orc_words.specs.declared.place.Word.TheVariants.{Counter, Enrolled, Next, Root, Slot, Side}
use Rattle.orc_core.proofs.Order.{nothing_pending}
use Rattle.orc_core.proofs.Within.{and_both, fits_within}
use Rattle.orc_core.specs.Actions.{action_of}
use Rattle.orc_core.specs.After.{after, scan_on}
use Rattle.orc_core.specs.RecordParts.{any_holds, doom_cut, names, saw, scan_found, scans}
use Rattle.orc_core.specs.declared.ops.CounterUse.TheVariants.{Check, End, Start}
use Rattle.orc_core.specs.declared.ops.Op.{Op}
use Rattle.orc_core.specs.declared.ops.Op.TheVariants.{CounterLoad, Dec, Fill, Free, GateTake, Hand, Inc, LinkCas, LinkLoad, LinkStore, Read, SetRetired, SlotLook, TakeIn, Unretire, DecHeld}
use Rattle.orc_core.specs.declared.records.Agent.{Agent}
use Rattle.orc_core.specs.declared.records.Scan.{Scan}
use Rattle.orc_sound.proofs.Balances.{Kept, cas_kept, dec_kept, fill_kept, free_kept, gate_take_kept, inc_kept, set_retired_kept, store_kept, unretire_kept}
use Rattle.orc_sound.proofs.Bits.{dec_bounds, dec_held_bounds, inc_bounds, unretire_cases, unretire_one}
use Rattle.orc_sound.proofs.Bridge.{IsWithin-is_within, same_word-true}
use Rattle.orc_sound.proofs.Change.{balance_step}
use Rattle.orc_sound.proofs.CounterWords.{clear_bit, clear_count, dec_bit, dec_count, inc_bit, inc_count}
use Rattle.orc_sound.proofs.Enrolment.{enrolment_step}
use Rattle.orc_sound.proofs.Facts.{Counted, LawfulStep}
use Rattle.orc_sound.proofs.Fresh.{fresh_alone_step, fresh_bit_step, fresh_links_step, fresh_root_step}
use Rattle.orc_sound.proofs.OnePart.{parts_kept, scans_some}
use Rattle.orc_sound.proofs.Outs.{bit_out_step, cas_place_out, free_null_step, freed, links_out_step, roots_out_step, store_row_out, used_out_step}
use Rattle.orc_sound.proofs.Pending.{due_ends, inc_slots}
use Rattle.orc_sound.proofs.Seats.{both_ways, seat_join}
use Rattle.orc_sound.proofs.SlotWords.{slots_step}
use Rattle.orc_sound.proofs.Sources.{counts, due_source, inc_source}
use Rattle.orc_sound.proofs.Tokens.{KeptToken, end_token, free_token, hand_token, inc_token, set_token, start_token, store_token, take_in_token, token_step, unretire_doom_token, unretire_scan_token}
use Rattle.orc_sound.proofs.Uses.{counts_held, links_held, links_holds, cut_some}
use Rattle.orc_sound.proofs.World.{World, is_within, read_by, record_by, same_word, step_world, write}
use Rattle.orc_sound.specs.RetirementToken.{HasOnePart}

pub balance_kept : (b : Bounds) (z : World) (a : ℕ) (op : Op) (r : ℕ) → LawfulStep b z a op → r < b.rows → Kept z.memory a op (z.seats a) r
balance_kept b z a (GateTake q) r p h = gate_take_kept z.memory a q (z.seats a) r (λ o. let n = p.counted.free_null 0 q o in omega arith)
    (λ o. let n = p.counted.free_null 1 q o in omega arith)
balance_kept b z a (Fill q w v) r p h = fill_kept z.memory a q w v (z.seats a) r
balance_kept b z a (Read q w) r p h = grind arith
balance_kept b z a (LinkCas w x t) r p h = let n = nothing_pending (z.seats a).due (z.seats a).inc (z.seats a).dec (LinkCas w x t) refl p.forced in
    cas_kept z.memory a w x t (z.seats a) r (cas_place_out b z a w x t p) n.1 n.2
balance_kept b z a (LinkStore q l nr) r p h = let n = nothing_pending (z.seats a).due (z.seats a).inc (z.seats a).dec (LinkStore q l nr) refl p.forced in
    let k = p.shape.rows.1 in store_kept z.memory a q nr l (z.seats a) r (omega arith) (store_row_out b z a q nr l p) n.1 n.2
balance_kept b z a (Inc q) r p h = inc_kept z.memory a q (z.seats a) r (and_both _ _ p.fits).1 (inc_count _ (inc_bounds b z a q p))
balance_kept b z a (Dec q) r p h = dec_kept z.memory a q (z.seats a) r (and_both _ _ (and_both _ _ p.fits).0).1 (dec_count _ (dec_bounds b z a q p))
balance_kept b z a (DecHeld q) r p h = dec_kept z.memory a q (z.seats a) r (and_both _ _ (and_both _ _ p.fits).0).1 (dec_count _ (dec_held_bounds b z a q p))
balance_kept b z a (SetRetired q n) r p h = set_retired_kept z.memory a q n (z.seats a) r
balance_kept b z a (Unretire q) r p h = unretire_kept z.memory a q (z.seats a) r (clear_count _ (unretire_one b z a q p))
balance_kept b z a (CounterLoad q Check) r p h = refl
balance_kept b z a (CounterLoad q Start) r p h = refl
balance_kept b z a (CounterLoad q End) r p h = refl
balance_kept b z a (Free q) r p h = free_kept z.memory a q (z.seats a) r (let n = (freed b z a (Free q) q p (eq-eqb q q refl)).null 0 in omega arith)
    (let n = (freed b z a (Free q) q p (eq-eqb q q refl)).null 1 in omega arith)
balance_kept b z a op r p h = refl

pub no_part : {A : Type 0} (o : Option A) → is_none o ≡ true → o ≡ None
no_part None h = refl
no_part (Some x) h = absurd (false≢true h)

empty_part : {A : Type 0} (o : Option A) → bit (is_some o) ≡ 0 → o ≡ None
empty_part None h = refl
empty_part (Some x) h = absurd (omega arith)

found_one : (o : Option Scan) → scan_found o ≡ true → is_some o ≡ true
found_one None h = absurd (false≢true h)
found_one (Some x) h = refl

-- an agent with a scan has no doom and no hand
pub scan_no_doom : (d : Agent) (q : ℕ) → HasOnePart d → scans d.scan q ≡ true → d.doom ≡ None
scan_no_doom d q o h = let k = scans_some d.scan q h in empty_part d.doom (omega arith)

scan_no_hand : (d : Agent) → HasOnePart d → is_some d.scan ≡ true → d.hand ≡ None
scan_no_hand d o h = let k = ap bit h in empty_part d.hand (omega arith)

doom_no_scan : (links : ℕ) (d : Agent) (q : ℕ) → HasOnePart d → doom_cut links d.doom q ≡ true → d.scan ≡ None
doom_no_scan links d q o h = let k = cut_some links d.doom q h in empty_part d.scan (omega arith)

from_hand_or_list : (o : Option ℕ) (q : ℕ) (t : Bool) → (names o q || (is_none o && t)) ≡ true → (names o q ≡ true) ⊎ ((o ≡ None) × (t ≡ true))
from_hand_or_list None q t h = inr (refl, h)
from_hand_or_list (Some x) q t h = grind arith

unretire_token : (b : Bounds) (z : World) (a q r : ℕ) → LawfulStep b z a (Unretire q) → KeptToken z.memory a (Unretire q) (z.seats a) r
unretire_token b z a q r p =
    let less = clear_bit (z.memory (Counter q)) (unretire_one b z a q p) in
    ⊎_elim
    (λ s. unretire_scan_token z.memory a q (z.seats a) r (scan_no_doom (z.seats a) q (p.counted.one_part a) s) s less)
    (λ c. unretire_doom_token z.memory b.links a q (z.seats a) r (doom_no_scan b.links (z.seats a) q (p.counted.one_part a) c) c less)
    (unretire_cases b (z.memory Enrolled) a q (z.seats a) p.fits)

scans_on : (o : Option Scan) (w r : ℕ) → scans (scan_on o w) r ≡ scans o r
scans_on None w r = refl
scans_on (Some s) w r = refl

token_kept : (b : Bounds) (z : World) (a : ℕ) (op : Op) (r : ℕ) → LawfulStep b z a op → r < b.rows → KeptToken z.memory a op (z.seats a) r
token_kept b z a (Fill q w v) r p h = grind arith
token_kept b z a (Read q w) r p h = grind arith
token_kept b z a (LinkCas (Root i) x t) r p h = refl
token_kept b z a (LinkCas (Next i) x t) r p h = refl
token_kept b z a (LinkCas (Side i) x t) r p h = refl
token_kept b z a (LinkCas w x t) r p h = absurd (cas_place_out b z a w x t p)
token_kept b z a (LinkStore q l nr) r p h = store_token z.memory a q nr l (z.seats a) r
token_kept b z a (Inc q) r p h = inc_token z.memory a q (z.seats a) r (inc_bit _ (inc_bounds b z a q p))
token_kept b z a (Dec q) r p h = rw (dec_bit _ (dec_bounds b z a q p))
token_kept b z a (DecHeld q) r p h = rw (dec_bit _ (dec_held_bounds b z a q p))
token_kept b z a (SetRetired q n) r p h = set_token z.memory a q n (z.seats a) r (ltb-true _ _ (and_both _ _ (and_both _ _ p.fits).0).1)
token_kept b z a (Unretire q) r p h = unretire_token b z a q r p
token_kept b z a (CounterLoad q Check) r p h = refl
token_kept b z a (CounterLoad q Start) r p h =
    start_token z.memory a q (z.seats a) r (no_part _ (and_both _ _ (and_both _ _ (and_both _ _ p.fits).0).0).1)
    (from_hand_or_list _ q _ (and_both _ _ p.fits).1)
token_kept b z a (CounterLoad q End) r p h = let s = (and_both _ _ (and_both _ _ (and_both _ _ p.fits).0).0).1 in
    end_token z.memory a q (z.seats a) r (scan_no_doom (z.seats a) q (p.counted.one_part a) s) s
token_kept b z a (LinkLoad w k) r p h = refl
token_kept b z a (SlotLook k) r p h = rw (scans_on (z.seats a).scan (z.memory (Slot (k / 8) (k % 8))) r)
token_kept b z a (Hand k) r p h = let s = found_one (z.seats a).scan (and_both _ _ (and_both _ _ p.fits).0).1 in let g = p.shape.rows.1 in
    hand_token z.memory a k (z.seats a) r (omega arith) (scan_no_hand (z.seats a) (p.counted.one_part a) s) s
token_kept b z a (TakeIn k) r p h = let g = p.shape.rows.1 in take_in_token z.memory a k (z.seats a) r (omega arith)
token_kept b z a (Free q) r p h = free_token z.memory a q (z.seats a) r (and_both _ _ p.fits).1
token_kept b z a op r p h = refl

outside_step : (b : Bounds) (m : Word → ℕ) (w : Word) (v : ℕ) → IsWithin b w → ((x : Word) → is_within b x ≡ false → m x ≡ 0) → (x : Word)
    → is_within b x ≡ false → write m w v x ≡ 0
outside_step b m w v h s x n = cases (same_word x w) refl
  where
    cases : (t : Bool) → same_word x w ≡ t → cond t v (m x) ≡ 0
    cases true e = absurd (false≢true (sym n ∙ ap (is_within b) (same_word-true x w e) ∙ IsWithin-is_within b w h))
    cases false e = s x n

inc_held_step : (b : Bounds) (z : World) (a : ℕ) (op : Op) → LawfulStep b z a op → (x r : ℕ) → names ((step_world z a op).seats x).inc r ≡ true
    → any_holds ((step_world z a op).seats x).slots r ≡ true
inc_held_step b z a op p x r g = cases (x == a) refl g
  where
    cases : (t : Bool) → (x == a) ≡ t → names (cond t (record_by z a op) (z.seats x)).inc r ≡ true
        → any_holds (cond t (record_by z a op) (z.seats x)).slots r ≡ true
    cases true e k = ⊎_elim (λ old. rw (inc_slots op (z.seats a) (read_by z a op) r p.forced old) (p.counted.inc_held a r old))
        (λ new. links_holds op (z.seats a) (read_by z a op) r new (links_held b (z.memory Enrolled) a op (z.seats a) r p.fits new))
        (inc_source op (z.seats a) (read_by z a op) r k)
    cases false e k = p.counted.inc_held x r k

due_held_step : (b : Bounds) (z : World) (a : ℕ) (op : Op) → LawfulStep b z a op → (x r : ℕ) → saw ((step_world z a op).seats x).due r ≡ true
    → any_holds ((step_world z a op).seats x).slots r ≡ true
due_held_step b z a op p x r g = cases (x == a) refl g
  where
    counts_holds : (op : Op) (d : Agent) (v r : ℕ) → counts op d.scan r ≡ true → any_holds d.slots r ≡ true → any_holds (after op d v).slots r ≡ true
    counts_holds (Inc q) d v r n h = h
    counts_holds (Dec q) d v r n h = h
    counts_holds (DecHeld q) d v r n h = h
    counts_holds (Unretire q) d v r n h = h
    counts_holds op d v r n h = absurd (false≢true n)

    cases : (t : Bool) → (x == a) ≡ t → saw (cond t (record_by z a op) (z.seats x)).due r ≡ true
        → any_holds (cond t (record_by z a op) (z.seats x)).slots r ≡ true
    cases true e k = ⊎_elim (λ old. absurd (both_ways _ k (due_ends op (z.seats a) (read_by z a op) r p.forced old)))
        (λ new. counts_holds op (z.seats a) (read_by z a op) r new
        (counts_held b (z.memory Enrolled) a op (z.seats a) r p.fits (p.counted.one_part a) (p.counted.inc_held a r) new))
        (due_source op (z.seats a) (read_by z a op) r k)
    cases false e k = p.counted.due_held x r k

pub step_within : (b : Bounds) (z : World) (a : ℕ) (op : Op) → LawfulStep b z a op → IsWithin b (action_of a op (z.seats a)).word
step_within b z a op p = fits_within b (z.memory Enrolled) a op (z.seats a) p.agent p.fits

-- a step keeps what counts, retirement and use agree on
pub counted_step : (b : Bounds) (z : World) (a : ℕ) (op : Op) → LawfulStep b z a op → Counted b (step_world z a op)
counted_step b z a op p = record {
  outside = outside_step b z.memory _ _ (step_within b z a op p) p.counted.outside;
  enrolment = enrolment_step b z a op p;
  slots = slots_step b z a op p.fits p.counted.slots;
  balance = λ r h. balance_step b z a _ _ _ r (step_within b z a op p) p.agent (balance_kept b z a op r p h) (p.counted.balance r h);
  inc_held = inc_held_step b z a op p;
  due_held = due_held_step b z a op p;
  token = λ r h. token_step b z a _ _ _ r (step_within b z a op p) p.agent (token_kept b z a op r p h) (p.counted.token r h);
  one_part = λ x. seat_join HasOnePart z.seats a x (record_by z a op)
      (parts_kept b (z.memory Enrolled) a op (z.seats a) (read_by z a op) p.fits (p.counted.one_part a)) (p.counted.one_part x);
  used_out = used_out_step b z a op p;
  bit_out = bit_out_step b z a op p;
  free_null = free_null_step b z a op p;
  roots_out = roots_out_step b z a op p;
  links_out = links_out_step b z a op p;
  fresh_bit = fresh_bit_step b z a op p;
  fresh_alone = fresh_alone_step b z a op p;
  fresh_root = fresh_root_step b z a op p;
  fresh_links = fresh_links_step b z a op p;
}
