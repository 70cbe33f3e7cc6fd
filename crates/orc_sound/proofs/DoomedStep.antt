-- What is known of the rows of dooms is kept by each step.
use Rattle.std.proofs.Common.{Bool, ap, arith, cond, false, inl, inr, refl, sym, true, ℕ, ⊎_elim, ◌%◌, ◌+◌, ◌<◌, ◌^◌, ◌∙◌, ◌≡◌, ◌≢◌, ◌≤◌, ◌⊎◌, zero, suc}
use Rattle.std.proofs.lemmas.Bool.{eq-eqb, eqb-false, eqb-true, false≢true, ltb-true, ne_eqb}
use Rattle.std.specs.Prelude.{None, Option, Some, is_none, is_some, nat_lt, not, ◌&&◌, ◌==◌, ◌||◌}
use Rattle.orc_words.specs.Bounds.{Bounds}
use Rattle.orc_words.specs.Packed.{bit, count_bits, link_word, retired_bit, sequence_of}
use Rattle.orc_words.specs.declared.packed.RowLink.{RowLink}
use Rattle.orc_words.specs.declared.place.Word.{Word}
use Rattle.orc_words.specs.declared.place.Word.TheVariants.{Counter, Enrolled, First, Gate, Next, Root, Second, Side}
use Rattle.orc_core.proofs.Within.{and_both}
use Rattle.orc_core.specs.After.{after, bared, cut_of}
use Rattle.orc_core.specs.Allowed.{fits, may_change, may_place, may_target}
use Rattle.orc_core.specs.Machine.{nobody}
use Rattle.orc_core.specs.RecordParts.{any_holds, doom_bare, doom_cut, doom_at, is_empty, kept, names, scans, slot_of}
use Rattle.orc_core.specs.declared.ops.CounterUse.TheVariants.{Check, End, Start}
use Rattle.orc_core.specs.declared.ops.Op.{Op}
use Rattle.orc_core.specs.declared.ops.Op.TheVariants.{Arm, CounterLoad, Dec, Fill, Free, GateTake, Inc, LinkCas, LinkLoad, LinkStore, Read, SetRetired, Unretire, DecHeld}
use Rattle.orc_core.specs.declared.records.Agent.{Agent}
use Rattle.orc_core.specs.declared.records.Doom.{Doom}
use Rattle.orc_sound.proofs.Balances.{OutPlace}
use Rattle.orc_sound.proofs.Bits.{bit_before, retired_one, scan_places, unretire_cases, unretire_one}
use Rattle.orc_sound.proofs.CountedStep.{scan_no_doom}
use Rattle.orc_sound.proofs.CounterWords.{clear_bit, clear_count, clear_sequence, try_count, try_sequence}
use Rattle.orc_sound.proofs.Facts.{Counted, Doomed, EnrolmentFits, Gone, LawfulStep, decs, incs, linked_in, out, to_row}
use Rattle.orc_sound.proofs.Fresh.{small_bit}
use Rattle.orc_sound.proofs.OnePart.{scans_some}
use Rattle.orc_sound.proofs.Outs.{bare_dooms, cas_place, cas_place_out, linked_link, linked_root, load_place, none_linked, raiser_uses, read_out, store_cases, store_row_out, takes_free, uncut_dooms, uses_before, zero_one}
use Rattle.orc_sound.proofs.Quiet.{counts_row}
use Rattle.orc_sound.proofs.Seats.{both_ways, not_true, seat_split}
use Rattle.orc_sound.proofs.Sources.{changes_link, links_stay, out_stays, same_link, same_number, write_same}
use Rattle.orc_sound.specs.Lifetimes.{frees}
use Rattle.orc_sound.proofs.Sums.{sum_two, sum_zero}
use Rattle.orc_sound.proofs.Uses.{NewUse, dec_uses, fresh_uses, held_uses, inc_uses}
use Rattle.orc_sound.proofs.World.{World, read_by, record_by, step_world, write}
use Rattle.orc_sound.specs.Doomed.{cuts_past, dooms, dooms_cut}
use Rattle.orc_sound.specs.Linked.{uses}
use Rattle.orc_sound.specs.RetirementToken.{HasOnePart, dooming, places_of}
use Rattle.orc_words.specs.Places.{link_at}
use Rattle.orc_sound.proofs.Bridge.{same_word-self, same_word-true}

-- whose record isn't empty is an agent of the table
pub agent_below : (b : Bounds) (z : World) (a : ℕ) → EnrolmentFits b z → (z.seats a ≡ nobody b.rows → ⊥) → a < b.agents
agent_below b z a s n = cases (nat_lt a (z.memory Enrolled)) refl
  where
    cases : (t : Bool) → nat_lt a (z.memory Enrolled) ≡ t → a < b.agents
    cases true e = let l = ltb-true a (z.memory Enrolled) e in let m = s.most in omega arith
    cases false e = let l : z.memory Enrolled ≤ a = grind arith in absurd (n (s.empty a l))

doom_agent : (b : Bounds) (z : World) (a r : ℕ) → EnrolmentFits b z → dooms (z.seats a).doom r ≡ true → a < b.agents
doom_agent b z a r s h = agent_below b z a s (λ e. false≢true (rw e at h))

pub never_out : (w : ℕ) → w ≡ 0 → out w ≡ 1 → ⊥
never_out w e h = omega arith

-- a row that is out is one of the table's
pub out_below : (b : Bounds) (z : World) (r : ℕ) → Counted b z → out (z.memory (Gate r)) ≡ 1 → r < b.rows
out_below b z r s h = cases (nat_lt r b.rows) refl
  where
    cases : (t : Bool) → nat_lt r b.rows ≡ t → r < b.rows
    cases true e = ltb-true r b.rows e
    cases false e = absurd (never_out (z.memory (Gate r)) (s.outside (Gate r) e) h)

-- two agents don't have one row in their records
pub two_places : (b : Bounds) (z : World) (a x r : ℕ) → Counted b z → a < b.agents → x < b.agents → a ≢ x → r < b.rows → 0 < places_of (z.seats a) r
    → 0 < places_of (z.seats x) r → ⊥
two_places b z a x r s ha hx n hr h k =
    let m = sum_two b.agents a x (λ y. places_of (z.seats y) r) ha hx n in
    let t = s.token r hr in
    omega arith

dooming_places : (d : Agent) (r : ℕ) → dooming d.doom r ≡ true → 0 < places_of d r
dooming_places d r h = grind arith

unbare : (o : Option Doom) (r : ℕ) → dooms o r ≡ true → doom_bare o r ≡ false → dooming o r ≡ true
unbare None r h k = h
unbare (Some d) r h k = grind arith

dooms_one : (o : Option Doom) (r : ℕ) → dooms o r ≡ true → bit (is_some o) ≡ 1
dooms_one None r h = absurd (false≢true h)
dooms_one (Some d) r h = refl

two_parts : (d : Agent) (r : ℕ) → HasOnePart d → dooms d.doom r ≡ true → scans d.scan r ≡ true → ⊥
two_parts d r o h k = let i = dooms_one d.doom r h in let j = scans_some d.scan r k in omega arith

-- a doomed row isn't scanned
pub unscanned : (b : Bounds) (z : World) (x a r : ℕ) → Counted b z → Doomed b z → dooms (z.seats x).doom r ≡ true → a < b.agents
    → scans (z.seats a).scan r ≡ true → ⊥
unscanned b z x a r s d h ha k = cases (doom_bare (z.seats x).doom r) (x == a) refl refl
  where
    below : r < b.rows
    below = out_below b z r s (d.gone x r h).is_out

    cases : (t u : Bool) → doom_bare (z.seats x).doom r ≡ t → (x == a) ≡ u → ⊥
    cases true u e f = zero_one (d.clear x r e) (retired_one b z a r s ha below (scan_places (z.seats a) r k))
    cases false true e f = two_parts (z.seats a) r (s.one_part a) (rw (eqb-true x a f) at h) k
    cases false false e f =
        two_places b z x a r s (doom_agent b z x r s.enrolment h) ha (eqb-false x a f) below
        (dooming_places (z.seats x) r (unbare (z.seats x).doom r h e)) (scan_places (z.seats a) r k)

-- a scan that ends at the word of its start dooms its row
abbrev pub ends : Op → Agent → ℕ → ℕ → Bool
ends (CounterLoad q End) d v r = (q == r) && (v == kept d.scan)
ends _ d v r = false

cut_row : (o : Option Doom) (q k r : ℕ) → dooms (cut_of o q k) r ≡ dooms o r
cut_row None q k r = refl
cut_row (Some d) q k r = refl

bared_row : (o : Option Doom) (r : ℕ) → dooms (bared o) r ≡ dooms o r
bared_row None r = refl
bared_row (Some d) r = refl

end_doom : (o : Option Doom) (q r : ℕ) (t : Bool) → dooms (cond t (Some (record { row = q; cuts = 0; bare = false })) o) r ≡ true
    → (dooms o r ≡ true) ⊎ (((q == r) && t) ≡ true)
end_doom o q r true h = inr (grind arith)
end_doom o q r false h = inl h

pub doom_source : (op : Op) (d : Agent) (v r : ℕ) → dooms (after op d v).doom r ≡ true → (dooms d.doom r ≡ true) ⊎ (ends op d v r ≡ true)
doom_source (LinkStore q l nr) d v r h = inl (sym (cut_row d.doom q nr r) ∙ h)
doom_source (CounterLoad q Check) d v r h = inl h
doom_source (CounterLoad q Start) d v r h = inl h
doom_source (CounterLoad q End) d v r h = end_doom d.doom q r (v == kept d.scan) h
doom_source (Unretire q) d v r h = inl (sym (bared_row d.doom r) ∙ h)
doom_source (Free q) d v r h = absurd (false≢true h)
doom_source op d v r h = inl h

end_scans : (b : Bounds) (e a : ℕ) (op : Op) (d : Agent) (v r : ℕ) → fits b e a op d ≡ true → ends op d v r ≡ true → scans d.scan r ≡ true
end_scans b e a (CounterLoad q Check) d v r f h = absurd (false≢true h)
end_scans b e a (CounterLoad q Start) d v r f h = absurd (false≢true h)
end_scans b e a (CounterLoad q End) d v r f h = rw (← eqb-true q r (and_both _ _ h).0) (and_both _ _ (and_both _ _ (and_both _ _ f).0).0).1
end_scans b e a op d v r f h = absurd (false≢true h)

-- a step of which it is known that a row which it dooms is gone
pub record EndingStep (b : Bounds) (z : World) (a : ℕ) (op : Op) : Type 0 where
  pub lawful : LawfulStep b z a op
  pub gone : (r : ℕ) → ends op (z.seats a) (read_by z a op) r ≡ true → Gone b z r

gone_before : (b : Bounds) (z : World) (a : ℕ) (op : Op) (x r : ℕ) → EndingStep b z a op → dooms ((step_world z a op).seats x).doom r ≡ true → Gone b z r
gone_before b z a op x r p h =
    ⊎_elim
    (λ s. ⊎_elim (λ old. p.lawful.doomed.gone a r old) (λ new. p.gone r new) (doom_source op (z.seats a) (read_by z a op) r s.1))
    (λ s. p.lawful.doomed.gone x r s.1)
    (seat_split (λ d. dooms d.doom r ≡ true) z.seats a x (record_by z a op) h)

-- a doomed row isn't freed by a step that leaves it doomed
not_freed : (b : Bounds) (z : World) (a : ℕ) (op : Op) (x r : ℕ) → LawfulStep b z a op → dooms ((step_world z a op).seats x).doom r ≡ true
    → frees op r ≡ true → ⊥
not_freed b z a (Free q) x r p h f =
    ⊎_elim
    (λ s. false≢true s.1)
    (λ s. s.0 (p.doomed.alone a x r (rw (← eqb-true q r f) (bare_dooms (z.seats a).doom q (and_both _ _ p.fits).1)) s.1))
    (seat_split (λ d. dooms d.doom r ≡ true) z.seats a x (record_by z a (Free q)) h)
not_freed b z a op x r p h f = false≢true f

unlinked_place : (b : Bounds) (z : World) (w : Word) (r : ℕ) → Counted b z → Gone b z r → OutPlace z.memory w → to_row (z.memory w) r ≡ 1 → ⊥
unlinked_place b z (Root i) r s g o h = none_linked g.unlinked (linked_root b z i r s h)
unlinked_place b z (Next j) r s g o h = none_linked g.unlinked (linked_link b z 0 j r s o h)
unlinked_place b z (Side j) r s g o h = none_linked g.unlinked (linked_link b z 1 j r s o h)
unlinked_place b z w r s g o h = o

-- nobody comes to use a row that nothing links, uses or scans
new_use_gone : (b : Bounds) (z : World) (a : ℕ) (op : Op) (r : ℕ) → LawfulStep b z a op → Gone b z r
    → ((q : ℕ) → op ≡ Arm q → scans (z.seats a).scan r ≡ true → ⊥) → NewUse op (z.seats a) (read_by z a op) r → ⊥
new_use_gone b z a (LinkLoad w k) r p g n h =
    unlinked_place b z w r p.counted g (read_out b z a w p.counted (load_place b (z.memory Enrolled) a w k (z.seats a) p.fits)) h
new_use_gone b z a (LinkStore q l nr) r p g n h = none_linked g.unlinked (linked_link b z nr q r p.counted (store_row_out b z a q nr l p) h)
new_use_gone b z a (Arm q) r p g n h = n q refl (rw h.0 h.1)
new_use_gone b z a (GateTake q) r p g n h = zero_one (takes_free (GateTake q) (z.seats a) z.memory a r h) g.is_out
new_use_gone b z a op r p g n h = h

-- a row that was doomed before isn't armed by its scan; a scan that ends arms nothing
arms_not : (b : Bounds) (z : World) (a : ℕ) (op : Op) (x r : ℕ) → LawfulStep b z a op → dooms ((step_world z a op).seats x).doom r ≡ true → (q : ℕ)
    → op ≡ Arm q → scans (z.seats a).scan r ≡ true → ⊥
arms_not b z a (Arm q) x r p h k e s =
    ⊎_elim
    (λ t. unscanned b z a a r p.counted p.doomed t.1 p.agent s)
    (λ t. unscanned b z x a r p.counted p.doomed t.1 p.agent s)
    (seat_split (λ d. dooms d.doom r ≡ true) z.seats a x (record_by z a (Arm q)) h)
arms_not b z a op x r p h q e s = cc

unused_step : (b : Bounds) (z : World) (a : ℕ) (op : Op) (x r : ℕ) → LawfulStep b z a op → Gone b z r
    → dooms ((step_world z a op).seats x).doom r ≡ true → (y : ℕ) → uses ((step_world z a op).seats y) r ≡ false
unused_step b z a op x r p g h y =
    not_true (uses ((step_world z a op).seats y) r)
    (λ u. ⊎_elim
    (λ s. ⊎_elim (λ old. both_ways (uses (z.seats a) r) old (g.unused a)) (λ new. new_use_gone b z a op r p g (arms_not b z a op x r p h) new)
    (uses_before b z a op r p s.1))
    (λ s. both_ways (uses (z.seats y) r) s.1 (g.unused y))
    (seat_split (λ d. uses d r ≡ true) z.seats a y (record_by z a op) u))

other_counter : (m : Word → ℕ) (q v r : ℕ) → (q == r) ≡ false → write m (Counter q) v (Counter r) ≡ m (Counter r)
other_counter m q v r h = rw (ne_eqb r q (λ e. eqb-false q r h (sym e)))

-- what a function of counter words that a step leaves at its word it leaves at all
same_counter : (g : ℕ → ℕ) (m : Word → ℕ) (q v r : ℕ) → g v ≡ g (m (Counter q)) → g (write m (Counter q) v (Counter r)) ≡ g (m (Counter r))
same_counter g m q v r h = cases (r == q) refl
  where
    cases : (t : Bool) → (r == q) ≡ t → g (cond t v (m (Counter r))) ≡ g (m (Counter r))
    cases true e = rw (eqb-true r q e) h
    cases false e = refl

pub fill_counter : (m : Word → ℕ) (q w v r : ℕ) → write m (cond (w == 0) (First q) (Second q)) v (Counter r) ≡ m (Counter r)
fill_counter m q w v r = grind arith

-- a step that doesn't count the row leaves its count
pub count_stays : (b : Bounds) (z : World) (a : ℕ) (op : Op) (r : ℕ) → LawfulStep b z a op → counts_row op r ≡ false
    → count_bits ((step_world z a op).memory (Counter r)) ≡ count_bits (z.memory (Counter r))
count_stays b z a (Inc q) r p n = ap count_bits (other_counter z.memory q ((z.memory (Counter q) + 16777217) % 18446744073709551616) r n)
count_stays b z a (Dec q) r p n = ap count_bits (other_counter z.memory q ((z.memory (Counter q) + 16777215) % 18446744073709551616) r n)
count_stays b z a (DecHeld q) r p n = ap count_bits (other_counter z.memory q ((z.memory (Counter q) + 16777215) % 18446744073709551616) r n)
count_stays b z a (SetRetired q k) r p n = same_counter count_bits z.memory q _ r (try_count (z.memory (Counter q)) k)
count_stays b z a (Unretire q) r p n = same_counter count_bits z.memory q _ r (clear_count (z.memory (Counter q)) (unretire_one b z a q p))
count_stays b z a (CounterLoad q how) r p n = ap count_bits (write_same z.memory (Counter q) (Counter r))
count_stays b z a (LinkLoad w k) r p n = ap count_bits (write_same z.memory w (Counter r))
count_stays b z a (LinkCas (Root i) x t) r p n = refl
count_stays b z a (LinkCas (Next i) x t) r p n = refl
count_stays b z a (LinkCas (Side i) x t) r p n = refl
count_stays b z a (LinkCas w x t) r p n = absurd (cas_place_out b z a w x t p)
count_stays b z a (Fill q w v) r p n = ap count_bits (fill_counter z.memory q w v r)
count_stays b z a (Read q w) r p n = ap count_bits (write_same z.memory (cond (w == 0) (First q) (Second q)) (Counter r))
count_stays b z a (LinkStore lq ll zero) r p n = refl
count_stays b z a (LinkStore lq ll (suc ln)) r p n = refl
count_stays b z a op r p n = refl

-- a step that doesn't count the row leaves its sequence
pub sequence_stays : (b : Bounds) (z : World) (a : ℕ) (op : Op) (r : ℕ) → LawfulStep b z a op
    → ((q : ℕ) → sequence_of (z.memory (Counter q)) < 2 ^ 39 + 2 ^ 19) → counts_row op r ≡ false
    → sequence_of ((step_world z a op).memory (Counter r)) ≡ sequence_of (z.memory (Counter r))
sequence_stays b z a (Inc q) r p l n = ap sequence_of (other_counter z.memory q ((z.memory (Counter q) + 16777217) % 18446744073709551616) r n)
sequence_stays b z a (Dec q) r p l n = ap sequence_of (other_counter z.memory q ((z.memory (Counter q) + 16777215) % 18446744073709551616) r n)
sequence_stays b z a (DecHeld q) r p l n = ap sequence_of (other_counter z.memory q ((z.memory (Counter q) + 16777215) % 18446744073709551616) r n)
sequence_stays b z a (SetRetired q k) r p l n = same_counter sequence_of z.memory q _ r (try_sequence (z.memory (Counter q)) k)
sequence_stays b z a (Unretire q) r p l n = same_counter sequence_of z.memory q _ r (clear_sequence (z.memory (Counter q)) (l q) (unretire_one b z a q p))
sequence_stays b z a (CounterLoad q how) r p l n = ap sequence_of (write_same z.memory (Counter q) (Counter r))
sequence_stays b z a (LinkLoad w k) r p l n = ap sequence_of (write_same z.memory w (Counter r))
sequence_stays b z a (LinkCas (Root i) x t) r p l n = refl
sequence_stays b z a (LinkCas (Next i) x t) r p l n = refl
sequence_stays b z a (LinkCas (Side i) x t) r p l n = refl
sequence_stays b z a (LinkCas w x t) r p l n = absurd (cas_place_out b z a w x t p)
sequence_stays b z a (Fill q w v) r p l n = ap sequence_of (fill_counter z.memory q w v r)
sequence_stays b z a (Read q w) r p l n = ap sequence_of (write_same z.memory (cond (w == 0) (First q) (Second q)) (Counter r))
sequence_stays b z a (LinkStore lq ll zero) r p l n = refl
sequence_stays b z a (LinkStore lq ll (suc ln)) r p l n = refl
sequence_stays b z a op r p l n = refl

pub counts_uses : (b : Bounds) (e a : ℕ) (op : Op) (d : Agent) (r : ℕ) → fits b e a op d ≡ true → counts_row op r ≡ true → uses d r ≡ true
counts_uses b e a (Inc q) d r f h = rw (← eqb-true q r h) (inc_uses d q (and_both _ _ f).1)
counts_uses b e a (Dec q) d r f h = rw (← eqb-true q r h) (dec_uses d q (and_both _ _ (and_both _ _ f).0).1)
counts_uses b e a (DecHeld q) d r f h = rw (← eqb-true q r h) (dec_uses d q (and_both _ _ (and_both _ _ f).0).1)
counts_uses b e a op d r f h = absurd (false≢true h)

unused_inc : (d : Agent) (r : ℕ) → uses d r ≡ false → bit (names d.inc r) ≡ 0
unused_inc d r h = ap bit (not_true (names d.inc r) (λ k. both_ways (uses d r) (inc_uses d r k) h))

unused_dec : (d : Agent) (r : ℕ) → uses d r ≡ false → bit (names d.dec r) ≡ 0
unused_dec d r h = ap bit (not_true (names d.dec r) (λ k. both_ways (uses d r) (dec_uses d r k) h))

pub no_incs : (b : Bounds) (z : World) (r : ℕ) → ((y : ℕ) → uses (z.seats y) r ≡ false) → incs b z.seats r ≡ 0
no_incs b z r h = sum_zero b.agents (λ y. bit (names (z.seats y).inc r)) (λ y. unused_inc (z.seats y) r (h y))

pub no_decs : (b : Bounds) (z : World) (r : ℕ) → ((y : ℕ) → uses (z.seats y) r ≡ false) → decs b z.seats r ≡ 0
no_decs b z r h = sum_zero b.agents (λ y. bit (names (z.seats y).dec r)) (λ y. unused_dec (z.seats y) r (h y))

-- a row that nothing links or uses has count 0
pub gone_count : (b : Bounds) (z : World) (r : ℕ) → Counted b z → Gone b z r → count_bits (z.memory (Counter r)) ≡ 4194304
gone_count b z r s g = let e = s.balance r (out_below b z r s g.is_out) in let i = no_incs b z r g.unused in let d = no_decs b z r g.unused in
    let l = g.unlinked in omega arith

count_unlinked : (b : Bounds) (z : World) (r : ℕ) → r < b.rows → Counted b z → count_bits (z.memory (Counter r)) ≡ 4194304
    → ((y : ℕ) → uses (z.seats y) r ≡ false) → linked_in b z.memory r ≡ 0
count_unlinked b z r h s c u = let e = s.balance r h in let i = no_incs b z r u in let d = no_decs b z r u in omega arith

gone_step : (b : Bounds) (z : World) (a : ℕ) (op : Op) → EndingStep b z a op → Counted b (step_world z a op) → (x r : ℕ)
    → dooms ((step_world z a op).seats x).doom r ≡ true → Gone b (step_world z a op) r
gone_step b z a op p s x r h =
    let g = gone_before b z a op x r p h in
    let n : counts_row op r ≡ false =
    not_true (counts_row op r) (λ k. both_ways (uses (z.seats a) r) (counts_uses b (z.memory Enrolled) a op (z.seats a) r p.lawful.fits k) (g.unused a)) in
    let u = unused_step b z a op x r p.lawful g h in
    record {
      is_out = out_stays z.memory b (z.memory Enrolled) a op (z.seats a) r p.lawful.fits (not_true (frees op r) (not_freed b z a op x r p.lawful h)) g.is_out;
      unlinked = count_unlinked b (step_world z a op) r (out_below b z r p.lawful.counted g.is_out) s
          (count_stays b z a op r p.lawful n ∙ gone_count b z r p.lawful.counted g) u;
      unused = u;
    }

alone_step : (b : Bounds) (z : World) (a : ℕ) (op : Op) → EndingStep b z a op → (x y r : ℕ) → dooms ((step_world z a op).seats x).doom r ≡ true
    → dooms ((step_world z a op).seats y).doom r ≡ true → y ≡ x
alone_step b z a op p x y r h k =
    ⊎_elim
    (λ s. ⊎_elim
    (λ t. t.0 ∙ sym s.0)
    (λ t. ⊎_elim
    (λ old. p.lawful.doomed.alone a y r old t.1 ∙ sym s.0)
    (λ new. absurd
    (unscanned b z y a r p.lawful.counted p.lawful.doomed t.1 p.lawful.agent
    (end_scans b (z.memory Enrolled) a op (z.seats a) (read_by z a op) r p.lawful.fits new)))
    (doom_source op (z.seats a) (read_by z a op) r s.1))
    (seat_split (λ d. dooms d.doom r ≡ true) z.seats a y (record_by z a op) k))
    (λ s. ⊎_elim
    (λ t. ⊎_elim
    (λ old. t.0 ∙ p.lawful.doomed.alone x a r s.1 old)
    (λ new. absurd
    (unscanned b z x a r p.lawful.counted p.lawful.doomed s.1 p.lawful.agent
    (end_scans b (z.memory Enrolled) a op (z.seats a) (read_by z a op) r p.lawful.fits new)))
    (doom_source op (z.seats a) (read_by z a op) r t.1))
    (λ t. p.lawful.doomed.alone x y r s.1 t.1)
    (seat_split (λ d. dooms d.doom r ≡ true) z.seats a y (record_by z a op) k))
    (seat_split (λ d. dooms d.doom r ≡ true) z.seats a x (record_by z a op) h)

-- a doom has one more link out where that link of its row was stored
abbrev pub cuts : Op → ℕ → ℕ → Bool
cuts (LinkStore q l k) r n = (q == r) && (k == n)
cuts _ r n = false

cut_new : (o : Option Doom) (q k r n : ℕ) → cuts_past (cut_of o q k) r n ≡ true → (cuts_past o r n ≡ true) ⊎ (((q == r) && (k == n)) ≡ true)
cut_new None q k r n h = inl h
cut_new (Some d) q k r n h = grind arith

bared_past : (o : Option Doom) (r n : ℕ) → cuts_past (bared o) r n ≡ cuts_past o r n
bared_past None r n = refl
bared_past (Some d) r n = refl

end_past : (o : Option Doom) (q r n : ℕ) (t : Bool) → cuts_past (cond t (Some (record { row = q; cuts = 0; bare = false })) o) r n ≡ true → cuts_past o r n ≡ true
end_past o q r n true h = grind arith
end_past o q r n false h = h

past_source : (op : Op) (d : Agent) (v r n : ℕ) → cuts_past (after op d v).doom r n ≡ true → (cuts_past d.doom r n ≡ true) ⊎ (cuts op r n ≡ true)
past_source (LinkStore q l nr) d v r n h = cut_new d.doom q nr r n h
past_source (CounterLoad q Check) d v r n h = inl h
past_source (CounterLoad q Start) d v r n h = inl h
past_source (CounterLoad q End) d v r n h = inl (end_past d.doom q r n (v == kept d.scan) h)
past_source (Unretire q) d v r n h = inl (sym (bared_past d.doom r n) ∙ h)
past_source (Free q) d v r n h = absurd (false≢true h)
past_source op d v r n h = inl h

pub past_dooms : (o : Option Doom) (r n : ℕ) → cuts_past o r n ≡ true → dooms o r ≡ true
past_dooms None r n h = h
past_dooms (Some d) r n h = (and_both _ _ h).0

-- the links below the next one are out
past_below : (o : Option Doom) (r n k : ℕ) → doom_at o r k ≡ true → cuts_past o r n ≡ true → n < k
past_below None r n k h g = absurd (false≢true h)
past_below (Some d) r n k h g = let e = eqb-true d.cuts k (and_both _ _ h).1 in let l = ltb-true n d.cuts (and_both _ _ g).1 in omega arith

null_link : (l : RowLink) → is_none l.to ≡ true → not l.mark ≡ true → link_word l ≡ 0
null_link l h k = grind arith

-- the link that is stored at a row which isn't fresh is null
store_null : (n y e f t c u s k : Bool) → (n && y && e && ((f && t && c) || (u && s && k))) ≡ true → f ≡ false → (u ≡ true) × (s ≡ true) × (k ≡ true)
store_null n y e true t c u s k h g = absurd (false≢true (sym g))
store_null n y e false t c u s k h g = let a = and_both (u && s) k (and_both (n && y && e) (u && s && k) h).1 in let c = and_both u s a.0 in (c.0, c.1, a.1)

store_parts : (b : Bounds) (e a q nr : ℕ) (l : RowLink) (d : Agent) → fits b e a (LinkStore q l nr) d ≡ true → names d.fresh q ≡ false
    → (doom_at d.doom q nr ≡ true) × (is_none l.to ≡ true) × (not l.mark ≡ true)
store_parts b e a q nr l d f g = store_null (nat_lt q b.rows) (nat_lt nr b.links) (is_empty (slot_of d 0)) (names d.fresh q) (may_target b d l.to)
    (may_change d (b.limit + 64) None l.to) (doom_at d.doom q nr) (is_none l.to) (not l.mark) f g

-- the number of a link that is stored is below two
pub number_below : (b : Bounds) (z : World) (a q nr : ℕ) (l : RowLink) → LawfulStep b z a (LinkStore q l nr) → nr < 2
number_below b z a q nr l p = let k = ltb-true nr b.links (and_both _ _ (and_both _ _ (and_both _ _ p.fits).0).0).1 in let m = p.shape.links.1 in omega arith

-- a step that cuts a link stores 0 in it
cut_null : (b : Bounds) (z : World) (a : ℕ) (op : Op) (r n : ℕ) → LawfulStep b z a op → uses (z.seats a) r ≡ false → cuts op r n ≡ true
    → (step_world z a op).memory (link_at n r) ≡ 0
cut_null b z a (LinkStore q l nr) r n p u h =
    let e : q ≡ r = eqb-true q r (and_both _ _ h).0 in
    let k : nr ≡ n = eqb-true nr n (and_both _ _ h).1 in
    rw (← e, ← k, same_word-self (link_at nr q))
    (stored (store_parts b (z.memory Enrolled) a q nr l (z.seats a) p.fits
    (not_true (names (z.seats a).fresh q) (λ k. both_ways (uses (z.seats a) r) (fresh_uses (z.seats a) r (rw e at k)) u))))
  where
    stored : (doom_at (z.seats a).doom q nr ≡ true) × (is_none l.to ≡ true) × (not l.mark ≡ true) → link_word l ≡ 0
    stored k = null_link l k.1 k.2
cut_null b z a op r n p u h = absurd (false≢true h)

-- nobody else changes a link that is cut
cut_unchanged : (b : Bounds) (z : World) (a : ℕ) (op : Op) (x r n : ℕ) → LawfulStep b z a op → Gone b z r → cuts_past (z.seats x).doom r n ≡ true
    → changes_link op (link_at n r) ≡ true → ⊥
cut_unchanged b z a (LinkCas w f t) x r n p g c h =
    both_ways (uses (z.seats a) r)
    (cas_row_used b a n r f t (z.seats a)
    (rw (same_word-true (link_at n r) w h) (cas_place b (z.memory Enrolled) a w f t (z.seats a) p.fits))) (g.unused a)
  where
    cas_row_used : (b : Bounds) (a n r : ℕ) (f t : RowLink) (d : Agent) → may_place b (link_at n r) (λ j. any_holds d.slots j && not (names d.fresh j)) ≡ true
        → uses d r ≡ true
    cas_row_used b a zero r f t d h = held_uses d r (and_both _ _ (and_both _ _ h).1).0
    cas_row_used b a (suc k) r f t d h = held_uses d r (and_both _ _ (and_both _ _ h).1).0
cut_unchanged b z a (LinkStore q l nr) x r n p g c h =
    let e = same_link n r nr q h in
    ⊎_elim
    (λ k. both_ways (uses (z.seats a) r) (rw e (fresh_uses (z.seats a) q k)) (g.unused a))
    (λ k. same_number n r nr q h
    (past_below (z.seats a).doom r n nr (rw e k)
    (rw (p.doomed.alone x a r (past_dooms (z.seats x).doom r n c) (rw e (uncut_dooms (z.seats a).doom q nr k))) c))
    (number_below b z a q nr l p))
    (store_cases b (z.memory Enrolled) a q nr l (z.seats a) p.fits)
cut_unchanged b z a op x r n p g c h = false≢true h

old_null : (b : Bounds) (z : World) (a : ℕ) (op : Op) (x r n : ℕ) → LawfulStep b z a op → cuts_past (z.seats x).doom r n ≡ true
    → (step_world z a op).memory (link_at n r) ≡ 0
old_null b z a op x r n p c =
    links_stay b (z.memory Enrolled) a op (z.seats a) z.memory n r p.fits
    (not_true (changes_link op (link_at n r)) (cut_unchanged b z a op x r n p (p.doomed.gone x r (past_dooms (z.seats x).doom r n c)) c))
    ∙ p.doomed.null x r n c

null_step : (b : Bounds) (z : World) (a : ℕ) (op : Op) → EndingStep b z a op → (x r n : ℕ) → cuts_past ((step_world z a op).seats x).doom r n ≡ true
    → (step_world z a op).memory (link_at n r) ≡ 0
null_step b z a op p x r n h =
    let g = gone_before b z a op x r p (past_dooms ((step_world z a op).seats x).doom r n h) in
    ⊎_elim
    (λ s. ⊎_elim (λ old. old_null b z a op a r n p.lawful old) (λ new. cut_null b z a op r n p.lawful (g.unused a) new)
    (past_source op (z.seats a) (read_by z a op) r n s.1))
    (λ s. old_null b z a op x r n p.lawful s.1)
    (seat_split (λ d. cuts_past d.doom r n ≡ true) z.seats a x (record_by z a op) h)

pub cut_bare : (o : Option Doom) (q k r : ℕ) → doom_bare (cut_of o q k) r ≡ doom_bare o r
cut_bare None q k r = refl
cut_bare (Some d) q k r = refl

-- a doom that is cut isn't cut further
cut_more : (links : ℕ) (o : Option Doom) (q k r : ℕ) → k < links → dooms_cut links o r ≡ true → dooms_cut links (cut_of o q k) r ≡ true
cut_more links None q k r l h = h
cut_more links (Some d) q k r l h = grind arith

end_bare : (o : Option Doom) (q r : ℕ) (t : Bool) → doom_bare (cond t (Some (record { row = q; cuts = 0; bare = false })) o) r ≡ true
    → (t ≡ false) × (doom_bare o r ≡ true)
end_bare o q r true h = grind arith
end_bare o q r false h = (refl, h)

bared_some : (links : ℕ) (o : Option Doom) (q r : ℕ) → doom_cut links o q ≡ true → doom_bare (bared o) r ≡ true
    → (q ≡ r) × (dooms_cut links (bared o) r ≡ true)
bared_some links None q r h k = absurd (false≢true h)
bared_some links (Some d) q r h k = grind arith

no_bare : (o : Option Doom) (r : ℕ) → o ≡ None → doom_bare (bared o) r ≡ true → ⊥
no_bare None r e h = false≢true h
no_bare (Some d) r e h = cc

-- a doom is bare anew where its row's bit was cleared
abbrev pub bares : Op → ℕ → Bool
bares (Unretire q) r = q == r
bares _ r = false

bare_source : (b : Bounds) (e a : ℕ) (op : Op) (d : Agent) (v r : ℕ) → fits b e a op d ≡ true → HasOnePart d → doom_bare (after op d v).doom r ≡ true
    → (((doom_bare d.doom r ≡ true) × (dooms_cut b.links d.doom r ≡ true → dooms_cut b.links (after op d v).doom r ≡ true)))
    ⊎ ((bares op r ≡ true) × (dooms_cut b.links (after op d v).doom r ≡ true))
bare_source b e a (LinkStore q l nr) d v r f o h = inl (sym (cut_bare d.doom q nr r) ∙ h, cut_more b.links d.doom q nr r (ltb-true nr b.links (and_both _ _ (and_both _ _ (and_both _ _ f).0).0).1))
bare_source b e a (CounterLoad q Check) d v r f o h = inl (h, λ k. k)
bare_source b e a (CounterLoad q Start) d v r f o h = inl (h, λ k. k)
bare_source b e a (CounterLoad q End) d v r f o h = let k = end_bare d.doom q r (v == kept d.scan) h in inl (k.1, λ g. rw k.0 g)
bare_source b e a (Unretire q) d v r f o h =
    ⊎_elim
    (λ s. absurd (no_bare d.doom r (scan_no_doom d q o s) h))
    (λ c. let k = bared_some b.links d.doom q r c h in inr (eq-eqb q r k.0, k.1))
    (unretire_cases b e a q d f)
bare_source b e a (Free q) d v r f o h = absurd (false≢true h)
bare_source b e a op d v r f o h = inl (h, λ k. k)

cut_step : (b : Bounds) (z : World) (a : ℕ) (op : Op) → LawfulStep b z a op → (x r : ℕ) → doom_bare ((step_world z a op).seats x).doom r ≡ true
    → dooms_cut b.links ((step_world z a op).seats x).doom r ≡ true
cut_step b z a op p x r h = cases (x == a) h
  where
    cases : (t : Bool) → doom_bare (cond t (record_by z a op) (z.seats x)).doom r ≡ true → dooms_cut b.links (cond t (record_by z a op) (z.seats x)).doom r ≡ true
    cases true k =
        ⊎_elim (λ s. s.1 (p.doomed.cut a r s.0)) (λ s. s.1)
        (bare_source b (z.memory Enrolled) a op (z.seats a) (read_by z a op) r p.fits (p.counted.one_part a) k)
    cases false k = p.doomed.cut x r k

cleared : (b : Bounds) (z : World) (a : ℕ) (op : Op) (r : ℕ) → LawfulStep b z a op → bares op r ≡ true
    → retired_bit ((step_world z a op).memory (Counter r)) ≡ 0
cleared b z a (Unretire q) r p h = rw (eq-eqb r q (sym (eqb-true q r h))) (let k = clear_bit (z.memory (Counter q)) (unretire_one b z a q p) in
    let u = unretire_one b z a q p in omega arith)
cleared b z a op r p h = absurd (false≢true h)

old_clear : (b : Bounds) (z : World) (a : ℕ) (op : Op) (x r : ℕ) → LawfulStep b z a op → doom_bare (z.seats x).doom r ≡ true
    → retired_bit ((step_world z a op).memory (Counter r)) ≡ 0
old_clear b z a op x r p h =
    small_bit ((step_world z a op).memory (Counter r))
    (λ k. ⊎_elim
    (λ old. zero_one (p.doomed.clear x r h) old)
    (λ new. both_ways (uses (z.seats a) r) (raiser_uses b z a op r p new) ((p.doomed.gone x r (bare_dooms (z.seats x).doom r h)).unused a))
    (bit_before b z a op r p k))

clear_step : (b : Bounds) (z : World) (a : ℕ) (op : Op) → LawfulStep b z a op → (x r : ℕ) → doom_bare ((step_world z a op).seats x).doom r ≡ true
    → retired_bit ((step_world z a op).memory (Counter r)) ≡ 0
clear_step b z a op p x r h =
    ⊎_elim
    (λ s. ⊎_elim (λ old. old_clear b z a op a r p old.0) (λ new. cleared b z a op r p new.0)
    (bare_source b (z.memory Enrolled) a op (z.seats a) (read_by z a op) r p.fits (p.counted.one_part a) s.1))
    (λ s. old_clear b z a op x r p s.1)
    (seat_split (λ d. doom_bare d.doom r ≡ true) z.seats a x (record_by z a op) h)

pub doomed_step : (b : Bounds) (z : World) (a : ℕ) (op : Op) → EndingStep b z a op → Counted b (step_world z a op) → Doomed b (step_world z a op)
doomed_step b z a op p s = record {
  gone = gone_step b z a op p s;
  alone = alone_step b z a op p;
  null = null_step b z a op p;
  cut = cut_step b z a op p.lawful;
  clear = clear_step b z a op p.lawful;
}
