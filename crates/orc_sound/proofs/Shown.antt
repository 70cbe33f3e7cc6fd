-- The facts of the state as functions, said of the words and records themselves.
use Rattle.std.proofs.Common.{Bool, ap, arith, cond, false, inl, inr, refl, suc, sym, true, zero, ℕ, ⊎_elim, ◌%◌, ◌*◌, ◌+◌, ◌/◌, ◌<◌, ◌^◌, ◌∙◌, ◌≡◌, ◌≢◌, ◌≤◌}
use Rattle.std.proofs.lemmas.Bool.{eq-eqb, eqb-false, eqb-true, false≢true, ltb-true}
use Rattle.std.proofs.lemmas.Int.{ints}
use Rattle.std.specs.Prelude.{nat_le, nat_lt, negsuc, not, pos, ◌&&◌, ◌+ℤ◌, ◌-ℤ◌, ◌==◌, ◌||◌, ◌≤ℤ◌}
use Rattle.orc_words.specs.Bounds.{IsShape}
use Rattle.orc_words.specs.Packed.{bit, count_bits, counter_of, retired_bit, sequence_of}
use Rattle.orc_words.specs.Places.{IsWithin, link_at}
use Rattle.orc_words.specs.declared.place.Word.{Word}
use Rattle.orc_words.specs.declared.place.Word.TheVariants.{Counter, Gate, Handover, Next, Root, Slot, Side}
use Rattle.orc_core.specs.Counts.{is_out, is_retired, links_to}
use Rattle.orc_core.specs.Machine.{Machine, record_at, word_in}
use Rattle.orc_core.specs.RecordParts.{doom_bare, holds, is_due, names, slot_of}
use Rattle.orc_core.specs.Sums.{count_below, some_below, sum_below}
use Rattle.orc_core.specs.declared.records.Agent.{Agent}
use Rattle.orc_sound.proofs.AllFits.{AllFits, low_sequences}
use Rattle.orc_sound.proofs.Bridge.{IsWithin-is_within}
use Rattle.orc_sound.proofs.DoomedStep.{gone_count, no_decs, no_incs, out_below, past_dooms}
use Rattle.orc_sound.proofs.Facts.{Balanced, Counted, Doomed, handed_in, hands_row, linked_in, out, to_row}
use Rattle.orc_sound.proofs.Fresh.{free_unnamed, not_one}
use Rattle.orc_sound.proofs.Lives.{LivesFit}
use Rattle.orc_sound.proofs.Outs.{bare_dooms, null_row, zero_one}
use Rattle.orc_sound.proofs.Quiet.{Loose, Pinned}
use Rattle.orc_sound.proofs.Reasons.{HasReason, reasons}
use Rattle.orc_sound.proofs.Scans.{ScanFits, empty_kept, hold_word}
use Rattle.orc_sound.proofs.Seats.{both_ways, either, not_true}
use Rattle.orc_sound.proofs.Sums.{sum_add, sum_same, sum_zero}
use Rattle.orc_sound.proofs.Uses.{dec_uses, due_uses, fresh_uses, held_uses, inc_uses}
use Rattle.orc_sound.proofs.World.{world_of}
use Rattle.orc_sound.specs.Balance.{Balance, decrements, increments}
use Rattle.orc_sound.specs.Doomed.{DoomedRows, FreeRows, dooms}
use Rattle.orc_sound.specs.Linked.{IsOut, IsUnreachable, changes, holds_row, linked, uses, linked_from}
use Rattle.orc_sound.specs.NoLeak.{NoLeak, keeps_out}
use Rattle.orc_sound.specs.SoundParts.{Enrolment, FreshRows, LooksAreKnown, Ranges, Scans, SlotsAreRecords, Targets}
use Rattle.orc_sound.specs.QuietScan.{IsLeft, QuietScans, holds_from, is_linked_anew}
use Rattle.orc_sound.specs.RetirementToken.{RetirementToken}
use Rattle.orc_sound.specs.Sound.{IsSound}

-- a word within the shape is shown as it is
pub word_shown : (m : Machine) (w : Word) → IsWithin m.bounds w → (world_of m).memory w ≡ word_in m w
word_shown m w h = rw (IsWithin-is_within m.bounds w h)

-- a row's link word is shown as it is
pub link_shown : (m : Machine) (n j : ℕ) → n < m.bounds.links → j < m.bounds.rows → (world_of m).memory (link_at n j) ≡ word_in m (link_at n j)
link_shown m zero j l h = word_shown m (Next j) h
link_shown m (suc k) j l h = word_shown m (Side j) (h, (let i : 1 < m.bounds.links = omega arith in i))

pub out_shown : (m : Machine) (r : ℕ) → out ((world_of m).memory (Gate r)) ≡ 1 → IsOut m r
out_shown m r h = cases (nat_lt r m.bounds.rows) refl h
  where
    cases : (t : Bool) → nat_lt r m.bounds.rows ≡ t → cond t (word_in m (Gate r)) 0 % 2 ≡ 1 → IsOut m r
    cases true e k = (ltb-true r m.bounds.rows e, eq-eqb (word_in m (Gate r) % 2) 1 k)
    cases false e k = absurd (omega arith)

pub out_hidden : (m : Machine) (r : ℕ) → IsOut m r → out ((world_of m).memory (Gate r)) ≡ 1
out_hidden m r h = rw (word_shown m (Gate r) h.0) (eqb-true (word_in m (Gate r) % 2) 1 h.1)

both_bits : (g : ℕ) (l : Bool) → out g * bit l ≡ bit ((g % 2 == 1) && l)
both_bits g l = cases (g % 2 == 1) l refl
  where
    cases : (t l : Bool) → (g % 2 == 1) ≡ t → out g * bit l ≡ bit (t && l)
    cases true true e = rw (eqb-true (g % 2) 1 e)
    cases true false e = omega arith
    cases false true e = let n : g % 2 ≢ 1 = eqb-false (g % 2) 1 e in omega arith
    cases false false e = omega arith

next_shown : (m : Machine) (r j : ℕ) → j < m.bounds.rows → out ((world_of m).memory (Gate j)) * to_row ((world_of m).memory (Next j)) r ≡ bit
    (is_out m j && links_to (word_in m (Next j)) r)
next_shown m r j h = rw (word_shown m (Gate j) h, word_shown m (Next j) h) (both_bits (word_in m (Gate j)) (links_to (word_in m (Next j)) r))

side_shown : (m : Machine) (r j : ℕ) → j < m.bounds.rows → 1 < m.bounds.links
    → out ((world_of m).memory (Gate j)) * to_row ((world_of m).memory (Side j)) r ≡ bit (is_out m j && links_to (word_in m (Side j)) r)
side_shown m r j h l = rw (word_shown m (Gate j) h, word_shown m (Side j) (h, l)) (both_bits (word_in m (Gate j)) (links_to (word_in m (Side j)) r))

-- a second link that the shape doesn't have is the word 0
side_none : (m : Machine) (r j : ℕ) → nat_lt 1 m.bounds.links ≡ false → out ((world_of m).memory (Gate j)) * to_row ((world_of m).memory (Side j)) r ≡ 0
side_none m r j e = rw (hidden (nat_lt j m.bounds.rows), null_row 0 r refl) (omega arith)
  where
    hidden : (t : Bool) → cond (t && nat_lt 1 m.bounds.links) (word_in m (Side j)) 0 ≡ 0
    hidden true = rw e
    hidden false = refl

-- the first two numbers
two_terms : (n : ℕ) (f : ℕ → ℕ) → 1 ≤ n → n ≤ 2 → (t : Bool) → nat_lt 1 n ≡ t → sum_below n f ≡ f 0 + cond t (f 1) 0
two_terms zero f h k t e = absurd (omega arith)
two_terms (suc zero) f h k true e = absurd (omega (arith, ltb-true 1 1 e))
two_terms (suc zero) f h k false e = omega arith
two_terms (suc (suc zero)) f h k true e = omega arith
two_terms (suc (suc zero)) f h k false e = absurd (false≢true (sym e))
two_terms (suc (suc (suc n))) f h k t e = absurd (omega arith)

row_shown : (m : Machine) (r j : ℕ) → IsShape m.bounds → j < m.bounds.rows → out ((world_of m).memory (Gate j)) * to_row ((world_of m).memory (Next j)) r
    + out ((world_of m).memory (Gate j)) * to_row ((world_of m).memory (Side j)) r ≡ linked_from m r j
row_shown m r j shape h = cases (nat_lt 1 m.bounds.links) refl
  where
    cases : (t : Bool) → nat_lt 1 m.bounds.links ≡ t → out ((world_of m).memory (Gate j)) * to_row ((world_of m).memory (Next j)) r
        + out ((world_of m).memory (Gate j)) * to_row ((world_of m).memory (Side j)) r ≡ linked_from m r j
    cases true e =
        let a = next_shown m r j h in let b = side_shown m r j h (ltb-true 1 m.bounds.links e) in
        let c = two_terms m.bounds.links (λ n. bit (is_out m j && links_to (word_in m (link_at n j)) r)) shape.links.0 shape.links.1 true e in omega arith
    cases false e =
        let a = next_shown m r j h in let b = side_none m r j e in
        let c = two_terms m.bounds.links (λ n. bit (is_out m j && links_to (word_in m (link_at n j)) r)) shape.links.0 shape.links.1 false e in omega arith

pub linked_shown : (m : Machine) (r : ℕ) → IsShape m.bounds → linked_in m.bounds (world_of m).memory r ≡ linked m r
linked_shown m r shape =
    let i = sum_same m.bounds.roots (λ j. to_row ((world_of m).memory (Root j)) r) (λ j. bit (links_to (word_in m (Root j)) r))
    (λ j h. rw (word_shown m (Root j) h)) in
    let n = sum_add m.bounds.rows (λ j. out ((world_of m).memory (Gate j)) * to_row ((world_of m).memory (Next j)) r)
    (λ j. out ((world_of m).memory (Gate j)) * to_row ((world_of m).memory (Side j)) r) in
    let e = sum_same m.bounds.rows (λ j. out ((world_of m).memory (Gate j)) * to_row ((world_of m).memory (Next j)) r
    + out ((world_of m).memory (Gate j)) * to_row ((world_of m).memory (Side j)) r) (linked_from m r)
    (λ j h. row_shown m r j shape h) in
    omega arith

-- a counter in balance, as an integer
pub count_is : (c i l d : ℕ) → c + i ≡ 4194304 + l + d → pos c -ℤ pos 4194304 ≡ (pos l -ℤ pos i) +ℤ pos d
count_is c i l d e = omega (arith, ints)

count_shown : (m : Machine) (r : ℕ) → IsShape m.bounds → r < m.bounds.rows → Balanced m.bounds (world_of m) r
    → (counter_of (word_in m (Counter r))).count ≡ (pos (linked m r) -ℤ pos (increments m r)) +ℤ pos (decrements m r)
count_shown m r shape h e =
    count_is (count_bits (word_in m (Counter r))) (increments m r) (linked m r) (decrements m r) (rw (word_shown m (Counter r) h, linked_shown m r shape) at e)

pub balance_shown : (m : Machine) → IsShape m.bounds → Counted m.bounds (world_of m) → Balance m
balance_shown m shape s = record {
  count = λ r h. count_shown m r shape h (s.balance r h);
  held = λ a r l h. ⊎_elim (λ i. s.inc_held a r i) (λ d. s.due_held a r d) (either _ _ h);
  out = λ a r l h. out_shown m r
      (s.used_out a r
      (⊎_elim (λ i. ⊎_elim (λ j. inc_uses (record_at m a) r j) (λ j. dec_uses (record_at m a) r j) (either _ _ i)) (λ d. due_uses (record_at m a) r d)
      (either _ _ h)));
}

handed_shown : (m : Machine) (r : ℕ)
    → handed_in m.bounds (world_of m).memory r ≡ sum_below m.bounds.agents (λ a. count_below 8 (λ k. word_in m (Handover a k) == r + 1))
handed_shown m r =
    sum_same m.bounds.agents (λ a. sum_below 8 (λ k. hands_row ((world_of m).memory (Handover a k)) r))
    (λ a. count_below 8 (λ k. word_in m (Handover a k) == r + 1))
    (λ a h. sum_same 8 (λ k. hands_row ((world_of m).memory (Handover a k)) r) (λ k. bit (word_in m (Handover a k) == r + 1))
    (λ k l. rw (word_shown m (Handover a k) (h, l))))

pub low_bit : (w : ℕ) → w % 2 ≡ bit (w % 2 == 1)
low_bit w = grind arith

pub token_shown : (m : Machine) → Counted m.bounds (world_of m) → RetirementToken m
token_shown m s = record {
  one = λ r h. let e = rw (word_shown m (Counter r) h, handed_shown m r) at (s.token r h) in sym e ∙ low_bit (word_in m (Counter r) / 8388608);
  part = λ a h. s.one_part a;
}

pub enrolment_shown : (m : Machine) → Counted m.bounds (world_of m) → Enrolment m
enrolment_shown m s = record { most = s.enrolment.most; enrolled = s.enrolment.enrolled; others = s.enrolment.empty }

pub slots_shown : (m : Machine) → Counted m.bounds (world_of m) → SlotsAreRecords m
slots_shown m s = record {
  words = λ a k h l. sym (word_shown m (Slot a k) (h, l)) ∙ (s.slots a).words k;
  first = λ a h. (s.slots a).first;
  held = λ a r h k. out_shown m r (s.used_out a r (held_uses (record_at m a) r k));
}

named_link : (w r : ℕ) → links_to w r ≡ true → to_row w r ≡ 1
named_link w r h = ap bit h

unnamed_link : (w r : ℕ) → to_row w r ≡ 0 → links_to w r ≡ false
unnamed_link w r h = not_true (links_to w r) (λ k. zero_one h (ap bit k))

pub targets_shown : (m : Machine) → Counted m.bounds (world_of m) → Targets m
targets_shown m s = record {
  roots = λ i r h k. out_shown m r (s.roots_out i r (rw (word_shown m (Root i) h) (named_link _ r k)));
  links = λ n j r l h k. out_shown m r (s.links_out n j r (out_hidden m j h) (rw (link_shown m n j l h.0) (named_link _ r k)));
}

bit_clear : (w : ℕ) → w % 2 ≡ 0 → (w % 2 == 1) ≡ false
bit_clear w h = rw h

pub fresh_shown : (m : Machine) → Counted m.bounds (world_of m) → FreshRows m
fresh_shown m s = record {
  out = λ a r h k. is_out_row a r k;
  clear = λ a r h k. bit_clear _ (rw (word_shown m (Counter r) (is_out_row a r k).0) at (s.fresh_bit a r k));
  alone = λ a x r h g n k. s.fresh_alone a x r k n;
  roots = λ a i r h g k. unnamed_link _ r (rw (word_shown m (Root i) g) at (s.fresh_root a i r k));
  links = λ a i j r h l g n k. unnamed_link _ r (rw (link_shown m i j l g) at (s.fresh_links a i j r k n));
}
  where
    is_out_row : (a r : ℕ) → names (record_at m a).fresh r ≡ true → IsOut m r
    is_out_row a r k = out_shown m r (s.used_out a r (fresh_uses (record_at m a) r k))

pub none_below : (n : ℕ) (p : ℕ → Bool) → ((i : ℕ) → i < n → p i ≡ false) → some_below n p ≡ false
none_below zero p h = refl
none_below (suc n) p h = rw (none_below n p (λ i l. h i (omega arith)), h n (omega arith))

pub below_none : (n i : ℕ) (p : ℕ → Bool) → some_below n p ≡ false → i < n → p i ≡ false
below_none zero i p h l = absurd (omega arith)
below_none (suc n) i p h l = last n i p l (some_below n p) (p n) refl refl h (below_none n i p)
  where
    last : (n i : ℕ) (p : ℕ → Bool) → i < suc n → (s t : Bool) → some_below n p ≡ s → p n ≡ t → (s || t) ≡ false
        → (some_below n p ≡ false → i < n → p i ≡ false) → p i ≡ false
    last n i p l false false e f h before = cases (i == n) refl
      where
        cases : (u : Bool) → (i == n) ≡ u → p i ≡ false
        cases true g = rw (eqb-true i n g) f
        cases false g = let k : i ≢ n = eqb-false i n g in before e (omega arith)
    last n i p l true t e f h before = absurd (false≢true (sym h))
    last n i p l false true e f h before = absurd (false≢true (sym h))

pub some_here : (n i : ℕ) (p : ℕ → Bool) → i < n → p i ≡ true → some_below n p ≡ true
some_here n i p l h = cases (some_below n p) refl
  where
    cases : (t : Bool) → some_below n p ≡ t → some_below n p ≡ true
    cases true e = e
    cases false e = absurd (both_ways (p i) h (below_none n i p e l))

pub count_zero : (w : ℕ) → count_bits w ≡ 4194304 → pos (count_bits w) -ℤ pos 4194304 ≡ pos 0
count_zero w h = rw h refl

-- a row that nothing links or uses, whose count is 0, can't be reached
unreachable : (m : Machine) (r : ℕ) → IsShape m.bounds → r < m.bounds.rows → linked_in m.bounds (world_of m).memory r ≡ 0
    → count_bits ((world_of m).memory (Counter r)) ≡ 4194304 → ((a : ℕ) → uses (record_at m a) r ≡ false) → IsUnreachable m r
unreachable m r shape l n c u = record {
  linked = sym (linked_shown m r shape) ∙ n;
  held = none_below m.bounds.agents (λ a. holds_row m a r)
      (λ a h. not_true (holds_row m a r) (λ k. both_ways (uses (record_at m a) r) (held_uses (record_at m a) r k) (u a)));
  changes = none_below m.bounds.agents (λ a. changes (record_at m a) r)
      (λ a h. not_true (changes (record_at m a) r) (λ k. both_ways (uses (record_at m a) r) (changes_use (record_at m a) r k) (u a)));
  count = count_zero (word_in m (Counter r)) (rw (word_shown m (Counter r) l) at c);
}
  where
    changes_use : (d : Agent) (r : ℕ) → changes d r ≡ true → uses d r ≡ true
    changes_use d r h = grind arith

pub doomed_shown : (m : Machine) → IsShape m.bounds → Counted m.bounds (world_of m) → Doomed m.bounds (world_of m) → DoomedRows m
doomed_shown m shape s d = record {
  out = λ a r h k. out_shown m r (d.gone a r k).is_out;
  unreachable = λ a r h k. let g = d.gone a r k in
      unreachable m r shape (out_below m.bounds (world_of m) r s g.is_out) g.unlinked (gone_count m.bounds (world_of m) r s g) g.unused;
  alone = λ a x r h g k l. d.alone a x r k l;
  null = λ a r n h l k. let g = d.gone a r (past_dooms (record_at m a).doom r n k) in
      rw (link_shown m n r l (out_below m.bounds (world_of m) r s g.is_out)) at (d.null a r n k);
  bare = λ a r h k. let g = d.gone a r (bare_dooms (record_at m a).doom r k) in
      (d.cut a r k, bit_clear _ (rw (word_shown m (Counter r) (out_below m.bounds (world_of m) r s g.is_out)) at (d.clear a r k)));
}

-- a bit that is not set is 0
unset : (w : ℕ) → (w % 2 == 1) ≡ false → w % 2 ≡ 0
unset w h = let n : w % 2 ≢ 1 = eqb-false (w % 2) 1 h in omega arith

-- a free row isn't linked or used
pub free_gone : (m : Machine) (r : ℕ) → IsShape m.bounds → Counted m.bounds (world_of m) → r < m.bounds.rows → out ((world_of m).memory (Gate r)) ≡ 0 → IsUnreachable m r
free_gone m r shape s l f = unreachable m r shape l unlinked (count_zero_of unlinked) unused
  where
    unused : (a : ℕ) → uses (record_at m a) r ≡ false
    unused a = not_true (uses (record_at m a) r) (λ u. zero_one f (s.used_out a r u))

    root_none : (i : ℕ) → to_row ((world_of m).memory (Root i)) r ≡ 0
    root_none i = not_one _ (λ k. zero_one f (s.roots_out i r k))

    link_none : (n j : ℕ) → out ((world_of m).memory (Gate j)) * to_row ((world_of m).memory (link_at n j)) r ≡ 0
    link_none n j = rw (not_one _ (λ k. free_unnamed m.bounds (world_of m) n j r s f k)) (omega arith)

    unlinked : linked_in m.bounds (world_of m).memory r ≡ 0
    unlinked = let i = sum_zero m.bounds.roots (λ i. to_row ((world_of m).memory (Root i)) r) root_none in
        let j = sum_zero m.bounds.rows (λ j. out ((world_of m).memory (Gate j)) * to_row ((world_of m).memory (Next j)) r) (link_none 0) in
        let k = sum_zero m.bounds.rows (λ j. out ((world_of m).memory (Gate j)) * to_row ((world_of m).memory (Side j)) r) (link_none 1) in omega arith

    count_zero_of : linked_in m.bounds (world_of m).memory r ≡ 0 → count_bits ((world_of m).memory (Counter r)) ≡ 4194304
    count_zero_of n = let e = s.balance r l in let i = no_incs m.bounds (world_of m) r unused in let d = no_decs m.bounds (world_of m) r unused in omega arith

pub free_shown : (m : Machine) → IsShape m.bounds → Counted m.bounds (world_of m) → Doomed m.bounds (world_of m) → FreeRows m
free_shown m shape s d = record {
  unreachable = λ r h k. free_gone m r shape s h (hidden r h k);
  clear = λ r h k. not_true (is_retired m r)
      (λ t. both_ways (is_out m r) (out_shown m r (s.bit_out r (rw (word_shown m (Counter r) h) (eqb-true (retired_bit (word_in m (Counter r))) 1 t)))).1 k);
  null = λ r n h l k. rw (link_shown m n r l h) at (s.free_null n r (hidden r h k));
  undoomed = λ a r h l k. not_true (dooms (record_at m a).doom r) (λ t. zero_one (hidden r l k) (d.gone a r t).is_out);
}
  where
    hidden : (r : ℕ) → r < m.bounds.rows → is_out m r ≡ false → out ((world_of m).memory (Gate r)) ≡ 0
    hidden r h k = rw (word_shown m (Gate r) h) (unset (word_in m (Gate r)) k)

reason_bits : (d : Agent) (w r : ℕ) → keeps_out d r (sequence_of w) ≡ false → reasons d w r ≡ 0
reason_bits d w r h = four (names d.fresh r) (names d.inc r) (is_due d.due r (sequence_of w)) (doom_bare d.doom r) h
  where
    four : (a b c e : Bool) → (a || b || c || e) ≡ false → bit a + bit b + bit c + bit e ≡ 0
    four false false false false h = refl
    four true b c e h = absurd (false≢true (sym h))
    four false true c e h = absurd (false≢true (sym h))
    four false false true e h = absurd (false≢true (sym h))
    four false false false true h = absurd (false≢true (sym h))

pub leak_shown : (m : Machine) → ((r : ℕ) → r < m.bounds.rows → HasReason m.bounds (world_of m) r) → NoLeak m
leak_shown m h r o =
    cases (not (count_bits (word_in m (Counter r)) == 4194304)) (is_retired m r)
    (some_below m.bounds.agents (λ a. keeps_out (record_at m a) r (sequence_of (word_in m (Counter r))))) refl refl refl
  where
    cases : (t u v : Bool) → not (count_bits (word_in m (Counter r)) == 4194304) ≡ t → is_retired m r ≡ u
        → some_below m.bounds.agents (λ a. keeps_out (record_at m a) r (sequence_of (word_in m (Counter r)))) ≡ v → (t || u || v) ≡ true
    cases true u v e f g = refl
    cases false true v e f g = refl
    cases false false true e f g = refl
    cases false false false e f g =
        let c = ap bit e in
        let i = unset (word_in m (Counter r) / 8388608) f in
        let z = sum_same m.bounds.agents (λ a. reasons (record_at m a) (word_in m (Counter r)) r) (λ a. 0)
        (λ a l. reason_bits (record_at m a) (word_in m (Counter r)) r
        (below_none m.bounds.agents a (λ x. keeps_out (record_at m x) r (sequence_of (word_in m (Counter r)))) g l)) in
        let y = sum_zero m.bounds.agents (λ a. 0) (λ a. refl) in
        let k = out_hidden m r o in
        let n = rw (word_shown m (Counter r) o.0) at (h r o.0) in
        absurd (omega arith)

pub quiet_shown : (m : Machine) → IsShape m.bounds → Counted m.bounds (world_of m) → ((a : ℕ) → ScanFits m.bounds (world_of m) (record_at m a).scan) → QuietScans m
quiet_shown m shape s f a r k h i j o e =
    let l = (f a).row r i in
    let q = rw (← word_shown m (Counter r) l) at e in
    ⊎_elim
    (λ p. inl (anew p))
    (λ n. inr (left n l ((f a).count r i q ∙ empty_kept (record_at m a).scan o)))
    ((f a).quiet r k i o j q)
  where
    late : (x y : ℕ) → x ≤ y → nat_le x y ≡ true
    late x y h = grind arith

    anew : Pinned m.bounds (world_of m) r k → is_linked_anew m r k ≡ true
    anew p =
        some_here m.bounds.agents p.who (λ x. names (record_at m x).inc r && holds_from m r k x) p.agent
        (rw (
          p.inc,
          some_here 8 p.slot (λ y. holds (slot_of (record_at m p.who) y) r && nat_le k (8 * p.who + y))
              (hold_word m.bounds (world_of m) p.who p.slot r s p.hold).0 (rw (p.hold, late k (8 * p.who + p.slot) p.late)),
        ))

    left : Loose m.bounds (world_of m) r k → r < m.bounds.rows → count_bits ((world_of m).memory (Counter r)) ≡ 4194304 → IsLeft m r k
    left n l c = record {
      linked = let b = s.balance r l in let i = n.no_inc in let e = linked_shown m r shape in omega arith;
      increments = n.no_inc;
      decrements = let b = s.balance r l in let i = n.no_inc in omega arith;
      holds = λ x y g w t. n.late x y g t;
    }

pub scans_shown : (m : Machine) → ((a : ℕ) → ScanFits m.bounds (world_of m) (record_at m a).scan) → Scans m
scans_shown m f = record {
  row = λ a r h k. (f a).row r k;
  set = λ a r h k. (f a).set r k;
  behind = λ a r h k. rw (word_shown m (Counter r) ((f a).row r k)) at ((f a).older r k);
  count = λ a r h k e. rw (word_shown m (Counter r) ((f a).row r k)) at ((f a).count r k (rw (word_shown m (Counter r) ((f a).row r k)) e));
  found = λ a h k. (f a).empty k;
  place = λ a k h i j. (f a).place k i j;
}

pub looks_shown : (m : Machine) → LivesFit m.bounds (world_of m) → LooksAreKnown m
looks_shown m s a r h l i j e = rw (word_shown m (Counter r) l) at (s.checked a r i j (rw (word_shown m (Gate r) l) e))

pub low_count : (w : ℕ) → (negsuc 4194303 ≤ℤ (counter_of w).count) × ((counter_of w).count ≤ℤ pos 4194303)
low_count w = (omega (arith, ints), omega (arith, ints))

pub ranges_shown : (m : Machine) → IsShape m.bounds → ((q : ℕ) → sequence_of ((world_of m).memory (Counter q)) < 2 ^ 39 + 2 ^ 19)
    → LivesFit m.bounds (world_of m) → Ranges m
ranges_shown m shape lo s = record {
  sequence = λ r h. rw (word_shown m (Counter r) h) at (lo r);
  life = λ r h. let k = rw (word_shown m (Gate r) h) at (s.within r) in let l = shape.limit.1 in omega arith;
  count = λ r h. low_count (word_in m (Counter r));
}

pub sound_shown : (m : Machine) → IsShape m.bounds → AllFits m.bounds (world_of m) → IsSound m
sound_shown m shape s = record {
  balance = balance_shown m shape s.counted;
  token = token_shown m s.counted;
  quiet = quiet_shown m shape s.counted s.scans;
  doomed = doomed_shown m shape s.counted s.doomed;
  free = free_shown m shape s.counted s.doomed;
  no_leak = leak_shown m s.reason;
  enrolment = enrolment_shown m s.counted;
  slots = slots_shown m s.counted;
  targets = targets_shown m s.counted;
  fresh = fresh_shown m s.counted;
  scans = scans_shown m s.scans;
  looks = looks_shown m s.lives;
  ranges = ranges_shown m shape (low_sequences m.bounds (world_of m) shape s) s.lives;
}
