-- A sound state passes the tests.
use Rattle.std.proofs.Common.{Bool, arith, cond, false, refl, sym, true, ℕ, ⊎_elim, ◌*◌, ◌+◌, ◌/◌, ◌<◌, ◌∙◌, ◌≡◌, ◌≤◌}
use Rattle.std.proofs.lemmas.Bool.{eq-eqb, eqb-false, eqb-true, lt-ltb, ltb-true}
use Rattle.std.specs.Prelude.{None, Option, Some, is_some, nat_le, nat_lt, not, ◌&&◌, ◌==◌, ◌||◌}
use Rattle.orc_words.specs.Packed.{bit, count_bits, retired_bit, sequence_of}
use Rattle.orc_words.specs.declared.place.Word.TheVariants.{Counter, Enrolled, Gate, Root, Slot}
use Rattle.orc_core.proofs.Within.{and_both}
use Rattle.orc_core.specs.Counts.{is_out, is_retired, links_to}
use Rattle.orc_core.specs.Machine.{Machine, nobody, record_at, word_in}
use Rattle.orc_core.specs.RecordParts.{any_holds, holds, is_published, names, number_of, saw, slot_of}
use Rattle.orc_core.specs.Sums.{some_below}
use Rattle.orc_core.specs.declared.records.Agent.{Agent}
use Rattle.orc_core.specs.declared.records.Doom.{Doom}
use Rattle.orc_core.specs.declared.records.Scan.{Scan}
use Rattle.orc_sound.proofs.Decided.{all_hold, count_back, held_name, is_not, is_out_in, is_target_in, is_unreachable, passes_all, seen_row}
use Rattle.orc_sound.proofs.DecidedSound.{DoomShows, ScanShows}
use Rattle.orc_sound.proofs.Seats.{not_true}
use Rattle.orc_sound.proofs.Shown.{none_below}
use Rattle.orc_sound.proofs.Sources.{any_holds_at}
use Rattle.orc_sound.specs.Balance.{Balance, decrements, increments}
use Rattle.orc_sound.specs.Decisions.{agent_fits, all_below, all_fit, count_fits, doom_fits, enrolment_fits, free_fits, fresh_fits, is_nobody, left_in, looks_fit, named_passes, one_part_in, out_in, pending_fits, range_fits, row_fits, row_held, row_seen, same_fits, scan_fits, slot_fits, slots_fit, target_fits, token_fits, unreachable_in, cuts_fit, links_fit, names_none, null_links}
use Rattle.orc_sound.specs.Doomed.{FreeRows, dooms}
use Rattle.orc_sound.specs.Linked.{changes, linked, uses}
use Rattle.orc_sound.specs.NoLeak.{has_reason}
use Rattle.orc_sound.specs.SoundParts.{Enrolment, FreshRows, LooksAreKnown, SlotsAreRecords, slot_word}
use Rattle.orc_sound.specs.QuietScan.{IsLeft, is_linked_anew}
use Rattle.orc_sound.specs.RetirementToken.{tokens}
use Rattle.orc_sound.specs.Sound.{IsSound}
use Rattle.orc_words.specs.Places.{link_at}

le_in : (x y : ℕ) → x ≤ y → nat_le x y ≡ true
le_in x y h = grind arith

and_in : (a b : Bool) → a ≡ true → b ≡ true → (a && b) ≡ true
and_in a b h k = rw (h, k)

four_in : (a b c d : Bool) → a ≡ true → b ≡ true → c ≡ true → d ≡ true → (a && b && c && d) ≡ true
four_in a b c d h i j k = rw (h, i, j, k)

-- a test that is only asked for where another passes
given : (a b : Bool) → (a ≡ true → b ≡ true) → (not a || b) ≡ true
given true b h = h refl
given false b h = refl

-- a test that is only asked for where another fails
unless_in : (a b : Bool) → (a ≡ false → b ≡ false) → (a || not b) ≡ true
unless_in true b h = refl
unless_in false b h = is_not b (h refl)

else_in : (a b : Bool) → (a ≡ false → b ≡ true) → (a || b) ≡ true
else_in true b h = refl
else_in false b h = h refl

unreachable_free : (m : Machine) (r : ℕ) → FreeRows m → r < m.bounds.rows → is_out m r ≡ false → free_fits m r ≡ true
unreachable_free m r f h k =
    four_in (unreachable_in m r) (not (is_retired m r)) (null_links m r) (not (some_below m.bounds.agents (λ a. dooms (record_at m a).doom r)))
    (is_unreachable m r (f.unreachable r h k)) (is_not (is_retired m r) (f.clear r h k)) (all_hold m.bounds.links (λ n. word_in m (link_at n r) == 0) (λ n l. eq-eqb (word_in m (link_at n r)) 0 (f.null r n h l k)))
    (is_not (some_below m.bounds.agents (λ a. dooms (record_at m a).doom r))
    (none_below m.bounds.agents (λ a. dooms (record_at m a).doom r) (λ a l. f.undoomed a r l h k)))

row_in : (m : Machine) (r : ℕ) → IsSound m → r < m.bounds.rows → row_fits m r ≡ true
row_in m r s h =
    four_in (count_fits m r) (token_fits m r) (range_fits m r) (cond (is_out m r) (links_fit m r && has_reason m r) (free_fits m r))
    (eq-eqb (count_bits (word_in m (Counter r)) + increments m r) (4194304 + linked m r + decrements m r)
    (count_back (count_bits (word_in m (Counter r))) (increments m r) (linked m r) (decrements m r) (s.balance.count r h)))
    (eq-eqb (tokens m r) (bit (is_retired m r)) (s.token.one r h))
    (and_in (nat_lt (sequence_of (word_in m (Counter r))) 549756338176) (nat_le (word_in m (Gate r) / 2) 549755813888)
    (lt-ltb (sequence_of (word_in m (Counter r))) 549756338176 (s.ranges.sequence r h)) (le_in (word_in m (Gate r) / 2) 549755813888 (s.ranges.life r h)))
    (rest (is_out m r) refl)
  where
    rest : (t : Bool) → is_out m r ≡ t → cond t (links_fit m r && has_reason m r) (free_fits m r) ≡ true
    rest true e =
        and_in (links_fit m r) (has_reason m r)
        (all_hold m.bounds.links (λ n. target_fits m (word_in m (link_at n r)))
        (λ n l. is_target_in m (word_in m (link_at n r)) (λ q k. s.targets.links n r q l (h, e) k)))
        (s.no_leak r (h, e))
    rest false e = unreachable_free m r s.free h e

pending_in : (m : Machine) (a : ℕ) → Balance m → a < m.bounds.agents → pending_fits m (record_at m a) ≡ true
pending_in m a s l =
    let d = record_at m a in
    and_in (named_passes d.inc (λ r. any_holds d.slots r && out_in m r) && named_passes d.dec (out_in m))
    (named_passes (row_seen d.due) (λ r. any_holds d.slots r && out_in m r))
    (and_in (named_passes d.inc (λ r. any_holds d.slots r && out_in m r)) (named_passes d.dec (out_in m))
    (passes_all d.inc (λ r. any_holds d.slots r && out_in m r)
    (λ r h. and_in (any_holds d.slots r) (out_in m r) (s.held a r l (rw h)) (is_out_in m r (s.out a r l (inc_changes d r h)))))
    (passes_all d.dec (out_in m) (λ r h. is_out_in m r (s.out a r l (dec_changes d r h)))))
    (passes_all (row_seen d.due) (λ r. any_holds d.slots r && out_in m r)
    (λ r h. and_in (any_holds d.slots r) (out_in m r) (s.held a r l (or_due (names d.inc r) (saw d.due r) (sym (seen_row d.due r) ∙ h)))
    (is_out_in m r (s.out a r l (or_due (names d.inc r || names d.dec r) (saw d.due r) (sym (seen_row d.due r) ∙ h))))))
  where
    inc_changes : (d : Agent) (r : ℕ) → names d.inc r ≡ true → changes d r ≡ true
    inc_changes d r h = rw h

    dec_changes : (d : Agent) (r : ℕ) → names d.dec r ≡ true → changes d r ≡ true
    dec_changes d r h = grind arith

    or_due : (x y : Bool) → y ≡ true → (x || y) ≡ true
    or_due true y h = refl
    or_due false y h = h

left_test : (m : Machine) (r k : ℕ) → IsLeft m r k → left_in m r k ≡ true
left_test m r k h =
    four_in (linked m r == 0) (increments m r == 0) (decrements m r == 0)
    (all_below m.bounds.agents (λ a. all_below 8 (λ j. not (holds (slot_of (record_at m a) j) r) || nat_le k (8 * a + j))))
    (eq-eqb (linked m r) 0 h.linked) (eq-eqb (increments m r) 0 h.increments) (eq-eqb (decrements m r) 0 h.decrements)
    (all_hold m.bounds.agents (λ a. all_below 8 (λ j. not (holds (slot_of (record_at m a) j) r) || nat_le k (8 * a + j)))
    (λ a l. all_hold 8 (λ j. not (holds (slot_of (record_at m a) j) r) || nat_le k (8 * a + j))
    (λ j i. given (holds (slot_of (record_at m a) j) r) (nat_le k (8 * a + j)) (λ e. le_in k (8 * a + j) (h.holds a j l i e)))))

scan_in : (m : Machine) (o : Option Scan) → ScanShows m o → scan_fits m o ≡ true
scan_in m None s = refl
scan_in m (Some o) s =
    four_in (nat_lt o.row m.bounds.rows && (retired_bit o.word == 1)) (nat_le (sequence_of o.word) (sequence_of (word_in m (Counter o.row))))
    (not (sequence_of (word_in m (Counter o.row)) == sequence_of o.word) || same_fits m o)
    (not o.found || ((count_bits o.word == 4194304) && nat_lt o.place (8 * m.bounds.agents)))
    (and_in (nat_lt o.row m.bounds.rows) (retired_bit o.word == 1) (lt-ltb o.row m.bounds.rows (s.row o.row mine))
    (eq-eqb (retired_bit o.word) 1 (s.set o.row mine)))
    (le_in (sequence_of o.word) (sequence_of (word_in m (Counter o.row))) (s.behind o.row mine))
    (given (sequence_of (word_in m (Counter o.row)) == sequence_of o.word) (same_fits m o)
    (λ e. same (eqb-true (sequence_of (word_in m (Counter o.row))) (sequence_of o.word) e)))
    (given o.found ((count_bits o.word == 4194304) && nat_lt o.place (8 * m.bounds.agents))
    (λ f. and_in (count_bits o.word == 4194304) (nat_lt o.place (8 * m.bounds.agents)) (s.found f)
    (lt-ltb o.place (8 * m.bounds.agents) (s.place o.place f (eq-eqb o.place o.place refl)))))
  where
    mine : (o.row == o.row) ≡ true
    mine = eq-eqb o.row o.row refl

    same : sequence_of (word_in m (Counter o.row)) ≡ sequence_of o.word → same_fits m o ≡ true
    same e =
        and_in (count_bits (word_in m (Counter o.row)) == count_bits o.word)
        (not (count_bits o.word == 4194304) || is_linked_anew m o.row o.place || left_in m o.row o.place)
        (eq-eqb (count_bits (word_in m (Counter o.row))) (count_bits o.word) (s.count o.row mine e))
        (quiet_test (count_bits o.word == 4194304) refl)
      where
        or_left : (x y : Bool) → x ≡ true → (x || y) ≡ true
        or_left x y h = rw h

        or_right : (x y : Bool) → y ≡ true → (x || y) ≡ true
        or_right true y h = refl
        or_right false y h = h

        quiet_test : (t : Bool) → (count_bits o.word == 4194304) ≡ t → (not t || is_linked_anew m o.row o.place || left_in m o.row o.place) ≡ true
        quiet_test false f = refl
        quiet_test true f =
            ⊎_elim (λ n. or_left (is_linked_anew m o.row o.place) (left_in m o.row o.place) n)
            (λ n. or_right (is_linked_anew m o.row o.place) (left_in m o.row o.place) (left_test m o.row o.place n))
            (s.quiet o.row o.place mine (eq-eqb o.place o.place refl) f e)

doom_in : (m : Machine) (a : ℕ) (o : Option Doom) → DoomShows m a o → doom_fits m a o ≡ true
doom_in m a None s = refl
doom_in m a (Some d) s =
    four_in (out_in m d.row && unreachable_in m d.row) (all_below m.bounds.agents (λ x. (x == a) || not (dooms (record_at m x).doom d.row)))
    (cuts_fit m d) (not d.bare || ((d.cuts == m.bounds.links) && not (is_retired m d.row)))
    (and_in (out_in m d.row) (unreachable_in m d.row) (is_out_in m d.row (s.out d.row mine)) (is_unreachable m d.row (s.unreachable d.row mine)))
    (all_hold m.bounds.agents (λ x. (x == a) || not (dooms (record_at m x).doom d.row))
    (λ x l. unless_in (x == a) (dooms (record_at m x).doom d.row)
    (λ e. not_true (dooms (record_at m x).doom d.row) (λ k. eqb-false x a e (s.alone x d.row l mine k)))))
    (all_hold m.bounds.links (λ n. not (nat_lt n d.cuts) || (word_in m (link_at n d.row) == 0))
    (λ n l. given (nat_lt n d.cuts) (word_in m (link_at n d.row) == 0) (λ c. eq-eqb (word_in m (link_at n d.row)) 0 (s.null d.row n l (rw (mine, c))))))
    (given d.bare ((d.cuts == m.bounds.links) && not (is_retired m d.row)) (λ c. let g = s.bare d.row (rw (mine, c)) in
    and_in (d.cuts == m.bounds.links) (not (is_retired m d.row)) (and_both (d.row == d.row) (d.cuts == m.bounds.links) g.0).1 (is_not (is_retired m d.row) g.1)))
  where
    mine : (d.row == d.row) ≡ true
    mine = eq-eqb d.row d.row refl

fresh_in : (m : Machine) (a r : ℕ) → FreshRows m → a < m.bounds.agents → names (record_at m a).fresh r ≡ true → fresh_fits m a r ≡ true
fresh_in m a r s l h =
    four_in (out_in m r && not (is_retired m r)) (all_below m.bounds.agents (λ x. (x == a) || not (uses (record_at m x) r)))
    (all_below m.bounds.roots (λ i. not (links_to (word_in m (Root i)) r)))
    (all_below m.bounds.rows (λ j. (j == r) || names_none m r j))
    (and_in (out_in m r) (not (is_retired m r)) (is_out_in m r (s.out a r l h)) (is_not (is_retired m r) (s.clear a r l h)))
    (all_hold m.bounds.agents (λ x. (x == a) || not (uses (record_at m x) r))
    (λ x g. unless_in (x == a) (uses (record_at m x) r) (λ e. s.alone a x r l g (eqb-false x a e) h)))
    (all_hold m.bounds.roots (λ i. not (links_to (word_in m (Root i)) r)) (λ i g. is_not (links_to (word_in m (Root i)) r) (s.roots a i r l g h)))
    (all_hold m.bounds.rows (λ j. (j == r) || names_none m r j)
    (λ j g. else_in (j == r) (names_none m r j)
    (λ e. all_hold m.bounds.links (λ n. not (links_to (word_in m (link_at n j)) r))
    (λ n k. is_not (links_to (word_in m (link_at n j)) r) (s.links a n j r l k g (eqb-false j r e) h)))))

slots_in : (m : Machine) (a : ℕ) → SlotsAreRecords m → a < m.bounds.agents → slots_fit m a ≡ true
slots_in m a s l =
    and_in (all_below 8 (slot_fits m a)) (not (is_published (slot_of (record_at m a) 0)))
    (all_hold 8 (slot_fits m a)
    (λ k h. and_in (word_in m (Slot a k) == slot_word (slot_of (record_at m a) k))
    (named_passes (row_held (slot_of (record_at m a) k)) (out_in m))
    (eq-eqb (word_in m (Slot a k)) (slot_word (slot_of (record_at m a) k)) (s.words a k l h))
    (passes_all (row_held (slot_of (record_at m a) k)) (out_in m)
    (λ r e. is_out_in m r (s.held a r l (any_holds_at (record_at m a).slots k r (sym (held_name (slot_of (record_at m a) k) r) ∙ e)))))))
    (is_not (is_published (slot_of (record_at m a) 0)) (s.first a l))

looks_in : (m : Machine) (a : ℕ) → LooksAreKnown m → a < m.bounds.agents → looks_fit m (record_at m a) ≡ true
looks_in m a s l =
    let d = record_at m a in
    passes_all (row_seen d.looked)
    (λ r. not (nat_lt r m.bounds.rows) || not (saw d.checked r) || not (word_in m (Gate r) == 2 * number_of d.looked) ||
    (sequence_of (word_in m (Counter r)) == number_of d.checked))
    (λ r h. all_three (nat_lt r m.bounds.rows) (saw d.checked r) (word_in m (Gate r) == 2 * number_of d.looked)
    (sequence_of (word_in m (Counter r)) == number_of d.checked)
    (λ i j k. eq-eqb (sequence_of (word_in m (Counter r))) (number_of d.checked)
    (s a r l (ltb-true r m.bounds.rows i) (sym (seen_row d.looked r) ∙ h) j (eqb-true (word_in m (Gate r)) (2 * number_of d.looked) k))))
  where
    all_three : (a b c d : Bool) → (a ≡ true → b ≡ true → c ≡ true → d ≡ true) → (not a || not b || not c || d) ≡ true
    all_three true true true d h = h refl refl refl
    all_three true true false d h = refl
    all_three true false c d h = refl
    all_three false b c d h = refl

nobody_in : (d : Agent) (room : ℕ) → d ≡ nobody room → is_nobody d ≡ true
nobody_in d room e = rw e

enrolment_in : (m : Machine) (a : ℕ) → Enrolment m → enrolment_fits m a ≡ true
enrolment_in m a s = cases (nat_lt a (word_in m Enrolled)) refl
  where
    cases : (t : Bool) → nat_lt a (word_in m Enrolled) ≡ t → cond t (record_at m a).enrolled (is_nobody (record_at m a)) ≡ true
    cases true e = s.enrolled a (ltb-true a (word_in m Enrolled) e)
    cases false e = let l : word_in m Enrolled ≤ a = grind arith in nobody_in (record_at m a) m.bounds.rows (s.others a l)

agent_in : (m : Machine) (a : ℕ) → IsSound m → a < m.bounds.agents → agent_fits m a ≡ true
agent_in m a s l =
    four_in (enrolment_fits m a && slots_fit m a && pending_fits m (record_at m a) && one_part_in (record_at m a) && scan_fits m (record_at m a).scan)
    (doom_fits m a (record_at m a).doom) (named_passes (record_at m a).fresh (fresh_fits m a)) (looks_fit m (record_at m a))
    (four_in (enrolment_fits m a && slots_fit m a) (pending_fits m (record_at m a)) (one_part_in (record_at m a)) (scan_fits m (record_at m a).scan)
    (and_in (enrolment_fits m a) (slots_fit m a) (enrolment_in m a s.enrolment) (slots_in m a s.slots l))
    (pending_in m a s.balance l)
    (le_in (bit (is_some (record_at m a).hand) + bit (is_some (record_at m a).scan) + bit (is_some (record_at m a).doom)) 1 (s.token.part a l))
    (scan_in m (record_at m a).scan
    (record {
      row = λ r h. s.scans.row a r l h;
      set = λ r h. s.scans.set a r l h;
      behind = λ r h. s.scans.behind a r l h;
      count =
          λ r h e. s.scans.count a r l h e;
      found = λ h. s.scans.found a l h;
      place = λ k h i. s.scans.place a k l h i;
      quiet =
          λ r k h i j e. s.quiet a r k l h i j e;
    })))
    (doom_in m a (record_at m a).doom
    (record {
      out = λ r h. s.doomed.out a r l h;
      unreachable = λ r h. s.doomed.unreachable a r l h;
      alone =
          λ x r g h k. s.doomed.alone a x r l g h k;
      null = λ r n k h. s.doomed.null a r n l k h;
      bare = λ r h. s.doomed.bare a r l h;
    }))
    (passes_all (record_at m a).fresh (fresh_fits m a) (λ r h. fresh_in m a r s.fresh l h))
    (looks_in m a s.looks l)

pub is_sound : (m : Machine) → IsSound m → all_fit m ≡ true
is_sound m s =
    four_in (nat_le (word_in m Enrolled) m.bounds.agents) (all_below m.bounds.roots (λ i. target_fits m (word_in m (Root i))))
    (all_below m.bounds.rows (row_fits m)) (all_below m.bounds.agents (agent_fits m))
    (le_in (word_in m Enrolled) m.bounds.agents s.enrolment.most)
    (all_hold m.bounds.roots (λ i. target_fits m (word_in m (Root i))) (λ i l. is_target_in m (word_in m (Root i)) (λ r h. s.targets.roots i r l h)))
    (all_hold m.bounds.rows (row_fits m) (λ r l. row_in m r s l))
    (all_hold m.bounds.agents (agent_fits m) (λ a l. agent_in m a s l))
