-- A state that passes the tests is sound.
use Rattle.std.proofs.Common.{Bool, List, [], ap, arith, cond, false, inl, inr, length, refl, subst, suc, sym, true, zero, ℕ, ⊎_elim, ◌*◌, ◌+◌, ◌/◌, ◌<◌, ◌∙◌, ◌∷◌, ◌≡◌, ◌≢◌, ◌≤◌, ◌⊎◌}
use Rattle.std.proofs.lemmas.Bool.{eq-eqb, eqb-true, false≢true, lt-ltb, ltb-true, ne_eqb}
use Rattle.std.proofs.lemmas.List.{get_or_past}
use Rattle.std.specs.Prelude.{None, Option, Some, is_none, is_some, nat_le, nat_lt, not, replicate, slice_index_or, ◌&&◌, ◌==◌, ◌||◌}
use Rattle.orc_words.specs.Packed.{bit, count_bits, retired_bit, sequence_of}
use Rattle.orc_words.specs.declared.place.Word.TheVariants.{Counter, Enrolled, Gate, Root, Slot}
use Rattle.orc_core.proofs.Within.{and_both}
use Rattle.orc_core.specs.Counts.{is_out, is_retired, links_to}
use Rattle.orc_core.specs.Machine.{IsWhole, Machine, nobody, record_at, word_in}
use Rattle.orc_core.specs.RecordParts.{any_holds, doom_bare, holds, is_empty, is_published, kept, names, number_of, saw, scan_at, scan_empty, scan_found, scans, slot_of}
use Rattle.orc_core.specs.Sums.{some_below}
use Rattle.orc_core.specs.declared.records.Agent.{Agent}
use Rattle.orc_core.specs.declared.records.Doom.{Doom}
use Rattle.orc_core.specs.declared.records.Scan.{Scan}
use Rattle.orc_core.specs.declared.records.SlotUse.{SlotUse}
use Rattle.orc_core.specs.declared.records.SlotUse.TheVariants.{Empty, Held, Published}
use Rattle.orc_sound.proofs.CountedStep.{no_part}
use Rattle.orc_sound.proofs.Decided.{all_there, four_true, held_name, not_is, out_is, passes_at, seen_row, target_is, unreachable_is}
use Rattle.orc_sound.proofs.Quiet.{HeldAt, held_at}
use Rattle.orc_sound.proofs.Scans.{slot_within}
use Rattle.orc_sound.proofs.Seats.{both_ways, either}
use Rattle.orc_sound.proofs.Shown.{below_none, count_is, low_count}
use Rattle.orc_sound.specs.Balance.{Balance, decrements, increments}
use Rattle.orc_sound.specs.Decisions.{agent_fits, all_below, all_fit, count_fits, doom_fits, enrolment_fits, free_fits, fresh_fits, is_nobody, left_in, looks_fit, named_passes, one_part_in, out_in, pending_fits, range_fits, row_fits, row_held, row_seen, same_fits, scan_fits, slot_fits, slots_fit, target_fits, token_fits, unreachable_in, cuts_fit, links_fit, names_none, null_links}
use Rattle.orc_sound.specs.Doomed.{DoomedRows, FreeRows, cuts_past, dooms, dooms_cut}
use Rattle.orc_sound.specs.Linked.{IsOut, IsUnreachable, changes, holds_row, linked, uses}
use Rattle.orc_sound.specs.NoLeak.{has_reason}
use Rattle.orc_sound.specs.SoundParts.{Enrolment, FreshRows, LooksAreKnown, Ranges, Scans, SlotsAreRecords, slot_word}
use Rattle.orc_sound.specs.QuietScan.{IsLeft, is_linked_anew}
use Rattle.orc_sound.specs.RetirementToken.{RetirementToken, tokens}
use Rattle.orc_sound.specs.Sound.{IsSound}
use Rattle.orc_words.specs.Places.{link_at}

-- each record has eight slots
abbrev pub HasEightSlots : Machine → Type 0
HasEightSlots m = (a : ℕ) → a < m.bounds.agents → length (record_at m a).slots ≡ 8

pub record TestsPass (m : Machine) : Type 0 where
  pub enrolments : word_in m Enrolled ≤ m.bounds.agents
  pub roots : (i : ℕ) → i < m.bounds.roots → target_fits m (word_in m (Root i)) ≡ true
  pub rows : (r : ℕ) → r < m.bounds.rows → row_fits m r ≡ true
  pub agents : (a : ℕ) → a < m.bounds.agents → agent_fits m a ≡ true

le_is : (x y : ℕ) → nat_le x y ≡ true → x ≤ y
le_is x y h = grind arith

pub tests_pass : (m : Machine) → all_fit m ≡ true → TestsPass m
tests_pass m h =
    let p = four_true (nat_le (word_in m Enrolled) m.bounds.agents) (all_below m.bounds.roots (λ i. target_fits m (word_in m (Root i))))
    (all_below m.bounds.rows (row_fits m)) (all_below m.bounds.agents (agent_fits m)) h in
    record {
      enrolments = le_is (word_in m Enrolled) m.bounds.agents p.0;
      roots =
          λ i l. all_there m.bounds.roots i (λ j. target_fits m (word_in m (Root j))) p.1 l;
      rows = λ r l. all_there m.bounds.rows r (row_fits m) p.2 l;
      agents = λ a l. all_there m.bounds.agents a (agent_fits m) p.3 l;
    }

-- the tests of one row
record RowPasses (m : Machine) (r : ℕ) : Type 0 where
  count : count_fits m r ≡ true
  token : token_fits m r ≡ true
  range : range_fits m r ≡ true
  rest : cond (is_out m r) (links_fit m r && has_reason m r) (free_fits m r) ≡ true

row_passes : (m : Machine) (r : ℕ) → row_fits m r ≡ true → RowPasses m r
row_passes m r h = let p =
    four_true (count_fits m r) (token_fits m r) (range_fits m r)
    (cond (is_out m r) (links_fit m r && has_reason m r) (free_fits m r)) h in record { count = p.0; token = p.1; range = p.2; rest = p.3 }

-- the tests of one agent
record AgentPasses (m : Machine) (a : ℕ) : Type 0 where
  enrolment : enrolment_fits m a ≡ true
  slots : slots_fit m a ≡ true
  pending : pending_fits m (record_at m a) ≡ true
  part : one_part_in (record_at m a) ≡ true
  scan : scan_fits m (record_at m a).scan ≡ true
  doom : doom_fits m a (record_at m a).doom ≡ true
  fresh : named_passes (record_at m a).fresh (fresh_fits m a) ≡ true
  looks : looks_fit m (record_at m a) ≡ true

agent_passes : (m : Machine) (a : ℕ) → agent_fits m a ≡ true → AgentPasses m a
agent_passes m a h =
    let p = four_true
    (enrolment_fits m a && slots_fit m a && pending_fits m (record_at m a) && one_part_in (record_at m a) && scan_fits m (record_at m a).scan)
    (doom_fits m a (record_at m a).doom) (named_passes (record_at m a).fresh (fresh_fits m a)) (looks_fit m (record_at m a)) h in
    let q = four_true (enrolment_fits m a && slots_fit m a) (pending_fits m (record_at m a)) (one_part_in (record_at m a))
    (scan_fits m (record_at m a).scan) p.0 in
    let s = and_both (enrolment_fits m a) (slots_fit m a) q.0 in
    record { enrolment = s.0; slots = s.1; pending = q.1; part = q.2; scan = q.3; doom = p.1; fresh = p.2; looks = p.3 }

three_true : (a b c : Bool) → (a && b && c) ≡ true → (a ≡ true) × (b ≡ true) × (c ≡ true)
three_true a b c h = let p = and_both (a && b) c h in let q = and_both a b p.0 in (q.0, q.1, p.1)

held_or_due : (m : Machine) (a r : ℕ) → pending_fits m (record_at m a) ≡ true → (names (record_at m a).inc r || saw (record_at m a).due r) ≡ true
    → holds_row m a r ≡ true
held_or_due m a r f h =
    let d = record_at m a in
    let p = three_true (named_passes d.inc (λ q. any_holds d.slots q && out_in m q)) (named_passes d.dec (out_in m))
    (named_passes (row_seen d.due) (λ q. any_holds d.slots q && out_in m q)) f in
    ⊎_elim
    (λ i. (and_both (any_holds d.slots r) (out_in m r) (passes_at d.inc (λ q. any_holds d.slots q && out_in m q) r p.0 i)).0)
    (λ u. (and_both (any_holds d.slots r) (out_in m r) (passes_at (row_seen d.due) (λ q. any_holds d.slots q && out_in m q) r p.2 (seen_row d.due r ∙ u))).0)
    (either (names d.inc r) (saw d.due r) h)

changing_out : (m : Machine) (a r : ℕ) → pending_fits m (record_at m a) ≡ true → changes (record_at m a) r ≡ true → IsOut m r
changing_out m a r f h =
    let d = record_at m a in
    let p = three_true (named_passes d.inc (λ q. any_holds d.slots q && out_in m q)) (named_passes d.dec (out_in m))
    (named_passes (row_seen d.due) (λ q. any_holds d.slots q && out_in m q)) f in
    out_is m r
    (⊎_elim
    (λ k. ⊎_elim
    (λ i. (and_both (any_holds d.slots r) (out_in m r) (passes_at d.inc (λ q. any_holds d.slots q && out_in m q) r p.0 i)).1)
    (λ e. passes_at d.dec (out_in m) r p.1 e)
    (either (names d.inc r) (names d.dec r) k))
    (λ u. (and_both (any_holds d.slots r) (out_in m r) (passes_at (row_seen d.due) (λ q. any_holds d.slots q && out_in m q) r p.2 (seen_row d.due r ∙ u))).1)
    (either (names d.inc r || names d.dec r) (saw d.due r) h))

balance_is : (m : Machine) → TestsPass m → Balance m
balance_is m t = record {
  count = λ r h. count_is (count_bits (word_in m (Counter r))) (increments m r) (linked m r) (decrements m r)
      (eqb-true (count_bits (word_in m (Counter r)) + increments m r) (4194304 + linked m r + decrements m r) (row_passes m r (t.rows r h)).count);
  held = λ a r l h. held_or_due m a r (agent_passes m a (t.agents a l)).pending h;
  out = λ a r l h. changing_out m a r (agent_passes m a (t.agents a l)).pending h;
}

token_is : (m : Machine) → TestsPass m → RetirementToken m
token_is m t = record {
  one = λ r h. eqb-true (tokens m r) (bit (is_retired m r)) (row_passes m r (t.rows r h)).token;
  part = λ a h. le_is (bit (is_some (record_at m a).hand) + bit (is_some (record_at m a).scan) + bit (is_some (record_at m a).doom)) 1
      (agent_passes m a (t.agents a h)).part;
}

left_is : (m : Machine) (r k : ℕ) → left_in m r k ≡ true → IsLeft m r k
left_is m r k h =
    let p = four_true (linked m r == 0) (increments m r == 0) (decrements m r == 0)
    (all_below m.bounds.agents (λ a. all_below 8 (λ j. not (holds (slot_of (record_at m a) j) r) || nat_le k (8 * a + j)))) h in
    record {
      linked = eqb-true (linked m r) 0 p.0;
      increments = eqb-true (increments m r) 0 p.1;
      decrements = eqb-true (decrements m r) 0 p.2;
      holds = λ a j l g e. late a j e
          (all_there 8 j (λ y. not (holds (slot_of (record_at m a) y) r) || nat_le k (8 * a + y))
          (all_there m.bounds.agents a (λ x. all_below 8 (λ y. not (holds (slot_of (record_at m x) y) r) || nat_le k (8 * x + y))) p.3 l) g);
    }
  where
    late : (a j : ℕ) → holds (slot_of (record_at m a) j) r ≡ true → (not (holds (slot_of (record_at m a) j) r) || nat_le k (8 * a + j)) ≡ true → k ≤ 8 * a + j
    late a j e h = ⊎_elim (λ n. absurd (both_ways (holds (slot_of (record_at m a) j) r) e (not_is (holds (slot_of (record_at m a) j) r) n)))
        (λ n. le_is k (8 * a + j) n) (either (not (holds (slot_of (record_at m a) j) r)) (nat_le k (8 * a + j)) h)

-- the tests of one scan
record ScanPasses (m : Machine) (s : Scan) : Type 0 where
  row : s.row < m.bounds.rows
  set : retired_bit s.word ≡ 1
  behind : sequence_of s.word ≤ sequence_of (word_in m (Counter s.row))
  same : (not (sequence_of (word_in m (Counter s.row)) == sequence_of s.word) || same_fits m s) ≡ true
  found : (not s.found || ((count_bits s.word == 4194304) && nat_lt s.place (8 * m.bounds.agents))) ≡ true

scan_passes : (m : Machine) (s : Scan) → scan_fits m (Some s) ≡ true → ScanPasses m s
scan_passes m s h =
    let p = four_true (nat_lt s.row m.bounds.rows && (retired_bit s.word == 1))
    (nat_le (sequence_of s.word) (sequence_of (word_in m (Counter s.row))))
    (not (sequence_of (word_in m (Counter s.row)) == sequence_of s.word) || same_fits m s)
    (not s.found || ((count_bits s.word == 4194304) && nat_lt s.place (8 * m.bounds.agents))) h in
    let q = and_both (nat_lt s.row m.bounds.rows) (retired_bit s.word == 1) p.0 in
    record {
      row = ltb-true s.row m.bounds.rows q.0;
      set = eqb-true (retired_bit s.word) 1 q.1;
      behind =
          le_is (sequence_of s.word) (sequence_of (word_in m (Counter s.row))) p.1;
      same = p.2;
      found = p.3;
    }

same_sequence : (m : Machine) (s : Scan) → ScanPasses m s → sequence_of (word_in m (Counter s.row)) ≡ sequence_of s.word → same_fits m s ≡ true
same_sequence m s p e =
    ⊎_elim
    (λ n. absurd
    (both_ways (sequence_of (word_in m (Counter s.row)) == sequence_of s.word)
    (eq-eqb (sequence_of (word_in m (Counter s.row))) (sequence_of s.word) e) (not_is (sequence_of (word_in m (Counter s.row)) == sequence_of s.word) n)))
    (λ k. k)
    (either (not (sequence_of (word_in m (Counter s.row)) == sequence_of s.word)) (same_fits m s) p.same)

quiet_is : (m : Machine) (o : Option Scan) → scan_fits m o ≡ true → (r k : ℕ) → scans o r ≡ true → scan_at o k ≡ true → scan_empty o ≡ true
    → sequence_of (word_in m (Counter r)) ≡ sequence_of (kept o) → (is_linked_anew m r k ≡ true) ⊎ IsLeft m r k
quiet_is m None f r k h i j e = absurd (false≢true h)
quiet_is m (Some s) f r k h i j e =
    let q = eqb-true s.row r h in
    let n = eqb-true s.place k i in
    let g = (and_both (count_bits (word_in m (Counter s.row)) == count_bits s.word)
    (not (count_bits s.word == 4194304) || is_linked_anew m s.row s.place || left_in m s.row s.place) (same_sequence m s (scan_passes m s f) (rw q e))).1 in
    rw (← q, ← n)
    (⊎_elim
    (λ u. ⊎_elim (λ z. absurd (both_ways (count_bits s.word == 4194304) j (not_is (count_bits s.word == 4194304) z))) (λ z. inl z)
    (either (not (count_bits s.word == 4194304)) (is_linked_anew m s.row s.place) u))
    (λ u. inr (left_is m s.row s.place u))
    (either (not (count_bits s.word == 4194304) || is_linked_anew m s.row s.place) (left_in m s.row s.place) g))

-- what a sound state says of one scan
pub record ScanShows (m : Machine) (o : Option Scan) : Type 0 where
  pub row : (r : ℕ) → scans o r ≡ true → r < m.bounds.rows
  pub set : (r : ℕ) → scans o r ≡ true → retired_bit (kept o) ≡ 1
  pub behind : (r : ℕ) → scans o r ≡ true → sequence_of (kept o) ≤ sequence_of (word_in m (Counter r))
  pub count : (r : ℕ) → scans o r ≡ true → sequence_of (word_in m (Counter r)) ≡ sequence_of (kept o) → count_bits (word_in m (Counter r)) ≡ count_bits (kept o)
  pub found : scan_found o ≡ true → scan_empty o ≡ true
  pub place : (k : ℕ) → scan_found o ≡ true → scan_at o k ≡ true → k < 8 * m.bounds.agents
  pub quiet : (r k : ℕ) → scans o r ≡ true → scan_at o k ≡ true → scan_empty o ≡ true → sequence_of (word_in m (Counter r)) ≡ sequence_of (kept o)
      → (is_linked_anew m r k ≡ true) ⊎ IsLeft m r k

scan_shows : (m : Machine) (o : Option Scan) → scan_fits m o ≡ true → ScanShows m o
scan_shows m None f = record {
  row = λ r h. absurd (false≢true h);
  set = λ r h. absurd (false≢true h);
  behind = λ r h. absurd (false≢true h);
  count = λ r h. absurd (false≢true h);
  found = λ h. absurd (false≢true h);
  place = λ k h. absurd (false≢true h);
  quiet = quiet_is m None f;
}
scan_shows m (Some s) f = record {
  row = λ r h. rw (← eqb-true s.row r h) p.row;
  set = λ r h. p.set;
  behind = λ r h. rw (← eqb-true s.row r h) p.behind;
  count = λ r h e. rw (← eqb-true s.row r h)
      (eqb-true (count_bits (word_in m (Counter s.row))) (count_bits s.word)
      (and_both (count_bits (word_in m (Counter s.row)) == count_bits s.word)
      (not (count_bits s.word == 4194304) || is_linked_anew m s.row s.place || left_in m s.row s.place) (same_sequence m s p (rw (eqb-true s.row r h) e))).0);
  found = λ h. (found_both h).0;
  place = λ k h i. rw (← eqb-true s.place k i) (ltb-true s.place (8 * m.bounds.agents) (found_both h).1);
  quiet = quiet_is m (Some s) f;
}
  where
    p : ScanPasses m s
    p = scan_passes m s f

    found_both : s.found ≡ true → ((count_bits s.word == 4194304) ≡ true) × (nat_lt s.place (8 * m.bounds.agents) ≡ true)
    found_both h =
        ⊎_elim (λ n. absurd (both_ways s.found h (not_is s.found n)))
        (λ k. and_both (count_bits s.word == 4194304) (nat_lt s.place (8 * m.bounds.agents)) k)
        (either (not s.found) ((count_bits s.word == 4194304) && nat_lt s.place (8 * m.bounds.agents)) p.found)

-- the tests of one doom
record DoomPasses (m : Machine) (a : ℕ) (d : Doom) : Type 0 where
  out : IsOut m d.row
  unreachable : IsUnreachable m d.row
  alone : (x : ℕ) → x < m.bounds.agents → dooms (record_at m x).doom d.row ≡ true → x ≡ a
  null : (n : ℕ) → n < m.bounds.links → nat_lt n d.cuts ≡ true → word_in m (link_at n d.row) ≡ 0
  bare : d.bare ≡ true → ((d.cuts == m.bounds.links) ≡ true) × (is_retired m d.row ≡ false)

only : (a b : Bool) → (not a || b) ≡ true → a ≡ true → b ≡ true
only true b h k = h
only false b h k = absurd (false≢true k)

either_not : (a b : Bool) → (a || not b) ≡ true → b ≡ true → a ≡ true
either_not true b h k = refl
either_not false true h k = absurd (false≢true h)
either_not false false h k = absurd (false≢true k)

doom_passes : (m : Machine) (a : ℕ) (d : Doom) → doom_fits m a (Some d) ≡ true → DoomPasses m a d
doom_passes m a d h =
    let p = four_true (out_in m d.row && unreachable_in m d.row) (all_below m.bounds.agents (λ x. (x == a) || not (dooms (record_at m x).doom d.row)))
    (cuts_fit m d) (not d.bare || ((d.cuts == m.bounds.links) && not (is_retired m d.row))) h in
    let q = and_both (out_in m d.row) (unreachable_in m d.row) p.0 in
    record {
      out = out_is m d.row q.0;
      unreachable = unreachable_is m d.row q.1;
      alone = λ x l e. eqb-true x a
          (either_not (x == a) (dooms (record_at m x).doom d.row)
          (all_there m.bounds.agents x (λ y. (y == a) || not (dooms (record_at m y).doom d.row)) p.1 l) e);
      null = λ n l c. eqb-true (word_in m (link_at n d.row)) 0
          (only (nat_lt n d.cuts) (word_in m (link_at n d.row) == 0)
          (all_there m.bounds.links n (λ k. not (nat_lt k d.cuts) || (word_in m (link_at k d.row) == 0)) p.2 l) c);
      bare = λ c. let g = and_both (d.cuts == m.bounds.links) (not (is_retired m d.row))
          (only d.bare ((d.cuts == m.bounds.links) && not (is_retired m d.row)) p.3 c) in
          (g.0, not_is (is_retired m d.row) g.1);
    }

-- what a sound state says of one doom
pub record DoomShows (m : Machine) (a : ℕ) (o : Option Doom) : Type 0 where
  pub out : (r : ℕ) → dooms o r ≡ true → IsOut m r
  pub unreachable : (r : ℕ) → dooms o r ≡ true → IsUnreachable m r
  pub alone : (x r : ℕ) → x < m.bounds.agents → dooms o r ≡ true → dooms (record_at m x).doom r ≡ true → x ≡ a
  pub null : (r n : ℕ) → n < m.bounds.links → cuts_past o r n ≡ true → word_in m (link_at n r) ≡ 0
  pub bare : (r : ℕ) → doom_bare o r ≡ true → (dooms_cut m.bounds.links o r ≡ true) × (is_retired m r ≡ false)

doom_shows : (m : Machine) (a : ℕ) (o : Option Doom) → doom_fits m a o ≡ true → DoomShows m a o
doom_shows m a None f = record {
  out = λ r h. absurd (false≢true h);
  unreachable = λ r h. absurd (false≢true h);
  alone = λ x r l h. absurd (false≢true h);
  null = λ r n l h. absurd (false≢true h);
  bare = λ r h. absurd (false≢true h);
}
doom_shows m a (Some d) f = record {
  out = λ r h. rw (← eqb-true d.row r h) p.out;
  unreachable = λ r h. subst (IsUnreachable m) (eqb-true d.row r h) p.unreachable;
  alone = λ x r l h e. p.alone x l (rw (eqb-true d.row r h) e);
  null = λ r n l h. let k = and_both (d.row == r) (nat_lt n d.cuts) h in rw (← eqb-true d.row r k.0) (p.null n l k.1);
  bare = λ r h. let k = and_both (d.row == r) d.bare h in let g = p.bare k.1 in (rw (k.0, g.0), rw (← eqb-true d.row r k.0) g.1);
}
  where
    p : DoomPasses m a d
    p = doom_passes m a d f

free_part : (m : Machine) (r : ℕ) → TestsPass m → r < m.bounds.rows → is_out m r ≡ false → (unreachable_in m r ≡ true) × (not (is_retired m r) ≡ true)
    × (null_links m r ≡ true) × (not (some_below m.bounds.agents (λ a. dooms (record_at m a).doom r)) ≡ true)
free_part m r t h k =
    four_true (unreachable_in m r) (not (is_retired m r)) (null_links m r)
    (not (some_below m.bounds.agents (λ a. dooms (record_at m a).doom r))) (rw k at (row_passes m r (t.rows r h)).rest)

free_is : (m : Machine) → TestsPass m → FreeRows m
free_is m t = record {
  unreachable = λ r h k. unreachable_is m r (free_part m r t h k).0;
  clear = λ r h k. not_is (is_retired m r) (free_part m r t h k).1;
  null = λ r n h l k. eqb-true (word_in m (link_at n r)) 0 (all_there m.bounds.links n (λ i. word_in m (link_at i r) == 0) (free_part m r t h k).2 l);
  undoomed = λ a r l h k. below_none m.bounds.agents a (λ x. dooms (record_at m x).doom r)
      (not_is (some_below m.bounds.agents (λ x. dooms (record_at m x).doom r)) (free_part m r t h k).3) l;
}

out_part : (m : Machine) (r : ℕ) → TestsPass m → IsOut m r → (links_fit m r ≡ true) × (has_reason m r ≡ true)
out_part m r t h = and_both (links_fit m r) (has_reason m r) (rw h.1 at (row_passes m r (t.rows r h.0)).rest)

empties : (n : ℕ) (ss : List SlotUse) → length ss ≡ n → ((k : ℕ) → k < n → is_empty (slice_index_or ss k Empty) ≡ true) → ss ≡ replicate n Empty
empties zero [] e h = refl
empties zero (s ∷ ss) e h = absurd (omega arith)
empties (suc n) [] e h = absurd (omega arith)
empties (suc n) (s ∷ ss) e h = joined s (h 0 (omega arith)) (empties n ss (omega arith) (λ k l. h (suc k) (omega arith)))
  where
    joined : (s : SlotUse) → is_empty s ≡ true → ss ≡ replicate n Empty → s ∷ ss ≡ Empty ∷ replicate n Empty
    joined Empty h e = ap (λ x. Empty ∷ x) e
    joined (Published r) h e = absurd (false≢true h)
    joined (Held r) h e = absurd (false≢true h)

no_items : (xs : List ℕ) → (length xs == 0) ≡ true → xs ≡ []
no_items [] h = refl
no_items (x ∷ xs) h = let e = eqb-true (length (x ∷ xs)) 0 h in absurd (omega arith)

nobody_is : (d : Agent) (room : ℕ) → length d.slots ≡ 8 → d.list.room ≡ room → is_nobody d ≡ true → d ≡ nobody room
nobody_is d room e r h =
    let p = four_true
    (not d.enrolled && all_below 8 (λ k. is_empty (slot_of d k)) && is_none d.fresh && is_none d.looked && is_none d.checked && is_none d.inc &&
    is_none d.dec && is_none d.due && is_none d.hand) (is_none d.scan) (is_none d.doom) (length d.list.items == 0) h in
    let q = four_true
    (not d.enrolled && all_below 8 (λ k. is_empty (slot_of d k)) && is_none d.fresh && is_none d.looked && is_none d.checked && is_none d.inc)
    (is_none d.dec) (is_none d.due) (is_none d.hand) p.0 in
    let s = four_true (not d.enrolled && all_below 8 (λ k. is_empty (slot_of d k)) && is_none d.fresh) (is_none d.looked) (is_none d.checked)
    (is_none d.inc) q.0 in
    let t = three_true (not d.enrolled) (all_below 8 (λ k. is_empty (slot_of d k))) (is_none d.fresh) s.0 in
    whole (not_is d.enrolled t.0) (empties 8 d.slots e (λ k l. all_there 8 k (λ j. is_empty (slot_of d j)) t.1 l)) (no_part d.fresh t.2)
    (no_part d.looked s.1) (no_part d.checked s.2) (no_part d.inc s.3) (no_part d.dec q.1) (no_part d.due q.2) (no_part d.hand q.3)
    (no_part d.scan p.1) (no_part d.doom p.2) (no_items d.list.items p.3) r
  where
    whole : d.enrolled ≡ false → d.slots ≡ replicate 8 Empty → d.fresh ≡ None → d.looked ≡ None → d.checked ≡ None → d.inc ≡ None → d.dec ≡ None
        → d.due ≡ None → d.hand ≡ None → d.scan ≡ None → d.doom ≡ None → d.list.items ≡ [] → d.list.room ≡ room → d ≡ nobody room
    whole a b c f g k l n o s t u v =
        λ i. record {
          enrolled = a i;
          slots = b i;
          fresh = c i;
          looked = f i;
          checked = g i;
          inc = k i;
          dec = l i;
          due = n i;
          hand = o i;
          scan =
              s i;
          doom = t i;
          list = record { items = u i; room = v i };
        }

others_is : (m : Machine) (a : ℕ) → IsWhole m → HasEightSlots m → TestsPass m → word_in m Enrolled ≤ a → record_at m a ≡ nobody m.bounds.rows
others_is m a w e t h = cases (nat_lt a m.bounds.agents) refl
  where
    cases : (u : Bool) → nat_lt a m.bounds.agents ≡ u → record_at m a ≡ nobody m.bounds.rows
    cases true f =
        let l = ltb-true a m.bounds.agents f in
        let n : nat_lt a (word_in m Enrolled) ≡ false = grind arith in
        nobody_is (record_at m a) m.bounds.rows (e a l) (w.rooms a (rw w.agents l)) (rw n at (agent_passes m a (t.agents a l)).enrolment)
    cases false f = let l : m.bounds.agents ≤ a = grind arith in get_or_past m.agents a (nobody m.bounds.rows) (rw w.agents l)

enrolment_is : (m : Machine) → IsWhole m → HasEightSlots m → TestsPass m → Enrolment m
enrolment_is m w e t = record {
  most = t.enrolments;
  enrolled = λ a h. let k = t.enrolments in let l : a < m.bounds.agents = omega arith in
      rw (lt-ltb a (word_in m Enrolled) h) at (agent_passes m a (t.agents a l)).enrolment;
  others = λ a h. others_is m a w e t h;
}

slots_is : (m : Machine) → HasEightSlots m → TestsPass m → SlotsAreRecords m
slots_is m e t = record {
  words = λ a k l h. eqb-true (word_in m (Slot a k)) (slot_word (slot_of (record_at m a) k)) (slot_part a k l h).0;
  first = λ a l. not_is (is_published (slot_of (record_at m a) 0))
      (and_both (all_below 8 (slot_fits m a)) (not (is_published (slot_of (record_at m a) 0))) (agent_passes m a (t.agents a l)).slots).1;
  held = λ a r l h. held_slot a r l (held_at (record_at m a).slots r h);
}
  where
    slot_part : (a k : ℕ) → a < m.bounds.agents → k < 8 → ((word_in m (Slot a k) == slot_word (slot_of (record_at m a) k)) ≡ true)
        × (named_passes (row_held (slot_of (record_at m a) k)) (out_in m) ≡ true)
    slot_part a k l h =
        and_both (word_in m (Slot a k) == slot_word (slot_of (record_at m a) k)) (named_passes (row_held (slot_of (record_at m a) k)) (out_in m))
        (all_there 8 k (slot_fits m a)
        (and_both (all_below 8 (slot_fits m a)) (not (is_published (slot_of (record_at m a) 0))) (agent_passes m a (t.agents a l)).slots).0 h)

    held_slot : (a r : ℕ) → a < m.bounds.agents → HeldAt (record_at m a).slots r → IsOut m r
    held_slot a r l w =
        out_is m r (passes_at (row_held (slot_of (record_at m a) w.at)) (out_in m) r
        (slot_part a w.at l (slot_within (record_at m a).slots w.at r (e a l) w.hold)).1 (held_name (slot_of (record_at m a) w.at) r ∙ w.hold))

-- the tests of a fresh row
record FreshPasses (m : Machine) (a r : ℕ) : Type 0 where
  out : IsOut m r
  clear : is_retired m r ≡ false
  alone : (x : ℕ) → x < m.bounds.agents → x ≢ a → uses (record_at m x) r ≡ false
  roots : (i : ℕ) → i < m.bounds.roots → links_to (word_in m (Root i)) r ≡ false
  links : (n j : ℕ) → n < m.bounds.links → j < m.bounds.rows → j ≢ r → links_to (word_in m (link_at n j)) r ≡ false

else_is : (a b : Bool) → (a || b) ≡ true → a ≡ false → b ≡ true
else_is true b h k = absurd (false≢true (sym k))
else_is false b h k = h

unless : (a b : Bool) → (a || not b) ≡ true → a ≡ false → b ≡ false
unless true b h k = absurd (false≢true (sym k))
unless false true h k = absurd (false≢true h)
unless false false h k = refl

fresh_passes : (m : Machine) (a r : ℕ) → fresh_fits m a r ≡ true → FreshPasses m a r
fresh_passes m a r h =
    let p = four_true (out_in m r && not (is_retired m r)) (all_below m.bounds.agents (λ x. (x == a) || not (uses (record_at m x) r)))
    (all_below m.bounds.roots (λ i. not (links_to (word_in m (Root i)) r)))
    (all_below m.bounds.rows (λ j. (j == r) || names_none m r j)) h in
    let q = and_both (out_in m r) (not (is_retired m r)) p.0 in
    record {
      out = out_is m r q.0;
      clear = not_is (is_retired m r) q.1;
      alone = λ x l n. unless (x == a) (uses (record_at m x) r) (all_there m.bounds.agents x (λ y. (y == a) || not (uses (record_at m y) r)) p.1 l)
          (ne_eqb x a n);
      roots = λ i l. not_is (links_to (word_in m (Root i)) r) (all_there m.bounds.roots i (λ y. not (links_to (word_in m (Root y)) r)) p.2 l);
      links = λ i j k l n. not_is (links_to (word_in m (link_at i j)) r)
          (all_there m.bounds.links i (λ y. not (links_to (word_in m (link_at y j)) r))
          (else_is (j == r) (names_none m r j) (all_there m.bounds.rows j (λ y. (y == r) || names_none m r y) p.3 l) (ne_eqb j r n)) k);
    }

fresh_is : (m : Machine) → TestsPass m → FreshRows m
fresh_is m t = record {
  out = λ a r l h. (part a r l h).out;
  clear = λ a r l h. (part a r l h).clear;
  alone = λ a x r l g n h. (part a r l h).alone x g n;
  roots = λ a i r l g h. (part a r l h).roots i g;
  links = λ a i j r l k g n h. (part a r l h).links i j k g n;
}
  where
    part : (a r : ℕ) → a < m.bounds.agents → names (record_at m a).fresh r ≡ true → FreshPasses m a r
    part a r l h = fresh_passes m a r (passes_at (record_at m a).fresh (fresh_fits m a) r (agent_passes m a (t.agents a l)).fresh h)

looks_is : (m : Machine) → TestsPass m → LooksAreKnown m
looks_is m t a r l h i j e =
    let d = record_at m a in
    let p = passes_at (row_seen d.looked)
    (λ q. not (nat_lt q m.bounds.rows) || not (saw d.checked q) || not (word_in m (Gate q) == 2 * number_of d.looked) ||
    (sequence_of (word_in m (Counter q)) == number_of d.checked)) r (agent_passes m a (t.agents a l)).looks (seen_row d.looked r ∙ i) in
    eqb-true (sequence_of (word_in m (Counter r))) (number_of d.checked)
    (last (nat_lt r m.bounds.rows) (saw d.checked r) (word_in m (Gate r) == 2 * number_of d.looked)
    (sequence_of (word_in m (Counter r)) == number_of d.checked) (lt-ltb r m.bounds.rows h) j (eq-eqb (word_in m (Gate r)) (2 * number_of d.looked) e) p)
  where
    last : (a b c d : Bool) → a ≡ true → b ≡ true → c ≡ true → (not a || not b || not c || d) ≡ true → d ≡ true
    last true true true d h i j p = p
    last false b c d h i j p = absurd (false≢true h)
    last true false c d h i j p = absurd (false≢true i)
    last true true false d h i j p = absurd (false≢true j)

ranges_is : (m : Machine) → TestsPass m → Ranges m
ranges_is m t = record {
  sequence = λ r h. ltb-true (sequence_of (word_in m (Counter r))) 549756338176 (range r h).0;
  life = λ r h. le_is (word_in m (Gate r) / 2) 549755813888 (range r h).1;
  count = λ r h. low_count (word_in m (Counter r));
}
  where
    range : (r : ℕ) → r < m.bounds.rows → (nat_lt (sequence_of (word_in m (Counter r))) 549756338176 ≡ true)
        × (nat_le (word_in m (Gate r) / 2) 549755813888 ≡ true)
    range r h = and_both (nat_lt (sequence_of (word_in m (Counter r))) 549756338176) (nat_le (word_in m (Gate r) / 2) 549755813888)
        (row_passes m r (t.rows r h)).range

pub sound_is : (m : Machine) → IsWhole m → HasEightSlots m → all_fit m ≡ true → IsSound m
sound_is m w e f =
    let t = tests_pass m f in
    record {
      balance = balance_is m t;
      token = token_is m t;
      quiet = λ a r k l h i j q. (scan_shows m (record_at m a).scan (agent_passes m a (t.agents a l)).scan).quiet r k h i j q;
      doomed = doomed_is m t;
      free = free_is m t;
      no_leak = λ r h. (out_part m r t h).1;
      enrolment = enrolment_is m w e t;
      slots = slots_is m e t;
      targets = record {
        roots = λ i r l h. target_is m (word_in m (Root i)) r (t.roots i l) h;
        links = λ n j r l o h. target_is m (word_in m (link_at n j)) r
            (all_there m.bounds.links n (λ k. target_fits m (word_in m (link_at k j))) (out_part m j t o).0 l) h;
      };
      fresh = fresh_is m t;
      scans = scans_is m t;
      looks = looks_is m t;
      ranges = ranges_is m t;
    }
  where
    doomed_is : (m : Machine) → TestsPass m → DoomedRows m
    doomed_is m t = record {
      out = λ a r l h. (doom_shows m a (record_at m a).doom (agent_passes m a (t.agents a l)).doom).out r h;
      unreachable = λ a r l h. (doom_shows m a (record_at m a).doom (agent_passes m a (t.agents a l)).doom).unreachable r h;
      alone = λ a x r l g h k. (doom_shows m a (record_at m a).doom (agent_passes m a (t.agents a l)).doom).alone x r g h k;
      null = λ a r n l k h. (doom_shows m a (record_at m a).doom (agent_passes m a (t.agents a l)).doom).null r n k h;
      bare = λ a r l h. (doom_shows m a (record_at m a).doom (agent_passes m a (t.agents a l)).doom).bare r h;
    }

    scans_is : (m : Machine) → TestsPass m → Scans m
    scans_is m t = record {
      row = λ a r l h. (scan_shows m (record_at m a).scan (agent_passes m a (t.agents a l)).scan).row r h;
      set = λ a r l h. (scan_shows m (record_at m a).scan (agent_passes m a (t.agents a l)).scan).set r h;
      behind = λ a r l h. (scan_shows m (record_at m a).scan (agent_passes m a (t.agents a l)).scan).behind r h;
      count = λ a r l h e. (scan_shows m (record_at m a).scan (agent_passes m a (t.agents a l)).scan).count r h e;
      found = λ a l h. (scan_shows m (record_at m a).scan (agent_passes m a (t.agents a l)).scan).found h;
      place = λ a k l h i. (scan_shows m (record_at m a).scan (agent_passes m a (t.agents a l)).scan).place k h i;
    }
