-- Handover words, hands and work lists name rows of the table.
use Rattle.std.proofs.Common.{Bool, List, [], ap, arith, cond, drop, false, inl, inr, length, refl, subst, sym, true, ℕ, ⊎_elim, ◌%◌, ◌++◌, ◌+◌, ◌/◌, ◌<◌, ◌∙◌, ◌∷◌, ◌≡◌, ◌≤◌, ◌⊎◌, zero, suc}
use Rattle.std.proofs.lemmas.Bool.{eq-eqb, eqb-true, false≢true, ltb-true}
use Rattle.std.specs.Prelude.{None, Option, Some, nat_lt, ◌==◌}
use Rattle.orc_words.specs.Bounds.{Bounds}
use Rattle.orc_words.specs.Packed.{bit, named}
use Rattle.orc_words.specs.declared.place.Word.{Word}
use Rattle.orc_words.specs.declared.place.Word.TheVariants.{Enrolled, First, Handover, Next, Root, Second, Side}
use Rattle.orc_core.proofs.Within.{and_both}
use Rattle.orc_words.specs.Operations.{word_after}
use Rattle.orc_core.specs.Actions.{action_of, clear_word}
use Rattle.orc_core.specs.After.{after}
use Rattle.orc_core.specs.Allowed.{fits}
use Rattle.orc_core.specs.Listed.{Listed, listed_more, listed_name, listed_rest}
use Rattle.orc_core.specs.RecordParts.{names, scan_found, scanned, scans}
use Rattle.orc_core.specs.Sums.{sum_below}
use Rattle.orc_core.specs.declared.ops.CounterUse.TheVariants.{Check, End, Start}
use Rattle.orc_core.specs.declared.ops.Op.{Op}
use Rattle.orc_core.specs.declared.ops.Op.TheVariants.{CounterLoad, Fill, Hand, LinkCas, LinkLoad, Read, SetRetired, TakeIn, LinkStore, HandoverLook}
use Rattle.orc_core.specs.declared.records.Agent.{Agent}
use Rattle.orc_core.specs.declared.records.Scan.{Scan}
use Rattle.orc_sound.proofs.Facts.{Counted, LawfulStep}
use Rattle.orc_sound.proofs.Scans.{ScanStep}
use Rattle.orc_sound.proofs.Seats.{seat_split}
use Rattle.orc_sound.proofs.Sources.{write_same}
use Rattle.orc_sound.proofs.Sums.{sum_add, sum_le, sum_member, sum_point, sum_same, sum_zero}
use Rattle.orc_sound.proofs.Tokens.{listings_first, listings_more}
use Rattle.orc_sound.proofs.World.{World, read_by, record_by, same_word, step_world, write}
use Rattle.orc_sound.specs.RetirementToken.{listings, places_of}

pub record RowsFit (b : Bounds) (z : World) : Type 0 where
  pub handed : (a k r : ℕ) → z.memory (Handover a k) ≡ r + 1 → r < b.rows
  pub in_hand : (a r : ℕ) → names (z.seats a).hand r ≡ true → r < b.rows
  pub listed : (a r : ℕ) → 0 < listings (z.seats a).list.items r → r < b.rows

-- a handover word is new where a row was handed over, or taken in
abbrev pub hands : Op → Bool
hands (Hand k) = true
hands (TakeIn k) = true
hands _ = false

handover_stays : (b : Bounds) (e a : ℕ) (op : Op) (d : Agent) (m : Word → ℕ) (x k : ℕ) → fits b e a op d ≡ true → hands op ≡ false
    → write m (action_of a op d).word (word_after (action_of a op d).operation (m (action_of a op d).word)) (Handover x k) ≡ m (Handover x k)
handover_stays b e a (LinkLoad p j) d m x k f n = write_same m p (Handover x k)
handover_stays b e a (LinkCas (Root i) y t) d m x k f n = refl
handover_stays b e a (LinkCas (Next i) y t) d m x k f n = refl
handover_stays b e a (LinkCas (Side i) y t) d m x k f n = refl
handover_stays b e a (LinkCas p y t) d m x k f n = grind arith
handover_stays b e a (Fill q w v) d m x k f n = grind arith
handover_stays b e a (Read q w) d m x k f n = write_same m (cond (w == 0) (First q) (Second q)) (Handover x k)
handover_stays b e a (HandoverLook j) d m x k f n = write_same m (Handover a j) (Handover x k)
handover_stays b e a (Hand j) d m x k f n = absurd (false≢true (sym n))
handover_stays b e a (TakeIn j) d m x k f n = absurd (false≢true (sym n))
handover_stays b e a (LinkStore lq ll zero) d m x k f n = refl
handover_stays b e a (LinkStore lq ll (suc ln)) d m x k f n = refl
handover_stays b e a op d m x k f n = refl

found_scans : (o : Option Scan) → scan_found o ≡ true → scans o (scanned o) ≡ true
found_scans None h = h
found_scans (Some s) h = eq-eqb s.row s.row refl

handed_step : (b : Bounds) (z : World) (a : ℕ) (op : Op) → ScanStep b z a op → RowsFit b z → (x k r : ℕ)
    → (step_world z a op).memory (Handover x k) ≡ r + 1 → r < b.rows
handed_step b z a (Hand j) p s x k r h = cases (same_word (Handover x k) (Handover (j / 8) (j % 8))) h
  where
    named_row : scanned (z.seats a).scan + 1 ≡ r + 1 → scanned (z.seats a).scan ≡ r
    named_row e = omega arith

    cases : (t : Bool) → cond t (scanned (z.seats a).scan + 1) (z.memory (Handover x k)) ≡ r + 1 → r < b.rows
    cases true e =
        rw (← named_row e) ((p.scans a).row (scanned (z.seats a).scan) (found_scans (z.seats a).scan (and_both _ _ (and_both _ _ p.lawful.fits).0).1))
    cases false e = s.handed x k r e
handed_step b z a (TakeIn j) p s x k r h = cases (same_word (Handover x k) (Handover a j)) h
  where
    cases : (t : Bool) → cond t 0 (z.memory (Handover x k)) ≡ r + 1 → r < b.rows
    cases true e = absurd (omega arith)
    cases false e = s.handed x k r e
handed_step b z a op p s x k r h = s.handed x k r (sym (handover_stays b (z.memory Enrolled) a op (z.seats a) z.memory x k p.lawful.fits refl) ∙ h)

-- a work list has a row anew where its bit was set, or where it was taken in
abbrev pub adds : Op → ℕ → ℕ → Bool
adds (SetRetired q n) v r = q == r
adds (TakeIn k) v r = names (named v) r
adds _ v r = false

more_listed : (xs : List ℕ) (q r : ℕ) → 0 < listings (xs ++ q ∷ []) r → (0 < listings xs r) ⊎ ((q == r) ≡ true)
more_listed xs q r h = cases (q == r) refl
  where
    cases : (t : Bool) → (q == r) ≡ t → (0 < listings xs r) ⊎ ((q == r) ≡ true)
    cases true e = inr e
    cases false e = let k = listings_more xs q r in let g = ap bit e in inl (omega arith)

rest_listed : (xs : List ℕ) (r : ℕ) → 0 < listings (drop 1 xs) r → 0 < listings xs r
rest_listed [] r h = h
rest_listed (x ∷ xs) r h = let e = listings_first (x ∷ xs) x r (eq-eqb x x refl) in omega arith

tried_list : (l : Listed) (q r : ℕ) (t : Bool) → 0 < listings (cond t (listed_more l q) l).items r → (0 < listings l.items r) ⊎ ((q == r) ≡ true)
tried_list l q r true h = more_listed l.items q r h
tried_list l q r false h = inl h

begun_list : (l : Listed) (r : ℕ) (t : Bool) → 0 < listings (cond t l (listed_rest l)).items r → 0 < listings l.items r
begun_list l r true h = h
begun_list l r false h = rest_listed l.items r h

list_source : (op : Op) (d : Agent) (v r : ℕ) → 0 < listings (after op d v).list.items r → (0 < listings d.list.items r) ⊎ (adds op v r ≡ true)
list_source (SetRetired q n) d v r h = tried_list d.list q r (v == clear_word n) h
list_source (CounterLoad q Check) d v r h = inl h
list_source (CounterLoad q Start) d v r h = inl (begun_list d.list r (names d.hand q) h)
list_source (CounterLoad q End) d v r h = inl h
list_source (TakeIn k) d v r h = taken (named v) h
  where
    taken : (o : Option ℕ) → 0 < listings (listed_name d.list o).items r → (0 < listings d.list.items r) ⊎ (names o r ≡ true)
    taken None h = inl h
    taken (Some q) h = more_listed d.list.items q r h
list_source op d v r h = inl h

named_word : (w r : ℕ) → names (named w) r ≡ true → w ≡ r + 1
named_word w r h = grind arith

added : (b : Bounds) (z : World) (a : ℕ) (op : Op) (r : ℕ) → LawfulStep b z a op → RowsFit b z → adds op (read_by z a op) r ≡ true → r < b.rows
added b z a (SetRetired q n) r p s h = rw (← eqb-true q r h) (ltb-true q b.rows (and_both _ _ (and_both _ _ p.fits).0).0)
added b z a (TakeIn k) r p s h = s.handed a k r (named_word (z.memory (Handover a k)) r h)
added b z a op r p s h = absurd (false≢true h)

-- a row is in hand anew where it came out of a handover word
hand_source : (op : Op) (d : Agent) (v r : ℕ) → names (after op d v).hand r ≡ true → (names d.hand r ≡ true) ⊎ ((k : ℕ) × (op ≡ Hand k) × (v ≡ r + 1))
hand_source (Hand k) d v r h = inr (k, refl, named_word v r h)
hand_source (CounterLoad q Check) d v r h = inl h
hand_source (CounterLoad q Start) d v r h = absurd (false≢true h)
hand_source (CounterLoad q End) d v r h = inl h
hand_source op d v r h = inl h

came_out : (b : Bounds) (z : World) (a : ℕ) (op : Op) (r : ℕ) → RowsFit b z → ((k : ℕ) × (op ≡ Hand k) × (read_by z a op ≡ r + 1)) → r < b.rows
came_out b z a op r s n = s.handed (n.0 / 8) (n.0 % 8) r (subst (λ o. read_by z a o ≡ r + 1) n.1 n.2)

pub rows_step : (b : Bounds) (z : World) (a : ℕ) (op : Op) → ScanStep b z a op → RowsFit b z → RowsFit b (step_world z a op)
rows_step b z a op p s = record {
  handed = handed_step b z a op p s;
  in_hand = λ x r h. ⊎_elim
      (λ n. ⊎_elim (λ old. s.in_hand a r old) (λ new. came_out b z a op r s new) (hand_source op (z.seats a) (read_by z a op) r n.1))
      (λ n. s.in_hand x r n.1)
      (seat_split (λ d. names d.hand r ≡ true) z.seats a x (record_by z a op) h);
  listed = λ x r h. ⊎_elim
      (λ n. ⊎_elim (λ old. s.listed a r old) (λ new. added b z a op r p.lawful s new) (list_source op (z.seats a) (read_by z a op) r n.1))
      (λ n. s.listed x r n.1)
      (seat_split (λ d. 0 < listings d.list.items r) z.seats a x (record_by z a op) h);
}

-- a list of different rows of the table is no longer than the table
pub listings_cons : (x : ℕ) (xs : List ℕ) (r : ℕ) → listings (x ∷ xs) r ≡ bit (x == r) + listings xs r
listings_cons x xs r = listings_first (x ∷ xs) x r (eq-eqb x x refl)

pub length_listed : (xs : List ℕ) (n : ℕ) → ((r : ℕ) → 0 < listings xs r → r < n) → length xs ≡ sum_below n (λ r. listings xs r)
length_listed [] n h = sym (sum_zero n (λ r. 0) (λ r. refl))
length_listed (x ∷ xs) n h =
    let e = length_listed xs n (λ r k. h r (rw (listings_cons x xs r) (omega arith))) in
    let l = h x (rw (listings_cons x xs x, eq-eqb x x refl) (omega arith)) in
    let p = sum_point n x l in
    let a = sum_add n (λ r. bit (x == r)) (λ r. listings xs r) in
    let s = sum_same n (λ r. listings (x ∷ xs) r) (λ r. bit (x == r) + listings xs r) (λ r k. listings_cons x xs r) in
    omega arith

pub list_length : (b : Bounds) (z : World) (a : ℕ) → Counted b z → RowsFit b z → a < b.agents → length (z.seats a).list.items ≤ b.rows
list_length b z a s f h =
    let e = length_listed (z.seats a).list.items b.rows (f.listed a) in
    let l = sum_le b.rows (λ r. listings (z.seats a).list.items r) once in
    omega arith
  where
    once : (r : ℕ) → listings (z.seats a).list.items r ≤ 1
    once r = cases (nat_lt r b.rows) refl
      where
        cases : (t : Bool) → nat_lt r b.rows ≡ t → listings (z.seats a).list.items r ≤ 1
        cases true e = let m = sum_member b.agents a (λ x. places_of (z.seats x) r) h in let t = s.token r (ltb-true r b.rows e) in omega arith
        cases false e = let l : b.rows ≤ r = grind arith in none (nat_lt 0 (listings (z.seats a).list.items r)) refl l
          where
            none : (t : Bool) → nat_lt 0 (listings (z.seats a).list.items r) ≡ t → b.rows ≤ r → listings (z.seats a).list.items r ≤ 1
            none true g l = let k = f.listed a r (ltb-true 0 (listings (z.seats a).list.items r) g) in absurd (omega arith)
            none false g l = let k : listings (z.seats a).list.items r ≤ 0 = grind arith in omega arith
