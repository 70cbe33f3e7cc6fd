-- The rows that are found are those to which links lead from the roots.
use Rattle.std.proofs.Common.{Bool, List, [], arith, false, get_or-set_other, get_or-set_same, inl, inr, length, refl, subst, suc, sym, true, zero, ℕ, ⊎_elim, ◌+◌, ◌/◌, ◌<◌, ◌∙◌, ◌∷◌, ◌≡◌, ◌≢◌, ◌≤◌, ◌⊎◌}
use Rattle.std.proofs.lemmas.Bool.{eq-eqb, eqb-false, eqb-true, false≢true}
use Rattle.std.proofs.lemmas.List.{length-set}
use Rattle.std.proofs.lemmas.List.Sums.{sum_by-cons, sum_by-set}
use Rattle.std.specs.Prelude.{None, Some, not, slice_set, ◌==◌, ◌||◌}
use Rattle.orc_words.specs.Packed.{bit, named}
use Rattle.orc_words.specs.Places.{link_at}
use Rattle.orc_words.specs.declared.place.Word.TheVariants.{Root}
use Rattle.orc_core.specs.Counts.{links_to}
use Rattle.orc_core.specs.Machine.{Machine, word_in}
use Rattle.orc_core.specs.RecordParts.{names}
use Rattle.orc_core.specs.Sums.{some_below}
use Rattle.orc_sound.proofs.Shown.{some_here}
use Rattle.orc_trace.specs.Audit.{IsLinkedToARoot, IsWayFromRoot}
use Rattle.orc_trace.specs.Reaching.{AreFound, AreTargetsMarked, MarksReached, found_at, is_marked, count_unmarked}

-- ---- links and ways

-- a link word to the row names it
link_names : (v r : ℕ) → r < 65535 → (v == r + 1) ≡ true → names (named v) r ≡ true
link_names v r l h = grind arith

names_link : (v r : ℕ) → names (named v) r ≡ true → (v == r + 1) ≡ true
names_link v r h = grind arith

-- a row that a root names
pub root_links : (m : Machine) (i r : ℕ) → i < m.bounds.roots → links_to (word_in m (Root i)) r ≡ true → IsLinkedToARoot m r
root_links m i r l e = record { rows = []; way = some_here m.bounds.roots i (λ j. links_to (word_in m (Root j)) r) l e }

-- a row that is linked from a row on a way from a root
pub one_further : (m : Machine) (n j r : ℕ) → IsLinkedToARoot m j → j < m.bounds.rows → n < m.bounds.links → links_to (word_in m (link_at n j)) r ≡ true
    → IsLinkedToARoot m r
one_further m n j r h l k e = record {
  rows = j ∷ h.rows;
  way = (h.way, l, some_here m.bounds.links n (λ i. links_to (word_in m (link_at i j)) r) k e);
}

-- ---- one more mark

marked_more : (marks : List Bool) (q r : ℕ) → q < length marks → is_marked marks r ≡ true → is_marked (slice_set marks q true) r ≡ true
marked_more marks q r l h = cases (r == q) refl
  where
    cases : (t : Bool) → (r == q) ≡ t → is_marked (slice_set marks q true) r ≡ true
    cases true e = rw (eqb-true r q e) (get_or-set_same marks q true false l)
    cases false e = get_or-set_other marks q r true false (eqb-false r q e) ∙ h

marked_before : (marks : List Bool) (q r : ℕ) → is_marked (slice_set marks q true) r ≡ true → (r ≡ q) ⊎ (is_marked marks r ≡ true)
marked_before marks q r h = cases (r == q) refl
  where
    cases : (t : Bool) → (r == q) ≡ t → (r ≡ q) ⊎ (is_marked marks r ≡ true)
    cases true e = inl (eqb-true r q e)
    cases false e = inr (sym (get_or-set_other marks q r true false (eqb-false r q e)) ∙ h)

one_fewer : (marks : List Bool) (q : ℕ) → q < length marks → is_marked marks q ≡ false → count_unmarked (slice_set marks q true) + 1 ≡ count_unmarked marks
one_fewer marks q l h = let e = rw h at (sum_by-set (λ x. bit (not x)) marks q true false l) in omega arith

-- while a row has no mark, the list has room
room_left : (m : Machine) (marks : List Bool) (found : List ℕ) (count q : ℕ) → AreFound m marks found count → q < m.bounds.rows
    → is_marked marks q ≡ false → count < length found
room_left m marks found count q h l none =
    let long = h.long in
    let room = h.room in
    let counted = h.counted in
    let fewer = one_fewer marks q (omega (arith, l, long)) none in
    omega (arith, room, counted, fewer)

pub one_found : (m : Machine) (marks : List Bool) (found : List ℕ) (count q : ℕ) → AreFound m marks found count → q < m.bounds.rows
    → is_marked marks q ≡ false → IsLinkedToARoot m q → AreFound m (slice_set marks q true) (slice_set found count q) (count + 1)
one_found m marks found count q h l none linked = record {
  long = length-set marks q true ∙ h.long;
  room = length-set found count q ∙ h.room;
  counted = let fewer = one_fewer marks q inside none in let counted = h.counted in omega (arith, fewer, counted);
  reached = λ r e. ⊎_elim (λ same. subst (λ (x : ℕ). IsLinkedToARoot m x) (sym same) linked) (λ before. h.reached r before) (marked_before marks q r e);
  below = λ i k. below i k (i == count) refl;
  marked = λ i k. marked i k (i == count) refl;
  listed = λ r e. elim (marked_before marks q r e) [
    | inl same ↦ (count, omega arith, get_or-set_same found count q 0 (room_left m marks found count q h l none) ∙ sym same)
    | inr before ↦ let (i, k, at) = h.listed r before in (i, omega (arith, k), other i k ∙ at)
  ];
}
  where
    inside : q < length marks
    inside = let e = h.long in omega (arith, l, e)

    other : (i : ℕ) → i < count → found_at (slice_set found count q) i ≡ found_at found i
    other i k = let apart : i ≢ count = λ e. omega (arith, k, e) in get_or-set_other found count i q 0 apart

    last : (i : ℕ) → (i == count) ≡ true → found_at (slice_set found count q) i ≡ q
    last i e = rw (eqb-true i count e) (get_or-set_same found count q 0 (room_left m marks found count q h l none))

    before : (i : ℕ) → i < count + 1 → (i == count) ≡ false → i < count
    before i k e = let apart : i ≢ count = eqb-false i count e in omega arith

    below : (i : ℕ) → i < count + 1 → (t : Bool) → (i == count) ≡ t → found_at (slice_set found count q) i < m.bounds.rows
    below i k true e = rw (last i e) l
    below i k false e = rw (other i (before i k e)) (h.below i (before i k e))

    marked : (i : ℕ) → i < count + 1 → (t : Bool) → (i == count) ≡ t → is_marked (slice_set marks q true) (found_at (slice_set found count q) i) ≡ true
    marked i k true e = rw (last i e) (get_or-set_same marks q true false inside)
    marked i k false e = rw (other i (before i k e)) (marked_more marks q (found_at found i) inside (h.marked i (before i k e)))

-- a link word that names none leads to no row
pub named_none : (marks : List Bool) (word n : ℕ) → n ≤ 65535 → named (word / 2) ≡ None → (r : ℕ) → r < n → links_to word r ≡ true
    → is_marked marks r ≡ true
named_none marks word n few is r l e = absurd (false≢true (rw is at (link_names (word / 2) r (omega arith) e)))

-- the row that a link word names is linked to a root where each target of the word is
pub named_linked : (m : Machine) (word q : ℕ) → named (word / 2) ≡ Some q → ((r : ℕ) → links_to word r ≡ true → IsLinkedToARoot m r) → IsLinkedToARoot m q
named_linked m word q is reach = reach q (names_link (word / 2) q (rw is (eq-eqb q q refl)))

-- ---- no row is found at first

all_unmarked : (marks : List Bool) → ((r : ℕ) → is_marked marks r ≡ false) → count_unmarked marks ≡ length marks
all_unmarked [] h = refl
all_unmarked (x ∷ xs) h =
    let first : bit (not x) ≡ 1 = rw (h 0) refl in
    let rest = all_unmarked xs (λ r. h (suc r)) in
    let sum = sum_by-cons (λ b. bit (not b)) x xs in
    omega (arith, first, rest, sum)

pub none_found : (m : Machine) (marks : List Bool) (found : List ℕ) → length marks ≡ m.bounds.rows → length found ≡ m.bounds.rows
    → ((r : ℕ) → is_marked marks r ≡ false) → AreFound m marks found 0
none_found m marks found long room none = record {
  long = long;
  room = room;
  counted = let all = all_unmarked marks none in omega (arith, all, long);
  reached = λ r e. absurd (false≢true (sym (none r) ∙ e));
  below = λ i l. absurd (omega arith);
  marked = λ i l. absurd (omega arith);
  listed = λ r e. absurd (false≢true (sym (none r) ∙ e));
}

-- ---- all that is found is followed

-- the roots' targets are found, and so are those of the first `next` rows
pub record Followed (m : Machine) (marks : List Bool) (found : List ℕ) (count next : ℕ) : Type 0 where
  pub are : AreFound m marks found count
  pub roots : AreTargetsMarked m marks (λ i. Root i) m.bounds.roots
  pub so_far : next ≤ count
  pub links : (i : ℕ) → i < next → AreTargetsMarked m marks (λ n. link_at n (found_at found i)) m.bounds.links

either : (a b : Bool) → (a || b) ≡ true → (a ≡ true) ⊎ (b ≡ true)
either true b h = inl refl
either false b h = inr h

-- what follows from each that passes follows where some does
some_follows : (n : ℕ) (p : ℕ → Bool) (t : Bool) → ((i : ℕ) → i < n → p i ≡ true → t ≡ true) → some_below n p ≡ true → t ≡ true
some_follows zero p t h e = absurd (false≢true e)
some_follows (suc n) p t h e =
    ⊎_elim (λ x. some_follows n p t (λ i l k. h i (omega arith) k) x) (λ x. h n (omega arith) x) (either (some_below n p) (p n) e)

-- along a way from a root all rows are marked
all_marked : (m : Machine) (marks : List Bool) (found : List ℕ) (count : ℕ) → Followed m marks found count count → (rows : List ℕ) (r : ℕ)
    → r < m.bounds.rows → IsWayFromRoot m rows r → is_marked marks r ≡ true
all_marked m marks found count h [] r l way =
    some_follows m.bounds.roots (λ i. links_to (word_in m (Root i)) r) (is_marked marks r) (λ i k e. h.roots i r k l e) way
all_marked m marks found count h (j ∷ js) r l way =
    let (i, low, at) = h.are.listed j (all_marked m marks found count h js j way.1 way.0) in
    let links = subst (λ (x : ℕ). AreTargetsMarked m marks (λ n. link_at n x) m.bounds.links) at (h.links i low) in
    some_follows m.bounds.links (λ n. links_to (word_in m (link_at n j)) r) (is_marked marks r) (λ n k e. links n r k l e) way.2

pub all_found : (m : Machine) (marks : List Bool) (found : List ℕ) (count next : ℕ) → Followed m marks found count next → count ≤ next
    → MarksReached m marks
all_found m marks found count next h end = record {
  long = h.are.long;
  only = h.are.reached;
  all = λ r l linked. all_marked m marks found count whole linked.rows r l linked.way;
}
  where
    whole : Followed m marks found count count
    whole = let low = h.so_far in let same : next ≡ count = omega (arith, low, end) in subst (λ (x : ℕ). Followed m marks found count x) same h
