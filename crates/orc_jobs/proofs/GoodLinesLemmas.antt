-- Good lines: one of them is good alone.
use Rattle.std.proofs.Common.{◌≡◌, ◌≤◌, All, List, [], ◌∷◌, ℕ, zero, suc, Some, arith, length, slice_get}
use Rattle.std.specs.List.{sum_by}
use Rattle.std.proofs.lemmas.List.Elements.{All-cons, All-head, All-nil, All-tail}
use Rattle.std.proofs.lemmas.List.Sums.{sum_by-cons}
use Rattle.orc_jobs.specs.GoodLines.{AreGood}
use Rattle.orc_jobs.specs.Line.{IsLine, text_size}
use Rattle.orc_jobs.specs.declared.line.Line.{Line}

pub good_few : {lines : List Line} → AreGood lines → length lines ≤ 65535
good_few good = good.few

one-line : (lines : List Line) (i : ℕ) (l : Line) → All IsLine lines → slice_get lines i ≡ Some l → IsLine l
one-line [] i l each e = cc e
one-line (x ∷ xs) zero l each e = let same : x ≡ l = cc e in rw (← same) (All-head IsLine x xs each)
one-line (x ∷ xs) (suc i) l each e = one-line xs i l (All-tail IsLine x xs each) e

one-size : (lines : List Line) (i : ℕ) (l : Line) → slice_get lines i ≡ Some l → text_size l ≤ sum_by text_size lines
one-size [] i l e = cc e
one-size (x ∷ xs) zero l e = let same : x ≡ l = cc e in rw (← same) (omega (arith, sum_by-cons text_size x xs))
one-size (x ∷ xs) (suc i) l e = let rest = one-size xs i l e in omega (arith, sum_by-cons text_size x xs, rest)

pub good_one : (lines : List Line) (i : ℕ) (l : Line) → AreGood lines → slice_get lines i ≡ Some l → AreGood (l ∷ [])
good_one lines i l good e =
    let size = one-size lines i l e in
    let small = good.small in
    record {
      few = omega arith;
      each = All-cons IsLine l [] (one-line lines i l good.each e) (All-nil IsLine);
      small = omega (arith, size, small, sum_by-cons text_size l []);
    }
