-- Values: a line has one, and its words are counted place by place.
use Rattle.std.proofs.Common.{◌≡◌, ◌∙◌, ◌+◌, ◌-◌, ◌++◌, ◌==◌, ◌&&◌, ◌||◌, not, Bool, false, cond, List, [], ◌∷◌, ℕ, zero, suc, refl, arith, ap, sym, slice_index, count_by, sum, ne_eqb}
use Rattle.std.specs.List.{range_with_len}
use Rattle.std.proofs.lemmas.List.Sums.{sum_by_push}
use Rattle.orc_jobs.proofs.NumberLists.{SpellsNumbers-unique}
use Rattle.orc_jobs.specs.JobValue.{MakesOf, IsJobValue, starts_word}
use Rattle.orc_jobs.specs.declared.line.Job.{Job}
use Rattle.orc_jobs.specs.declared.line.Job.TheVariants as job
use Rattle.orc_jobs.specs.declared.line.Line.{Line}
use Rattle.orc_jobs.specs.declared.line.Line.TheVariants as line

Gives-unique : (op : Job) (text : List ℕ) (a b : ℕ) → MakesOf op text a → MakesOf op text b → a ≡ b
Gives-unique job.Bytes text a b h k = h ∙ sym k
Gives-unique job.Words text a b h k = h ∙ sym k
Gives-unique job.Sum text a b h k = h.2 ∙ ap sum (SpellsNumbers-unique h.0 k.0 text h.1 k.1) ∙ sym k.2

pub IsJobValue-unique : (l : Line) (a b : ℕ) → IsJobValue l a → IsJobValue l b → a ≡ b
IsJobValue-unique (line.Post id op text) a b h k = Gives-unique op text a b h k
IsJobValue-unique (line.Rush id op text) a b h k = Gives-unique op text a b h k
IsJobValue-unique (line.Drop id) a b h k = h ∙ sym k

range_with_len-push : (a n : ℕ) → range_with_len a (suc n) ≡ range_with_len a n ++ ((a + n) ∷ [])
range_with_len-push a zero = let e : a ≡ a + 0 = omega arith in ap (λ k. k ∷ []) e
range_with_len-push a (suc n) =
    let rest = range_with_len-push (a + 1) n in
    let e : a + 1 + n ≡ a + suc n = omega arith in
    ap (λ (t : List ℕ). a ∷ t) (rest ∙ ap (λ k. range_with_len (a + 1) n ++ (k ∷ [])) e)

-- the words that begin before the next place
pub count_by-places_more : (p : ℕ → Bool) (n : ℕ) → count_by p (range_with_len 0 (n + 1)) ≡ count_by p (range_with_len 0 n) + cond (p n) 1 0
count_by-places_more p n =
    let next : n + 1 ≡ suc n = omega arith in
    let e : 0 + n ≡ n = omega arith in
    rw (next, range_with_len-push 0 n, e) (sum_by_push (λ k. cond (p k) 1 0) (range_with_len 0 n) n)

pub count_by-places : (p : ℕ → Bool) (n words : ℕ) (b : Bool) → words ≡ count_by p (range_with_len 0 n) → p n ≡ b
    → words + cond b 1 0 ≡ count_by p (range_with_len 0 (n + 1))
count_by-places p n words b h e = rw (count_by-places_more p n, e, h) refl

-- the byte before a place, as the loop keeps it
pub starts_word-kept : (text : List ℕ) (n before : ℕ) → (before == 32) ≡ ((n == 0) || (slice_index text (n - 1) == 32))
    → starts_word text n ≡ (not (slice_index text n == 32) && (before == 32))
starts_word-kept text n before h = rw h refl

pub before-next : (text : List ℕ) (n : ℕ) → (slice_index text n == 32) ≡ ((n + 1 == 0) || (slice_index text (n + 1 - 1) == 32))
before-next text n =
    let back : n + 1 - 1 ≡ n = omega arith in
    let other : (n + 1 == 0) ≡ false = ne_eqb (n + 1) 0 (λ e. omega (arith, e)) in
    rw (back, other) refl
