-- What the order of replies says: each line has one reply, and lines of one poster rise.
use Rattle.std.proofs.Common.{◌≡◌, ◌≢◌, ℕ, zero, suc, ◌+◌, ◌%◌, ◌≤◌, ◌<◌, List, [], ◌∷◌, ◌++◌, length, map, Bool, true, false, cond, filter, ◌==◌, inl, inr, refl, ap, sym, ◌∙◌, subst, arith}
use Rattle.std.specs.List.{range_with_len, AllByRecursion, IsDistinct}
use Rattle.std.specs.List.Sorted.{IsPermutation}
use Rattle.std.proofs.lemmas.Bool.Decides.{nat_tests}
use Rattle.std.proofs.lemmas.List.{length-map}
use Rattle.std.proofs.lemmas.List.FromFn.{length-range_with_len}
use Rattle.std.proofs.lemmas.List.Sorted.{IsPermutation-map, IsPermutation-sym, length_permutation}
use Rattle.std.proofs.lemmas.Map.Keys.{IsDistinct-IsPermutation}
use Rattle.orc_jobs.specs.declared.line.Line.{Line}
use Rattle.orc_board.specs.declared.replies.PostReply.{PostReply}
use Rattle.orc_board.specs.declared.replies.PostWord.{PostWord}
use Rattle.orc_board.specs.declared.replies.PostWord.TheVariants as word
use Rattle.orc_board.specs.declared.replies.TakeReply.{TakeReply}
use Rattle.orc_board.specs.Follows.{AreInOrder, own_records, posts_of}
use Rattle.orc_board.specs.Reportable.{posted_by, posted_of}
use Rattle.orc_board.proofs.ListFacts.{AllByRecursion-all, AllByRecursion-map, AllByRecursion-both, filter-none, eq-true, eq-no, zero_or}
use Rattle.orc_board.proofs.Keyed.{same_by_keys, by_key_below}
use Rattle.orc_board.proofs.PairLists.{posted_fewer}

-- items with their keys
abbrev pub keyed : {X : Type 0} → (X → ℕ) → (X → ℕ) → List X → List (ℕ × ℕ)
keyed key value [] = []
keyed key value (x ∷ xs) = (key x, value x) ∷ keyed key value xs

values : {X : Type 0} (key value : X → ℕ) (xs : List X) → map (λ (z : ℕ × ℕ). z.1) (keyed key value xs) ≡ map value xs
values key value [] = refl
values key value (x ∷ xs) = ap (λ z. value x ∷ z) (values key value xs)

keyed_at : {X : Type 0} (key value : X → ℕ) (a : ℕ) (xs : List X)
    → filter (λ (z : ℕ × ℕ). z.0 == a) (keyed key value xs) ≡ map (λ (v : ℕ). (a, v)) (map value (filter (λ x. key x == a) xs))
keyed_at key value a [] = refl
keyed_at {X} key value a (x ∷ xs) =
    let F : List X = filter (λ y. key y == a) xs in
    let rest : List (ℕ × ℕ) = filter (λ (z : ℕ × ℕ). z.0 == a) (keyed key value xs) in
    let cases : (b : Bool) → (key x == a) ≡ b → cond b ((key x, value x) ∷ rest) rest ≡ map (λ (v : ℕ). (a, v)) (map value (cond b (x ∷ F) F)) =
    elim [
      | true ↦ λ e. ap (λ (k : ℕ). (k, value x) ∷ rest) (eq-true (key x) a e) ∙ ap (λ z. (a, value x) ∷ z) (keyed_at key value a xs)
      | false ↦ λ e. keyed_at key value a xs
    ] in
    cases (key x == a) refl

keyed_below : {X : Type 0} (key value : X → ℕ) (n : ℕ) (xs : List X) → AllByRecursion (λ x. key x < n) xs
    → AllByRecursion (λ (z : ℕ × ℕ). z.0 < n) (keyed key value xs)
keyed_below key value n [] h = tt
keyed_below key value n (x ∷ xs) h = (h.0, keyed_below key value n xs h.1)

map_self : (xs : List ℕ) → map (λ (i : ℕ). i) xs ≡ xs
map_self [] = refl
map_self (x ∷ xs) = ap (λ z. x ∷ z) (map_self xs)

-- the poster of record i
abbrev pub poster_of : ℕ → ℕ → ℕ
poster_of posters i = i % posters + 1

-- each reply is of a poster of the run
pub posters_in_range : (lines : List Line) (posters takers : ℕ) (posts : List PostReply) (takes : List TakeReply) → AreInOrder lines posters takers posts takes
    → AllByRecursion (λ (r : PostReply). (1 ≤ r.poster) × (r.poster < suc posters)) posts
posters_in_range lines posters takers posts takes o =
    AllByRecursion-both (λ (r : PostReply). 1 ≤ r.poster) (λ (r : PostReply). r.poster < suc posters) posts o.none_of_zero
    (subst (AllByRecursion (λ (r : PostReply). r.poster < suc posters)) (sym o.by_poster) (by_key_below (λ (r : PostReply). r.poster) (suc posters) posts))

-- a number that is no poster's has no replies
pub no_posts : (posters a : ℕ) (posts : List PostReply) → AllByRecursion (λ (r : PostReply). (1 ≤ r.poster) × (r.poster < suc posters)) posts
    → ((p : ℕ) → (1 ≤ p) × (p < suc posters) → p ≢ a) → posts_of a posts ≡ []
no_posts posters a posts range other =
    filter-none (λ (r : PostReply). r.poster) a posts
    (AllByRecursion-map (λ (r : PostReply). (1 ≤ r.poster) × (r.poster < suc posters)) (λ (r : PostReply). r.poster ≢ a)
    (λ r h. other r.poster h) posts range)

pub above_zero : (a p posters : ℕ) → a ≡ 0 → (1 ≤ p) × (p < suc posters) → p ≢ a
above_zero a p posters z h = omega (arith, h.0)

-- each line has one reply
pub each_line : (lines : List Line) (posters takers : ℕ) (posts : List PostReply) (takes : List TakeReply) → 1 ≤ posters
    → AreInOrder lines posters takers posts takes
    → IsPermutation (map (λ (r : PostReply). r.line) posts) (range_with_len 0 (length lines))
each_line lines posters takers posts takes some o =
    let key : PostReply → ℕ = λ r. r.poster in
    let line : PostReply → ℕ = λ r. r.line in
    let self : ℕ → ℕ = λ i. i in
    let n : ℕ = length lines in
    let all : List ℕ = range_with_len 0 n in
    let xs : List (ℕ × ℕ) = keyed key line posts in
    let ys : List (ℕ × ℕ) = keyed (poster_of posters) self all in
    let range : AllByRecursion (λ (r : PostReply). (1 ≤ r.poster) × (r.poster < suc posters)) posts = posters_in_range lines posters takers posts takes o in
    let low : AllByRecursion (λ r. key r < suc posters) posts =
    AllByRecursion-map (λ (r : PostReply). (1 ≤ r.poster) × (r.poster < suc posters)) (λ r. key r < suc posters) (λ r h. h.1) posts range in
    let low_records : AllByRecursion (λ i. poster_of posters i < suc posters) all =
    AllByRecursion-all (λ i. poster_of posters i < suc posters) (λ i. omega arith) all in
    let at : (a : ℕ) → a < suc posters → filter (λ (z : ℕ × ℕ). z.0 == a) xs ≡ filter (λ (z : ℕ × ℕ). z.0 == a) ys = λ a l.
    let mine : map line (posts_of a posts) ≡ own_records posters a n =
    elim (zero_or a) as (λ _. map line (posts_of a posts) ≡ own_records posters a n) [
      | inl z ↦
          let none : posts_of a posts ≡ [] = no_posts posters a posts range (λ p h. above_zero a p posters z h) in
          ap (map line) none ∙ sym (filter-none (poster_of posters) a all (AllByRecursion-all (λ i. poster_of posters i ≢ a) (λ i. omega arith) all))
      | inr g ↦
          let high : a ≤ posters = omega arith in
          o.in_file_order a g high
    ] in
    keyed_at key line a posts
    ∙ (ap (map (λ (v : ℕ). (a, v))) (mine ∙ sym (map_self (own_records posters a n))) ∙ sym (keyed_at (poster_of posters) self a all)) in
    let whole : IsPermutation xs ys =
    same_by_keys (λ (z : ℕ × ℕ). z.0) (suc posters) xs ys (keyed_below key line (suc posters) posts low)
    (keyed_below (poster_of posters) self (suc posters) all low_records) at in
    let second : ℕ × ℕ → ℕ = λ z. z.1 in
    subst (λ (u : List ℕ). IsPermutation u all) (values key line posts)
    (subst (λ (u : List ℕ). IsPermutation (map second xs) u) (values (poster_of posters) self all ∙ map_self all) (IsPermutation-map second xs ys whole))

-- no more lines were posted than there are
pub posted_few : (lines : List Line) (posters takers : ℕ) (posts : List PostReply) (takes : List TakeReply) → 1 ≤ posters
    → AreInOrder lines posters takers posts takes
    → length (posted_of false posts) + length (posted_of true posts) ≤ length lines
posted_few lines posters takers posts takes some o =
    let line : PostReply → ℕ = λ r. r.line in
    let each : length (map line posts) ≡ length (range_with_len 0 (length lines)) =
    sym (length_permutation (map line posts) (range_with_len 0 (length lines)) (each_line lines posters takers posts takes some o)) in
    omega (arith, posted_fewer posts, length-map posts line, each, length-range_with_len 0 (length lines))

abbrev pub same : ℕ → ℕ → Bool
same x y = x == y

flips : (x y : ℕ) → same x y ≡ same y x
flips x y = grind (arith, nat_tests)

later : (x a n : ℕ) → x < a → AllByRecursion (λ y. same x y ≡ false) (range_with_len a n)
later x a zero h = tt
later x a (suc n) h = (eq-no x a (omega arith), later x (a + 1) n (omega arith))

range_distinct : (a n : ℕ) → IsDistinct same (range_with_len a n)
unfolding IsDistinct
range_distinct a zero = tt
range_distinct a (suc n) = (later a (a + 1) n (omega arith), range_distinct (a + 1) n)

posted_all : (rush : Bool) (P : ℕ → Type 0) (i : ℕ) (w : PostWord) (xs : List (ℕ × ℕ)) → P i → AllByRecursion P (map (λ (x : ℕ × ℕ). x.0) xs)
    → AllByRecursion P (map (λ (x : ℕ × ℕ). x.0) (posted_by rush i w ++ xs))
posted_all false P i (word.Posted at) xs h a = (h, a)
posted_all true P i (word.Posted at) xs h a = a
posted_all false P i (word.Rushed at) xs h a = a
posted_all true P i (word.Rushed at) xs h a = (h, a)
posted_all false P i word.Busy xs h a = a
posted_all true P i word.Busy xs h a = a
posted_all false P i word.NoNode xs h a = a
posted_all true P i word.NoNode xs h a = a
posted_all false P i word.Positions xs h a = a
posted_all true P i word.Positions xs h a = a
posted_all false P i word.Spent xs h a = a
posted_all true P i word.Spent xs h a = a
posted_all false P i word.Dropped xs h a = a
posted_all true P i word.Dropped xs h a = a
posted_all false P i word.Unknown xs h a = a
posted_all true P i word.Unknown xs h a = a
posted_all false P i word.Skipped xs h a = a
posted_all true P i word.Skipped xs h a = a

all_posted : (rush : Bool) (P : ℕ → Type 0) (rs : List PostReply) → AllByRecursion P (map (λ (r : PostReply). r.line) rs)
    → AllByRecursion P (map (λ (x : ℕ × ℕ). x.0) (posted_of rush rs))
all_posted rush P [] a = tt
all_posted rush P (r ∷ rs) a = posted_all rush P r.line r.what (posted_of rush rs) a.0 (all_posted rush P rs a.1)

posted_cons : (rush : Bool) (i : ℕ) (w : PostWord) (xs : List (ℕ × ℕ)) → AllByRecursion (λ y. same i y ≡ false) (map (λ (x : ℕ × ℕ). x.0) xs)
    → IsDistinct same (map (λ (x : ℕ × ℕ). x.0) xs)
    → IsDistinct same (map (λ (x : ℕ × ℕ). x.0) (posted_by rush i w ++ xs))
unfolding IsDistinct
posted_cons false i (word.Posted at) xs h d = (h, d)
posted_cons true i (word.Posted at) xs h d = d
posted_cons false i (word.Rushed at) xs h d = d
posted_cons true i (word.Rushed at) xs h d = (h, d)
posted_cons false i word.Busy xs h d = d
posted_cons true i word.Busy xs h d = d
posted_cons false i word.NoNode xs h d = d
posted_cons true i word.NoNode xs h d = d
posted_cons false i word.Positions xs h d = d
posted_cons true i word.Positions xs h d = d
posted_cons false i word.Spent xs h d = d
posted_cons true i word.Spent xs h d = d
posted_cons false i word.Dropped xs h d = d
posted_cons true i word.Dropped xs h d = d
posted_cons false i word.Unknown xs h d = d
posted_cons true i word.Unknown xs h d = d
posted_cons false i word.Skipped xs h d = d
posted_cons true i word.Skipped xs h d = d

posted_distinct : (rush : Bool) (rs : List PostReply) → IsDistinct same (map (λ (r : PostReply). r.line) rs) → IsDistinct same (map (λ (x : ℕ × ℕ). x.0) (posted_of rush rs))
unfolding IsDistinct
posted_distinct rush [] d = tt
posted_distinct rush (r ∷ rs) d = posted_cons rush r.line r.what (posted_of rush rs) (all_posted rush (λ y. same r.line y ≡ false) rs d.0) (posted_distinct rush rs d.1)

-- no line was posted twice
pub posted_once : (rush : Bool) (lines : List Line) (posters takers : ℕ) (posts : List PostReply) (takes : List TakeReply) → 1 ≤ posters
    → AreInOrder lines posters takers posts takes
    → IsDistinct same (map (λ (x : ℕ × ℕ). x.0) (posted_of rush posts))
posted_once rush lines posters takers posts takes some o =
    let lines_of : List ℕ = map (λ (r : PostReply). r.line) posts in
    let all : List ℕ = range_with_len 0 (length lines) in
    posted_distinct rush posts
    (IsDistinct-IsPermutation same flips all lines_of (IsPermutation-sym lines_of all (each_line lines posters takers posts takes some o))
    (range_distinct 0 (length lines)))
