-- Generated lines: one more piece of a text, one more draw, and that they are good.
use Rattle.std.proofs.Common.{◌≡◌, ◌∙◌, ◌+◌, ◌*◌, ◌<◌, ◌≤◌, ◌%◌, ◌^◌, ◌++◌, All, List, [], ◌∷◌, ℕ, zero, suc, refl, sym, ap, arith, append_assoc, append-nil, length, map, replicate, decimal, codes, rules, add-one, mod-lt}
use Rattle.std.specs.List.{join_with_byte, sum_by}
use Rattle.std.specs.Prelude.{IsUtf8}
use Rattle.std.proofs.lemmas.Fmt.{IsAscii-decimal, length-decimal-le}
use Rattle.std.proofs.lemmas.List.{length-append, length-replicate}
use Rattle.std.proofs.lemmas.List.Elements.{All-cons, All-head, All-nil, All-tail}
use Rattle.std.proofs.lemmas.List.Sums.{sum_by-cons}
use Rattle.std.proofs.lemmas.Str.{IsUtf8-append, IsUtf8-from_ascii, IsUtf8-nil}
use Rattle.orc_jobs.specs.Generated.{behind, behind_line, drawn, draws, generated, line_from, lines_from, op_of, text_of}
use Rattle.orc_jobs.specs.GoodLines.{AreGood}
use Rattle.orc_jobs.specs.Line.{IsLine, TakesText, text_size}
use Rattle.orc_jobs.specs.declared.line.Job.{Job}
use Rattle.orc_jobs.specs.declared.line.Job.TheVariants as job
use Rattle.orc_jobs.specs.declared.line.Line.{Line}

-- ---- one more

join-one_more : (c : ℕ) (x : List ℕ) (xs : List (List ℕ)) (y : List ℕ) → join_with_byte c (x ∷ (xs ++ y ∷ [])) ≡ join_with_byte c (x ∷ xs) ++ (c ∷ y)
join-one_more c x [] y = refl
join-one_more c x (z ∷ zs) y = ap (λ t. x ++ (c ∷ t)) (join-one_more c z zs y) ∙ sym (append_assoc x (c ∷ join_with_byte c (z ∷ zs)) (c ∷ y))

-- the first piece of a text, and each further one
pub piece_first : (pieces : List (List ℕ)) (text piece : List ℕ) → length pieces ≡ 0 → text ≡ join_with_byte 32 pieces
    → text ++ piece ≡ join_with_byte 32 (pieces ++ piece ∷ [])
piece_first [] text piece none e = ap (λ t. t ++ piece) e
piece_first (p ∷ ps) text piece none e = absurd (omega (arith, none))

pub piece_next : (pieces : List (List ℕ)) (text piece : List ℕ) → 0 < length pieces → text ≡ join_with_byte 32 pieces
    → (text ++ 32 ∷ []) ++ piece ≡ join_with_byte 32 (pieces ++ piece ∷ [])
piece_next [] text piece some e = absurd (omega (arith, some))
piece_next (p ∷ ps) text piece some e = append_assoc text (32 ∷ []) piece ∙ (ap (λ t. t ++ (32 ∷ piece)) e ∙ sym (join-one_more 32 p ps piece))

replicate-suc : {A : Type 0} (n : ℕ) (x : A) → replicate (suc n) x ≡ replicate n x ++ x ∷ []
replicate-suc zero x = refl
replicate-suc (suc n) x = ap (λ t. x ∷ t) (replicate-suc n x)

pub replicate-one_more : {A : Type 0} (n : ℕ) (x : A) → replicate (n + 1) x ≡ replicate n x ++ x ∷ []
replicate-one_more n x = ap (λ k. replicate k x) (add-one n) ∙ replicate-suc n x

draws-suc : (n x : ℕ) → draws (suc n) x ≡ draws n x ++ drawn (behind n x) ∷ []
draws-suc zero x = refl
draws-suc (suc n) x = ap (λ t. drawn x ∷ t) (draws-suc n (drawn x))

behind-suc : (n x : ℕ) → behind (suc n) x ≡ drawn (behind n x)
behind-suc zero x = refl
behind-suc (suc n) x = behind-suc n (drawn x)

pub behind-one_more : (n x : ℕ) → behind (n + 1) x ≡ drawn (behind n x)
behind-one_more n x = ap (λ k. behind k x) (add-one n) ∙ behind-suc n x

-- the pieces of a text of numbers
abbrev pub pieces_of : List ℕ → List (List ℕ)
pieces_of ds = map decimal (map (λ draw. draw % 1000) ds)

pieces-one_more : (ds : List ℕ) (d : ℕ) → pieces_of (ds ++ d ∷ []) ≡ pieces_of ds ++ decimal (d % 1000) ∷ []
pieces-one_more [] d = refl
pieces-one_more (x ∷ xs) d = ap (λ t. decimal (x % 1000) ∷ t) (pieces-one_more xs d)

pub numbers-one_more : (n x : ℕ) → pieces_of (draws (n + 1) x) ≡ pieces_of (draws n x) ++ decimal (drawn (behind n x) % 1000) ∷ []
numbers-one_more n x = ap (λ k. pieces_of (draws k x)) (add-one n) ∙ (ap pieces_of (draws-suc n x) ∙ pieces-one_more (draws n x) (drawn (behind n x)))

pub length-draws : (n x : ℕ) → length (pieces_of (draws n x)) ≡ n
length-draws zero x = refl
length-draws (suc n) x = let rest = length-draws n (drawn x) in omega (arith, rest)

pub lines-one_more : (made all : List Line) (n m id x : ℕ) → n ≡ m + 1 → made ++ lines_from n id x ≡ all
    → (made ++ line_from id x ∷ []) ++ lines_from m (id + 1) (behind_line x) ≡ all
lines-one_more made all n m id x is e =
    append_assoc made (line_from id x ∷ []) (lines_from m (id + 1) (behind_line x)) ∙ (sym (ap (λ k. made ++ lines_from k id x) (is ∙ add-one m)) ∙ e)

-- ---- they are good

joined-utf8 : (ps : List (List ℕ)) → All IsUtf8 ps → IsUtf8 (join_with_byte 32 ps)
joined-utf8 [] h = IsUtf8-nil
joined-utf8 (p ∷ []) h = All-head IsUtf8 p [] h
joined-utf8 (p ∷ q ∷ ps) h =
    IsUtf8-append p (32 ∷ join_with_byte 32 (q ∷ ps)) (All-head IsUtf8 p (q ∷ ps) h)
    (IsUtf8-append (32 ∷ []) (join_with_byte 32 (q ∷ ps)) (search rules) (joined-utf8 (q ∷ ps) (All-tail IsUtf8 p (q ∷ ps) h)))

abbrev IsShort : List ℕ → Type 0
IsShort p = length p ≤ 3

joined-short : (ps : List (List ℕ)) → All IsShort ps → length (join_with_byte 32 ps) ≤ 4 * length ps
joined-short [] h = omega arith
joined-short (p ∷ []) h = let one = All-head IsShort p [] h in omega (arith, one)
joined-short (p ∷ q ∷ ps) h =
    let one = All-head IsShort p (q ∷ ps) h in
    let rest = joined-short (q ∷ ps) (All-tail IsShort p (q ∷ ps) h) in
    let both = length-append p (32 ∷ join_with_byte 32 (q ∷ ps)) in
    omega (arith, one, rest, both)

pub all-replicated : {A : Type 0} (P : A → Type 0) (n : ℕ) (x : A) → P x → All P (replicate n x)
all-replicated P zero x h = All-nil P
all-replicated P (suc n) x h = All-cons P x (replicate n x) h (all-replicated P n x h)

abbrev pub IsSmall : ℕ → Type 0
IsSmall k = k < 1000

pub small-numbers : (ds : List ℕ) → All IsSmall (map (λ draw. draw % 1000) ds)
small-numbers [] = All-nil IsSmall
small-numbers (d ∷ ds) = All-cons IsSmall (d % 1000) (map (λ draw. draw % 1000) ds) (mod-lt d {m = 1000} (omega arith)) (small-numbers ds)

pub all-mapped : {A B : Type 0} (P : A → Type 0) (Q : B → Type 0) (f : A → B) → ((x : A) → P x → Q (f x)) → (xs : List A) → All P xs → All Q (map f xs)
all-mapped P Q f g [] h = All-nil Q
all-mapped P Q f g (x ∷ xs) h = All-cons Q (f x) (map f xs) (g x (All-head P x xs h)) (all-mapped P Q f g xs (All-tail P x xs h))

pieces-utf8 : (ds : List ℕ) → All IsUtf8 (pieces_of ds)
pieces-utf8 ds = all-mapped IsSmall IsUtf8 decimal (λ k h. IsUtf8-from_ascii (decimal k) (IsAscii-decimal k (omega (arith, h)))) _ (small-numbers ds)

pieces-short : (ds : List ℕ) → All IsShort (pieces_of ds)
pieces-short ds = all-mapped IsSmall IsShort decimal (λ k h. length-decimal-le 3 k (omega arith) (omega (arith, h)) (omega (arith, h))) _ (small-numbers ds)

text-utf8 : (op : Job) (n x : ℕ) → IsUtf8 (text_of op n x)
text-utf8 job.Bytes zero x = IsUtf8-nil
text-utf8 job.Bytes (suc n) x = IsUtf8-append (120 ∷ []) (replicate n 120) (search rules) (text-utf8 job.Bytes n x)
text-utf8 job.Words n x = joined-utf8 _ (all-replicated IsUtf8 n (codes "ab") (search rules))
text-utf8 job.Sum n x = joined-utf8 _ (pieces-utf8 (draws n x))

text-short : (op : Job) (n x : ℕ) → length (text_of op n x) ≤ 4 * n
text-short job.Bytes n x = let long = length-replicate {A = ℕ} n 120 in omega (arith, long)
text-short job.Words n x =
    let long = length-replicate n (codes "ab") in
    let short = joined-short (replicate n (codes "ab")) (all-replicated IsShort n (codes "ab") (omega arith)) in
    omega (arith, long, short)
text-short job.Sum n x =
    let long = length-draws n x in
    let short = joined-short (pieces_of (draws n x)) (pieces-short (draws n x)) in
    omega (arith, long, short)

abbrev IsBelow32 : ℕ → Type 0
IsBelow32 k = k < 2 ^ 32

small-below : (ns : List ℕ) → All IsSmall ns → All IsBelow32 ns
small-below [] h = All-nil IsBelow32
small-below (n ∷ ns) h = let one = All-head IsSmall n ns h in All-cons IsBelow32 n ns (omega (arith, one)) (small-below ns (All-tail IsSmall n ns h))

text-taken : (op : Job) (n x : ℕ) → TakesText op (text_of op n x)
text-taken job.Bytes n x = tt
text-taken job.Words n x = tt
text-taken job.Sum n x = (map (λ draw. draw % 1000) (draws n x), record { small = small-below _ (small-numbers (draws n x)); spelling = refl })

is-line : (id x : ℕ) → id < 2 ^ 32 → IsLine (line_from id x)
is-line id x small =
    let op = op_of (drawn x) in
    let y = drawn (drawn x) in
    (small, text-utf8 op (y % 8) y, text-taken op (y % 8) y)

line-short : (id x : ℕ) → text_size (line_from id x) ≤ 28
line-short id x =
    let y = drawn (drawn x) in
    let few = mod-lt y {m = 8} (omega arith) in
    let short = text-short (op_of (drawn x)) (y % 8) y in
    omega (arith, few, short)

pub are-lines : (n id x : ℕ) → id + n ≤ 60000 → All IsLine (lines_from n id x)
are-lines zero id x small = All-nil IsLine
are-lines (suc n) id x small = All-cons IsLine (line_from id x) (lines_from n (id + 1) (behind_line x)) (is-line id x (omega (arith, small)))
    (are-lines n (id + 1) (behind_line x) (omega (arith, small)))

lines-short : (n id x : ℕ) → sum_by text_size (lines_from n id x) ≤ 28 * n
lines-short zero id x = omega arith
lines-short (suc n) id x =
    let rest = lines-short n (id + 1) (behind_line x) in
    let one = line-short id x in
    let both = sum_by-cons text_size (line_from id x) (lines_from n (id + 1) (behind_line x)) in
    omega (arith, rest, one, both)

pub length-lines : (n id x : ℕ) → length (lines_from n id x) ≡ n
length-lines zero id x = refl
length-lines (suc n) id x = let rest = length-lines n (id + 1) (behind_line x) in omega (arith, rest)

pub generated-good : (seed n : ℕ) → n ≤ 60000 → AreGood (generated seed n)
generated-good seed n few =
    let long = length-lines n 0 seed in
    let short = lines-short n 0 seed in
    record { few = omega (arith, long, few); each = are-lines n 0 seed (omega (arith, few)); small = omega (arith, short, few) }

-- where nothing is left to make
pub all-made : (made : List Line) (n id x seed lines : ℕ) → n ≡ 0 → made ++ lines_from n id x ≡ generated seed lines → made ≡ generated seed lines
all-made made n id x seed lines none e = sym (append-nil made) ∙ (sym (ap (λ k. made ++ lines_from k id x) none) ∙ e)
