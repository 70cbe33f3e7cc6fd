-- Texts of numbers, and the pieces between their spaces.
use Rattle.std.proofs.Common.{◌≡◌, ◌∙◌, ◌+◌, ◌^◌, ◌<◌, ◌==◌, List, [], ◌∷◌, ℕ, zero, suc, true, false, refl, arith, ap, ap₂, sym, length, get_or, inl, map, All, take, sum, Option, Some, None, IfSome, IfNone, is_some}
use Rattle.std.specs.Fmt.{decimal}
use Rattle.std.specs.List.{join_with_byte, slice_split}
use Rattle.std.proofs.lemmas.Fmt.{decimal_injective, decimal_nonempty}
use Rattle.std.proofs.lemmas.List.Elements.{All-cons, All-get_or, All-head, All-more, All-nil, All-same, All-tail}
use Rattle.std.proofs.lemmas.List.{length-map, take_all}
use Rattle.std.proofs.lemmas.List.Sums.{sum_by_more}
use Rattle.std.proofs.lemmas.List.Splits.{join_with_byte-slice_split, slice_split_at, slice_split_none}
use Rattle.orc_decimal.proofs.Numerals.{decimal_no_byte}
use Rattle.orc_jobs.specs.Numbers.{IsNumber, IsNumberList, SpellsNumbers}

abbrev pub IsSmall : ℕ → Type 0
IsSmall n = n < 2 ^ 32

-- no digit is a space
decimal_no_space : (n : ℕ) → n < 2 ^ 32 → All (λ b. (b == 32) ≡ false) (decimal n)
decimal_no_space n small = decimal_no_byte 32 n (inl (omega arith)) (omega arith)

-- the pieces of a text between its spaces
abbrev pub pieces_of : List ℕ → List (List ℕ)
pieces_of text = slice_split (λ b. b == 32) text

-- the pieces of some spelled numbers are their prints
pub pieces_of-joined : (n : ℕ) (ns : List ℕ) → All IsSmall (n ∷ ns) → pieces_of (join_with_byte 32 (map decimal (n ∷ ns))) ≡ map decimal (n ∷ ns)
pieces_of-joined n [] small = slice_split_none (λ b. b == 32) (decimal n) (decimal_no_space n (All-head IsSmall n [] small))
pieces_of-joined n (m ∷ ms) small =
    let rest = pieces_of-joined m ms (All-tail IsSmall n (m ∷ ms) small) in
    slice_split_at (λ b. b == 32) (decimal n) 32 (join_with_byte 32 (map decimal (m ∷ ms))) (decimal_no_space n (All-head IsSmall n (m ∷ ms) small)) refl
    ∙ ap (λ (t : List (List ℕ)). decimal n ∷ t) rest

pub pieces_of-spelled : (n : ℕ) (ns text : List ℕ) → SpellsNumbers (n ∷ ns) text → pieces_of text ≡ map decimal (n ∷ ns)
pieces_of-spelled n ns text h = rw h.spelling (pieces_of-joined n ns h.small)

-- pieces that are numbers are the prints of some numbers
numbers_of : (pieces : List (List ℕ)) → All IsNumber pieces → (ns : List ℕ) × All IsSmall ns × (pieces ≡ map decimal ns)
numbers_of [] h = ([], All-nil IsSmall, refl)
numbers_of (p ∷ ps) h =
    let first = All-head IsNumber p ps h in
    let rest = numbers_of ps (All-tail IsNumber p ps h) in
    (first.0 ∷ rest.0, All-cons IsSmall first.0 rest.0 first.1 rest.1, ap₂ (λ (x : List ℕ) (xs : List (List ℕ)). x ∷ xs) first.2 rest.2)

pub IsNumberList-from_pieces : (text : List ℕ) → All IsNumber (pieces_of text) → IsNumberList text
IsNumberList-from_pieces text h =
    let found = numbers_of (pieces_of text) h in
    (found.0, record { small = found.1; spelling = sym (join_with_byte-slice_split 32 text) ∙ ap (join_with_byte 32) found.2 })

-- a piece at a place of some spelled numbers is the print of the number there
print_at : (ns : List ℕ) (i : ℕ) (d : List ℕ) → i < length ns → get_or (map decimal ns) i d ≡ decimal (get_or ns i 0)
print_at [] i d lt = absurd (omega (arith, lt))
print_at (n ∷ ns) zero d lt = refl
print_at (n ∷ ns) (suc i) d lt = print_at ns i d (omega (arith, lt))

pub length-pieces : (n : ℕ) (ns text : List ℕ) → SpellsNumbers (n ∷ ns) text → length (pieces_of text) ≡ length (n ∷ ns)
length-pieces n ns text h = ap length (pieces_of-spelled n ns text h) ∙ length-map (n ∷ ns) decimal

piece_at : (n : ℕ) (ns text : List ℕ) (i : ℕ) (d : List ℕ) → SpellsNumbers (n ∷ ns) text → i < length (pieces_of text)
    → get_or (pieces_of text) i d ≡ decimal (get_or (n ∷ ns) i 0)
piece_at n ns text i d h lt =
    let size = length-pieces n ns text h in
    ap (λ (t : List (List ℕ)). get_or t i d) (pieces_of-spelled n ns text h) ∙ print_at (n ∷ ns) i d (omega (arith, size, lt))

small_at : (ns : List ℕ) (i : ℕ) → All IsSmall ns → i < length ns → IsSmall (get_or ns i 0)
small_at ns i small lt = All-get_or IsSmall ns i 0 lt small

-- each piece of a text that spells some numbers is a number
pub piece-number : (text : List ℕ) (i : ℕ) (d : List ℕ) → 0 < length text → i < length (pieces_of text) → IsNumberList text
    → IsNumber (get_or (pieces_of text) i d)
piece-number text i d some lt ([], spells) = let size = ap length spells.spelling in absurd (omega (arith, size, some))
piece-number text i d some lt (n ∷ ns, spells) =
    let size = length-pieces n ns text spells in
    (get_or (n ∷ ns) i 0, small_at (n ∷ ns) i spells.small (omega (arith, size, lt)), piece_at n ns text i d spells lt)

-- a text of some numbers is not empty
nonempty : (n : ℕ) (ns : List ℕ) → SpellsNumbers (n ∷ ns) [] → ⊥
nonempty n ns h =
    let pieces : ([] ∷ []) ≡ map decimal (n ∷ ns) = pieces_of-spelled n ns [] h in
    let first : [] ≡ decimal n = ap (λ (t : List (List ℕ)). get_or t 0 []) pieces in
    let size = ap length first in
    let some = decimal_nonempty n (let small = All-head IsSmall n ns h.small in omega (arith, small)) in
    omega (arith, size, some)

same_numbers : (a b : List ℕ) → All IsSmall a → All IsSmall b → map decimal a ≡ map decimal b → a ≡ b
same_numbers [] [] h k e = refl
same_numbers [] (y ∷ ys) h k e = cc e
same_numbers (x ∷ xs) [] h k e = cc e
same_numbers (x ∷ xs) (y ∷ ys) h k e =
    let first : decimal x ≡ decimal y = cc e in
    let rest : map decimal xs ≡ map decimal ys = cc e in
    let p = All-head IsSmall x xs h in
    let q = All-head IsSmall y ys k in
    ap₂ (λ n ns. n ∷ ns) (decimal_injective x y (omega (arith, p)) (omega (arith, q)) first)
    (same_numbers xs ys (All-tail IsSmall x xs h) (All-tail IsSmall y ys k) rest)

pub SpellsNumbers-unique : (a b text : List ℕ) → SpellsNumbers a text → SpellsNumbers b text → a ≡ b
SpellsNumbers-unique [] [] text h k = refl
SpellsNumbers-unique [] (y ∷ ys) text h k = absurd (nonempty y ys (rw h.spelling at k))
SpellsNumbers-unique (x ∷ xs) [] text h k = absurd (nonempty x xs (rw k.spelling at h))
SpellsNumbers-unique (x ∷ xs) (y ∷ ys) text h k =
    same_numbers (x ∷ xs) (y ∷ ys) h.small k.small (sym (pieces_of-spelled x xs text h) ∙ pieces_of-spelled y ys text k)

-- ---- sums of the numbers in front

-- the next piece is a number
pub sum-take_more : (numbers text : List ℕ) (i n : ℕ) (piece : List ℕ) → SpellsNumbers numbers text → i < length (pieces_of text)
    → piece ≡ get_or (pieces_of text) i piece
    → n < 2 ^ 32 → piece ≡ decimal n → sum (take i numbers) + n ≡ sum (take (i + 1) numbers)
sum-take_more [] text i n piece h lt at small e =
    let one : pieces_of text ≡ [] ∷ [] = ap pieces_of h.spelling in
    let few = ap length one in
    let first : i ≡ 0 = omega (arith, few, lt) in
    let none : decimal n ≡ [] = sym e ∙ at ∙ ap (λ (t : List (List ℕ)). get_or t i piece) one ∙ ap (λ k. get_or ([] ∷ []) k piece) first in
    let size = ap length none in
    let some = decimal_nonempty n (omega (arith, small)) in
    absurd (omega (arith, size, some))
sum-take_more (m ∷ ms) text i n piece h lt at small e =
    let size = length-pieces m ms text h in
    let inside : i < length (m ∷ ms) = omega (arith, size, lt) in
    let print : decimal n ≡ decimal (get_or (m ∷ ms) i 0) = sym e ∙ at ∙ piece_at m ms text i piece h lt in
    let there = small_at (m ∷ ms) i h.small inside in
    let same : n ≡ get_or (m ∷ ms) i 0 = decimal_injective n (get_or (m ∷ ms) i 0) (omega (arith, small)) (omega (arith, there)) print in
    rw same (sym (sum_by_more (λ x. x) (m ∷ ms) i 0 inside))

-- the next piece is none: the text is empty
pub sum-take_skip : (numbers text : List ℕ) (i : ℕ) (piece : List ℕ) → SpellsNumbers numbers text → i < length (pieces_of text)
    → piece ≡ get_or (pieces_of text) i piece
    → ¬ IsNumber piece → sum (take i numbers) ≡ sum (take (i + 1) numbers)
sum-take_skip [] text i piece h lt at other = rw (take_all {A = ℕ} i [] (omega arith), take_all {A = ℕ} (i + 1) [] (omega arith)) refl
sum-take_skip (m ∷ ms) text i piece h lt at other =
    let size = length-pieces m ms text h in
    absurd (other (get_or (m ∷ ms) i 0, small_at (m ∷ ms) i h.small (omega (arith, size, lt)), at ∙ piece_at m ms text i piece h lt))

pub sum-take_all : (numbers text : List ℕ) (i : ℕ) → SpellsNumbers numbers text → i ≡ length (pieces_of text) → sum (take i numbers) ≡ sum numbers
sum-take_all [] text i h e = rw (take_all {A = ℕ} i [] (omega arith)) refl
sum-take_all (m ∷ ms) text i h e =
    let size = length-pieces m ms text h in
    rw (take_all i (m ∷ ms) (omega (arith, e, size))) refl

-- ---- what a loop over the pieces learns, at the piece at place i

pub number-read : (o : Option ℕ) (text : List ℕ) → IfSome o (λ n. (n < 2 ^ 32) × (text ≡ decimal n)) → is_some o ≡ true → IsNumber text
number-read None text h e = cc e
number-read (Some n) text h e = (n, h.0, h.1)

pub number-unread : (o : Option ℕ) (text : List ℕ) → IfNone o (¬ IsNumber text) → is_some o ≡ false → ¬ IsNumber text
number-unread None text h e = h
number-unread (Some n) text h e = cc e

pub number-missed : (o : Option ℕ) (text : List ℕ) → IfNone o (¬ IsNumber text) → ((n : ℕ) → o ≡ Some n → ⊥) → ¬ IsNumber text
number-missed None text h e = h
number-missed (Some n) text h e = absurd (e n refl)

pub one-is-none : (text : List ℕ) (i : ℕ) (piece : List ℕ) → 0 < length text → i < length (pieces_of text) → piece ≡ get_or (pieces_of text) i piece
    → ¬ IsNumber piece → ¬ IsNumberList text
one-is-none text i piece some lt at other list =
    let there = piece-number text i piece some lt list in
    other (there.0, there.1, at ∙ there.2)

pub one-more : (text : List ℕ) (i : ℕ) (piece : List ℕ) → i < length (pieces_of text) → piece ≡ get_or (pieces_of text) i piece
    → All IsNumber (take i (pieces_of text)) → IsNumber piece
    → All IsNumber (take (i + 1) (pieces_of text))
one-more text i piece lt at before number = All-more IsNumber (pieces_of text) i piece lt before (number.0, number.1, sym at ∙ number.2)

pub all-numbers : (text : List ℕ) (i : ℕ) → i ≡ length (pieces_of text) → All IsNumber (take i (pieces_of text)) → IsNumberList text
all-numbers text i e before =
    IsNumberList-from_pieces text (All-same IsNumber (pieces_of text) (take i (pieces_of text)) (sym (take_all i (pieces_of text) (omega (arith, e)))) before)
