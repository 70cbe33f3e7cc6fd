-- Replies that can be reported have lines, and positions below their number.
use Rattle.std.proofs.Common.{◌≡◌, ◌++◌, append_assoc, codes, decimal, Bool, true, false, ℕ, zero, suc, ◌+◌, ◌≤◌, ◌<◌, List, [], ◌∷◌, length, map, refl, ap, sym, ◌∙◌, subst, arith}
use mathlib.Core.Bool.{beq}
use Rattle.std.specs.List.{range_with_len, AllByRecursion}
use Rattle.std.specs.List.Sorted.{IsPermutation}
use Rattle.std.proofs.lemmas.List.{length-map}
use Rattle.std.proofs.lemmas.List.Sorted.{IsPermutation-map, IsPermutation-trans, All-permutation, length_permutation}
use Rattle.std.proofs.lemmas.Option.{slice_get_within}
use Rattle.orc_jobs.specs.declared.line.Line.{Line}
use Rattle.orc_board.specs.declared.replies.PostReply.{PostReply}
use Rattle.orc_board.specs.declared.replies.PostWord.{PostWord}
use Rattle.orc_board.specs.declared.replies.TakeReply.{TakeReply}
use Rattle.orc_board.specs.declared.replies.TakeWord.{TakeWord}
use Rattle.orc_board.specs.Reportable.{AreReportableOf, IsClaim, claim_of, is_side, posted_of, takes_with}
use Rattle.orc_board.proofs.ListFacts.{AllByRecursion-filter, AllByRecursion-map}
use Rattle.orc_report.proofs.PositionOrder.{every_at, all_of, AllByRecursion-by_key}
use Rattle.orc_report.specs.Report.{board_row, by_position, post_line, post_word, rest_line, side_word, take_line, take_word}

numbers_below : (n k m : ℕ) → n + k ≤ m → AllByRecursion (λ x. x < m) (range_with_len n k)
numbers_below n zero m h = tt
numbers_below n (suc k) m h = (omega (arith, h), numbers_below (n + 1) k m (omega (arith, h)))

AllByRecursion-from_map : {X Y : Type 0} (P : Y → Type 0) (f : X → Y) (xs : List X) → AllByRecursion P (map f xs) → AllByRecursion (λ x. P (f x)) xs
AllByRecursion-from_map P f [] h = tt
AllByRecursion-from_map P f (x ∷ xs) h = (h.0, AllByRecursion-from_map P f xs h.1)

map-claims : (takes : List TakeReply) → map (λ (x : ℕ × ℕ). x.1) (map claim_of takes) ≡ map (λ (r : TakeReply). r.at) takes
map-claims [] = refl
map-claims (r ∷ rs) = ap (λ z. r.at ∷ z) (map-claims rs)

-- of each queue
pub positions_below : (rush : Bool) (posts : List PostReply) (takes : List TakeReply) → AreReportableOf rush posts takes
    → AllByRecursion (λ (r : TakeReply). r.at < length (takes_with rush takes)) (takes_with rush takes)
positions_below rush posts takes h =
    let posted : List (ℕ × ℕ) = posted_of rush posts in
    let taken : List TakeReply = takes_with rush takes in
    let n : ℕ = length posted in
    let moved : IsPermutation (range_with_len 0 n) (map (λ (r : TakeReply). r.at) taken) =
    subst (IsPermutation (range_with_len 0 n)) (map-claims taken)
    (IsPermutation-trans (range_with_len 0 n) (map (λ (x : ℕ × ℕ). x.1) posted) (map (λ (x : ℕ × ℕ). x.1) (map claim_of taken)) h.positions
    (IsPermutation-map (λ (x : ℕ × ℕ). x.1) posted (map claim_of taken) h.claims)) in
    let long : length taken ≡ n = sym (length-map taken claim_of) ∙ length_permutation posted (map claim_of taken) h.claims in
    let below : AllByRecursion (λ x. x < n) (map (λ (r : TakeReply). r.at) taken) =
    every_at (λ x. x < n) (map (λ (r : TakeReply). r.at) taken)
    (All-permutation (λ x. x < n) (range_with_len 0 n) (map (λ (r : TakeReply). r.at) taken) moved
    (all_of (λ x. x < n) (range_with_len 0 n) (numbers_below 0 n n (omega arith)))) in
    subst (λ m. AllByRecursion (λ (r : TakeReply). r.at < m) taken) (sym long) (AllByRecursion-from_map (λ x. x < n) (λ (r : TakeReply). r.at) taken below)

-- each take reply has a line
pub lines_below : (lines : List Line) (takes : List TakeReply) → AllByRecursion (IsClaim lines) takes
    → AllByRecursion (λ (r : TakeReply). r.line < length lines) takes
lines_below lines takes claimed =
    AllByRecursion-map (IsClaim lines) (λ (r : TakeReply). r.line < length lines) (λ r c. slice_get_within lines r.line _ c.job.is) takes claimed

-- whether two bits are equal tells whether a take is of a queue
pub side_equal : (side rush : Bool) → beq side rush ≡ is_side rush side
side_equal true true = refl
side_equal true false = refl
side_equal false true = refl
side_equal false false = refl

pub board_lines : (rush : Bool) (lines : List Line) (takes : List TakeReply) → AllByRecursion (λ (r : TakeReply). r.line < length lines) takes
    → AllByRecursion (λ (r : TakeReply). r.line < length lines) (by_position (takes_with rush takes))
board_lines rush lines takes all =
    AllByRecursion-by_key (λ (r : TakeReply). r.line < length lines) (λ (r : TakeReply). r.at) (length (takes_with rush takes)) (takes_with rush takes)
    (AllByRecursion-filter (λ (r : TakeReply). r.line < length lines) (λ (r : TakeReply). is_side rush r.rush) takes all)

-- lists that are joined, from either end
pieces : (h a s b c d t : List ℕ) → h ++ (a ++ (s ++ (b ++ (s ++ (c ++ (s ++ (d ++ t))))))) ≡ h ++ a ++ s ++ b ++ s ++ c ++ s ++ d ++ t
pieces h a s b c d t = simp append_assoc

five : (a b c d e f g : List ℕ) → a ++ (b ++ (c ++ (d ++ (e ++ (f ++ g))))) ≡ a ++ b ++ c ++ d ++ e ++ f ++ g
five a b c d e f g = simp append_assoc

seven : (a b c d e f g h : List ℕ) → a ++ (b ++ (c ++ (d ++ (e ++ (f ++ (g ++ h)))))) ≡ a ++ b ++ c ++ d ++ e ++ f ++ g ++ h
seven a b c d e f g h = simp append_assoc

three : (a b c d : List ℕ) → a ++ b ++ c ++ d ≡ a ++ (b ++ (c ++ d))
three a b c d = simp append_assoc

-- the line of a taker's reply, piece by piece
pub take_pieces : (old : List ℕ) (r : TakeReply) (side : List ℕ) (what : TakeWord) → side ≡ side_word r.rush → r.what ≡ what
    → old ++ (codes "taker " ++ (decimal r.taker ++ (codes " " ++ (side ++ (codes " " ++ (decimal r.at ++ (codes " " ++ (take_word what ++ codes "\n"))))))))
    ≡ old ++ take_line r
take_pieces old r side what s w =
    rw (s, w) (ap (λ t. old ++ t) (pieces (codes "taker ") (decimal r.taker) (codes " ") (side_word r.rush) (decimal r.at) (take_word what) (codes "\n")))

-- the line of a poster's reply, piece by piece, of which end is the last
pub post_pieces : (old put end : List ℕ) (r : PostReply) (what : PostWord) → r.what ≡ what → post_word put what ++ codes "\n" ≡ end
    → old ++ (codes "poster " ++ (decimal r.poster ++ (codes " line " ++ (decimal r.line ++ (codes " " ++ end))))) ≡ old ++ post_line put r
post_pieces old put end r what w e =
    rw (w, ← e) (ap (λ t. old ++ t) (five (codes "poster ") (decimal r.poster) (codes " line ") (decimal r.line) (codes " ") (post_word put what) (codes "\n")))

-- the end of the line of a post that has a position
pub posted_end : (put : List ℕ) (at : ℕ) → put ++ codes " " ++ decimal at ++ codes "\n" ≡ put ++ (codes " " ++ (decimal at ++ codes "\n"))
posted_end put at = three put (codes " ") (decimal at) (codes "\n")

-- the board's line of a position, piece by piece
pub board_pieces : (old : List ℕ) (at place id : ℕ) (given what : TakeWord) → given ≡ what
    → old ++ (decimal at ++ (codes " line " ++ (decimal place ++ (codes " id " ++ (decimal id ++ (codes " " ++ (take_word what ++ codes "\n")))))))
    ≡ old ++ board_row at place id given
board_pieces old at place id given what w =
    rw w (ap (λ t. old ++ t) (seven (decimal at) (codes " line ") (decimal place) (codes " id ") (decimal id) (codes " ") (take_word what) (codes "\n")))

-- the line of what a container has at rest, piece by piece
pub rest_pieces : (old name : List ℕ) (given reused linked : ℕ)
    → old ++ (name ++ (codes " given " ++ (decimal given ++ (codes " reused " ++ (decimal reused ++ (codes " linked " ++ (decimal linked ++ codes "\n")))))))
    ≡ old ++ rest_line name given reused linked
rest_pieces old name given reused linked =
    ap (λ t. old ++ t) (seven name (codes " given ") (decimal given) (codes " reused ") (decimal reused) (codes " linked ") (decimal linked) (codes "\n"))
