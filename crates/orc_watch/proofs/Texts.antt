-- The lines of a watch run, piece by piece.
use Rattle.std.proofs.Common.{◌≡◌, ◌++◌, append_assoc, ap, codes, decimal, sym, List, None, Option, Some, refl, ℕ}
use Rattle.orc_watch.specs.declared.reply.WatchReply.{WatchReply}
use Rattle.orc_watch.specs.declared.reply.WatchWord.{WatchWord}
use Rattle.orc_watch.specs.WatchText.{cell_line, now_line, reply_line, watch_word}

-- lists that are joined, from either end
pub five : (a b c d e : List ℕ) → a ++ b ++ c ++ d ++ e ≡ a ++ (b ++ (c ++ (d ++ e)))
five a b c d e = simp append_assoc

seven : (a b c d e f g : List ℕ) → a ++ (b ++ (c ++ (d ++ (e ++ (f ++ g))))) ≡ a ++ b ++ c ++ d ++ e ++ f ++ g
seven a b c d e f g = simp append_assoc

-- the line of a reply, of which end is the last
pub reply_pieces : (old end : List ℕ) (r : WatchReply) (what : WatchWord) → r.what ≡ what → watch_word what ++ codes "\n" ≡ end
    → old ++ (codes "worker " ++ (decimal r.worker ++ (codes " line " ++ (decimal r.line ++ (codes " " ++ end))))) ≡ old ++ reply_line r
reply_pieces old end r what w e =
    rw (w, ← e) (ap (λ t. old ++ t) (seven (codes "worker ") (decimal r.worker) (codes " line ") (decimal r.line) (codes " ") (watch_word what) (codes "\n")))

-- the line of both parts at last
pub now_pieces : (old : List ℕ) (left right : ℕ)
    → old ++ (codes "now " ++ (decimal left ++ (codes " " ++ (decimal right ++ codes "\n")))) ≡ old ++ now_line left right
now_pieces old left right = ap (λ t. old ++ t) (sym (five (codes "now ") (decimal left) (codes " ") (decimal right) (codes "\n")))

-- the line of what the cell has at rest
pub cell_pieces : (old : List ℕ) (given reused linked : ℕ)
    → old ++ (codes "cell given " ++ (decimal given ++ (codes " reused " ++ (decimal reused ++ (codes " linked " ++ (decimal linked ++ codes "\n"))))))
    ≡ old ++ cell_line given reused linked
cell_pieces old given reused linked =
    ap (λ t. old ++ t) (seven (codes "cell given ") (decimal given) (codes " reused ") (decimal reused) (codes " linked ") (decimal linked) (codes "\n"))

-- an option that is no value is none
pub none_without : {X : Type 0} (o : Option X) → ((x : X) → o ≡ Some x → ⊥) → o ≡ None
none_without None h = refl
none_without (Some x) h = absurd (h x refl)
