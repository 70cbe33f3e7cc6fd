-- One entry more of a queue's history, and of any history.
use Rattle.std.proofs.Common.{◌≡◌, ℕ, ◌+◌, List, [], ◌∷◌, ◌++◌, length, drop, refl, arith, add-zero, subst}
use Rattle.orc_history.specs.declared.queue.QueueEntry.{QueueEntry}
use Rattle.orc_history.specs.declared.queue.QueueEntry.TheVariants.{Put, Took, Empty}
use Rattle.orc_history.specs.QueueHistory.{IsLegalFrom, waiting_after, puts_in}

pub waiting_after-snoc : (w : List (ℕ × ℕ)) (es : List QueueEntry) (e : QueueEntry)
    → waiting_after w (es ++ e ∷ []) ≡ waiting_after (waiting_after w es) (e ∷ [])
waiting_after-snoc w [] e = refl
waiting_after-snoc w (Put agent job at ∷ es) e = waiting_after-snoc (w ++ (job, at) ∷ []) es e
waiting_after-snoc w (Took agent job at ∷ es) e = waiting_after-snoc (drop 1 w) es e
waiting_after-snoc w (Empty agent ∷ es) e = waiting_after-snoc w es e

pub puts_in-append : (es fs : List QueueEntry) → puts_in (es ++ fs) ≡ puts_in es + puts_in fs
puts_in-append [] fs = omega arith
puts_in-append (Put agent job at ∷ es) fs = omega (arith, puts_in-append es fs)
puts_in-append (Took agent job at ∷ es) fs = puts_in-append es fs
puts_in-append (Empty agent ∷ es) fs = puts_in-append es fs

-- one entry more, where it fits what waits
pub IsLegalFrom-snoc : (n : ℕ) (w : List (ℕ × ℕ)) (es : List QueueEntry) (e : QueueEntry)
    → IsLegalFrom n w es → IsLegalFrom (n + puts_in es) (waiting_after w es) (e ∷ []) → IsLegalFrom n w (es ++ e ∷ [])
IsLegalFrom-snoc n w [] e legal fits = subst (λ k. IsLegalFrom k w (e ∷ [])) (add-zero n) fits
IsLegalFrom-snoc n w (Put agent job at ∷ es) e legal fits =
    let same : n + (puts_in es + 1) ≡ (n + 1) + puts_in es = omega arith in (
      legal.0,
      IsLegalFrom-snoc (n + 1) (w ++ (job, at) ∷ []) es e legal.1
          (subst (λ k. IsLegalFrom k (waiting_after (w ++ (job, at) ∷ []) es) (e ∷ [])) same fits),
    )
IsLegalFrom-snoc n w (Took agent job at ∷ es) e (rest, is, legal) fits =
    (rest, is, IsLegalFrom-snoc n rest es e legal (rw is at fits))
IsLegalFrom-snoc n w (Empty agent ∷ es) e legal fits = (legal.0, IsLegalFrom-snoc n w es e legal.1 fits)

pub length-nil : {A : Type 0} {xs : List A} → length xs ≡ 0 → xs ≡ []
length-nil {xs = []} e = refl
length-nil {xs = x ∷ xs} e = cc
