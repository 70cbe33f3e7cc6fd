-- One entry more of a set's history, and sets of keys in another order.
use Rattle.std.proofs.Common.{◌≡◌, ℕ, ◌+◌, ◌≤◌, List, [], ◌∷◌, ◌++◌, length, length-append, Bool, true, false, not, ◌==◌, arith, refl}
use Rattle.std.proofs.lemmas.List.Filters.{length-filter_both}
use Rattle.std.specs.List.Sorted.{IsPermutation}
use Rattle.std.proofs.lemmas.List.Sorted.{IsPermutation-append_left, list_any-IsPermutation}
use Rattle.orc_history.specs.declared.set.SetEntry.{SetEntry}
use Rattle.orc_history.specs.declared.set.SetEntry.TheVariants.{Added, Removed, Asked}
use Rattle.orc_history.specs.SetHistory.{IsLegalSetFrom, keys_after, with_key, without_key, has}
use Rattle.orc_history.proofs.Permutations.{IsPermutation-filter}

pub keys_after-snoc : (w : List ℕ) (es : List SetEntry) (e : SetEntry) → keys_after w (es ++ e ∷ []) ≡ keys_after (keys_after w es) (e ∷ [])
keys_after-snoc w [] e = refl
keys_after-snoc w (Added agent key answer ∷ es) e = keys_after-snoc (with_key key answer w) es e
keys_after-snoc w (Removed agent key answer ∷ es) e = keys_after-snoc (without_key key answer w) es e
keys_after-snoc w (Asked agent key answer ∷ es) e = keys_after-snoc w es e

-- one entry more, where it fits the keys
pub IsLegalSetFrom-snoc : (w : List ℕ) (es : List SetEntry) (e : SetEntry)
    → IsLegalSetFrom w es → IsLegalSetFrom (keys_after w es) (e ∷ []) → IsLegalSetFrom w (es ++ e ∷ [])
IsLegalSetFrom-snoc w [] e legal fits = fits
IsLegalSetFrom-snoc w (Added agent key answer ∷ es) e legal fits = (legal.0, IsLegalSetFrom-snoc (with_key key answer w) es e legal.1 fits)
IsLegalSetFrom-snoc w (Removed agent key answer ∷ es) e legal fits = (legal.0, IsLegalSetFrom-snoc (without_key key answer w) es e legal.1 fits)
IsLegalSetFrom-snoc w (Asked agent key answer ∷ es) e legal fits = (legal.0, IsLegalSetFrom-snoc w es e legal.1 fits)

pub has-IsPermutation : (key : ℕ) (xs ys : List ℕ) → IsPermutation xs ys → has key xs ≡ has key ys
has-IsPermutation key = list_any-IsPermutation _

pub IsPermutation-with_key : (key : ℕ) (answer : Bool) (xs ys : List ℕ) → IsPermutation xs ys → IsPermutation (with_key key answer xs) (with_key key answer ys)
IsPermutation-with_key key true xs ys same = IsPermutation-append_left (key ∷ []) xs ys same
IsPermutation-with_key key false xs ys same = same

pub IsPermutation-without_key : (key : ℕ) (answer : Bool) (xs ys : List ℕ) → IsPermutation xs ys
    → IsPermutation (without_key key answer xs) (without_key key answer ys)
IsPermutation-without_key key true xs ys same = IsPermutation-filter _ xs ys same
IsPermutation-without_key key false xs ys same = same

pub length-with_key : (key : ℕ) (answer : Bool) (keys : List ℕ) → length (with_key key answer keys) ≤ length keys + 1
length-with_key key true keys = omega (arith, length-append keys (key ∷ []))
length-with_key key false keys = omega arith

pub length-without_key : (key : ℕ) (answer : Bool) (keys : List ℕ) → length (without_key key answer keys) ≤ length keys
length-without_key key true keys = omega (arith, length-filter_both (λ k. not (k == key)) (λ k. not (not (k == key))) (λ _. refl) keys)
length-without_key key false keys = omega arith
