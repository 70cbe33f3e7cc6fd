-- What a loop that tests each number has tested so far.
use Rattle.std.proofs.Common.{Bool, add-one, refl, true, ℕ, ◌+◌, ◌≡◌}
use Rattle.std.specs.Prelude.{◌&&◌}
use Rattle.orc_sound.specs.Decisions.{all_below}

unfoldable pub passed : ℕ → (ℕ → Bool) → Bool
passed n p = all_below n p

pub passed_none : (p : ℕ → Bool) → passed 0 p ≡ true
unfolding passed
passed_none p = refl

pub passed_more : (n : ℕ) (p : ℕ → Bool) → passed (n + 1) p ≡ (passed n p && p n)
unfolding passed
passed_more n p = rw add-one refl

pub passed_all : (n : ℕ) (p : ℕ → Bool) → passed n p ≡ all_below n p
unfolding passed
passed_all n p = refl
