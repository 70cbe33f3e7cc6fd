-- What is pending comes first.
use Rattle.std.proofs.Common.{◌≡◌, ℕ, true, false, sym, ◌∙◌, refl}
use Rattle.std.specs.Prelude.{Option, Some, None}
use Rattle.std.proofs.lemmas.Bool.{false≢true}
use Rattle.orc_core.specs.declared.records.Reading.{Reading}
use Rattle.orc_core.specs.declared.ops.Op.{Op}
use Rattle.orc_core.specs.declared.ops.Op.TheVariants.{SetRetired, Inc, Arm, Dec, DecHeld}
use Rattle.orc_core.specs.Allowed.{completes, in_order, tries_bit, increments, arms_or_decrements}

no_try : (op : Op) (r q : ℕ) → completes op ≡ false → tries_bit op r q ≡ false
no_try (SetRetired x y) r q h = absurd (false≢true (sym h))
no_try op r q h = refl

no_increment : (op : Op) (r : ℕ) → completes op ≡ false → increments op r ≡ false
no_increment (Inc x) r h = absurd (false≢true (sym h))
no_increment op r h = refl

no_decrement : (op : Op) (r : ℕ) → completes op ≡ false → arms_or_decrements op r ≡ false
no_decrement (Arm x) r h = absurd (false≢true (sym h))
no_decrement (Dec x) r h = absurd (false≢true (sym h))
no_decrement (DecHeld x) r h = absurd (false≢true (sym h))
no_decrement op r h = refl

-- a kind that completes no pending change waits until nothing is pending
pub nothing_pending : (due : Option Reading) (inc dec : Option ℕ) (op : Op) → completes op ≡ false → in_order due inc dec op ≡ true
    → (due ≡ None) × (inc ≡ None) × (dec ≡ None)
nothing_pending (Some s) inc dec op n h = absurd (false≢true (sym (no_try op s.row s.number n) ∙ h))
nothing_pending None (Some r) dec op n h = absurd (false≢true (sym (no_increment op r n) ∙ h))
nothing_pending None None (Some r) op n h = absurd (false≢true (sym (no_decrement op r n) ∙ h))
nothing_pending None None None op n h = (refl, refl, refl)

-- kinds that complete no pending change wait alike
pub alike : (due : Option Reading) (inc dec : Option ℕ) (op other : Op) → completes op ≡ false → completes other ≡ false
    → in_order due inc dec op ≡ in_order due inc dec other
alike (Some s) inc dec op other n o = no_try op s.row s.number n ∙ sym (no_try other s.row s.number o)
alike None (Some r) dec op other n o = no_increment op r n ∙ sym (no_increment other r o)
alike None None (Some r) op other n o = no_decrement op r n ∙ sym (no_decrement other r o)
alike None None None op other n o = refl

-- so do the two kinds of decrement
pub decrements_alike : (due : Option Reading) (inc dec : Option ℕ) (q : ℕ) → in_order due inc dec (DecHeld q) ≡ in_order due inc dec (Dec q)
decrements_alike (Some s) inc dec q = refl
decrements_alike None (Some r) dec q = refl
decrements_alike None None (Some r) q = refl
decrements_alike None None None q = refl
