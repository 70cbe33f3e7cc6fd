-- Passes whose agents are numbered.
use Rattle.std.proofs.Common.{List, [], arith, length, suc, zero, ℕ, ◌+◌, ◌<◌, ◌∙◌, ◌∷◌, ◌≡◌, ◌≢◌}
use Rattle.std.specs.List.{AllByRecursion}
use Rattle.std.specs.Prelude.{slice_index_or}
use Rattle.orc_any_domain.specs.Learning.{HoldsSame}
use Rattle.orc_history.specs.Lists.{Pairwise}
use Rattle.orc_domain.specs.Drains.{AreNumbered}
use Rattle.orc_heap.specs.Seats.{Seat}

module _ {N W : Type 0} (seat : W → Seat N) where
  pub numbered_all : (n : ℕ) (vs ws : List W) → Pairwise (HoldsSame seat) vs ws → AreNumbered seat n vs → AreNumbered seat n ws
  numbered_all n [] [] h k = tt
  numbered_all n (v ∷ vs) (w ∷ ws) h k = (h.0.agent ∙ k.0, numbered_all (suc n) vs ws h.1 k.1)
  numbered_all n [] (w ∷ ws) h k = absurd h
  numbered_all n (v ∷ vs) [] h k = absurd h

  -- an agent before all of them is none of theirs
  pub agents_differ : (a n : ℕ) (ws : List W) → a < n → AreNumbered seat n ws → AllByRecursion (λ p. a ≢ (seat p).agent) ws
  agents_differ a n [] l k = tt
  agents_differ a n (w ∷ ws) l k = ((λ e. let o = k.0 in omega (arith, l, e, o)), agents_differ a (suc n) ws (omega (arith, l)) k.1)

  pub number_at : (n : ℕ) (ws : List W) → AreNumbered seat n ws → (i : ℕ) (d : W) → i < length ws → (seat (slice_index_or ws i d)).agent ≡ n + i
  number_at n [] k i d l = absurd (omega (arith, l))
  number_at n (w ∷ ws) k zero d l = let e = k.0 in omega (arith, e)
  number_at n (w ∷ ws) k (suc i) d l = let e = number_at (suc n) ws k.1 i d (omega (arith, l)) in omega (arith, e)

  pub numbered_by : (n : ℕ) (ws : List W) → ((i : ℕ) (d : W) → i < length ws → (seat (slice_index_or ws i d)).agent ≡ n + i) → AreNumbered seat n ws
  numbered_by n [] h = tt
  numbered_by n (w ∷ ws) h = (
    (let e = h zero w (omega arith) in omega (arith, e)),
    numbered_by (suc n) ws (λ i d l. let e = h (suc i) d (omega (arith, l)) in omega (arith, e)),
  )
