-- Each agent of a run is a taker or a poster.
use Rattle.std.proofs.Common.{◌≡◌, ℕ, zero, suc, ◌+◌, ◌-◌, ◌≤◌, ◌<◌, List, [], ◌++◌, inl, inr, filter, ap, ◌∙◌, subst, arith}
use Rattle.orc_history.specs.declared.queue.QueueEntry.{QueueEntry}
use Rattle.orc_history.specs.declared.queue.QueueRefused.{QueueRefused}
use Rattle.orc_board.specs.Stretches.{View, Stretch, of_queue, is_own_move}
use Rattle.orc_board.specs.Follows.{taker_agent}
use Rattle.orc_board.proofs.ListFacts.{le-cases}

-- a worker's own entries of the whole history
pub own_whole : {A : Type 0} (q : View A QueueEntry QueueRefused) (agent : ℕ) (own : List QueueEntry) (k : List A) → q.history [] ≡ []
    → Stretch of_queue q agent own [] k → filter (is_own_move agent) (q.history k) ≡ own
own_whole q agent own k none t = ap (filter (is_own_move agent)) (t.is ∙ ap (λ u. u ++ t.part) none) ∙ t.own_is

later_taker : (posters takers b : ℕ) → suc b ≤ posters + takers → posters < suc b → (t : ℕ) × (posters + suc t ≡ suc b) × (suc t ≤ takers)
later_taker posters takers b low high = (b - posters, omega arith, omega arith)

pub worker_cases : (posters takers : ℕ) (P : ℕ → Type 0) → ((t : ℕ) → t ≤ takers → P (taker_agent posters t)) → ((p : ℕ) → 1 ≤ p → p ≤ posters → P p)
    → (a : ℕ) → a ≤ posters + takers → P a
worker_cases posters takers P taker poster zero low = taker 0 (omega arith)
worker_cases posters takers P taker poster (suc b) low =
    elim (le-cases (suc b) posters) as (λ _. P (suc b)) [
      | inl h ↦ poster (suc b) (omega arith) h
      | inr h ↦
          let (t, is, few) = later_taker posters takers b low h in
          subst P is (taker (suc t) few)
    ]
