-- The sizes of a run's domains, what their journals begin with, and what is left of them.
use Rattle.std.specs.Prelude.{All, List, ℕ, ◌+◌, ◌^◌, ◌≡◌}
use Rattle.orc_words.specs.Bounds.{Bounds}
use Rattle.orc_heap.specs.Seeds.{opening_events}
use Rattle.orc_heap.specs.declared.links.Links.{Ghosts as LinksOf}
use Rattle.orc_heap.specs.declared.seed.Seed.{Seed}
use Rattle.orc_heap.specs.declared.seed.Seed.TheVariants.{Dummy, Empty}
use Rattle.orc_fifo_rule.specs.declared.fifo.FifoNote.{FifoNote}
use Rattle.orc_fifo_rule.specs.declared.fifo.FifoNote.TheVariants.{Begin}

-- the sizes of a domain with so many rows, roots and agents
abbrev pub run_bounds : ℕ → ℕ → ℕ → Bounds
run_bounds rows roots agents = record { rows = rows; roots = roots; agents = agents; limit = 2 ^ 39; links = 1 }

-- the queue begins with a dummy, whose successor gets position 0, and a set with nothing
abbrev pub queue_seed : Seed FifoNote
queue_seed = Dummy 0 Begin

abbrev pub empty_seed : {N : Type 0} → Seed N
empty_seed = Empty

-- the caller, and so many workers of two kinds: posters and takers, or posters and stages
abbrev pub agents_of : ℕ → ℕ → ℕ
agents_of posters takers = 1 + (posters + takers)

-- the sizes of each queue's domain in a run of so many posters and takers with so many rows
abbrev pub queue_bounds : ℕ → ℕ → ℕ → Bounds
queue_bounds posters takers rows = run_bounds rows 2 (agents_of posters takers)

-- a domain of these sizes, which began with this seed
pub record IsMadeSo {L D P S N : Type 0} (members : LinksOf L D P S N) (bounds : L → Bounds) (b : Bounds) (seed : Seed N) (domain : L) : Type 0 where
  pub sizes : bounds domain ≡ b
  pub begins : members.opening domain ≡ opening_events seed

-- this is what is left of a domain, whose passes had all seen this journal
pub record IsLeftOf {L D P S N R : Type 0} (members : LinksOf L D P S N) (rests : L → List P → R → Type 0) (domain : L) (seen : List S) (r : R) : Type 0 where
  pub passes : List P
  pub is : rests domain passes r
  pub saw : All (λ p. members.journal p ≡ seen) passes
