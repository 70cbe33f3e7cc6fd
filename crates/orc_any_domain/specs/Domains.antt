-- The sizes of a domain, and its passes between calls.
use Rattle.std.specs.Prelude.{All, List, length, slice_index_or, ℕ, ◌<◌, ◌≡◌}
use Rattle.orc_heap.specs.Domains.{agent}
use Rattle.orc_heap.specs.Heap.{HeapNumbers}
use Rattle.orc_heap.specs.Seats.{IsIdle}
use Rattle.orc_heap.specs.declared.links.Links.{Ghosts as LinksOf}
use Rattle.orc_words.specs.Bounds.{Bounds}

-- the heap of a domain of these sizes has its roots, and nodes with as many links as its rows
abbrev pub heap_numbers : Bounds → HeapNumbers
heap_numbers b = record { roots = b.roots; links = b.links }

module _ {L D P S N : Type 0} (members : LinksOf L D P S N) (links : L) where
  -- the pass is one of the domain, and idle
  abbrev pub IsIdlePass : P → Type 0
  IsIdlePass p = members.belongs links p × IsIdle (members.seat links p)

  -- these are all passes of the domain, in the order of their agents, and each is idle
  pub record AreAllIdle (passes : List P) : Type 0 where
    pub each : All IsIdlePass passes
    pub order : (i : ℕ) (p : P) → i < length passes → agent members links (slice_index_or passes i p) ≡ i
    pub many : length passes ≡ members.agents links
