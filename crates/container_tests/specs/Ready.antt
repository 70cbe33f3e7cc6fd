-- A pass that is ready to build a stack at the root of its agent.
use Rattle.std.specs.Prelude.{None, ℕ, ◌<◌}
use Rattle.links_example.specs.Stacks.{HasTop}
use Rattle.orc_heap.specs.Heap.{HeapNumbers}
use Rattle.orc_heap.specs.Seats.{IsIdle, Seat}

-- it holds nothing, and its agent has a root, which is null
pub record HasEmptyRoot (n : HeapNumbers) (s : Seat ℕ) : Type 0 where
  pub idle : IsIdle s
  pub root : s.agent < n.roots
  pub empty : HasTop n s None
