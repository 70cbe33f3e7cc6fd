-- Streams in memory: how they stand between two calls. Calls are numbered from 0.
use Rattle.std.specs.Prelude.{◌+◌, ◌-◌, ◌^◌, List, ℕ, min}

-- the most bytes that a call moves, the numbers of the calls that fail, and the number of the next call
pub record Plan : Type 0 where
  pub piece : ℕ
  pub fails : List ℕ
  pub call : ℕ

-- before the first call
abbrev pub new_plan : ℕ → List ℕ → Plan
new_plan piece fails = record { piece = piece; fails = fails; call = 0 }

-- after one more call; numbers stop at the last value of a u64
abbrev pub next_plan : Plan → Plan
next_plan plan = record plan { call = min (plan.call + 1) (2 ^ 64 - 1) }

-- how many bytes a call moves that doesn't fail: those wanted, as far as they are there and fit into a piece
abbrev pub moved_count : Plan → ℕ → ℕ → ℕ
moved_count plan wanted there = min (min wanted there) plan.piece

-- a source: the bytes that are left, its plan, and its faults so far
pub record InSource : Type 0 where
  pub left : List ℕ
  pub plan : Plan
  pub faults : ℕ

-- a sink: the bytes that were written, how many it has room for in all, its plan, and its faults so far
pub record InSink : Type 0 where
  pub written : List ℕ
  pub room : ℕ
  pub plan : Plan
  pub faults : ℕ
