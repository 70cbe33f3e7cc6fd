-- What an atomic operation on a shared word returns.
use Rattle.std.specs.Prelude.{ℕ}
use Rattle.orc_words.specs.declared.operation.Operation.{Operation}
use Rattle.orc_words.specs.declared.operation.Operation.TheVariants.{Load, Store, Swap, Add, Sub, CompareExchange}

-- the number that it found, also for a compare-and-exchange; for a store the number that it stored
abbrev pub returned_by : Operation → ℕ → ℕ
returned_by Load n = n
returned_by (Store x) n = x
returned_by (Swap x) n = n
returned_by (Add x) n = n
returned_by (Sub x) n = n
returned_by (CompareExchange x y) n = n
