-- Counts of faults, which stop at the last value of a u64.
use Rattle.std.specs.Prelude.{◌≡◌, ℕ, ◌+◌, ◌-◌, ◌^◌, ◌<◌, ◌≤◌, List, [], min, length, IfOk, OnErr, OnOk, Result}

-- the count after one more fault
abbrev pub one_more : ℕ → ℕ
one_more count = min (count + 1) (2 ^ 64 - 1)

-- the count rose by one, or it stands at its last value
abbrev pub Rose : ℕ → ℕ → Type 0
Rose before now = now ≡ one_more before

-- the count never falls: a call that answers leaves it, and it rises by one where the call fails
pub record CountsFaults {T E : Type 0} (before now : ℕ) (result : Result T E) : Type 0 where
  pub later : before ≤ now
  pub answered : OnOk result (now ≡ before)
  pub failed : OnErr result (Rose before now)

-- a write that takes some of the bytes, or has none to take, leaves the count; to take none of some is one more fault
pub record CountsWriteFaults {E : Type 0} (bytes : List ℕ) (before now : ℕ) (result : Result ℕ E) : Type 0 where
  pub later : before ≤ now
  pub moved : IfOk result (λ n. 0 < n → now ≡ before)
  pub none : bytes ≡ [] → OnOk result (now ≡ before)
  pub stuck : IfOk result (λ n. n ≡ 0 → 0 < length bytes → Rose before now)
  pub failed : OnErr result (Rose before now)
