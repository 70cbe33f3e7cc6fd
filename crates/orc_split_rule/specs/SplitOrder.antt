-- Split order: the order of numbers by their bits, the lowest first, and where buckets begin in it. After Shalev and Shavit 2006.
use Rattle.std.specs.Prelude.{None, Option, Some, refl, suc, zero, ℕ, ◌%◌, ◌*◌, ◌+◌, ◌/◌, ◌<◌, ◌==◌, ◌^◌, ◌≡◌, ◌≤◌}
use Rattle.std.specs.Int.{reverse_bits, w64}
use Rattle.orc_ordered_chains.specs.Chains.{Order}

-- a number with its lowest 64 bits reversed; no two numbers are alike with theirs reversed, whether or not they have more bits
unfoldable pub reversed : ℕ → ℕ
reversed n = reverse_bits w64 n + 2 ^ 64 * (n / 2 ^ 64)

-- the split place of the dummy of a bucket: the bucket reversed, and then 0
abbrev pub dummy_place : ℕ → ℕ
dummy_place bucket = 2 * reversed bucket

-- the split place of a key: the key reversed, and then 1
abbrev pub key_place : ℕ → ℕ
key_place key = 2 * reversed key + 1

-- the split place of a node with these values, if it is a dummy or has a key
abbrev pub place_of : Option ℕ → Option ℕ → Option ℕ
place_of None second = None
place_of (Some first) None = None
place_of (Some first) (Some zero) = Some (dummy_place first)
place_of (Some first) (Some (suc zero)) = Some (key_place first)
place_of (Some first) (Some (suc (suc second))) = None

-- one chain, which begins at root 0, in split order
abbrev pub split_order : Order
split_order = record { rank = place_of; root = λ place. 0; begins = λ root. root == 0; begun = λ place. refl }

-- the bucket of a key where there are so many buckets
abbrev pub bucket_of : ℕ → ℕ → ℕ
bucket_of key size = key % size

-- the parent of a bucket: the bucket without its highest one bit
pub record IsParent (parent bucket : ℕ) : Type 0 where
  pub bit : ℕ
  pub low : 2 ^ bit ≤ bucket
  pub high : bucket < 2 * 2 ^ bit
  pub parent_is : parent + 2 ^ bit ≡ bucket

-- an ancestor so many generations back: the bucket itself, then its parent, then the parent's parent
abbrev pub IsAncestor : ℕ → ℕ → ℕ → Type 0
IsAncestor zero old bucket = old ≡ bucket
IsAncestor (suc back) old bucket = (parent : ℕ) × IsParent parent bucket × IsAncestor back old parent
