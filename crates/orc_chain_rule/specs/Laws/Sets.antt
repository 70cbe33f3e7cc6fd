-- The keys of the set after each kind of event.
use Rattle.std.proofs.Common.{List, [], filter, not, ℕ, ◌++◌, ◌==◌, ◌∷◌, ◌≡◌, ◌≢◌, ◌⊎◌, true}
use Rattle.std.specs.Prelude.{◌↔◌}
use Rattle.orc_heap.specs.Heap.{Heap}
use Rattle.orc_history.specs.SetHistory.{has}
use Rattle.orc_ordered_chains.specs.Chains.{AreChains as AreOrderedChains, IsLive}
use Rattle.orc_ordered_chains.proofs.Keys.{keys_added, keys_removed, keys_same}
use Rattle.orc_ordered_chains.proofs.Paths.{live_on}
use Rattle.orc_chain_rule.specs.ChainDiscipline.{AreChains, IsPresent, chain_order}

-- a live node is what makes its key present

pub present_live : (roots : ℕ) (h : Heap) (key : ℕ) → (y : IsPresent roots h key) → IsLive (chain_order roots) h y.id key
present_live roots h key y = record { has_rank = y.has_key; link = y.link; at = y.at; unmarked = y.unmarked }

pub live_present : (roots : ℕ) (h : Heap) → AreOrderedChains (chain_order roots) h → (id key : ℕ) → IsLive (chain_order roots) h id key
    → IsPresent roots h key
live_present roots h c id key y = record {
  id = id;
  has_key = y.has_rank;
  link = y.link;
  at = y.at;
  unmarked = y.unmarked;
  on_chain = live_on (chain_order roots) h c id key y;
}

-- the set has the keys that are present
abbrev pub IsSetOf : ℕ → Heap → List ℕ → Type 0
IsSetOf roots h keys = (key : ℕ) → (has key keys ≡ true) ↔ IsPresent roots h key

module _ (roots : ℕ) (h k : Heap) (keys : List ℕ) (c : AreChains roots h keys) (d : AreOrderedChains (chain_order roots) k) where
  abbrev Was : ℕ → ℕ → Type 0
  Was id key = IsLive (chain_order roots) h id key

  abbrev Now : ℕ → ℕ → Type 0
  Now id key = IsLive (chain_order roots) k id key

  before : (key : ℕ) → (has key keys ≡ true) ↔ ((id : ℕ) × Was id key)
  before key = (
    (λ is. let y = (c.set key).0 is in (y.id, present_live roots h key y)),
    (λ y. (c.set key).1 (live_present roots h c.ordered y.0 key y.1)),
  )

  after : (now : List ℕ) → ((key : ℕ) → (has key now ≡ true) ↔ ((id : ℕ) × Now id key)) → IsSetOf roots k now
  after now s key = (
    (λ is. let (id, y) = (s key).0 is in live_present roots k d id key y),
    (λ y. (s key).1 (y.id, present_live roots k key y)),
  )

  -- the same keys
  pub set_same : ((id key : ℕ) → Was id key → Now id key) → ((id key : ℕ) → Now id key → Was id key) → IsSetOf roots k keys
  set_same on back = after keys (keys_same Was Now keys before on back)

  -- one key more
  pub set_added : (new key : ℕ) → Now new key → ((id b : ℕ) → Was id b → Now id b) → ((id b : ℕ) → Now id b → Was id b ⊎ (key ≡ b))
      → IsSetOf roots k (keys ++ key ∷ [])
  set_added new key own on back = after (keys ++ key ∷ []) (keys_added Was Now keys before new key own on back)

  -- one key less
  pub set_removed : (key : ℕ) → ((id b : ℕ) → b ≢ key → Was id b → Now id b) → ((id b : ℕ) → Now id b → (b ≢ key) × Was id b)
      → IsSetOf roots k (filter (λ y. not (y == key)) keys)
  set_removed key on back = after (filter (λ y. not (y == key)) keys) (keys_removed Was Now keys before key on back)
