-- The keys of the set after each kind of event.
use Rattle.std.proofs.Common.{List, [], filter, inl, inr, not, subst, true, ℕ, ◌++◌, ◌==◌, ◌∷◌, ◌≡◌, ◌≢◌, ◌⊎◌}
use Rattle.std.specs.Prelude.{◌↔◌}
use Rattle.orc_heap.specs.Heap.{Heap}
use Rattle.orc_history.specs.SetHistory.{has}
use Rattle.orc_ordered_chains.specs.Chains.{AreChains, IsLive}
use Rattle.orc_ordered_chains.proofs.Keys.{has_added, has_kept, has_left, has_new, has_old}
use Rattle.orc_ordered_chains.proofs.Paths.{live_on}
use Rattle.orc_split_rule.specs.SplitOrder.{key_place, split_order}
use Rattle.orc_split_rule.specs.SplitDiscipline.{HasKey, IsPresent}
use Rattle.orc_split_rule.specs.Laws.Values.{key_rank}

-- a live key node is what makes its key present

pub present_live : (h : Heap) (key : ℕ) → (y : IsPresent h key) → IsLive split_order h y.id (key_place key)
present_live h key y = record { has_rank = key_rank h y.id key y.has_key; link = y.link; at = y.at; unmarked = y.unmarked }

pub live_present : (h : Heap) → AreChains split_order h → (id key : ℕ) → HasKey h id key → IsLive split_order h id (key_place key) → IsPresent h key
live_present h c id key own y = record {
  id = id;
  has_key = own;
  link = y.link;
  at = y.at;
  unmarked = y.unmarked;
  on_chain = live_on split_order h c id (key_place key) y;
}

-- the set has the keys that are present
abbrev pub IsSetOf : Heap → List ℕ → Type 0
IsSetOf h keys = (key : ℕ) → (has key keys ≡ true) ↔ IsPresent h key

-- a live key node, with its key
pub record IsLiveKey (h : Heap) (id key : ℕ) : Type 0 where
  pub own : HasKey h id key
  pub live : IsLive split_order h id (key_place key)

module _ (h k : Heap) (keys : List ℕ) (s : IsSetOf h keys) (c : AreChains split_order k) where
  live_key : (key : ℕ) → (y : IsPresent h key) → IsLiveKey h y.id key
  live_key key y = record { own = y.has_key; live = present_live h key y }

  new_key : (key : ℕ) → (y : IsPresent k key) → IsLiveKey k y.id key
  new_key key y = record { own = y.has_key; live = present_live k key y }

  -- the same keys
  pub set_same : ((id key : ℕ) → IsLiveKey h id key → IsLiveKey k id key) → ((id key : ℕ) → IsLiveKey k id key → IsLiveKey h id key)
      → AreChains split_order h → IsSetOf k keys
  set_same on back before = λ key. (
    (λ is. let y = (s key).0 is in let z = on y.id key (live_key key y) in live_present k c y.id key z.own z.live),
    (λ y. let z = back y.id key (new_key key y) in (s key).1 (live_present h before y.id key z.own z.live)),
  )

  -- one key more
  pub set_added : (new key : ℕ) → IsLiveKey k new key → ((id key : ℕ) → IsLiveKey h id key → IsLiveKey k id key)
      → ((id key : ℕ) → IsLiveKey k id key → IsLiveKey h id key ⊎ (id ≡ new)) → ((id a b : ℕ) → IsLiveKey k id a → IsLiveKey k id b → a ≡ b)
      → AreChains split_order h → IsSetOf k (keys ++ key ∷ [])
  set_added new key own on back one before = λ b. (
    (λ is. elim (has_added key b keys is) [
      | inl old ↦ (let y = (s b).0 old in let z = on y.id b (live_key b y) in live_present k c y.id b z.own z.live)
      | inr same ↦ subst (λ (x : ℕ). IsPresent k x) same (live_present k c new key own.own own.live)
    ]),
    (λ y. elim (back y.id b (new_key b y)) [
      | inl old ↦ has_old key b keys ((s b).1 (live_present h before y.id b old.own old.live))
      | inr is ↦
          let same : key ≡ b = one new key b own (subst (λ (x : ℕ). IsLiveKey k x b) is (new_key b y)) in
          subst (λ (z : ℕ). has z (keys ++ key ∷ []) ≡ true) same (has_new key keys)
    ]),
  )

  -- one key less
  pub set_removed : (gone key : ℕ) → IsLiveKey h gone key → ((id b : ℕ) → b ≢ key → IsLiveKey h id b → IsLiveKey k id b)
      → ((id b : ℕ) → IsLiveKey k id b → (b ≢ key) × IsLiveKey h id b)
      → AreChains split_order h → IsSetOf k (filter (λ y. not (y == key)) keys)
  set_removed gone key own on back before = λ b. (
    (λ is.
        let (old, ne) = has_left key b keys is in
        let y = (s b).0 old in let z = on y.id b ne (live_key b y) in
        live_present k c y.id b z.own z.live),
    (λ y.
        let (ne, was) = back y.id b (new_key b y) in
        has_kept key b keys ((s b).1 (live_present h before y.id b was.own was.live)) ne),
  )
