-- A node has the values that its place tells.
use Rattle.std.proofs.Common.{None, Option, Some, ap, arith, refl, suc, zero, ℕ, ◌*◌, ◌+◌, ◌<◌, ◌≡◌}
use Rattle.orc_heap.proofs.SingleActs.{some_same}
use Rattle.orc_heap.specs.Heap.{Heap}
use Rattle.orc_ordered_chains.specs.Chains.{HasRank}
use Rattle.orc_split_rule.proofs.Reversed.{reversed_same}
use Rattle.orc_split_rule.specs.SplitDiscipline.{HasKey, HasValues, IsDummy}
use Rattle.orc_split_rule.specs.SplitOrder.{dummy_place, key_place, place_of, reversed, split_order}

-- a place is that of one pair of values
place_one : (a b s t : ℕ) → s < 2 → t < 2 → 2 * reversed a + s ≡ 2 * reversed b + t → (a ≡ b) × (s ≡ t)
place_one a b s t low_s low_t same = (reversed_same a b (omega (arith, low_s, low_t, same)), omega (arith, low_s, low_t, same))

place_values : (first second : Option ℕ) (place value kind : ℕ) → place_of first second ≡ Some place → place ≡ 2 * reversed value + kind → kind < 2
    → (first ≡ Some value) × (second ≡ Some kind)
place_values None second place value kind is at low = cc
place_values (Some f) None place value kind is at low = cc
place_values (Some f) (Some zero) place value kind is at low =
    let (same, kind_is) = place_one f value 0 kind (omega arith) low (omega (arith, some_same is, at)) in
    (ap (λ (x : ℕ). Some x) same, ap (λ (x : ℕ). Some x) kind_is)
place_values (Some f) (Some (suc zero)) place value kind is at low =
    let (same, kind_is) = place_one f value 1 kind (omega arith) low (omega (arith, some_same is, at)) in
    (ap (λ (x : ℕ). Some x) same, ap (λ (x : ℕ). Some x) kind_is)
place_values (Some f) (Some (suc (suc s))) place value kind is at low = cc

values_of_place : (h : Heap) (id place value kind : ℕ) → HasRank split_order h id place → place ≡ 2 * reversed value + kind → kind < 2
    → HasValues h id value kind
values_of_place h id place value kind r at low =
    let (first, second) = place_values r.node.first r.node.second place value kind r.rank_is at low in
    record { node = r.node; there = r.there; linked = r.linked; first_is = first; second_is = second }

pub key_of_place : (h : Heap) (id key : ℕ) → HasRank split_order h id (key_place key) → HasKey h id key
key_of_place h id key r = values_of_place h id (key_place key) key 1 r refl (omega arith)

pub dummy_of_place : (h : Heap) (id bucket : ℕ) → HasRank split_order h id (dummy_place bucket) → IsDummy h id bucket
dummy_of_place h id bucket r = values_of_place h id (dummy_place bucket) bucket 0 r (omega arith) (omega arith)
