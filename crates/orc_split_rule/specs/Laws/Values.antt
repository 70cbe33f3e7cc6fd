-- Once linked nodes with their values, and the places in split order that these give.
use Rattle.std.proofs.Common.{None, Some, ap, arith, refl, sym, ℕ, ◌∙◌, ◌≡◌, ◌≢◌, ◌≤◌}
use Rattle.std.proofs.lemmas.Bool.{eqb-true}
use Rattle.orc_heap.specs.Allowed.{IsLinkedNode}
use Rattle.orc_heap.specs.Heap.{Heap, Node}
use Rattle.orc_heap.specs.declared.events.Place.{Place}
use Rattle.orc_heap.specs.declared.events.Place.TheVariants.{Next, Root, Side}
use Rattle.orc_heap.proofs.SingleActs.{some_same}
use Rattle.orc_ordered_chains.specs.Chains.{HasRank, IsChainPlace}
use Rattle.orc_ordered_chains.proofs.Acts.{IsLinkedIn, KeepsValues, values_before}
use Rattle.orc_split_rule.specs.SplitOrder.{dummy_place, key_place, place_of, split_order}
use Rattle.orc_split_rule.specs.SplitDiscipline.{HasKey, HasValues, IsDummy, IsSizeNode}

pub value_linked : (h : Heap) (id first second : ℕ) → HasValues h id first second → IsLinkedNode h id
value_linked h id first second v = record { node = v.node; there = v.there; linked = v.linked }

pub value_first : (h : Heap) (id a s b t : ℕ) → HasValues h id a s → HasValues h id b t → a ≡ b
value_first h id a s b t v w =
    let same : v.node ≡ w.node = some_same (sym v.there ∙ w.there) in
    some_same (sym v.first_is ∙ (ap (λ (n : Node). n.first) same ∙ w.first_is))

pub value_second : (h : Heap) (id a s b t : ℕ) → HasValues h id a s → HasValues h id b t → s ≡ t
value_second h id a s b t v w =
    let same : v.node ≡ w.node = some_same (sym v.there ∙ w.there) in
    some_same (sym v.second_is ∙ (ap (λ (n : Node). n.second) same ∙ w.second_is))

pub value_stays : (h k : Heap) → KeepsValues h k → (id first second : ℕ) → HasValues h id first second → HasValues k id first second
unfolding value_linked
value_stays h k keeps id first second v =
    let (m, one, two) = keeps.stays id (value_linked h id first second v) in
    record { node = m.node; there = m.there; linked = m.linked; first_is = one ∙ v.first_is; second_is = two ∙ v.second_is }

-- the values of a node that was linked before
pub value_before : (h k : Heap) → KeepsValues h k → (id first second : ℕ) → IsLinkedNode h id → HasValues k id first second → HasValues h id first second
value_before h k keeps id first second l v =
    let (one, two) = values_before h k keeps id l v.node v.there in
    record { node = l.node; there = l.there; linked = l.linked; first_is = one ∙ v.first_is; second_is = two ∙ v.second_is }

-- the values of a node that a Move links
pub value_new : (h k : Heap) (id : ℕ) (node : Node) (first second : ℕ) → IsLinkedIn h k id node → node.first ≡ Some first → node.second ≡ Some second
    → HasValues k id first second
value_new h k id node first second new one two =
    record { node = new.now.node; there = new.now.there; linked = new.now.linked; first_is = new.first ∙ one; second_is = new.second ∙ two }

pub key_rank : (h : Heap) (id key : ℕ) → HasKey h id key → HasRank split_order h id (key_place key)
key_rank h id key v = record { node = v.node; there = v.there; linked = v.linked; rank_is = rw (v.first_is, v.second_is) refl }

pub dummy_rank : (h : Heap) (id bucket : ℕ) → IsDummy h id bucket → HasRank split_order h id (dummy_place bucket)
dummy_rank h id bucket v = record { node = v.node; there = v.there; linked = v.linked; rank_is = rw (v.first_is, v.second_is) refl }

-- a size node has no place
pub size_apart : (h : Heap) (id size rank : ℕ) → IsSizeNode h id size → HasRank split_order h id rank → ⊥
size_apart h id size rank v r =
    let same : v.node ≡ r.node = some_same (sym v.there ∙ r.there) in
    let one : r.node.first ≡ Some size = sym (ap (λ (n : Node). n.first) same) ∙ v.first_is in
    let two : r.node.second ≡ Some 2 = sym (ap (λ (n : Node). n.second) same) ∙ v.second_is in
    let none : place_of r.node.first r.node.second ≡ None = rw (one, two) refl in
    let bad : None ≡ Some rank = sym none ∙ r.rank_is in
    cc

-- a place of the chain is none of the other roots
pub root_apart : (h : Heap) (root : ℕ) (p : Place) → 1 ≤ root → IsChainPlace split_order h p → Root root ≢ p
root_apart h root (Next id) low on same = cc
root_apart h root (Side id) low on same = cc
root_apart h root (Root r) low on same =
    let zero : r ≡ 0 = eqb-true r 0 on in
    let is : root ≡ r = cc in
    absurd (omega (arith, low, zero, is))
