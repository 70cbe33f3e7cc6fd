use Rattle.std.proofs.Common.{List, None, Option, Some, [], ap, arith, refl, suc, zero, ℕ, ◌∙◌, ◌∷◌, ◌≡◌}
use Rattle.orc_heap.proofs.SingleActs.{some_same}
use Rattle.orc_heap.specs.Heap.{Heap, shown}
use Rattle.orc_heap.specs.declared.events.Link.{Link}
use Rattle.orc_heap.specs.declared.events.Place.{Place}
use Rattle.orc_heap.specs.declared.events.Place.TheVariants.{Next, Root, Side}
use Rattle.orc_ordered_chains.specs.Chains.{IsPath}
use Rattle.orc_chain_rule.specs.Laws.Kinds.{key_one}
use Rattle.container_tests.specs.ChainHeaps.{linked_node, unlinked_node, two_roots}
use Rattle.container_tests.proofs.tests.chain_rule.examples.keys_and_roots.Goals as goal

pub returns-clause-follows : goal.returns-clause-follows
returns-clause-follows c = (
  refl,
  (3, record { node = _; there = refl; linked = refl; rank_is = refl }, omega arith, refl),
  (λ f. cc),
  (λ f. let (low, own, less, same) = f in omega (arith, same, key_one _ 0 low 3 own (record { node = _; there = refl; linked = refl; rank_is = refl }))),
  (λ f. let (low, own, less, same) = f in omega (arith, less, key_one _ 0 low 3 own (record { node = _; there = refl; linked = refl; rank_is = refl }))),
  (λ f. let (low, own, less, same) = f in cc),
)

pub returns-clause-above : goal.returns-clause-above
returns-clause-above c = (
  tt,
  (3, record { node = _; there = refl; linked = refl; rank_is = refl }, omega arith),
  (λ a. let (high, own, less) = a in omega (arith, less, key_one _ 0 high 3 own (record { node = _; there = refl; linked = refl; rank_is = refl }))),
  refl,
  refl,
)

abbrev two : Heap
two = two_roots (linked_node 3 None ∷ unlinked_node 5 None ∷ [])

-- no place has a link to node 1
apart : (p : Place) (link : Link) → shown two p ≡ Some link → link.to ≡ Some 1 → ⊥
apart (Root zero) link at to = let bad : ◌≡◌ {A = Option ℕ} None (Some 1) = ap (λ (l : Link). l.to) (some_same at) ∙ to in cc
apart (Root (suc zero)) link at to =
    let bad : ◌≡◌ {A = Option ℕ} (Some 0) (Some 1) = ap (λ (l : Link). l.to) (some_same at) ∙ to in omega (arith, some_same bad)
apart (Root (suc (suc r))) link at to = let bad : ◌≡◌ {A = Option Link} None (Some link) = at in cc
apart (Next zero) link at to = let bad : ◌≡◌ {A = Option ℕ} None (Some 1) = ap (λ (l : Link). l.to) (some_same at) ∙ to in cc
apart (Next (suc zero)) link at to = let bad : ◌≡◌ {A = Option ℕ} None (Some 1) = ap (λ (l : Link). l.to) (some_same at) ∙ to in cc
apart (Next (suc (suc id))) link at to = let bad : ◌≡◌ {A = Option Link} None (Some link) = at in cc
apart (Side id) link at to = let bad : ◌≡◌ {A = Option Link} None (Some link) = at in cc

no_path : (p : Place) (ids : List ℕ) → IsPath two p ids (Some 1) → ⊥
no_path p [] path = apart p path.link path.at path.to_is
no_path p (x ∷ xs) path = no_path (Next x) xs path.1

pub returns-clause-present : goal.returns-clause-present
returns-clause-present c = (
  record {
    id = 0;
    has_key = record { node = _; there = refl; linked = refl; rank_is = refl };
    link = _;
    at = refl;
    unmarked = refl;
    on_chain = record { over = []; path = record { link = _; at = refl; to_is = refl } };
  },
  (λ root on. no_path (Root root) on.over on.path),
)
