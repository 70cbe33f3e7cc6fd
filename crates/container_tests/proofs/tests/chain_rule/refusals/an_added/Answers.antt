use Rattle.std.proofs.Common.{None, Option, Some, [], ap, arith, refl, subst, sym, ℕ, ◌∙◌, ◌∷◌, ◌≡◌}
use Rattle.std.specs.List.{slice_get}
use Rattle.orc_heap.proofs.SingleActs.{link_same, some_same}
use Rattle.orc_heap.specs.Acts.{as_linked}
use Rattle.orc_heap.specs.Heap.{Node, link_to, null}
use Rattle.orc_chain_rule.specs.Watches.{node_to_add}
use Rattle.container_tests.proofs.Adding.{may_add}
use Rattle.container_tests.proofs.Runs.{run_ends}
use Rattle.container_tests.proofs.tests.chain_rule.refusals.an_added.Goals as goal

pub returns-clause-allowed : goal.returns-clause-allowed
returns-clause-allowed c = (
  refl,
  may_add 2 _ _ _ 1 _ 5 _ None _ [] refl (record { over = []; path = record { link = _; at = refl; to_is = refl } })
      (3, record { node = _; there = refl; linked = refl; rank_is = refl }, omega arith) refl refl tt,
)

pub returns-clause-past_an_unmarked_node : goal.returns-clause-past_an_unmarked_node
returns-clause-past_an_unmarked_node c = λ may.
    let m = may.1 in
    let there : Some (node_to_add 1 5 0 None) ≡ Some m.node =
    subst (λ (x : ℕ). slice_get (as_linked (node_to_add 0 3 0 (Some 2)) ∷ node_to_add 1 5 0 None ∷ as_linked (node_to_add 0 9 0 None) ∷ []) x ≡ Some m.node)
    (sym (link_same 1 m.id m.to_is)) m.there in
    let own : m.node.link.to ≡ None = ap (λ (x : Node). x.link.to) (sym (some_same there)) in
    let ends : m.node.link.to ≡ Some 2 = run_ends _ (link_to 2) m.over m.node.link.to 2 null refl refl refl m.run in
    let bad : ◌≡◌ {A = Option ℕ} None (Some 2) = sym own ∙ ends in
    cc
