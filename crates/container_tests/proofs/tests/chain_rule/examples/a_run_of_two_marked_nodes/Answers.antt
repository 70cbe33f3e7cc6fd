use Rattle.std.proofs.Common.{Contains, List, None, Option, [], Some, suc, zero, ◌<◌, ap, arith, false, refl, sym, true, ℕ, ◌∙◌, ◌∷◌, ◌≡◌}
use Rattle.orc_heap.proofs.SingleActs.{some_same}
use Rattle.std.specs.List.{slice_get, slice_index_or}
use Rattle.orc_heap.specs.Acts.{as_linked, with_link}
use Rattle.orc_heap.specs.Allowed.{HasLink}
use Rattle.orc_heap.specs.Heap.{Heap, Node, link_to, null}
use Rattle.orc_chain_rule.specs.Watches.{node_to_add}
use Rattle.orc_heap.specs.declared.events.Link.{Link}
use Rattle.orc_chain_rule.specs.Laws.Kinds.{key_one}
use Rattle.orc_chain_rule.specs.Counts.{IsLeftOver}
use Rattle.orc_ordered_chains.specs.Chains.{IsRun}
use Rattle.container_tests.proofs.Adding.{may_add}
use Rattle.container_tests.specs.ChainHeaps.{run_of_two}
use Rattle.container_tests.proofs.Runs.{link_one}
use Rattle.container_tests.proofs.tests.chain_rule.examples.a_run_of_two_marked_nodes.Goals as goal

-- a run over both leads to node 2
over_both : IsRun run_of_two (link_to 0) (0 ∷ 1 ∷ []) (Some 2)
over_both = (
  refl,
  _,
  record { node = _; there = refl; linked = refl; link_is = refl },
  refl,
  (refl, _, record { node = _; there = refl; linked = refl; link_is = refl }, refl, refl),
)

-- node 1 is left over
one_left : IsLeftOver run_of_two 1
one_left = record {
  root = 0;
  on_chain = record { over = 0 ∷ []; path = (record { link = _; at = refl; to_is = refl }, record { link = _; at = refl; to_is = refl }) };
  link = _;
  has_link = record { node = _; there = refl; linked = refl; link_is = refl };
  marked = refl;
}

pub returns-clause-run : goal.returns-clause-run
returns-clause-run c = (
  over_both,
  (record { link = _; at = refl; to_is = refl }, (record { link = _; at = refl; to_is = refl }, record { link = _; at = refl; to_is = refl })),
  one_left,
  record {
    below = refl;
    unmarked = refl;
    run = over_both;
    above = (9, record { node = _; there = refl; linked = refl; rank_is = refl }, omega arith);
  },
  (λ run.
      let (is, next, own, mark, ends) = run in
      let same : ◌≡◌ {A = ℕ} 1 2 = some_same (sym (ap (λ (l : Link). l.to) (link_one _ 0 (record { to = Some 1; mark = true }) next refl own)) ∙ ends) in
      omega (arith, same)),
  (λ run.
      let (is, next, own, mark, rest) = run in
      let (leads, next2, own2, mark2, rest2) = rest in
      let (leads2, next3, own3, mark3, ends) = rest2 in
      let bad : true ≡ false = sym mark3 ∙ ap (λ (l : Link). l.mark) (link_one _ 2 null next3 refl own3) in
      cc),
  (λ out.
      let (high, own, less) = out.above in
      omega (arith, less, key_one _ 2 high 9 own (record { node = _; there = refl; linked = refl; rank_is = refl }))),
)

-- a marked node that is once linked is node 0 or node 1
marked_one : (id : ℕ) (h : Heap) (link : Link) → h.nodes ≡ with_link (record { to = Some 1; mark = true }) (as_linked (node_to_add 0 3 0 None))
    ∷ with_link (record { to = Some 2; mark = true }) (as_linked (node_to_add 0 5 0 None)) ∷ as_linked (node_to_add 0 9 0 None) ∷ node_to_add 1 4 0
    (Some 2) ∷ []
    → HasLink h id link → link.mark ≡ true → Contains (0 ∷ 1 ∷ []) id
marked_one zero h link is own mark = (0, omega arith, refl)
marked_one (suc zero) h link is own mark = (1, omega arith, refl)
marked_one (suc (suc zero)) h link is own mark =
    let same : own.node ≡ as_linked (node_to_add 0 9 0 None) = some_same (sym own.there ∙ ap (λ (ns : List Node). slice_get ns 2) is) in
    let bad : true ≡ false = sym mark ∙ (ap (λ (l : Link). l.mark) (sym own.link_is) ∙ ap (λ (x : Node). x.link.mark) same) in
    cc
marked_one (suc (suc (suc zero))) h link is own mark =
    let same : own.node ≡ node_to_add 1 4 0 (Some 2) = some_same (sym own.there ∙ ap (λ (ns : List Node). slice_get ns 3) is) in
    let bad : true ≡ false = sym own.linked ∙ ap (λ (x : Node). x.linked) same in
    cc
marked_one (suc (suc (suc (suc id)))) h link is own mark =
    let bad : ◌≡◌ {A = Option Node} None (Some own.node) = sym (ap (λ (ns : List Node). slice_get ns (suc (suc (suc (suc id))))) is) ∙ own.there in
    cc

pub returns-clause-left_over : goal.returns-clause-left_over
returns-clause-left_over c = (
  (λ id w. marked_one id _ w.link refl w.has_link w.marked),
  (λ all.
      let (i, low, is) = all 1 one_left in
      no_one i low is),
)
  where
    no_one : (i : ℕ) → i < 1 → (let zeros : List ℕ = 0 ∷ [] in slice_index_or zeros i 1 ≡ 1 → ⊥)
    no_one zero low is = omega (arith, is)
    no_one (suc i) low is = omega (arith, low)

pub returns-clause-inserted_over : goal.returns-clause-inserted_over
returns-clause-inserted_over c = (
  refl,
  may_add 1 _ _ _ 3 _ 4 _ (Some 2) _ (0 ∷ 1 ∷ []) refl refl tt refl over_both
      (9, record { node = _; there = refl; linked = refl; rank_is = refl }, omega arith),
)

pub returns-clause-left_out : goal.returns-clause-left_out
returns-clause-left_out c = record {
  linked = refl;
  plain = refl;
  plain_after = refl;
  first = 0;
  others = 1 ∷ [];
  run = over_both;
}
