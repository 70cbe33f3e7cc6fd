use Rattle.std.proofs.Common.{None, Option, Some, [], ap, arith, refl, subst, sym, true, ℕ, ◌≡◌}
use Rattle.orc_heap.proofs.SingleActs.{some_same}
use Rattle.orc_heap.specs.Allowed.{HasLink}
use Rattle.orc_heap.specs.Heap.{Heap, link_to, null, shown}
use Rattle.orc_heap.specs.declared.events.Link.{Link}
use Rattle.orc_heap.specs.declared.events.Place.TheVariants.{Next, Root}
use Rattle.orc_chain_rule.specs.ChainDiscipline.{MayUnlink}
use Rattle.container_tests.proofs.Runs.{link_one, run_ends}
use Rattle.container_tests.proofs.tests.chain_rule.refusals.an_unlink.Goals as goal

-- from node 0, marked, to node 1, unmarked: an Unlink leads to node 1
leads_to_one : (h : Heap) (to : Link) → shown h (Next 0) ≡ Some (record { to = Some 1; mark = true }) → shown h (Next 1) ≡ Some null
    → MayUnlink 1 h (Root 0) (link_to 0) to → to.to ≡ Some 1
leads_to_one h to zero_at one_at u =
    let (is, next, own, mark, rest) = u.run in
    let own_zero : HasLink h 0 next = subst (λ (x : ℕ). HasLink h x next) (sym (some_same is)) own in
    run_ends h next u.others to.to 1 null (ap (λ (l : Link). l.to) (link_one h 0 (record { to = Some 1; mark = true }) next zero_at own_zero)) one_at refl rest

pub returns-clause-allowed : goal.returns-clause-allowed
returns-clause-allowed c = record {
  linked = refl;
  plain = refl;
  plain_after = refl;
  first = 0;
  others = [];
  run = (refl, _, record { node = _; there = refl; linked = refl; link_is = refl }, refl, refl);
}

pub returns-clause-past_an_unmarked_node : goal.returns-clause-past_an_unmarked_node
returns-clause-past_an_unmarked_node c = λ may. let bad : ◌≡◌ {A = Option ℕ} None (Some 1) = leads_to_one _ null refl refl may in cc

pub returns-clause-past_no_node : goal.returns-clause-past_no_node
returns-clause-past_no_node c = λ may. omega (arith, some_same (leads_to_one _ (link_to 0) refl refl may))

pub returns-clause-to_another_node : goal.returns-clause-to_another_node
returns-clause-to_another_node c = λ may. omega (arith, some_same (leads_to_one _ (link_to 2) refl refl may))
