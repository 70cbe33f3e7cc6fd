-- No node is there before, so none is left over, and the empty list covers them.
use Rattle.std.proofs.Common.{List, Some, [], arith, ℕ, ◌≡◌, ◌≤◌}
use Rattle.std.specs.List.{slice_get}
use Rattle.orc_chain_rule.specs.Counts.{AreLeftOver}
use Rattle.orc_heap.specs.Heap.{Node, new_heap}
use Rattle.container_tests.proofs.tests.list.examples.others_use_up_turns.Goals as goal

no_node : (id : ℕ) (node : Node) → (let none : List Node = [] in slice_get none id ≡ Some node) → AreLeftOver (new_heap (record { roots = 1; links = 1 })) []
no_node id node there = cc

none_left : AreLeftOver (new_heap (record { roots = 1; links = 1 })) []
none_left id w = no_node id w.has_link.node w.has_link.there id w

pub returns-clause-not_four : goal.returns-clause-not_four
returns-clause-not_four c = λ costs. let few : 4 ≤ 3 = costs [] none_left in omega (arith, few)
