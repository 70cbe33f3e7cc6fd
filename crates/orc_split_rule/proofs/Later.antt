-- What stays true over all events that the discipline allows.
use Rattle.std.proofs.Common.{List, Some, [], ap, false, slice_get, true, ℕ, ◌++◌, ◌≡◌}
use Rattle.orc_heap.proofs.Fresh.{node_later}
use Rattle.orc_heap.proofs.Runs.{run_heap-snoc}
use Rattle.orc_heap.proofs.Stays.{stays}
use Rattle.orc_heap.specs.Acts.{heap_after}
use Rattle.orc_heap.specs.Allowed.{AllAllowed, Later}
use Rattle.orc_heap.specs.Heap.{HeapNumbers, Node}
use Rattle.orc_heap.specs.Journals.{FitsAfter, run_heap}
use Rattle.orc_heap.specs.declared.events.Event.{Event}
use Rattle.orc_heap.specs.declared.events.Link.{Link}
use Rattle.orc_ordered_chains.proofs.Acts.{values_after}
use Rattle.orc_ordered_chains.proofs.Frozen.{nothing_marked}
use Rattle.orc_ordered_chains.proofs.Later.{no_chains, no_node, null_root, root_leads_nowhere}
use Rattle.orc_split_rule.specs.declared.split.SplitNote.{SplitNote}
use Rattle.orc_split_rule.specs.SplitOrder.{split_order}
use Rattle.orc_split_rule.specs.SplitDiscipline.{HasValues, SplitHolds, SplitMay}
use Rattle.orc_split_rule.specs.Laws.Kept.{split_keeps, split_moves_linked}
use Rattle.orc_split_rule.specs.Laws.Values.{value_stays}

-- the empty list obeys the discipline
pub nothing_yet : (n : HeapNumbers) → SplitHolds n []
nothing_yet n = record {
  lawful = tt;
  legal = tt;
  chains = no_chains split_order n;
  buckets = record {
    kinds = λ id l. absurd (no_node id l.node l.there);
    plain_roots = λ r link at. ap (λ (x : Link). x.mark) (null_root n.roots r link at);
    plain_dummies = λ id bucket link dummy at. absurd (no_node id dummy.node dummy.there);
    anchors = λ bucket id low high leads. absurd (root_leads_nowhere n bucket id leads);
    size = λ id some leads. absurd (root_leads_nowhere n _ id leads);
    size_links = λ id size node. absurd (no_node id node.node node.there);
    sides = λ id l. absurd (no_node id l.node l.there);
  };
  set = λ key. ((λ is. let bad : false ≡ true = is in cc), (λ y. absurd (no_node y.id y.has_key.node y.has_key.there)));
  frozen = nothing_marked n;
}

pub holds_later : (n : HeapNumbers) (seen more : List (Event SplitNote)) → SplitHolds n seen → AllAllowed (SplitMay n) seen more → SplitHolds n (seen ++ more)
holds_later n seen more holds all = stays (SplitMay n) (SplitHolds n) (λ es e h may. split_keeps n es e h may) seen more holds all

pub may_fits : (n : HeapNumbers) (es : List (Event SplitNote)) (e : Event SplitNote) → SplitMay n es e → FitsAfter n es e
may_fits n es e may = may.fits

-- a once linked node keeps its values
pub values_later : (n : HeapNumbers) (seen more : List (Event SplitNote)) (id first second : ℕ) → HasValues (run_heap n seen) id first second
    → AllAllowed (SplitMay n) seen more → HasValues (run_heap n (seen ++ more)) id first second
values_later n seen more id first second v all =
    stays (SplitMay n) (λ es. HasValues (run_heap n es) id first second)
    (λ es e x may. rw (run_heap-snoc n es e)
    (value_stays (run_heap n es) (heap_after e.agent e.act (run_heap n es)) (values_after e.agent e.act (run_heap n es) may.fits) id first second x))
    seen more v all

-- a fresh node stays as it is while other agents act
pub fresh_later : (n : HeapNumbers) (agent fresh : ℕ) (node : Node) (seen more : List (Event SplitNote)) → SplitHolds n seen
    → slice_get (run_heap n seen).nodes fresh ≡ Some node → node.giver ≡ agent → node.named ≡ false → node.linked ≡ false
    → Later (SplitMay n) agent seen more → slice_get (run_heap n (seen ++ more)).nodes fresh ≡ Some node
fresh_later n agent fresh node seen more holds there mine unnamed unlinked later =
    node_later n (SplitHolds n) (SplitMay n) (split_keeps n) (λ es e holds may. may.fits) (split_moves_linked n) agent fresh node seen more holds
    there mine unnamed unlinked later
