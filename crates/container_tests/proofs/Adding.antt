-- A new node that may be linked, by what is asked of the heap beside it.
use Rattle.std.proofs.Common.{Bool, List, Option, Some, false, refl, ℕ, ◌≡◌}
use Rattle.std.specs.Prelude.{◌%◌}
use Rattle.std.specs.List.{slice_get}
use Rattle.orc_heap.proofs.Sides.{null_side}
use Rattle.orc_heap.specs.Heap.{Heap, link_to, null}
use Rattle.orc_heap.specs.declared.events.Link.{Link}
use Rattle.orc_heap.specs.declared.events.Place.{Place}
use Rattle.orc_ordered_chains.specs.Chains.{IsPlaceBelow, IsPlaceOnChain, IsRun}
use Rattle.orc_chain_rule.specs.ChainDiscipline.{IsAbove, MayAdd, chain_order}

-- the node has this key and target; the place shows a link that leads to the target over these nodes
pub may_add : (roots : ℕ) (h : Heap) (place : Place) (from : Link) (id by key : ℕ) (second to : Option ℕ) (named : Bool) (over : List ℕ)
    → slice_get h.nodes id
    ≡ Some (record { giver = by; first = Some key; second = second; link = record { to = to; mark = false }; side = null; named = named; linked = false })
    → IsPlaceOnChain h (key % roots) place → IsPlaceBelow (chain_order roots) h place key → from.mark ≡ false → IsRun h from over to → IsAbove h to key
    → MayAdd roots h place from (link_to id) key
may_add roots h place from id by key second to named over there on_chain below plain run above = record {
  on_chain = on_chain;
  below = below;
  plain = plain;
  id = id;
  to_is = refl;
  node = _;
  there = there;
  unlinked = refl;
  rank_is = refl;
  own_plain = refl;
  side_null = null_side h id _ there refl;
  over = over;
  run = run;
  above = above;
}
