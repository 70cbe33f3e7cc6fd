-- What an agent may rely on between its own events, whatever the others do meanwhile.
use Rattle.std.specs.Prelude.{List, None, Option, Some, false, ℕ, ◌≡◌}
use Rattle.orc_heap.specs.Heap.{Heap, Node, null}
use Rattle.orc_heap.specs.declared.events.Link.{Link}
use Rattle.orc_heap.specs.declared.events.Place.{Place}
use Rattle.orc_ordered_chains.specs.Chains.{FollowsOn, IsAbove, IsRun, link_over}
use Rattle.orc_split_rule.specs.SplitDiscipline.{IsSizeNode}
use Rattle.orc_split_rule.specs.SplitOrder.{split_order}

-- a place below the split place has this unmarked link, which leads over a run of marked nodes, possibly none, to null or above
-- the split place
pub record LeavesOut (h : Heap) (place : Place) (from : Link) (over : List ℕ) (to : Option ℕ) (rank : ℕ) : Type 0 where
  pub below : FollowsOn split_order h place rank
  pub unmarked : from.mark ≡ false
  pub run : IsRun h from over to
  pub above : IsAbove split_order h to rank

-- a node that was given to the agent, to which nothing links, with these values, aimed at this target
abbrev pub node_to_link : ℕ → ℕ → ℕ → Option ℕ → Node
node_to_link agent first second to =
    record { giver = agent; first = Some first; second = Some second; link = link_over to; side = null; named = false; linked = false }

-- the link of the size's root stands for this size: null for 1, and else what the size node says
abbrev pub StandsFor : Heap → Option ℕ → ℕ → Type 0
StandsFor h None size = size ≡ 1
StandsFor h (Some id) size = IsSizeNode h id size
