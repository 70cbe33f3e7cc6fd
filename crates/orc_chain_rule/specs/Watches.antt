-- What an agent may rely on between its own events, whatever the others do meanwhile.
use Rattle.std.specs.Prelude.{List, Option, Some, false, ℕ, ◌≡◌}
use Rattle.orc_heap.specs.Heap.{Heap, Node, null}
use Rattle.orc_heap.specs.declared.events.Link.{Link}
use Rattle.orc_heap.specs.declared.events.Place.{Place}
use Rattle.orc_ordered_chains.specs.Chains.{IsRun, link_over}
use Rattle.orc_chain_rule.specs.ChainDiscipline.{FollowsOn, IsAbove}

-- a place below the key has this unmarked link, which leads over a run of marked nodes, possibly none, to null or above the key. So no
-- unmarked node behind the place has the key while the place shows the link
pub record LeavesOut (roots : ℕ) (h : Heap) (place : Place) (from : Link) (over : List ℕ) (to : Option ℕ) (key : ℕ) : Type 0 where
  pub below : FollowsOn roots h place key
  pub unmarked : from.mark ≡ false
  pub run : IsRun h from over to
  pub above : IsAbove h to key

-- a node that was given to the agent, to which nothing links, with this key, aimed at this target
abbrev pub node_to_add : ℕ → ℕ → ℕ → Option ℕ → Node
node_to_add agent key second to =
    record { giver = agent; first = Some key; second = Some second; link = link_over to; side = null; named = false; linked = false }
