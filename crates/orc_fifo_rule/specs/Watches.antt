-- What an agent may rely on between its own events, whatever the others do meanwhile.
use Rattle.std.specs.Prelude.{Some, false, ℕ, ◌+◌, ◌≡◌, ◌≢◌, ◌⊎◌}
use Rattle.orc_heap.specs.Allowed.{IsLinkedNode, HasLink}
use Rattle.orc_heap.specs.Heap.{Heap, Node, null, shown, link_to}
use Rattle.orc_heap.specs.declared.events.Place.TheVariants.{Root}

-- the root named the node at some time: it still does, or the node has a successor by now
pub record WasNamed (h : Heap) (root id : ℕ) : Type 0 where
  pub linked : IsLinkedNode h id
  pub either : (shown h (Root root) ≡ Some (link_to id)) ⊎ ((next : ℕ) × HasLink h id (link_to next))

-- root 1 has gone on from the node to a later one
pub record IsLeftBehind (h : Heap) (id : ℕ) : Type 0 where
  pub next : ℕ
  pub link : HasLink h id (link_to next)
  pub tail_apart : shown h (Root 1) ≢ Some (link_to id)

-- a node that was given to the agent, to which nothing links, with null links and the values of a Put
abbrev pub node_to_put : ℕ → ℕ → ℕ → Node
node_to_put agent job at = record { giver = agent; first = Some job; second = Some (at + 1); link = null; side = null; named = false; linked = false }
