-- What an agent may rely on between its own events, whatever the others do meanwhile.
use Rattle.std.specs.Prelude.{None, Option, Some, false, slice_get, ℕ, ◌≡◌, ◌⊎◌}
use Rattle.orc_heap.specs.Heap.{Heap, Node, link_to, null}
use Rattle.orc_heap.specs.declared.events.Link.{Link}
use Rattle.orc_pairs_rule.specs.CellHistory.{Parts, no_parts, replaced}
use Rattle.orc_pairs_rule.specs.PairsDiscipline.{HasPair, IsPair}

-- a node of the agent's own, to which nothing links, whose links name these once linked parts
pub record IsOwnPair (h : Heap) (agent id left right : ℕ) (parts : Parts) : Type 0 where
  pub node : Node
  pub there : slice_get h.nodes id ≡ Some node
  pub mine : node.giver ≡ agent
  pub unnamed : node.named ≡ false
  pub unlinked : node.linked ≡ false
  pub pair : IsPair h node left right parts

-- a side that isn't given is the one before
abbrev pub IsKept : Option ℕ → ℕ → ℕ → Type 0
IsKept (Some value) before now = Unit {0}
IsKept None before now = now ≡ before

-- a pair node with these parts, which has the sides that aren't given of the pair before
pub record FollowsPair (h : Heap) (given_left given_right : Option ℕ) (from : Link) (left right : ℕ) (parts : Parts) : Type 0 where
  pub id : ℕ
  pub old_left : ℕ
  pub old_right : ℕ
  pub old : Parts
  pub from_is : from ≡ link_to id
  pub has : HasPair h id old_left old_right old
  pub parts_are : replaced given_left given_right old ≡ parts
  pub keeps_left : IsKept given_left old_left left
  pub keeps_right : IsKept given_right old_right right

-- such a node may follow what root 0 shows: null, or a pair
abbrev pub MayFollow : Heap → Option ℕ → Option ℕ → Link → ℕ → ℕ → Parts → Type 0
MayFollow h given_left given_right from left right parts =
    ((from ≡ null) × (replaced given_left given_right no_parts ≡ parts)) ⊎ FollowsPair h given_left given_right from left right parts
