-- Nodes that are to be linked, and what they stand for.
use Rattle.std.specs.Prelude.{ℕ}
use Rattle.orc_split_rule.specs.SplitOrder.{dummy_place, key_place}
use Rattle.orc_split_set.specs.declared.node.NewNode.{NewNode}
use Rattle.orc_split_set.specs.declared.node.NewNode.TheVariants.{Dummy, Key}

-- the value of the node: the key, or the bucket
abbrev pub node_value : NewNode → ℕ
node_value (Key key) = key
node_value (Dummy bucket) = bucket

-- and its kind: 1 of a key's node, 0 of a dummy
abbrev pub kind_of : NewNode → ℕ
kind_of (Key key) = 1
kind_of (Dummy bucket) = 0

-- its split place
abbrev pub place_for : NewNode → ℕ
place_for (Key key) = key_place key
place_for (Dummy bucket) = dummy_place bucket
