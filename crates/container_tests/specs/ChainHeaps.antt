-- What the worked examples of chains are made of.
use Rattle.std.specs.Prelude.{List, None, Option, Some, [], true, ℕ, ◌∷◌}
use Rattle.orc_heap.specs.Acts.{as_linked, with_link}
use Rattle.orc_heap.specs.Heap.{Heap, Node, link_to, null}
use Rattle.orc_heap.specs.Journals.{event_by}
use Rattle.orc_heap.specs.declared.events.Act.{Act}
use Rattle.orc_heap.specs.declared.events.Act.TheVariants.{Look, Move}
use Rattle.orc_heap.specs.declared.events.Event.{Event}
use Rattle.orc_heap.specs.declared.events.Link.{Link}
use Rattle.orc_heap.specs.declared.events.Place.TheVariants.{Next, Root}
use Rattle.orc_history.specs.declared.set.SetEntry.TheVariants.{Added, Asked, Removed}
use Rattle.orc_chain_rule.specs.declared.chain.ChainNote.{ChainNote}
use Rattle.orc_chain_rule.specs.declared.chain.ChainNote.TheVariants.{Entry, Unlink}
use Rattle.orc_chain_rule.specs.Watches.{node_to_add}

-- these nodes; one root, which leads to node 0
abbrev pub one_root : List Node → Heap
one_root nodes = record { nodes = nodes; roots = link_to 0 ∷ []; links = 1 }

-- these nodes; two roots, of which root 1 leads to node 0
abbrev pub two_roots : List Node → Heap
two_roots nodes = record { nodes = nodes; roots = null ∷ link_to 0 ∷ []; links = 1 }

-- no node, and one root
abbrev pub no_nodes : Heap
no_nodes = record { nodes = []; roots = null ∷ []; links = 1 }

-- a marked link
abbrev pub marked_link : Option ℕ → Link
marked_link to = record { to = to; mark = true }

-- agent 0's node with this key, once linked
abbrev pub linked_node : ℕ → Option ℕ → Node
linked_node key to = as_linked (node_to_add 0 key 0 to)

-- the same, marked
abbrev pub marked_node : ℕ → Option ℕ → Node
marked_node key to = with_link (marked_link to) (as_linked (node_to_add 0 key 0 None))

-- agent 1's node with this key, never linked
abbrev pub unlinked_node : ℕ → Option ℕ → Node
unlinked_node key to = node_to_add 1 key 0 to

-- agent 1's notes
abbrev pub added : ℕ → Option ChainNote
added key = Some (Entry (Added 1 key true))

abbrev pub removed : ℕ → Option ChainNote
removed key = Some (Entry (Removed 1 key true))

-- node 1 is linked behind node 0
abbrev pub links_node : Act
links_node = Move (Next 0) null (link_to 1)

-- node 0 is marked
abbrev pub marks_node : Act
marks_node = Move (Next 0) (link_to 1) (marked_link (Some 1))

-- root 0 is led from node 0 on
abbrev pub leads_root : Link → Act
leads_root to = Move (Root 0) (link_to 0) to

-- node 0 of the key 3 and node 1 of the key 5 are marked, and node 2 of the key 9 isn't; node 3 of the key 4 is aimed at node 2
abbrev pub run_of_two : Heap
run_of_two = one_root (marked_node 3 (Some 1) ∷ marked_node 5 (Some 2) ∷ linked_node 9 None ∷ unlinked_node 4 (Some 2) ∷ [])

-- agent 1 looks at root 0; agent 2 adds 5 and takes it out, and agent 3 asks for it and leads past its node
abbrev pub around_five : List (Event ChainNote)
around_five =
    event_by 1 (Look (Root 0) null) None
    ∷ event_by 2 (Move (Root 0) null (link_to 0)) (Some (Entry (Added 2 5 true)))
    ∷ event_by 3 (Look (Next 0) null) (Some (Entry (Asked 3 5 true)))
    ∷ event_by 2 (Move (Next 0) null (marked_link None)) (Some (Entry (Removed 2 5 true)))
    ∷ event_by 3 (Move (Root 0) (link_to 0) null) (Some Unlink) ∷ []
