-- What the worked examples of queues are made of.
use Rattle.std.specs.Prelude.{List, None, Option, Some, [], true, ℕ, ◌∷◌}
use Rattle.orc_heap.specs.Heap.{Heap, Node, link_to, null}
use Rattle.orc_heap.specs.Journals.{event_by}
use Rattle.orc_heap.specs.declared.events.Act.{Act}
use Rattle.orc_heap.specs.declared.events.Act.TheVariants.{Fill, Give, Move}
use Rattle.orc_heap.specs.declared.events.Event.{Event}
use Rattle.orc_heap.specs.declared.events.Link.{Link}
use Rattle.orc_heap.specs.declared.events.Place.TheVariants.{Next, Root}
use Rattle.orc_history.specs.declared.queue.QueueEntry.TheVariants.{Put}
use Rattle.orc_fifo_rule.specs.declared.fifo.FifoNote.{FifoNote}
use Rattle.orc_fifo_rule.specs.declared.fifo.FifoNote.TheVariants.{Begin, Entry}

-- these nodes, and roots that lead to this node and that
abbrev pub roots_at : ℕ → ℕ → List Node → Heap
roots_at head tail nodes = record { nodes = nodes; roots = link_to head ∷ link_to tail ∷ []; links = 1 }

-- a heap without nodes, whose roots are null
abbrev pub no_nodes : Heap
no_nodes = record { nodes = []; roots = null ∷ null ∷ []; links = 1 }

-- the dummy, with this second value and link
abbrev pub dummy : Option ℕ → Link → Node
dummy second link = record { giver = 0; first = None; second = second; link = link; side = null; named = true; linked = true }

-- agent 1's node of job 7, once linked
abbrev pub last_node : Node
last_node = record { giver = 1; first = Some 7; second = Some 6; link = null; side = null; named = true; linked = true }

-- agent 0 is given node 0, fills it, and begins both roots
abbrev pub opening : ℕ → List (Event FifoNote)
opening first =
    event_by 0 Give None ∷ event_by 0 (Fill 0 1 first) None ∷ event_by 0 (Move (Root 0) null (link_to 0)) (Some Begin)
    ∷ event_by 0 (Move (Root 1) null (link_to 0)) (Some Begin) ∷ []

-- agent 1 puts job 7 with node 1 behind node 0, at this position
abbrev pub links_node : Act
links_node = Move (Next 0) null (link_to 1)

abbrev pub put_at : ℕ → Option FifoNote
put_at at = Some (Entry (Put 1 7 at))
