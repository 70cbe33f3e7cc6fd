-- The kinds of events that the discipline allows, one by one.
use Rattle.std.proofs.Common.{Option, Some, None, ℕ}
use Rattle.orc_heap.specs.Heap.{Heap}
use Rattle.orc_heap.specs.Journals.{IsPlainAct}
use Rattle.orc_heap.specs.declared.events.Act.{Act}
use Rattle.orc_heap.specs.declared.events.Act.TheVariants.{Look, Move}
use Rattle.orc_heap.specs.declared.events.Link.{Link}
use Rattle.orc_heap.specs.declared.events.Place.TheVariants.{Next, Root}
use Rattle.orc_history.specs.declared.queue.QueueEntry.TheVariants.{Empty, Put, Took}
use Rattle.orc_fifo_rule.specs.declared.fifo.FifoNote.{FifoNote}
use Rattle.orc_fifo_rule.specs.declared.fifo.FifoNote.TheVariants.{Begin, Entry, Swing}
use Rattle.orc_fifo_rule.specs.QueueDiscipline.{MayAct, MayBegin, MayEmpty, MayPut, MaySwing, MayTake}

-- a fact of each kind is a fact of every act that is allowed
pub each_kind : (h : Heap) (P : Act → Option FifoNote → Type 0)
    → ((act : Act) → IsPlainAct act → P act None)
    → ((r : ℕ) (from to : Link) → MayBegin h r from to → P (Move (Root r) from to) (Some Begin))
    → ((r : ℕ) (from to : Link) → MaySwing h r from to → P (Move (Root r) from to) (Some Swing))
    → ((r : ℕ) (from to : Link) (by job at : ℕ) → MayTake h r from to → P (Move (Root r) from to) (Some (Entry (Took by job at))))
    → ((t : ℕ) (from to : Link) (by job at : ℕ) → MayPut h t from to job at → P (Move (Next t) from to) (Some (Entry (Put by job at))))
    → ((d : ℕ) (link : Link) (by : ℕ) → MayEmpty h d link → P (Look (Next d) link) (Some (Entry (Empty by))))
    → (act : Act) (noted : Option FifoNote) → MayAct h act noted → P act noted
each_kind h P plain begin swing took put empty act None m = plain act m
each_kind h P plain begin swing took put empty (Move (Root r) from to) (Some Begin) m = begin r from to m
each_kind h P plain begin swing took put empty (Move (Root r) from to) (Some Swing) m = swing r from to m
each_kind h P plain begin swing took put empty (Move (Root r) from to) (Some (Entry (Took by job at))) m = took r from to by job at m
each_kind h P plain begin swing took put empty (Move (Next t) from to) (Some (Entry (Put by job at))) m = put t from to by job at m
each_kind h P plain begin swing took put empty (Look (Next d) link) (Some (Entry (Empty by))) m = empty d link by m
each_kind h P plain begin swing took put empty act noted m = absurd m
