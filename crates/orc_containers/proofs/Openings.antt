-- What a queue begins with.
use Rattle.std.proofs.Common.{Option, None, Some, is_some, refl, suc, true, zero, ℕ, ◌≡◌}
use Rattle.std.specs.List.{slice_get}
use Rattle.orc_heap.specs.Heap.{HeapNumbers, Node}
use Rattle.orc_heap.specs.Journals.{run_heap}
use Rattle.orc_heap.specs.Seeds.{opening_events}
use Rattle.orc_heap.specs.declared.seed.Seed.TheVariants.{Dummy}
use Rattle.orc_fifo_rule.specs.QueueDiscipline.{position_of}
use Rattle.orc_fifo_rule.specs.declared.fifo.FifoNote.TheVariants.{Begin}
use Rattle.orc_queue.specs.Turns.{HasDummy}

-- the one node of the opening has its second value
filled : (n : HeapNumbers) (first id : ℕ) (node : Node) → slice_get (run_heap n (opening_events (Dummy first Begin))).nodes id ≡ Some node
    → is_some node.second ≡ true
filled n first zero node there = cc
filled n first (suc id) node there = let none : ◌≡◌ {A = Option Node} None (Some node) = there in cc

-- so it has a dummy
pub has_dummy : (n : HeapNumbers) (first : ℕ) → HasDummy n (opening_events (Dummy first Begin))
has_dummy n first = record { begun = refl; filled = λ id node there linked. filled n first id node there }

-- whose second value is the first position
pub first_position : (n : HeapNumbers) (first : ℕ) → position_of (run_heap n (opening_events (Dummy first Begin))) 0 ≡ first
first_position n first = refl
