-- The discipline that asks for no more than that events fit.
use Rattle.std.specs.Prelude.{List}
use Rattle.orc_heap.specs.Allowed.{MovesLinked}
use Rattle.orc_heap.specs.Heap.{HeapNumbers}
use Rattle.orc_heap.specs.Journals.{FitsAfter, run_heap}
use Rattle.orc_heap.specs.declared.events.Event.{Event}

-- whatever fits may follow, but for a Move of a link that no Move made
abbrev pub AnyFit : {N : Type 0} → HeapNumbers → List (Event N) → Event N → Type 0
AnyFit n seen e = FitsAfter n seen e × MovesLinked e.act (run_heap n seen)
