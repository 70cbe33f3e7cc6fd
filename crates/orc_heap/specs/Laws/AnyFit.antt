-- What the discipline that asks for no more than that events fit owes to the trait of disciplines.
use Rattle.std.specs.Prelude.{List}
use Rattle.orc_heap.specs.Allowed.{MovesLinked}
use Rattle.orc_heap.specs.Heap.{Heap, HeapNumbers}
use Rattle.orc_heap.specs.Journals.{FitsAfter, IsPlain, IsPlainAct, run_heap}
use Rattle.orc_heap.specs.declared.events.Act.{Act}
use Rattle.orc_heap.specs.declared.events.Act.TheVariants.{Aim, Fill, Give, Look, Miss, Move, AimSide}
use Rattle.orc_heap.specs.declared.events.Event.{Event}
use Rattle.orc_heap.specs.AnyFit.{AnyFit}

plain_stays : (act : Act) (h : Heap) → IsPlainAct act → MovesLinked act h
plain_stays Give h p = tt
plain_stays (Fill id which value) h p = tt
plain_stays (Aim id to) h p = tt
plain_stays (AimSide id to) h p = tt
plain_stays (Look place link) h p = tt
plain_stays (Move place from to) h p = absurd p
plain_stays (Miss place wanted found) h p = tt

pub plain_fits : {N : Type 0} (n : HeapNumbers) (seen : List (Event N)) (e : Event N) → FitsAfter n seen e → IsPlain e → AnyFit n seen e
plain_fits n seen e fits plain = (fits, plain_stays e.act (run_heap n seen) plain.1)
