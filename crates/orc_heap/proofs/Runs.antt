-- Runs and lawful lists, over one list of events after another.
use Rattle.std.proofs.Common.{List, [], refl, ◌++◌, ◌∷◌, ◌≡◌}
use Rattle.orc_heap.specs.Acts.{heap_after}
use Rattle.orc_heap.specs.Heap.{Heap, HeapNumbers, new_heap}
use Rattle.orc_heap.specs.Journals.{FitsAfter, IsLawful, IsLawfulFrom, run_from, run_heap}
use Rattle.orc_heap.specs.declared.events.Event.{Event}

pub run_from-append : {N : Type 0} (h : Heap) (es fs : List (Event N)) → run_from h (es ++ fs) ≡ run_from (run_from h es) fs
run_from-append h [] fs = refl
run_from-append h (e ∷ es) fs = run_from-append (heap_after e.agent e.act h) es fs

pub lawful-join : {N : Type 0} (h : Heap) (es fs : List (Event N)) → IsLawfulFrom h es → IsLawfulFrom (run_from h es) fs → IsLawfulFrom h (es ++ fs)
lawful-join h [] fs l k = k
lawful-join h (e ∷ es) fs l k = (l.0, lawful-join (heap_after e.agent e.act h) es fs l.1 k)

pub lawful-left : {N : Type 0} (h : Heap) (es fs : List (Event N)) → IsLawfulFrom h (es ++ fs) → IsLawfulFrom h es
lawful-left h [] fs l = tt
lawful-left h (e ∷ es) fs l = (l.0, lawful-left (heap_after e.agent e.act h) es fs l.1)

pub lawful-right : {N : Type 0} (h : Heap) (es fs : List (Event N)) → IsLawfulFrom h (es ++ fs) → IsLawfulFrom (run_from h es) fs
lawful-right h [] fs l = l
lawful-right h (e ∷ es) fs l = lawful-right (heap_after e.agent e.act h) es fs l.1

-- one event more
pub run_heap-snoc : {N : Type 0} (n : HeapNumbers) (es : List (Event N)) (e : Event N) → run_heap n (es ++ e ∷ []) ≡ heap_after e.agent e.act (run_heap n es)
run_heap-snoc n es e = run_from-append (new_heap n) es (e ∷ [])

pub lawful-snoc : {N : Type 0} (n : HeapNumbers) (es : List (Event N)) (e : Event N) → IsLawful n es → FitsAfter n es e → IsLawful n (es ++ e ∷ [])
lawful-snoc n es e lawful fits = lawful-join (new_heap n) es (e ∷ []) lawful (fits, tt)
