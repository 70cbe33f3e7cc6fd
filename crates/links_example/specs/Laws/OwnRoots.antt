-- What the discipline of own roots owes to the trait of disciplines.
use Rattle.std.specs.Prelude.{List, Option, [], ℕ, ◌++◌, ◌∷◌}
use Rattle.orc_heap.proofs.Runs.{lawful-snoc}
use Rattle.orc_heap.specs.Allowed.{MovesLinked}
use Rattle.orc_heap.specs.Heap.{Heap, HeapNumbers}
use Rattle.orc_heap.specs.Journals.{FitsAfter, IsPlain, IsPlainAct, run_heap}
use Rattle.orc_heap.specs.declared.events.Act.{Act}
use Rattle.orc_heap.specs.declared.events.Act.TheVariants.{Aim, AimSide, Fill, Give, Look, Miss, Move}
use Rattle.orc_heap.specs.declared.events.Event.{Event}
use Rattle.orc_heap.specs.declared.events.Place.TheVariants.{Next, Root, Side}
use Rattle.links_example.specs.OwnRoots.{IsOwnMove, OwnRootsHolds, OwnRootsMay}

pub own_roots_keeps : (n : HeapNumbers) (seen : List (Event ℕ)) (e : Event ℕ) → OwnRootsHolds n seen → OwnRootsMay n seen e → OwnRootsHolds n (seen ++ e ∷ [])
own_roots_keeps n seen e h m = lawful-snoc n seen e h m.0

plain_own : (agent : ℕ) (act : Act) (noted : Option ℕ) → IsPlainAct act → IsOwnMove agent act noted
plain_own agent Give noted p = tt
plain_own agent (Fill id which value) noted p = tt
plain_own agent (Aim id to) noted p = tt
plain_own agent (AimSide id to) noted p = tt
plain_own agent (Look place link) noted p = tt
plain_own agent (Move place from to) noted p = absurd p
plain_own agent (Miss place wanted found) noted p = tt

pub own_roots_allows_plain : (n : HeapNumbers) (seen : List (Event ℕ)) (e : Event ℕ) → OwnRootsHolds n seen → FitsAfter n seen e → IsPlain e
    → OwnRootsMay n seen e
own_roots_allows_plain n seen e h f p = (f, plain_own e.agent e.act e.note p.1)

own_linked : (agent : ℕ) (act : Act) (noted : Option ℕ) (h : Heap) → IsOwnMove agent act noted → MovesLinked act h
own_linked agent Give noted h m = tt
own_linked agent (Fill id which value) noted h m = tt
own_linked agent (Aim id to) noted h m = tt
own_linked agent (AimSide id to) noted h m = tt
own_linked agent (Look place link) noted h m = tt
own_linked agent (Move (Root r) from to) noted h m = tt
own_linked agent (Move (Next id) from to) noted h m = absurd m
own_linked agent (Move (Side id) from to) noted h m = absurd m
own_linked agent (Miss place wanted found) noted h m = tt

pub own_roots_moves_linked : (n : HeapNumbers) (seen : List (Event ℕ)) (e : Event ℕ) → OwnRootsHolds n seen → OwnRootsMay n seen e
    → MovesLinked e.act (run_heap n seen)
own_roots_moves_linked n seen e h m = own_linked e.agent e.act e.note (run_heap n seen) m.1
