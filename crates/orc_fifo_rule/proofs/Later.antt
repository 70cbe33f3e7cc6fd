-- What stays true over all events that the discipline allows.
use Rattle.std.proofs.Common.{List, None, Option, Some, [], ap, arith, inl, inr, refl, subst, sym, true, ℕ, ◌++◌, ◌+◌, ◌∙◌, ◌∷◌, ◌≡◌, ◌⊎◌}
use Rattle.std.specs.List.{slice_get}
use Rattle.orc_heap.proofs.Stays.{stays}
use Rattle.orc_heap.specs.Allowed.{AllAllowed, IsLinkedNode, HasLink}
use Rattle.orc_heap.specs.Heap.{Heap, HeapNumbers, Node, null, shown, link_to}
use Rattle.orc_heap.specs.Journals.{run_heap, event_by}
use Rattle.orc_heap.specs.declared.events.Act.TheVariants.{Look, Move}
use Rattle.orc_heap.specs.declared.events.Event.{Event}
use Rattle.orc_heap.specs.declared.events.Link.{Link}
use Rattle.orc_heap.specs.declared.events.Place.TheVariants.{Next, Root}
use Rattle.orc_history.specs.QueueHistory.{puts_in}
use Rattle.orc_history.specs.declared.queue.QueueEntry.TheVariants.{Empty, Put, Took}
use Rattle.orc_fifo_rule.specs.declared.fifo.FifoNote.{FifoNote}
use Rattle.orc_fifo_rule.specs.declared.fifo.FifoNote.TheVariants.{Begin, Entry, Swing}
use Rattle.orc_fifo_rule.specs.QueueDiscipline.{FifoHolds, FifoMay, HasJob, StepsOn, entries_of, has_begun, position_of}
use Rattle.orc_fifo_rule.specs.Watches.{WasNamed}
use Rattle.orc_fifo_rule.specs.Laws.Kinds.{each_kind}
use Rattle.orc_fifo_rule.specs.Laws.Kept.{fifo_keeps}
use Rattle.orc_fifo_rule.specs.Laws.Nodes.{job_next, linked_next, node_next, position_next}
use Rattle.orc_fifo_rule.specs.Laws.Paths.{put_at_last}
use Rattle.orc_fifo_rule.specs.Laws.Running.{root_at}
use Rattle.orc_heap.proofs.SingleActs.{has_link, link_same, null_to, plain_roots, root_either, root_next, shown_link, some_same}

no_link : (n : HeapNumbers) (before after : List (Event FifoNote)) (id : ℕ) (link : Link) → [] ≡ before ++ after → HasLink (run_heap n before) id link
    → HasLink (run_heap {N = FifoNote} n []) id link
no_link n [] after id link split l = l
no_link n (e ∷ before) after id link split l = let bad : ⊥ = cc in absurd bad

-- the empty list obeys the discipline
pub nothing_yet : (n : HeapNumbers) → FifoHolds n []
nothing_yet n = record {
  lawful = tt;
  legal = tt;
  opening = λ early. record { none = refl; begins = tt; zero_ends = λ node there linked. let none : ◌≡◌ {A = Option Node} None (Some node) = there in cc };
  running = λ now. cc;
  puts = λ id job at put. absurd (omega (arith, put.among.1));
  links = λ id link l. let none : ◌≡◌ {A = Option Node} None (Some l.node) = l.there in cc;
  frozen = λ before after id link split l some. no_link n before after id link split l;
  sides = λ id l. let none : ◌≡◌ {A = Option Node} None (Some l.node) = l.there in cc;
}

pub holds_later : (n : HeapNumbers) (seen more : List (Event FifoNote)) → FifoHolds n seen → AllAllowed (FifoMay n) seen more → FifoHolds n (seen ++ more)
holds_later n seen more holds all = stays (FifoMay n) (FifoHolds n) (λ es e h may. fifo_keeps n es e h may) seen more holds all

-- a once linked node keeps its position, a link to a node, and the job of a Put
pub linked_later : (n : HeapNumbers) (seen more : List (Event FifoNote)) (id : ℕ) → IsLinkedNode (run_heap n seen) id
    → AllAllowed (FifoMay n) seen more → IsLinkedNode (run_heap n (seen ++ more)) id
linked_later n seen more id l all = stays (FifoMay n) (λ es. IsLinkedNode (run_heap n es) id) (λ es e x may. linked_next n es e id may x) seen more l all

pub position_later : (n : HeapNumbers) (seen more : List (Event FifoNote)) (id : ℕ) → IsLinkedNode (run_heap n seen) id → AllAllowed (FifoMay n) seen more
    → position_of (run_heap n (seen ++ more)) id ≡ position_of (run_heap n seen) id
position_later n seen more id l all =
    let P : List (Event FifoNote) → Type 0 = λ es. IsLinkedNode (run_heap n es) id × (position_of (run_heap n es) id ≡ position_of (run_heap n seen) id) in
    let r : P (seen ++ more) = stays (FifoMay n) P (λ es e x may. (linked_next n es e id may x.0, position_next n es e id may x.0 ∙ x.1)) seen more
    (l, refl) all in
    r.1

pub link_later : (n : HeapNumbers) (seen more : List (Event FifoNote)) (id next : ℕ) → HasLink (run_heap n seen) id (link_to next)
    → AllAllowed (FifoMay n) seen more
    → HasLink (run_heap n (seen ++ more)) id (link_to next)
link_later n seen more id next l all =
    stays (FifoMay n) (λ es. HasLink (run_heap n es) id (link_to next)) (λ es e x may. node_next n es e id next may x) seen more l all

pub job_later : (n : HeapNumbers) (seen more : List (Event FifoNote)) (id job at : ℕ) → HasJob (run_heap n seen) id job at
    → AllAllowed (FifoMay n) seen more → HasJob (run_heap n (seen ++ more)) id job at
job_later n seen more id job at j all =
    stays (FifoMay n) (λ es. HasJob (run_heap n es) id job at) (λ es e x may. job_next n es e id job at may x) seen more j all

-- the first position, once both roots have begun
pub first_later : (n : HeapNumbers) (seen more : List (Event FifoNote)) → FifoHolds n seen → has_begun seen ≡ true → AllAllowed (FifoMay n) seen more
    → position_of (run_heap n (seen ++ more)) 0 ≡ position_of (run_heap n seen) 0
first_later n seen more holds begun all = position_later n seen more 0 (holds.running begun).zero all

-- a root that names the node still does, or it stepped on to the node's successor
root_stays : (n : HeapNumbers) (es : List (Event FifoNote)) (e : Event FifoNote) (root id : ℕ) → FifoMay n es e → IsLinkedNode (run_heap n es) id
    → shown (run_heap n es) (Root root) ≡ Some (link_to id)
    → (shown (run_heap n (es ++ e ∷ [])) (Root root) ≡ Some (link_to id)) ⊎ ((next : ℕ) × HasLink (run_heap n es) id (link_to next))
root_stays n es e root id may l at =
    let h : Heap = run_heap n es in
    each_kind h
    (λ act noted. FifoMay n es (event_by e.agent act noted)
    → (shown (run_heap n (es ++ event_by e.agent act noted ∷ [])) (Root root) ≡ Some (link_to id)) ⊎ ((next : ℕ) × HasLink h id (link_to next)))
    (λ act plain m. inl (root_at n es (event_by e.agent act None) root ∙ (ap (λ (x : List Link). slice_get x root) (plain_roots e.agent act h plain) ∙ at)))
    (λ r from to b m. elim (root_either e.agent r root from to h (link_to id) at) [
      | inl c ↦ absurd (null_to id (sym b.from_is ∙ some_same (sym m.fits.0 ∙ same_root h r root c.0 at)))
      | inr c ↦ inl (root_at n es (event_by e.agent (Move (Root r) from to) (Some Begin)) root ∙ c.1)
    ])
    (λ r from to b m. elim (root_either e.agent r root from to h (link_to id) at) [
      | inl c ↦ inr (steps_from h id from to b.steps l (some_same (sym (same_root h r root c.0 at) ∙ m.fits.0)))
      | inr c ↦ inl (root_at n es (event_by e.agent (Move (Root r) from to) (Some Swing)) root ∙ c.1)
    ])
    (λ r from to by job place b m. elim (root_either e.agent r root from to h (link_to id) at) [
      | inl c ↦ inr (steps_from h id from to b.steps l (some_same (sym (same_root h r root c.0 at) ∙ m.fits.0)))
      | inr c ↦ inl (root_at n es (event_by e.agent (Move (Root r) from to) (Some (Entry (Took by job place)))) root ∙ c.1)
    ])
    (λ t from to by job place b m. inl (root_at n es (event_by e.agent (Move (Next t) from to) (Some (Entry (Put by job place)))) root
    ∙ (root_next e.agent t root from to h ∙ at)))
    (λ d link by b m. inl (root_at n es (event_by e.agent (Look (Next d) link) (Some (Entry (Empty by)))) root ∙ at))
    e.act e.note may.may_act may
  where
    same_root : (h : Heap) (r root : ℕ) → r ≡ root → shown h (Root root) ≡ Some (link_to id) → shown h (Root r) ≡ Some (link_to id)
    same_root h r root same at = subst (λ (x : ℕ). shown h (Root x) ≡ Some (link_to id)) (sym same) at

    steps_from : (h : Heap) (id : ℕ) (from to : Link) (s : StepsOn h from to) → IsLinkedNode h id → link_to id ≡ from → (next : ℕ) × HasLink h id (link_to next)
    steps_from h id from to s l from_is =
        let same : s.id ≡ id = link_same s.id id (sym s.from_is ∙ sym from_is) in
        (s.next, has_link h id (link_to s.next) l (subst (λ (x : ℕ). shown h (Next x) ≡ Some (link_to s.next)) same s.successor))

pub named_next : (n : HeapNumbers) (es : List (Event FifoNote)) (e : Event FifoNote) (root id : ℕ) → FifoMay n es e → WasNamed (run_heap n es) root id
    → WasNamed (run_heap n (es ++ e ∷ [])) root id
named_next n es e root id may w = record {
  linked = linked_next n es e id may w.linked;
  either = elim w.either [
    | inl at ↦ elim (root_stays n es e root id may w.linked at) [ inl still ↦ inl still | inr l ↦ inr (l.0, node_next n es e id l.0 may l.1) ]
    | inr l ↦ inr (l.0, node_next n es e id l.0 may l.1)
  ];
}

pub named_later : (n : HeapNumbers) (seen more : List (Event FifoNote)) (root id : ℕ) → WasNamed (run_heap n seen) root id
    → AllAllowed (FifoMay n) seen more → WasNamed (run_heap n (seen ++ more)) root id
named_later n seen more root id w all =
    stays (FifoMay n) (λ es. WasNamed (run_heap n es) root id) (λ es e x may. named_next n es e root id may x) seen more w all

-- where its link is null, the root still names it
pub still_named : (h : Heap) (root id : ℕ) → WasNamed h root id → shown h (Next id) ≡ Some null → shown h (Root root) ≡ Some (link_to id)
still_named h root id w none = elim w.either [ inl at ↦ at | inr l ↦ absurd (null_to l.0 (some_same (sym none ∙ shown_link h id (link_to l.0) l.1))) ]

-- the last node says the next position
pub next_position : (n : HeapNumbers) (es : List (Event FifoNote)) (id : ℕ) → FifoHolds n es → has_begun es ≡ true → WasNamed (run_heap n es) 1 id
    → shown (run_heap n es) (Next id) ≡ Some null
    → position_of (run_heap n es) id ≡ position_of (run_heap n es) 0 + puts_in (entries_of es)
next_position n es id holds begun w none =
    let h : Heap = run_heap n es in
    let run = holds.running begun in
    let last = put_at_last h es run id (still_named h 1 id w none) none in
    ap (λ (x : ℕ). position_of h x) (sym last.2) ∙ run.next
