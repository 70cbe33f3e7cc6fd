-- Root 1 leaves a node for good.
use Rattle.std.proofs.Common.{List, None, Some, [], ap, arith, inl, inr, subst, sym, true, ℕ, ◌++◌, ◌∙◌, ◌∷◌, ◌≡◌, ◌≢◌}
use Rattle.std.specs.List.{slice_get}
use Rattle.orc_heap.proofs.Stays.{stays}
use Rattle.orc_heap.specs.Allowed.{AllAllowed, HasLink}
use Rattle.orc_heap.specs.Heap.{Heap, HeapNumbers, null, shown, link_to}
use Rattle.orc_heap.specs.Journals.{run_heap, event_by}
use Rattle.orc_heap.specs.declared.events.Act.TheVariants.{Look, Move}
use Rattle.orc_heap.specs.declared.events.Event.{Event}
use Rattle.orc_heap.specs.declared.events.Link.{Link}
use Rattle.orc_heap.specs.declared.events.Place.TheVariants.{Next, Root}
use Rattle.orc_history.specs.declared.queue.QueueEntry.TheVariants.{Empty, Put, Took}
use Rattle.orc_fifo_rule.specs.declared.fifo.FifoNote.{FifoNote}
use Rattle.orc_fifo_rule.specs.declared.fifo.FifoNote.TheVariants.{Entry, Swing}
use Rattle.orc_fifo_rule.specs.QueueDiscipline.{FifoHolds, FifoMay, IsPath, IsRunning, has_begun}
use Rattle.orc_fifo_rule.specs.Watches.{IsLeftBehind, WasNamed}
use Rattle.orc_fifo_rule.specs.Laws.Events.{begun_more}
use Rattle.orc_fifo_rule.specs.Laws.Kinds.{each_kind}
use Rattle.orc_fifo_rule.specs.Laws.Kept.{fifo_keeps}
use Rattle.orc_fifo_rule.specs.Laws.Nodes.{node_next}
use Rattle.orc_fifo_rule.specs.Laws.Paths.{back_one, tail_steps}
use Rattle.orc_fifo_rule.specs.Laws.Running.{begin_late, root_at}
use Rattle.orc_heap.proofs.SingleActs.{link_same, null_to, plain_roots, root_either, root_next, root_other, shown_link, some_same}

-- the tail steps on to the last node, which has no successor
swing_apart : (h : Heap) (es : List (Event FifoNote)) (run : IsRunning h es) (id next x : ℕ) → HasLink h id (link_to next)
    → shown h (Next run.tail) ≡ Some (link_to x) → x ≢ id
swing_apart h es run id next x link successor same =
    let one = back_one es h run.tail run.last run.back x run.to_last run.ends run.short successor in
    let none : shown h (Next id) ≡ Some null = subst (λ (y : ℕ). shown h (Next y) ≡ Some null) (sym one.4 ∙ same) (shown_link h run.last null run.ends) in
    null_to next (some_same (sym none ∙ shown_link h id (link_to next) link))

still_apart : (n : HeapNumbers) (es : List (Event FifoNote)) (e : Event FifoNote) (id next : ℕ) → IsRunning (run_heap n es) es → FifoMay n es e
    → HasLink (run_heap n es) id (link_to next)
    → shown (run_heap n es) (Root 1) ≢ Some (link_to id) → shown (run_heap n (es ++ e ∷ [])) (Root 1) ≢ Some (link_to id)
still_apart n es e id next run may link apart =
    let h : Heap = run_heap n es in
    each_kind h
    (λ act noted. FifoMay n es (event_by e.agent act noted) → shown (run_heap n (es ++ event_by e.agent act noted ∷ [])) (Root 1) ≡ Some (link_to id) → ⊥)
    (λ act plain m now. apart (ap (λ (x : List Link). slice_get x 1) (sym (plain_roots e.agent act h plain))
    ∙ (sym (root_at n es (event_by e.agent act None) 1) ∙ now)))
    (λ r from to b m now. begin_late h es r run b.root_is (m.fits.0 ∙ ap (λ (x : Link). Some x) b.from_is))
    (λ r from to b m now.
    let x : Event FifoNote = event_by e.agent (Move (Root r) from to) (Some Swing) in
    let (same, step) = tail_steps h es run r from to b.steps b.root_is m.fits.0 in
    let successor : shown h (Next run.tail) ≡ Some (link_to b.steps.next) =
    subst (λ (y : ℕ). shown h (Next y) ≡ Some (link_to b.steps.next)) same b.steps.successor in
    elim (root_either e.agent r 1 from to h (link_to run.tail) run.tail_is) [
      | inl c ↦ swing_apart h es run id next b.steps.next link successor
          (link_same b.steps.next id (sym b.steps.to_is ∙ some_same (sym c.1 ∙ (sym (root_at n es x 1) ∙ now))))
      | inr c ↦ c.0 b.root_is
    ])
    (λ r from to by job at b m now.
    let x : Event FifoNote = event_by e.agent (Move (Root r) from to) (Some (Entry (Took by job at))) in
    apart (sym (root_other e.agent r 1 from to h (λ y. omega (arith, y, b.root_is))) ∙ (sym (root_at n es x 1) ∙ now)))
    (λ t from to by job at b m now. apart
    (sym (root_next e.agent t 1 from to h) ∙ (sym (root_at n es (event_by e.agent (Move (Next t) from to) (Some (Entry (Put by job at)))) 1) ∙ now)))
    (λ d l by b m now. apart (sym (root_at n es (event_by e.agent (Look (Next d) l) (Some (Entry (Empty by)))) 1) ∙ now))
    e.act e.note may.may_act may

-- root 1 doesn't come back
pub left_later : (n : HeapNumbers) (seen more : List (Event FifoNote)) (id : ℕ) → FifoHolds n seen → has_begun seen ≡ true
    → IsLeftBehind (run_heap n seen) id → AllAllowed (FifoMay n) seen more
    → IsLeftBehind (run_heap n (seen ++ more)) id
left_later n seen more id holds begun left all =
    let P : List (Event FifoNote) → Type 0 = λ es. FifoHolds n es × (has_begun es ≡ true) × IsLeftBehind (run_heap n es) id in
    let r : P (seen ++ more) =
    stays (FifoMay n) P (λ es e p may. (
      fifo_keeps n es e p.0 may,
      begun_more es (e ∷ []) p.1,
      record {
        next = p.2.next;
        link = node_next n es e id p.2.next may p.2.link;
        tail_apart = still_apart n es e id p.2.next (p.0.running p.1) may p.2.link p.2.tail_apart;
      },
    )) seen more (holds, begun, left) all in
    r.2

first_step : (es : List (Event FifoNote)) (h : Heap) (dummy tail : ℕ) (front : List (ℕ × ℕ)) → IsPath es h dummy front tail → dummy ≢ tail
    → (next : ℕ) × HasLink h dummy (link_to next)
first_step es h dummy tail [] path apart = absurd (apart path)
first_step es h dummy tail (put ∷ puts) (next, link, put_node, rest) apart = (next, link)

-- a node that root 0 named, and that root 1 doesn't name, is left
pub is_left : (n : HeapNumbers) (es : List (Event FifoNote)) (id : ℕ) → FifoHolds n es → has_begun es ≡ true → WasNamed (run_heap n es) 0 id
    → shown (run_heap n es) (Root 1) ≢ Some (link_to id)
    → IsLeftBehind (run_heap n es) id
is_left n es id holds begun w apart =
    let h : Heap = run_heap n es in
    let run = holds.running begun in
    elim w.either [
      | inl at ↦
          let same : run.dummy ≡ id = link_same run.dummy id (some_same (sym run.head_is ∙ at)) in
          let (next, link) =
          first_step es h run.dummy run.tail run.front run.to_tail (λ x. apart (run.tail_is ∙ ap (λ (y : ℕ). Some (link_to y)) (sym x ∙ same))) in
          record { next = next; link = subst (λ (y : ℕ). HasLink h y (link_to next)) same link; tail_apart = apart }
      | inr l ↦ record { next = l.0; link = l.1; tail_apart = apart }
    ]
