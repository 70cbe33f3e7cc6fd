-- The queue once both roots have begun: what each kind of event leaves of it.
use Rattle.std.proofs.Common.{List, None, Option, Some, [], ap, append-nil, arith, drop, inl, inr, refl, subst, suc, sym, zero, ℕ, ◌++◌, ◌+◌, ◌<◌, ◌∙◌, ◌∷◌, ◌≡◌, ◌≢◌}
use Rattle.std.specs.List.{slice_get}
use Rattle.orc_heap.proofs.Runs.{run_heap-snoc}
use Rattle.orc_heap.specs.Acts.{as_linked, heap_after, moved_link}
use Rattle.orc_heap.specs.Allowed.{IsLinkedNode, HasLink}
use Rattle.orc_heap.specs.Heap.{Heap, HeapNumbers, null, shown, link_to}
use Rattle.orc_heap.specs.Journals.{run_heap, event_by}
use Rattle.orc_heap.specs.declared.events.Act.TheVariants.{Look, Move}
use Rattle.orc_heap.specs.declared.events.Event.{Event}
use Rattle.orc_heap.specs.declared.events.Link.{Link}
use Rattle.orc_heap.specs.declared.events.Place.TheVariants.{Next, Root}
use Rattle.orc_history.specs.QueueHistory.{puts_in, waiting_after}
use Rattle.orc_history.specs.declared.queue.QueueEntry.TheVariants.{Empty, Put, Took}
use Rattle.orc_history.proofs.Histories.{waiting_after-snoc}
use Rattle.orc_fifo_rule.specs.declared.fifo.FifoNote.{FifoNote}
use Rattle.orc_fifo_rule.specs.declared.fifo.FifoNote.TheVariants.{Entry, Swing}
use Rattle.orc_fifo_rule.specs.QueueDiscipline.{FifoHolds, FifoMay, IsPutNode, IsRunning, StepsOn, entries_in, entries_of, position_of}
use Rattle.orc_fifo_rule.specs.Laws.Kinds.{each_kind}
use Rattle.orc_fifo_rule.specs.Laws.Nodes.{PutsAt, job_position, linked_next, link_next, null_next, path_next, position_next}
use Rattle.orc_fifo_rule.specs.Laws.Events.{entries_more, entries_same, put_last, puts_snoc}
use Rattle.orc_fifo_rule.specs.Laws.Paths.{back_one, head_steps, path_snoc, path_step, put_at_last, tail_linked, tail_steps}
use Rattle.orc_fifo_rule.specs.Laws.Leaves.{put_has_job, put_node_after, put_position}
use Rattle.orc_heap.proofs.SingleActs.{link_moved, null_to, plain_roots, root_moved, root_next, root_other, some_same}

-- what a root shows after the event
pub root_at : (n : HeapNumbers) (es : List (Event FifoNote)) (e : Event FifoNote) (r : ℕ)
    → shown (run_heap n (es ++ e ∷ [])) (Root r) ≡ shown (heap_after e.agent e.act (run_heap n es)) (Root r)
root_at n es e r = ap (λ (h : Heap). shown h (Root r)) (run_heap-snoc n es e)

-- a root that steps on shows its node's successor afterwards
pub root_stepped : (n : HeapNumbers) (es : List (Event FifoNote)) (agent r root : ℕ) (from to : Link) (noted : Option FifoNote)
    → (s : StepsOn (run_heap n es) from to) → r ≡ root → shown (run_heap n es) (Root r) ≡ Some from
    → shown (run_heap n (es ++ event_by agent (Move (Root r) from to) noted ∷ [])) (Root root) ≡ Some (link_to s.next)
root_stepped n es agent r root from to noted s is at =
    let h : Heap = run_heap n es in
    root_at n es (event_by agent (Move (Root r) from to) noted) root
    ∙ (subst (λ (x : ℕ). shown (heap_after agent (Move (Root r) from to) h) (Root x) ≡ Some to) is (root_moved agent r from to h at)
    ∙ ap (λ (l : Link). Some l) s.to_is)

-- the next position, where there is no Put
next_same : (n : HeapNumbers) (es : List (Event FifoNote)) (e : Event FifoNote) (run : IsRunning (run_heap n es) es) → FifoMay n es e
    → puts_in (entries_in e.note) ≡ 0
    → position_of (run_heap n (es ++ e ∷ [])) run.last ≡ position_of (run_heap n (es ++ e ∷ [])) 0 + puts_in (entries_of (es ++ e ∷ []))
next_same n es e run may none =
    let last = position_next n es e run.last may (record { node = run.ends.node; there = run.ends.there; linked = run.ends.linked }) in
    let first = position_next n es e 0 may run.zero in
    omega (arith, last, first, run.next, puts_snoc es e, none)

ends_next : (n : HeapNumbers) (es : List (Event FifoNote)) (e : Event FifoNote) (run : IsRunning (run_heap n es) es) → FifoMay n es e
    → (PutsAt (run_heap n es) e.act e.note run.last → ⊥)
    → HasLink (run_heap n (es ++ e ∷ [])) run.last null
ends_next n es e run may no_put = elim (null_next n es e run.last may run.ends) [ inl same ↦ same | inr put ↦ absurd (no_put put.0) ]

-- an event that moves nothing
running_still : (n : HeapNumbers) (es : List (Event FifoNote)) (e : Event FifoNote) → IsRunning (run_heap n es) es → FifoMay n es e
    → (heap_after e.agent e.act (run_heap n es)).roots ≡ (run_heap n es).roots
    → ((d : ℕ) → PutsAt (run_heap n es) e.act e.note d → ⊥)
    → waiting_after [] (entries_of (es ++ e ∷ [])) ≡ waiting_after [] (entries_of es) → puts_in (entries_in e.note) ≡ 0
    → IsRunning (run_heap n (es ++ e ∷ [])) (es ++ e ∷ [])
running_still n es e run may roots no_put waiting none = record {
  dummy = run.dummy;
  tail = run.tail;
  last = run.last;
  front = run.front;
  back = run.back;
  head_is = root_at n es e 0 ∙ (ap (λ (l : List Link). slice_get l 0) roots ∙ run.head_is);
  tail_is = root_at n es e 1 ∙ (ap (λ (l : List Link). slice_get l 1) roots ∙ run.tail_is);
  to_tail = path_next n es e run.dummy run.tail run.front may run.to_tail;
  to_last = path_next n es e run.tail run.last run.back may run.to_last;
  ends = ends_next n es e run may (no_put run.last);
  short = run.short;
  waiting = waiting ∙ run.waiting;
  zero = linked_next n es e 0 may run.zero;
  next = next_same n es e run may none;
}

running_plain : (n : HeapNumbers) (es : List (Event FifoNote)) (e : Event FifoNote) → IsRunning (run_heap n es) es → FifoMay n es e → e.note ≡ None
    → (heap_after e.agent e.act (run_heap n es)).roots ≡ (run_heap n es).roots → IsRunning (run_heap n (es ++ e ∷ [])) (es ++ e ∷ [])
running_plain n es e run may noted roots =
    running_still n es e run may roots (λ d p. let both : None ≡ Some (Entry (Put p.by p.job p.at)) = sym noted ∙ p.note_is in cc)
    (ap (waiting_after []) (entries_same es e (ap entries_in noted))) (ap (λ x. puts_in (entries_in x)) noted)

running_empty : (n : HeapNumbers) (es : List (Event FifoNote)) (agent d by : ℕ) (link : Link) → IsRunning (run_heap n es) es
    → (let e : Event FifoNote = event_by agent (Look (Next d) link) (Some (Entry (Empty by))) in
    FifoMay n es e → IsRunning (run_heap n (es ++ e ∷ [])) (es ++ e ∷ []))
running_empty n es agent d by link run may =
    let e : Event FifoNote = event_by agent (Look (Next d) link) (Some (Entry (Empty by))) in
    running_still n es e run may refl (λ x p. let is = p.note_is in cc)
    (ap (waiting_after []) (entries_more es e (Empty by) refl) ∙ waiting_after-snoc [] (entries_of es) (Empty by)) refl

-- a Begin finds both roots set
pub begin_late : (h : Heap) (es : List (Event FifoNote)) (r : ℕ) → IsRunning h es → r < 2 → shown h (Root r) ≡ Some null → ⊥
begin_late h es zero run low at = null_to run.dummy (some_same (sym at ∙ run.head_is))
begin_late h es (suc zero) run low at = null_to run.tail (some_same (sym at ∙ run.tail_is))
begin_late h es (suc (suc r)) run low at = omega (arith, low)

-- root 1 steps on to the last node
running_swing : (n : HeapNumbers) (es : List (Event FifoNote)) (agent r : ℕ) (from to : Link) → IsRunning (run_heap n es) es
    → (let e : Event FifoNote = event_by agent (Move (Root r) from to) (Some Swing) in FifoMay n es e → IsRunning (run_heap n (es ++ e ∷ [])) (es ++ e ∷ []))
running_swing n es agent r from to run may =
    let e : Event FifoNote = event_by agent (Move (Root r) from to) (Some Swing) in
    let h : Heap = run_heap n es in
    let k : Heap = run_heap n (es ++ e ∷ []) in
    let s = may.may_act.steps in
    let one : r ≡ 1 = may.may_act.root_is in
    let (same, step) = tail_steps h es run r from to s one may.fits.0 in
    let successor : shown h (Next run.tail) ≡ Some (link_to s.next) = subst (λ (x : ℕ). shown h (Next x) ≡ Some (link_to s.next)) same s.successor in
    let (put, back_is, link, put_node, is_last) = back_one es h run.tail run.last run.back s.next run.to_last run.ends run.short successor in
    let path = path_snoc es h run.dummy run.tail s.next run.front put run.to_tail link put_node in
    record {
      dummy = run.dummy;
      tail = s.next;
      last = run.last;
      front = run.front ++ put ∷ [];
      back = [];
      head_is = root_at n es e 0 ∙ (root_other agent r 0 from to h (λ x. omega (arith, x, one)) ∙ run.head_is);
      tail_is = root_stepped n es agent r 1 from to (Some Swing) s one may.fits.0;
      to_tail = path_next n es e run.dummy s.next (run.front ++ put ∷ []) may path;
      to_last = is_last;
      ends = ends_next n es e run may (λ p. let is = p.note_is in cc);
      short = omega arith;
      waiting = ap (waiting_after []) (entries_same es e refl) ∙ (run.waiting ∙ (ap (λ z. run.front ++ z) back_is ∙ sym (append-nil (run.front ++ put ∷ []))));
      zero = linked_next n es e 0 may run.zero;
      next = next_same n es e run may refl;
    }

-- root 0 steps on
running_took : (n : HeapNumbers) (es : List (Event FifoNote)) (agent r by job at : ℕ) (from to : Link) → IsRunning (run_heap n es) es
    → (let e : Event FifoNote = event_by agent (Move (Root r) from to) (Some (Entry (Took by job at))) in
    FifoMay n es e → IsRunning (run_heap n (es ++ e ∷ [])) (es ++ e ∷ []))
running_took n es agent r by job at from to run may =
    let e : Event FifoNote = event_by agent (Move (Root r) from to) (Some (Entry (Took by job at))) in
    let h : Heap = run_heap n es in
    let s = may.may_act.steps in
    let zero_root : r ≡ 0 = may.may_act.root_is in
    let (same, step) = head_steps h es run r from to s zero_root may.fits.0 in
    let successor : shown h (Next run.dummy) ≡ Some (link_to s.next) = subst (λ (x : ℕ). shown h (Next x) ≡ Some (link_to s.next)) same s.successor in
    let apart : run.dummy ≢ run.tail =
    λ x. may.may_act.tail_apart (run.tail_is ∙ ap (λ (l : Link). Some l) (ap link_to (sym x) ∙ (ap link_to (sym same) ∙ sym s.from_is))) in
    let (put, rest, front_is, put_node, path) = path_step es h run.dummy run.tail run.front s.next run.to_tail successor apart in
    record {
      dummy = s.next;
      tail = run.tail;
      last = run.last;
      front = rest;
      back = run.back;
      head_is = root_stepped n es agent r 0 from to (Some (Entry (Took by job at))) s zero_root may.fits.0;
      tail_is = root_at n es e 1 ∙ (root_other agent r 1 from to h (λ x. omega (arith, x, zero_root)) ∙ run.tail_is);
      to_tail = path_next n es e s.next run.tail rest may path;
      to_last = path_next n es e run.tail run.last run.back may run.to_last;
      ends = ends_next n es e run may (λ p. let is = p.note_is in cc);
      short = run.short;
      waiting = ap (waiting_after []) (entries_more es e (Took by job at) refl)
          ∙ (waiting_after-snoc [] (entries_of es) (Took by job at) ∙ ap (drop 1) (run.waiting ∙ ap (λ z. z ++ run.back) front_is));
      zero = linked_next n es e 0 may run.zero;
      next = next_same n es e run may refl;
    }

-- a node is put behind the last one
running_put : (n : HeapNumbers) (es : List (Event FifoNote)) (agent t by job at : ℕ) (from to : Link) → FifoHolds n es → IsRunning (run_heap n es) es
    → (let e : Event FifoNote = event_by agent (Move (Next t) from to) (Some (Entry (Put by job at))) in
    FifoMay n es e → IsRunning (run_heap n (es ++ e ∷ [])) (es ++ e ∷ []))
running_put n es agent t by job at from to holds run may =
    let e : Event FifoNote = event_by agent (Move (Next t) from to) (Some (Entry (Put by job at))) in
    let h : Heap = run_heap n es in
    let k : Heap = run_heap n (es ++ e ∷ []) in
    let m = may.may_act in
    let none : shown h (Next t) ≡ Some null = may.fits.0 ∙ ap (λ (l : Link). Some l) m.from_is in
    let (tail_at, no_back, last_at) = put_at_last h es run t m.tail_is none in
    let t_linked : IsLinkedNode h t = subst (λ (x : ℕ). IsLinkedNode h x) tail_at (tail_linked h es run) in
    let ends : HasLink h t null = subst (λ (x : ℕ). HasLink h x null) last_at run.ends in
    let moved : moved_link (Move (Next t) from to) t null ≡ link_to m.id =
    elim (link_moved t t from to null) [ inl c ↦ c.1 ∙ m.to_is | inr c ↦ absurd (c.0 refl) ] in
    let link : HasLink k run.tail (link_to m.id) =
    subst (λ (x : ℕ). HasLink k x (link_to m.id)) (sym tail_at) (subst (λ (l : Link). HasLink k t l) moved (link_next n es e t null may ends)) in
    let node : IsPutNode (es ++ e ∷ []) m.id job at = put_last es e m.id by job at (Next t) from (ap (λ (l : Link). Move (Next t) from l) m.to_is) refl in
    let there : slice_get k.nodes m.id ≡ Some (as_linked m.node) =
    subst (λ (g : Heap). slice_get g.nodes m.id ≡ Some (as_linked m.node)) (sym (run_heap-snoc n es e))
    (put_node_after h agent t from to job at m t_linked) in
    let position : position_of k m.id ≡ at + 1 = job_position k m.id job at (put_has_job n es agent t by job at from to holds may) in
    let before : at ≡ position_of h t = put_position n es e t by job at holds may refl m.tail_is none in
    let last : position_of h t ≡ position_of h run.last = ap (λ (x : ℕ). position_of h x) (sym last_at) in
    let first : position_of k 0 ≡ position_of h 0 = position_next n es e 0 may run.zero in
    record {
      dummy = run.dummy;
      tail = run.tail;
      last = m.id;
      front = run.front;
      back = (job, at) ∷ [];
      head_is = root_at n es e 0 ∙ (root_next agent t 0 from to h ∙ run.head_is);
      tail_is = root_at n es e 1 ∙ (root_next agent t 1 from to h ∙ run.tail_is);
      to_tail = path_next n es e run.dummy run.tail run.front may run.to_tail;
      to_last = (m.id, link, node, refl);
      ends = record { node = as_linked m.node; there = there; linked = refl; link_is = m.ends };
      short = omega arith;
      waiting = ap (waiting_after []) (entries_more es e (Put by job at) refl)
          ∙ (waiting_after-snoc [] (entries_of es) (Put by job at)
          ∙ ap (λ z. z ++ (job, at) ∷ []) (run.waiting ∙ (ap (λ z. run.front ++ z) no_back ∙ append-nil run.front)));
      zero = linked_next n es e 0 may run.zero;
      next = omega (arith, position, before, last, first, run.next, puts_snoc es e);
    }

-- a queue that runs goes on running
pub running_next : (n : HeapNumbers) (es : List (Event FifoNote)) (e : Event FifoNote) → FifoHolds n es → IsRunning (run_heap n es) es
    → FifoMay n es e → IsRunning (run_heap n (es ++ e ∷ [])) (es ++ e ∷ [])
running_next n es e holds run may =
    each_kind (run_heap n es) (λ act noted. let x : Event FifoNote = event_by e.agent act noted in
    FifoMay n es x → IsRunning (run_heap n (es ++ x ∷ [])) (es ++ x ∷ []))
    (λ act plain m. running_plain n es (event_by e.agent act None) run m refl (plain_roots e.agent act (run_heap n es) plain))
    (λ r from to b m. absurd (begin_late (run_heap n es) es r run b.root_is (m.fits.0 ∙ ap (λ (l : Link). Some l) b.from_is)))
    (λ r from to b m. running_swing n es e.agent r from to run m)
    (λ r from to by job at b m. running_took n es e.agent r by job at from to run m)
    (λ t from to by job at b m. running_put n es e.agent t by job at from to holds run m)
    (λ d link by b m. running_empty n es e.agent d by link run m)
    e.act e.note may.may_act may
