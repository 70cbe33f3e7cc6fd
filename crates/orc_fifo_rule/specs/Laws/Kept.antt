-- What the discipline owes to the traits of disciplines.
use Rattle.std.proofs.Common.{Bool, List, None, Option, Some, [], ap, arith, false, inl, inr, refl, subst, sym, true, ℕ, ◌++◌, ◌∙◌, ◌∷◌, ◌≡◌}
use Rattle.std.proofs.Math.Bool.{and-eq-true_iff}
use Rattle.orc_heap.proofs.Runs.{lawful-snoc, run_heap-snoc}
use Rattle.orc_heap.specs.Acts.{as_linked, heap_after, set_link}
use Rattle.orc_heap.specs.Allowed.{IsLinkedNode, LeadsUp, MovesLinked, Rises}
use Rattle.orc_heap.specs.Heap.{Heap, HeapNumbers, null}
use Rattle.orc_heap.specs.Journals.{FitsAfter, IsPlain, IsPlainAct, run_heap, event_by}
use Rattle.orc_heap.specs.declared.events.Act.{Act}
use Rattle.orc_heap.specs.declared.events.Act.TheVariants.{Move}
use Rattle.orc_heap.specs.declared.events.Event.{Event}
use Rattle.orc_heap.specs.declared.events.Link.{Link}
use Rattle.orc_heap.specs.declared.events.Place.TheVariants.{Root}
use Rattle.orc_history.specs.QueueHistory.{IsLegalQueue, waiting_after}
use Rattle.orc_fifo_rule.specs.declared.fifo.FifoNote.{FifoNote}
use Rattle.orc_fifo_rule.specs.declared.fifo.FifoNote.TheVariants.{Begin}
use Rattle.orc_fifo_rule.specs.QueueDiscipline.{BeginsIfMoves, FifoHolds, FifoMay, IsInTime, IsOpening, IsRunning, LeadsOn, MayAct, MayEnter, entries_of, fifo_rank, has_begun, is_begin_of, position_of}
use Rattle.orc_fifo_rule.specs.Laws.Kinds.{each_kind}
use Rattle.orc_fifo_rule.specs.Laws.Nodes.{job_linked, job_position}
use Rattle.orc_fifo_rule.specs.Laws.Events.{entries_same, every_more, not_begun_before, root_begun_before}
use Rattle.orc_fifo_rule.specs.Laws.Opening.{begun_root, no_puts}
use Rattle.orc_fifo_rule.specs.Laws.Paths.{tail_linked}
use Rattle.orc_fifo_rule.specs.Laws.Leaves.{frozen_next, legal_next, links_next, puts_next, target_at}
use Rattle.orc_fifo_rule.specs.Laws.Running.{running_next}
use Rattle.orc_fifo_rule.specs.Laws.Sides.{sides_next}
use Rattle.std.specs.List.{AllByRecursion}
use Rattle.orc_heap.proofs.Sides.{side_rises}
use Rattle.orc_heap.proofs.SingleActs.{link_same, node_shown, some_same}

pub fifo_allows_plain : (n : HeapNumbers) (seen : List (Event FifoNote)) (e : Event FifoNote) → FifoHolds n seen → FitsAfter n seen e → IsPlain e
    → FifoMay n seen e
fifo_allows_plain n seen e holds fits plain = record {
  fits = fits;
  may_act = subst (λ (x : Option FifoNote). MayAct (run_heap n seen) e.act x) (sym plain.0) plain.1;
  in_time = subst (λ (x : Option FifoNote). IsInTime (has_begun seen) x) (sym plain.0) tt;
  may_enter = subst (λ (x : Option FifoNote). MayEnter (position_of (run_heap n seen) 0) (entries_of seen) e.agent x) (sym plain.0) tt;
}

plain_moves_linked : (act : Act) (h : Heap) → IsPlainAct act → MovesLinked act h
plain_moves_linked (Move place from to) h p = absurd p
plain_moves_linked act h p = tt

pub fifo_moves_linked : (n : HeapNumbers) (seen : List (Event FifoNote)) (e : Event FifoNote) → FifoHolds n seen → FifoMay n seen e
    → MovesLinked e.act (run_heap n seen)
fifo_moves_linked n seen e holds may =
    each_kind (run_heap n seen) (λ act noted. IsInTime (has_begun seen) noted → MovesLinked act (run_heap n seen))
    (λ act plain time. plain_moves_linked act (run_heap n seen) plain)
    (λ r from to m time. tt)
    (λ r from to m time. tt)
    (λ r from to by job at m time. tt)
    (λ t from to by job at m time.
    let run = holds.running time in
    subst (λ (x : ℕ). IsLinkedNode (run_heap n seen) x) (link_same run.tail t (some_same (sym run.tail_is ∙ m.tail_is)))
    (tail_linked (run_heap n seen) seen run))
    (λ d link by m time. tt)
    e.act e.note may.may_act may.in_time

-- in the opening

plain_begins : (act : Act) → IsPlainAct act → BeginsIfMoves act None
plain_begins (Move place from to) p = absurd p
plain_begins act p = tt

plain_is_no_begin : (r : ℕ) (act : Act) → is_begin_of r act None ≡ true → ⊥
plain_is_no_begin r (Move (Root q) from to) e = cc
plain_is_no_begin r act e = cc

pub late : (b : Bool) → b ≡ false → b ≡ true → ⊥
late b e f = let bad : false ≡ true = sym e ∙ f in cc

-- the event is plain or a Begin
opening_entries : (n : HeapNumbers) (es : List (Event FifoNote)) (e : Event FifoNote) → FifoHolds n es → FifoMay n es e → has_begun es ≡ false
    → (entries_of (es ++ e ∷ []) ≡ []) × AllByRecursion (λ (x : Event FifoNote). BeginsIfMoves x.act x.note) (es ++ e ∷ [])
opening_entries n es e holds may early =
    let o = holds.opening early in
    each_kind (run_heap n es)
    (λ act noted. IsInTime (has_begun es) noted → (entries_of (es ++ event_by e.agent act noted ∷ []) ≡ [])
    × AllByRecursion (λ (x : Event FifoNote). BeginsIfMoves x.act x.note) (es ++ event_by e.agent act noted ∷ []))
    (λ act plain time. (
      entries_same es (event_by e.agent act None) refl ∙ o.none,
      every_more (λ (x : Event FifoNote). BeginsIfMoves x.act x.note) es
          (event_by e.agent act None) o.begins (plain_begins act plain),
    ))
    (λ r from to m time. (
      entries_same es (event_by e.agent (Move (Root r) from to) (Some Begin)) refl ∙ o.none,
      every_more (λ (x : Event FifoNote). BeginsIfMoves x.act x.note) es (event_by e.agent (Move (Root r) from to) (Some Begin)) o.begins
          (m.root_is, m.from_is, m.to_is, refl),
    ))
    (λ r from to m time. absurd (late (has_begun es) early time))
    (λ r from to by job at m time. absurd (late (has_begun es) early time))
    (λ t from to by job at m time. absurd (late (has_begun es) early time))
    (λ d link by m time. absurd (late (has_begun es) early time))
    e.act e.note may.may_act may.in_time

-- once there is no entry, links are null
no_links : (n : HeapNumbers) (es : List (Event FifoNote)) (position : ℕ) (link : Link) → entries_of es ≡ [] → LeadsOn es position link → link ≡ null
no_links n es position link none (inl is) = is
no_links n es position link none (inr (next, job, is, put)) = absurd (no_puts es next job position none put)

pub opening_next : (n : HeapNumbers) (es : List (Event FifoNote)) (e : Event FifoNote) → FifoHolds n es → FifoMay n es e → has_begun es ≡ false
    → IsOpening (run_heap n (es ++ e ∷ [])) (es ++ e ∷ [])
opening_next n es e holds may early =
    let (none, begins) = opening_entries n es e holds may early in
    record {
      none = none;
      begins = begins;
      zero_ends = λ node there linked.
          no_links n (es ++ e ∷ []) _ node.link none
          (links_next n es e 0 node.link holds may (record { node = node; there = there; linked = linked; link_is = refl }));
    }

-- the last Begin

begun_zero : (n : HeapNumbers) (es : List (Event FifoNote)) (e : Event FifoNote) → FifoHolds n es → FifoMay n es e → has_begun es ≡ false
    → has_begun (es ++ e ∷ []) ≡ true
    → IsLinkedNode (run_heap n (es ++ e ∷ [])) 0
begun_zero n es e holds may early now =
    let h : Heap = run_heap n es in
    each_kind h
    (λ act noted. IsInTime (has_begun es) noted → has_begun (es ++ event_by e.agent act noted ∷ []) ≡ true
    → IsLinkedNode (run_heap n (es ++ event_by e.agent act noted ∷ [])) 0)
    (λ act plain time is.
    let (zero_begun, one_begun) = (and-eq-true_iff _ _).0 is in
    let x : Event FifoNote = event_by e.agent act None in
    elim (root_begun_before 0 es x zero_begun) [
      | inl a ↦ elim (root_begun_before 1 es x one_begun) [
        | inl b ↦ absurd (late (has_begun es) early (rw (a, b) refl))
        | inr b ↦ absurd (plain_is_no_begin 1 act b)
      ]
      | inr a ↦ absurd (plain_is_no_begin 0 act a)
    ])
    (λ r from to m time is.
    let (node, there, link_is) = node_shown h 0 null m.ends in
    let x : Event FifoNote = event_by e.agent (Move (Root r) from to) (Some Begin) in
    let linked : IsLinkedNode (heap_after e.agent (Move (Root r) from to) h) 0 =
    record { node = as_linked node; there = target_at as_linked to 0 (set_link (Root r) to h) node m.to_is there; linked = refl } in
    subst (λ (g : Heap). IsLinkedNode g 0) (sym (run_heap-snoc n es x)) linked)
    (λ r from to m time is. absurd (late (has_begun es) early time))
    (λ r from to by job at m time is. absurd (late (has_begun es) early time))
    (λ t from to by job at m time is. absurd (late (has_begun es) early time))
    (λ d link by m time is. absurd (late (has_begun es) early time))
    e.act e.note may.may_act may.in_time now

first_running : (n : HeapNumbers) (es : List (Event FifoNote)) (e : Event FifoNote) → FifoHolds n es → FifoMay n es e → has_begun es ≡ false
    → has_begun (es ++ e ∷ []) ≡ true
    → IsRunning (run_heap n (es ++ e ∷ [])) (es ++ e ∷ [])
first_running n es e holds may early now =
    let o = opening_next n es e holds may early in
    let lawful = lawful-snoc n es e holds.lawful may.fits in
    let (zero_begun, one_begun) = (and-eq-true_iff _ _).0 now in
    let l = begun_zero n es e holds may early now in
    let k : Heap = run_heap n (es ++ e ∷ []) in
    record {
      dummy = 0;
      tail = 0;
      last = 0;
      front = [];
      back = [];
      head_is = begun_root n (es ++ e ∷ []) 0 o.begins lawful zero_begun;
      tail_is = begun_root n (es ++ e ∷ []) 1 o.begins lawful one_begun;
      to_tail = refl;
      to_last = refl;
      ends = record { node = l.node; there = l.there; linked = l.linked; link_is = o.zero_ends l.node l.there l.linked };
      short = omega arith;
      waiting = ap (waiting_after []) o.none;
      zero = l;
      next = rw o.none (omega arith);
    }

running_after : (n : HeapNumbers) (es : List (Event FifoNote)) (e : Event FifoNote) → FifoHolds n es → FifoMay n es e
    → has_begun (es ++ e ∷ []) ≡ true → (b : Bool) → has_begun es ≡ b
    → IsRunning (run_heap n (es ++ e ∷ [])) (es ++ e ∷ [])
running_after n es e holds may now true is = running_next n es e holds (holds.running is) may
running_after n es e holds may now false is = first_running n es e holds may is now

legal_after : (n : HeapNumbers) (es : List (Event FifoNote)) (e : Event FifoNote) → FifoHolds n es → FifoMay n es e → (b : Bool) → has_begun es ≡ b
    → IsLegalQueue (position_of (run_heap n (es ++ e ∷ [])) 0) (entries_of (es ++ e ∷ []))
legal_after n es e holds may true is = legal_next n es e holds may (holds.running is)
legal_after n es e holds may false is = rw (opening_next n es e holds may is).none tt

-- an event that is allowed keeps what the events of a queue obey
pub fifo_keeps : (n : HeapNumbers) (seen : List (Event FifoNote)) (e : Event FifoNote) → FifoHolds n seen → FifoMay n seen e → FifoHolds n (seen ++ e ∷ [])
fifo_keeps n seen e holds may = record {
  lawful = lawful-snoc n seen e holds.lawful may.fits;
  legal = legal_after n seen e holds may (has_begun seen) refl;
  opening = λ early. opening_next n seen e holds may (not_begun_before seen (e ∷ []) early);
  running = λ now. running_after n seen e holds may now (has_begun seen) refl;
  puts = λ id job at put. puts_next n seen e id job at holds may put;
  links = λ id link l. links_next n seen e id link holds may l;
  frozen = λ before after id link split l some. frozen_next n seen e before after id link holds may split l some;
  sides = sides_next n seen e holds may;
}

-- links lead to greater positions
pub fifo_rises : (n : HeapNumbers) (seen : List (Event FifoNote)) → FifoHolds n seen → Rises (fifo_rank n seen) (run_heap n seen)
fifo_rises n seen holds = λ id node there linked.
    let h : Heap = run_heap n seen in
    let first : LeadsUp (fifo_rank n seen) h id node.link =
    elim (holds.links id node.link (record { node = node; there = there; linked = linked; link_is = refl })) [
      | inl none ↦ inl (ap (λ (l : Link). l.to) none)
      | inr leads ↦
          let (next, job, is, put) = leads in
          let has = holds.puts next job (position_of h id) put in
          inr (next, ap (λ (l : Link). l.to) is, job_linked h next job (position_of h id) has, omega (arith, job_position h next job (position_of h id) has))
    ] in
    (first, side_rises (fifo_rank n seen) h id node there (holds.sides id (record { node = node; there = there; linked = linked })))
