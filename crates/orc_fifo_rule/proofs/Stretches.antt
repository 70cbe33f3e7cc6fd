-- Swings of a stretch after the opening: the tail lags at most one node behind the last.
use Rattle.std.proofs.Common.{List, None, Some, [], ap, arith, inl, inr, length, refl, subst, sym, true, ℕ, ◌++◌, ◌+◌, ◌∙◌, ◌∷◌, ◌≡◌, ◌≤◌, ◌⊎◌}
use Rattle.std.specs.List.{slice_get}
use Rattle.orc_heap.proofs.Runs.{run_heap-snoc}
use Rattle.orc_heap.specs.Acts.{as_linked, heap_after, moved_link}
use Rattle.orc_heap.specs.Allowed.{AllAllowed, IsLinkedNode, HasLink}
use Rattle.orc_heap.specs.Heap.{Heap, HeapNumbers, null, shown, link_to}
use Rattle.orc_heap.specs.Journals.{run_heap, event_by}
use Rattle.orc_heap.specs.declared.events.Act.TheVariants.{Look, Move}
use Rattle.orc_heap.specs.declared.events.Event.{Event}
use Rattle.orc_heap.specs.declared.events.Link.{Link}
use Rattle.orc_heap.specs.declared.events.Place.TheVariants.{Next, Root}
use Rattle.orc_history.specs.QueueHistory.{puts_in}
use Rattle.orc_history.proofs.Histories.{puts_in-append}
use Rattle.orc_history.specs.declared.queue.QueueEntry.TheVariants.{Empty, Put, Took}
use Rattle.orc_fifo_rule.specs.declared.fifo.FifoNote.{FifoNote}
use Rattle.orc_fifo_rule.specs.declared.fifo.FifoNote.TheVariants.{Entry, Swing}
use Rattle.orc_fifo_rule.specs.QueueDiscipline.{FifoHolds, FifoMay, IsPath, IsRunning, entries_in, entries_of, has_begun}
use Rattle.orc_fifo_rule.specs.Counts.{swings_in, swings_with}
use Rattle.orc_fifo_rule.specs.Laws.Events.{begun_more}
use Rattle.orc_fifo_rule.specs.Laws.Kinds.{each_kind}
use Rattle.orc_fifo_rule.specs.Laws.Kept.{fifo_keeps}
use Rattle.orc_fifo_rule.specs.Laws.Nodes.{PutsAt, link_next, node_next, null_next}
use Rattle.orc_fifo_rule.specs.Laws.Leaves.{put_node_after, put_tail}
use Rattle.orc_fifo_rule.specs.Laws.Running.{begin_late, root_at}
use Rattle.orc_heap.proofs.SingleActs.{link_moved, link_same, null_to, plain_roots, root_moved, root_next, root_other, shown_link, some_same}

-- the tail names the last node, or the one before it
record Lags (h : Heap) (lag : ℕ) : Type 0 where
  tail : ℕ
  tail_is : shown h (Root 1) ≡ Some (link_to tail)
  either : ((lag ≡ 0) × HasLink h tail null) ⊎ ((lag ≡ 1) × (last : ℕ) × HasLink h tail (link_to last) × HasLink h last null)

lags_running : (h : Heap) (es : List (Event FifoNote)) → (run : IsRunning h es) → (lag : ℕ) × Lags h lag × (lag ≤ 1)
lags_running h es run = by_back run.back run.to_last run.short
  where
    by_back : (back : List (ℕ × ℕ)) → IsPath es h run.tail back run.last → length back ≤ 1 → (lag : ℕ) × Lags h lag × (lag ≤ 1)
    by_back [] path short =
        (0, record { tail = run.tail; tail_is = run.tail_is; either = inl (refl, subst (λ (x : ℕ). HasLink h x null) (sym path) run.ends) }, omega arith)
    by_back (put ∷ []) (next, link, node, path) short = (
      1,
      record {
        tail = run.tail;
        tail_is = run.tail_is;
        either =
            inr (refl, next, link, subst (λ (x : ℕ). HasLink h x null) (sym path) run.ends);
      },
      omega arith,
    )
    by_back (put ∷ other ∷ puts) path short = absurd (omega (arith, short))

-- the lag after an event, with its Swings and Puts
abbrev LagAfter : HeapNumbers → List (Event FifoNote) → Event FifoNote → ℕ → Type 0
LagAfter n es e lag = (now : ℕ) × Lags (run_heap n (es ++ e ∷ [])) now × (now + swings_with e.note ≡ lag + puts_in (entries_in e.note))

null_stays : (n : HeapNumbers) (es : List (Event FifoNote)) (e : Event FifoNote) (id : ℕ) → FifoMay n es e
    → (PutsAt (run_heap n es) e.act e.note id → ⊥) → HasLink (run_heap n es) id null
    → HasLink (run_heap n (es ++ e ∷ [])) id null
null_stays n es e id may no_put l = elim (null_next n es e id may l) [ inl same ↦ same | inr put ↦ absurd (no_put put.0) ]

-- the tail and the links stay
lag_still : (n : HeapNumbers) (es : List (Event FifoNote)) (e : Event FifoNote) (lag : ℕ) → Lags (run_heap n es) lag → FifoMay n es e
    → shown (run_heap n (es ++ e ∷ [])) (Root 1) ≡ shown (run_heap n es) (Root 1) → ((id : ℕ) → PutsAt (run_heap n es) e.act e.note id → ⊥)
    → swings_with e.note ≡ 0 → puts_in (entries_in e.note) ≡ 0 → LagAfter n es e lag
lag_still n es e lag l may root no_put no_swing none = (
  lag,
  record {
    tail = l.tail;
    tail_is = root ∙ l.tail_is;
    either = elim l.either [
      | inl a ↦ inl (a.0, null_stays n es e l.tail may (no_put l.tail) a.1)
      | inr b ↦ inr (b.0, b.1, node_next n es e l.tail b.1 may b.2, null_stays n es e b.1 may (no_put b.1) b.3)
    ];
  },
  omega (arith, no_swing, none),
)

lag_swing : (n : HeapNumbers) (es : List (Event FifoNote)) (agent r : ℕ) (from to : Link) (lag : ℕ) → Lags (run_heap n es) lag
    → (let e : Event FifoNote = event_by agent (Move (Root r) from to) (Some Swing) in FifoMay n es e → LagAfter n es e lag)
lag_swing n es agent r from to lag l may =
    let e : Event FifoNote = event_by agent (Move (Root r) from to) (Some Swing) in
    let h : Heap = run_heap n es in
    let s = may.may_act.steps in
    let one : r ≡ 1 = may.may_act.root_is in
    let here : shown h (Root 1) ≡ Some from = subst (λ (x : ℕ). shown h (Root x) ≡ Some from) one may.fits.0 in
    let same : s.id ≡ l.tail = link_same s.id l.tail (sym s.from_is ∙ some_same (sym here ∙ l.tail_is)) in
    let successor : shown h (Next l.tail) ≡ Some (link_to s.next) = subst (λ (x : ℕ). shown h (Next x) ≡ Some (link_to s.next)) same s.successor in
    let moved : shown (heap_after agent (Move (Root r) from to) h) (Root 1) ≡ Some to =
    subst (λ (x : ℕ). shown (heap_after agent (Move (Root r) from to) h) (Root x) ≡ Some to) one (root_moved agent r from to h may.fits.0) in
    elim l.either [
      | inl a ↦ absurd (null_to s.next (some_same (sym (shown_link h l.tail null a.1) ∙ successor)))
      | inr b ↦
          let last : b.1 ≡ s.next = link_same b.1 s.next (some_same (sym (shown_link h l.tail (link_to b.1) b.2) ∙ successor)) in
          let ends : HasLink (run_heap n (es ++ e ∷ [])) s.next null =
          null_stays n es e s.next may (λ p. let is = p.note_is in cc) (subst (λ (x : ℕ). HasLink h x null) last b.3) in
          (0, record { tail = s.next; tail_is = root_at n es e 1 ∙ (moved ∙ ap (λ (x : Link). Some x) s.to_is); either = inl (refl, ends) }, omega (arith, b.0))
    ]

put_link : (n : HeapNumbers) (es : List (Event FifoNote)) (agent t by job at : ℕ) (from to : Link)
    → (may : FifoMay n es (event_by agent (Move (Next t) from to) (Some (Entry (Put by job at))))) → HasLink (run_heap n es) t null
    → HasLink (run_heap n (es ++ event_by agent (Move (Next t) from to) (Some (Entry (Put by job at))) ∷ [])) t (link_to may.may_act.id)
put_link n es agent t by job at from to may l =
    let e : Event FifoNote = event_by agent (Move (Next t) from to) (Some (Entry (Put by job at))) in
    let moved : moved_link (Move (Next t) from to) t null ≡ link_to may.may_act.id =
    elim (link_moved t t from to null) [ inl c ↦ c.1 ∙ may.may_act.to_is | inr c ↦ absurd (c.0 refl) ] in
    subst (λ (x : Link). HasLink (run_heap n (es ++ e ∷ [])) t x) moved (link_next n es e t null may l)

lag_put : (n : HeapNumbers) (es : List (Event FifoNote)) (agent t by job at : ℕ) (from to : Link) (lag : ℕ) → FifoHolds n es → Lags (run_heap n es) lag
    → (let e : Event FifoNote = event_by agent (Move (Next t) from to) (Some (Entry (Put by job at))) in FifoMay n es e → LagAfter n es e lag)
lag_put n es agent t by job at from to lag holds l may =
    let e : Event FifoNote = event_by agent (Move (Next t) from to) (Some (Entry (Put by job at))) in
    let h : Heap = run_heap n es in
    let k : Heap = run_heap n (es ++ e ∷ []) in
    let m = may.may_act in
    let same : l.tail ≡ t = link_same l.tail t (some_same (sym l.tail_is ∙ m.tail_is)) in
    let none : shown h (Next l.tail) ≡ Some null =
    subst (λ (x : ℕ). shown h (Next x) ≡ Some null) (sym same) (may.fits.0 ∙ ap (λ (x : Link). Some x) m.from_is) in
    elim l.either [
      | inl a ↦
          let t_linked : IsLinkedNode h t = put_tail n es e t (Put by job at) holds may refl m.tail_is in
          let there : slice_get k.nodes m.id ≡ Some (as_linked m.node) =
          subst (λ (g : Heap). slice_get g.nodes m.id ≡ Some (as_linked m.node)) (sym (run_heap-snoc n es e))
          (put_node_after h agent t from to job at m t_linked) in
          let ends : HasLink k m.id null = record { node = as_linked m.node; there = there; linked = refl; link_is = m.ends } in
          let root : shown k (Root 1) ≡ Some (link_to l.tail) = root_at n es e 1 ∙ (root_next agent t 1 from to h ∙ l.tail_is) in
          let link : HasLink k l.tail (link_to m.id) =
          subst (λ (x : ℕ). HasLink k x (link_to m.id)) (sym same)
          (put_link n es agent t by job at from to may (subst (λ (x : ℕ). HasLink h x null) same a.1)) in
          (1, record { tail = l.tail; tail_is = root; either = inr (refl, m.id, link, ends) }, omega (arith, a.0))
      | inr b ↦ absurd (null_to b.1 (some_same (sym none ∙ shown_link h l.tail (link_to b.1) b.2)))
    ]

lag_next : (n : HeapNumbers) (es : List (Event FifoNote)) (e : Event FifoNote) (lag : ℕ) → FifoHolds n es → has_begun es ≡ true
    → Lags (run_heap n es) lag → FifoMay n es e → LagAfter n es e lag
lag_next n es e lag holds begun l may =
    let h : Heap = run_heap n es in
    each_kind h (λ act noted. FifoMay n es (event_by e.agent act noted) → LagAfter n es (event_by e.agent act noted) lag)
    (λ act plain m.
    lag_still n es (event_by e.agent act None) lag l m
    (root_at n es (event_by e.agent act None) 1 ∙ ap (λ (x : List Link). slice_get x 1) (plain_roots e.agent act h plain))
    (λ id p. let is = p.note_is in cc) refl refl)
    (λ r from to b m. absurd (begin_late h es r (holds.running begun) b.root_is (m.fits.0 ∙ ap (λ (x : Link). Some x) b.from_is)))
    (λ r from to b m. lag_swing n es e.agent r from to lag l m)
    (λ r from to by job at b m.
    let x : Event FifoNote = event_by e.agent (Move (Root r) from to) (Some (Entry (Took by job at))) in
    lag_still n es x lag l m (root_at n es x 1 ∙ root_other e.agent r 1 from to h (λ y. omega (arith, y, b.root_is))) (λ id p. let is = p.note_is in
    cc) refl refl)
    (λ t from to by job at b m. lag_put n es e.agent t by job at from to lag holds l m)
    (λ d link by b m.
    let x : Event FifoNote = event_by e.agent (Look (Next d) link) (Some (Entry (Empty by))) in
    lag_still n es x lag l m (root_at n es x 1) (λ id p. let is = p.note_is in cc) refl refl)
    e.act e.note may.may_act may

lag_over : (n : HeapNumbers) (seen more : List (Event FifoNote)) (lag : ℕ) → FifoHolds n seen → has_begun seen ≡ true → Lags (run_heap n seen) lag
    → AllAllowed (FifoMay n) seen more
    → swings_in more ≤ lag + puts_in (entries_of more)
lag_over n seen [] lag holds begun l all = omega arith
lag_over n seen (e ∷ more) lag holds begun l all =
    let (now, after, count) = lag_next n seen e lag holds begun l all.0 in
    let rest = lag_over n (seen ++ e ∷ []) more now (fifo_keeps n seen e holds all.0) (begun_more seen (e ∷ []) begun) after all.1 in
    omega (arith, count, rest, puts_in-append (entries_in e.note) (entries_of more))

-- Swings number at most the Puts and one
pub swings_bounded : (n : HeapNumbers) (seen more : List (Event FifoNote)) → FifoHolds n seen → has_begun seen ≡ true
    → AllAllowed (FifoMay n) seen more → swings_in more ≤ puts_in (entries_of more) + 1
swings_bounded n seen more holds begun all =
    let (lag, l, low) = lags_running (run_heap n seen) seen (holds.running begun) in
    omega (arith, lag_over n seen more lag holds begun l all, low)
