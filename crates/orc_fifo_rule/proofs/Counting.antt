-- A node is linked by its Put, by one Swing and by one Took; node 0 by the two Begins.
use Rattle.std.proofs.Common.{Bool, List, None, Some, [], ap, arith, cond, false, filter, inl, inr, length, length-append, refl, subst, suc, sym, true, zero, ℕ, ◌++◌, ◌+◌, ◌-◌, ◌<◌, ◌∙◌, ◌∷◌, ◌≡◌, ◌≢◌, ◌≤◌, ◌⊎◌}
use Rattle.std.proofs.Math.Bool.{and-eq-true_iff}
use Rattle.std.proofs.lemmas.Bool.{eq-eqb, ne_eqb}
use Rattle.std.proofs.lemmas.List.Elements.{filter-append}
use Rattle.std.proofs.lemmas.List.Folds.{list_any-append}
use Rattle.std.specs.List.{slice_get}
use Rattle.std.specs.Prelude.{◌||◌}
use Rattle.orc_heap.proofs.Stays.{stays}
use Rattle.orc_heap.specs.Allowed.{AllAllowed, IsLinkedNode, HasLink}
use Rattle.orc_heap.specs.Heap.{Heap, HeapNumbers, shown, link_to}
use Rattle.orc_heap.specs.Journals.{names_node, points_to, run_heap, event_by}
use Rattle.orc_heap.specs.declared.events.Act.TheVariants.{Look, Move}
use Rattle.orc_heap.specs.declared.events.Event.{Event}
use Rattle.orc_heap.specs.declared.events.Link.{Link}
use Rattle.orc_heap.specs.declared.events.Place.TheVariants.{Next, Root}
use Rattle.orc_history.specs.declared.queue.QueueEntry.TheVariants.{Empty, Put, Took}
use Rattle.orc_fifo_rule.specs.declared.fifo.FifoNote.{FifoNote}
use Rattle.orc_fifo_rule.specs.declared.fifo.FifoNote.TheVariants.{Begin, Entry, Swing}
use Rattle.orc_heap.specs.Calls.{links_made}
use Rattle.orc_fifo_rule.specs.QueueDiscipline.{FifoHolds, FifoMay, IsRunning, StepsOn, has_begun, is_begin_of, position_of, root_has_begun}
use Rattle.orc_fifo_rule.specs.Laws.Events.{not_begun_before, root_begun_more}
use Rattle.orc_fifo_rule.specs.Laws.Kinds.{each_kind}
use Rattle.orc_fifo_rule.specs.Laws.Kept.{fifo_keeps, late, opening_next}
use Rattle.orc_fifo_rule.specs.Laws.Nodes.{job_position, linked_next, position_next}
use Rattle.orc_fifo_rule.specs.Laws.Opening.{begun_root}
use Rattle.orc_fifo_rule.specs.Laws.Leaves.{names, put_has_job, unlinked_apart}
use Rattle.orc_fifo_rule.specs.Laws.Paths.{dummy_linked, root_steps, successor_linked, tail_linked}
use Rattle.orc_fifo_rule.specs.Laws.Running.{begin_late, root_at, root_stepped}
use Rattle.orc_fifo_rule.proofs.Later.{nothing_yet}
use Rattle.orc_heap.proofs.SingleActs.{link_same, null_to, plain_points, plain_roots, root_next, root_other, some_same}

-- one event more

one_or_none : (b : Bool) (e : Event FifoNote) → length (cond b (e ∷ []) []) ≡ cond b 1 0
one_or_none true e = omega arith
one_or_none false e = refl

links_snoc : (es : List (Event FifoNote)) (e : Event FifoNote) (id : ℕ) → links_made (es ++ e ∷ []) id ≡ links_made es id + cond (points_to e.act id) 1 0
links_snoc es e id =
    ap length (filter-append (λ (x : Event FifoNote). points_to x.act id) es (e ∷ []))
    ∙ (length-append (filter (λ (x : Event FifoNote). points_to x.act id) es) (filter (λ (x : Event FifoNote). points_to x.act id) (e ∷ []))
    ∙ ap (λ (x : ℕ). links_made es id + x) (one_or_none (points_to e.act id) e))

links_more : (es : List (Event FifoNote)) (e : Event FifoNote) (id : ℕ) → points_to e.act id ≡ true → links_made (es ++ e ∷ []) id ≡ links_made es id + 1
links_more es e id points = links_snoc es e id ∙ ap (λ (b : Bool). links_made es id + cond b 1 0) points

links_same : (es : List (Event FifoNote)) (e : Event FifoNote) (id : ℕ) → points_to e.act id ≡ false → links_made (es ++ e ∷ []) id ≡ links_made es id
links_same es e id misses = omega (arith, links_snoc es e id ∙ ap (λ (b : Bool). links_made es id + cond b 1 0) misses)

-- in the opening

begins_in : ℕ → List (Event FifoNote) → ℕ
begins_in root es = cond (root_has_begun root es) 1 0

record OpeningLinks (es : List (Event FifoNote)) : Type 0 where
  first : links_made es 0 ≤ begins_in 0 es + begins_in 1 es
  others : (id : ℕ) → links_made es (suc id) ≡ 0

begins_more : (root : ℕ) (es : List (Event FifoNote)) (e : Event FifoNote) → begins_in root es ≤ begins_in root (es ++ e ∷ [])
unfolding begins_in
begins_more root es e = cases (root_has_begun root es) refl
  where
    cases : (b : Bool) → root_has_begun root es ≡ b → cond b 1 0 ≤ cond (root_has_begun root (es ++ e ∷ [])) 1 0
    cases true is = rw (root_begun_more root es (e ∷ []) is) (omega arith)
    cases false is = omega arith

begins_one : (root : ℕ) (es : List (Event FifoNote)) → root_has_begun root es ≡ true → begins_in root es ≡ 1
unfolding begins_in
begins_one root es is = rw is refl

begins_none : (root : ℕ) (es : List (Event FifoNote)) → (root_has_begun root es ≡ true → ⊥) → begins_in root es ≡ 0
unfolding begins_in
begins_none root es not = cases (root_has_begun root es) refl
  where
    cases : (b : Bool) → root_has_begun root es ≡ b → ◌≡◌ {A = ℕ} (cond b 1 0) 0
    cases true is = absurd (not is)
    cases false is = refl

begins_few : (root : ℕ) (es : List (Event FifoNote)) → begins_in root es ≤ 1
unfolding begins_in
begins_few root es = cases (root_has_begun root es)
  where
    cases : (b : Bool) → cond b 1 0 ≤ 1
    cases true = omega arith
    cases false = omega arith

begins_now : (root : ℕ) (es : List (Event FifoNote)) (e : Event FifoNote) → is_begin_of root e.act e.note ≡ true → root_has_begun root (es ++ e ∷ []) ≡ true
begins_now root es e is = list_any-append (λ (x : Event FifoNote). is_begin_of root x.act x.note) es (e ∷ [])
    ∙ last (root_has_begun root es) (is_begin_of root e.act e.note) is
  where
    last : (a b : Bool) → b ≡ true → a || (b || false) ≡ true
    last true b i = refl
    last false true i = refl
    last false false i = i

opening_same : (es : List (Event FifoNote)) (e : Event FifoNote) → OpeningLinks es → ((id : ℕ) → points_to e.act id ≡ false) → OpeningLinks (es ++ e ∷ [])
opening_same es e o misses = record {
  first = omega (arith, o.first, links_same es e 0 (misses 0), begins_more 0 es e, begins_more 1 es e);
  others = λ id. links_same es e (suc id) (misses (suc id)) ∙ o.others id;
}

opening_begin : (n : HeapNumbers) (es : List (Event FifoNote)) (agent r : ℕ) (from to : Link) → FifoHolds n es → has_begun es ≡ false → OpeningLinks es
    → FifoMay n es (event_by agent (Move (Root r) from to) (Some Begin)) → OpeningLinks (es ++ event_by agent (Move (Root r) from to) (Some Begin) ∷ [])
opening_begin n es agent r from to holds early o may =
    let e : Event FifoNote = event_by agent (Move (Root r) from to) (Some Begin) in
    let b = may.may_act in
    let not : root_has_begun r es ≡ true → ⊥ = λ is.
    null_to 0 (sym b.from_is ∙ some_same (sym may.fits.0 ∙ begun_root n es r (holds.opening early).begins holds.lawful is)) in
    let before = begins_none r es not in
    let after = begins_one r (es ++ e ∷ []) (begins_now r es e (eq-eqb r r refl)) in
    let points : points_to e.act 0 ≡ true = subst (λ (l : Link). names_node l.to 0 ≡ true) (sym b.to_is) refl in
    record {
      first = by_root r b.root_is before after (links_more es e 0 points);
      others = λ id. links_same es e (suc id)
          (subst (λ (l : Link). names_node l.to (suc id) ≡ false) (sym b.to_is) (ne_eqb 0 (suc id) (λ x. omega (arith, x)))) ∙ o.others id;
    }
  where
    by_root : (q : ℕ) → q < 2 → begins_in q es ≡ 0 → begins_in q (es ++ event_by agent (Move (Root r) from to) (Some Begin) ∷ []) ≡ 1
        → links_made (es ++ event_by agent (Move (Root r) from to) (Some Begin) ∷ []) 0 ≡ links_made es 0 + 1
        → links_made (es ++ event_by agent (Move (Root r) from to) (Some Begin) ∷ []) 0
        ≤ begins_in 0 (es ++ event_by agent (Move (Root r) from to) (Some Begin) ∷ [])
        + begins_in 1 (es ++ event_by agent (Move (Root r) from to) (Some Begin) ∷ [])
    by_root zero low before after more = omega (arith, o.first, before, after, more, begins_more 1 es (event_by agent (Move (Root r) from to) (Some Begin)))
    by_root (suc zero) low before after more =
        omega (arith, o.first, before, after, more, begins_more 0 es (event_by agent (Move (Root r) from to) (Some Begin)))
    by_root (suc (suc q)) low before after more = absurd (omega (arith, low))

opening_links_next : (n : HeapNumbers) (es : List (Event FifoNote)) (e : Event FifoNote) → FifoHolds n es → has_begun es ≡ false → OpeningLinks es
    → FifoMay n es e → OpeningLinks (es ++ e ∷ [])
opening_links_next n es e holds early o may =
    each_kind (run_heap n es) (λ act noted. FifoMay n es (event_by e.agent act noted) → OpeningLinks (es ++ event_by e.agent act noted ∷ []))
    (λ act plain m. opening_same es (event_by e.agent act None) o (λ id. plain_points act id plain))
    (λ r from to b m. opening_begin n es e.agent r from to holds early o m)
    (λ r from to b m. absurd (late (has_begun es) early m.in_time))
    (λ r from to by job at b m. absurd (late (has_begun es) early m.in_time))
    (λ t from to by job at b m. absurd (late (has_begun es) early m.in_time))
    (λ d link by b m. absurd (late (has_begun es) early m.in_time))
    e.act e.note may.may_act may

-- once both roots have begun

own_link : ℕ → ℕ
own_link zero = 0
own_link (suc id) = 1

-- no link yet, or one by the Put, and one by each root that has come to the node
abbrev CountsAt : Heap → List (Event FifoNote) → ℕ → ℕ → ℕ → Type 0
CountsAt h es dummy tail id =
    (links_made es id ≡ 0)
    ⊎ (IsLinkedNode h id × (links_made es id ≤ own_link id + (1 - (position_of h id - position_of h dummy)) + (1 - (position_of h id - position_of h tail))))

record Counted (n : HeapNumbers) (es : List (Event FifoNote)) : Type 0 where
  dummy : ℕ
  tail : ℕ
  head_is : shown (run_heap n es) (Root 0) ≡ Some (link_to dummy)
  tail_is : shown (run_heap n es) (Root 1) ≡ Some (link_to tail)
  count : (id : ℕ) → CountsAt (run_heap n es) es dummy tail id

-- an event that is allowed leaves the links counted
abbrev StaysCounted : HeapNumbers → List (Event FifoNote) → Event FifoNote → Type 0
StaysCounted n es e = FifoMay n es e → Counted n (es ++ e ∷ [])

counts_missed : (n : HeapNumbers) (es : List (Event FifoNote)) (e : Event FifoNote) (id dummy tail dummy_now tail_now : ℕ) → FifoMay n es e
    → points_to e.act id ≡ false
    → position_of (run_heap n es) dummy ≤ position_of (run_heap n (es ++ e ∷ [])) dummy_now
    → position_of (run_heap n es) tail ≤ position_of (run_heap n (es ++ e ∷ [])) tail_now
    → CountsAt (run_heap n es) es dummy tail id → CountsAt (run_heap n (es ++ e ∷ [])) (es ++ e ∷ []) dummy_now tail_now id
counts_missed n es e id dummy tail dummy_now tail_now may misses d t (inl none) = inl (links_same es e id misses ∙ none)
counts_missed n es e id dummy tail dummy_now tail_now may misses d t (inr (l, few)) =
    inr (linked_next n es e id may l, omega (arith, few, links_same es e id misses, position_next n es e id may l, d, t))

counted_next : (n : HeapNumbers) (es : List (Event FifoNote)) (e : Event FifoNote) (c : Counted n es) (dummy tail : ℕ) → FifoMay n es e
    → shown (run_heap n (es ++ e ∷ [])) (Root 0) ≡ Some (link_to dummy) → shown (run_heap n (es ++ e ∷ [])) (Root 1) ≡ Some (link_to tail)
    → position_of (run_heap n es) c.dummy ≤ position_of (run_heap n (es ++ e ∷ [])) dummy
    → position_of (run_heap n es) c.tail ≤ position_of (run_heap n (es ++ e ∷ [])) tail
    → ((id : ℕ) → points_to e.act id ≡ true → CountsAt (run_heap n (es ++ e ∷ [])) (es ++ e ∷ []) dummy tail id) → Counted n (es ++ e ∷ [])
counted_next n es e c dummy tail may head_is tail_is d t hit = record {
  dummy = dummy;
  tail = tail;
  head_is = head_is;
  tail_is = tail_is;
  count = λ id. by_test id (points_to e.act id) refl;
}
  where
    by_test : (id : ℕ) (b : Bool) → points_to e.act id ≡ b → CountsAt (run_heap n (es ++ e ∷ [])) (es ++ e ∷ []) dummy tail id
    by_test id true is = hit id is
    by_test id false is = counts_missed n es e id c.dummy c.tail dummy tail may is d t (c.count id)

head_linked : (n : HeapNumbers) (es : List (Event FifoNote)) (c : Counted n es) → IsRunning (run_heap n es) es → IsLinkedNode (run_heap n es) c.dummy
head_linked n es c run = subst (λ (x : ℕ). IsLinkedNode (run_heap n es) x) (link_same run.dummy c.dummy (some_same (sym run.head_is ∙ c.head_is)))
    (dummy_linked (run_heap n es) es run)

last_linked : (n : HeapNumbers) (es : List (Event FifoNote)) (c : Counted n es) → IsRunning (run_heap n es) es → IsLinkedNode (run_heap n es) c.tail
last_linked n es c run = subst (λ (x : ℕ). IsLinkedNode (run_heap n es) x) (link_same run.tail c.tail (some_same (sym run.tail_is ∙ c.tail_is)))
    (tail_linked (run_heap n es) es run)

same_le : (a b : ℕ) → b ≡ a → a ≤ b
same_le a b e = omega (arith, e)

counted_still : (n : HeapNumbers) (es : List (Event FifoNote)) (e : Event FifoNote) → IsRunning (run_heap n es) es → (c : Counted n es) → FifoMay n es e
    → shown (run_heap n (es ++ e ∷ [])) (Root 0) ≡ shown (run_heap n es) (Root 0) → shown (run_heap n (es ++ e ∷ [])) (Root 1) ≡ shown (run_heap n es) (Root 1)
    → ((id : ℕ) → points_to e.act id ≡ true → CountsAt (run_heap n (es ++ e ∷ [])) (es ++ e ∷ []) c.dummy c.tail id) → Counted n (es ++ e ∷ [])
counted_still n es e run c may root_zero root_one hit =
    counted_next n es e c c.dummy c.tail may (root_zero ∙ c.head_is) (root_one ∙ c.tail_is)
    (same_le _ _ (position_next n es e c.dummy may (head_linked n es c run))) (same_le _ _ (position_next n es e c.tail may (last_linked n es c run))) hit

missed : {A : Type 0} (b : Bool) → b ≡ false → b ≡ true → A
missed b e f = absurd (late b e f)

-- a node's successor has the next position
successor_position : (n : HeapNumbers) (es : List (Event FifoNote)) (id next : ℕ) → FifoHolds n es → HasLink (run_heap n es) id (link_to next)
    → position_of (run_heap n es) next ≡ position_of (run_heap n es) id + 1
successor_position n es id next holds link =
    let h : Heap = run_heap n es in
    elim (holds.links id (link_to next) link) [
      | inl none ↦ absurd (null_to next (sym none))
      | inr leads ↦
          let (x, job, same, put) = leads in
          ap (λ (y : ℕ). position_of h y) (link_same next x same) ∙ job_position h x job (position_of h id) (holds.puts x job (position_of h id) put)
    ]

-- a root that steps on comes to a node that it had not come to
came_to : (n : HeapNumbers) (es : List (Event FifoNote)) (e : Event FifoNote) (id dummy tail dummy_now tail_now : ℕ) → FifoMay n es e
    → IsLinkedNode (run_heap n es) id → points_to e.act id ≡ true
    → 1 + ((1 - (position_of (run_heap n es) id - position_of (run_heap n es) dummy)) + (1 - (position_of (run_heap n es) id - position_of (run_heap n es) tail)))
    ≤ (1 - (position_of (run_heap n (es ++ e ∷ [])) id - position_of (run_heap n (es ++ e ∷ [])) dummy_now))
    + (1 - (position_of (run_heap n (es ++ e ∷ [])) id - position_of (run_heap n (es ++ e ∷ [])) tail_now))
    → CountsAt (run_heap n es) es dummy tail id → CountsAt (run_heap n (es ++ e ∷ [])) (es ++ e ∷ []) dummy_now tail_now id
came_to n es e id dummy tail dummy_now tail_now may l points more (inl none) =
    inr (linked_next n es e id may l, omega (arith, none, more, links_more es e id points))
came_to n es e id dummy tail dummy_now tail_now may l points more (inr (was, few)) =
    inr (linked_next n es e id may l, omega (arith, few, more, links_more es e id points))

-- a node to which a root steps on is once linked, and has the next position
next_step : (n : HeapNumbers) (es : List (Event FifoNote)) → FifoHolds n es → (root id : ℕ) → IsLinkedNode (run_heap n es) id
    → shown (run_heap n es) (Root root) ≡ Some (link_to id)
    → (r : ℕ) (from to : Link) (s : StepsOn (run_heap n es) from to) → r ≡ root → shown (run_heap n es) (Root r) ≡ Some from
    → IsLinkedNode (run_heap n es) s.next × (position_of (run_heap n es) s.next ≡ position_of (run_heap n es) id + 1)
next_step n es holds root id linked leads r from to s is at =
    let (same, link) = root_steps (run_heap n es) root id linked leads r from to s is at in (
      successor_linked n es s.id s.next holds link,
      successor_position n es s.id s.next holds link ∙ ap (λ (x : ℕ). position_of (run_heap n es) x + 1) same,
    )

-- what is so of the target of a Move is so of each node that the Move names
of_target : (P : ℕ → Type 0) (to : Link) (next : ℕ) → to ≡ link_to next → (names_node to.to next ≡ true → P next)
    → (id : ℕ) → names_node to.to id ≡ true → P id
of_target P to next to_is at id named =
    let same : next ≡ id = names to next id to_is named in
    subst P same (at (subst (λ (x : ℕ). names_node to.to x ≡ true) (sym same) named))

counted_swing : (n : HeapNumbers) (es : List (Event FifoNote)) (agent r : ℕ) (from to : Link) → FifoHolds n es → IsRunning (run_heap n es) es → Counted n es
    → StaysCounted n es (event_by agent (Move (Root r) from to) (Some Swing))
counted_swing n es agent r from to holds run c may =
    let e : Event FifoNote = event_by agent (Move (Root r) from to) (Some Swing) in
    let s = may.may_act.steps in
    let one : r ≡ 1 = may.may_act.root_is in
    let (l, step) = next_step n es holds 1 c.tail (last_linked n es c run) c.tail_is r from to s one may.fits.0 in
    let d = same_le _ _ (position_next n es e c.dummy may (head_linked n es c run)) in
    counted_next n es e c c.dummy s.next may
    (root_at n es e 0 ∙ (root_other agent r 0 from to (run_heap n es) (λ x. omega (arith, x, one)) ∙ c.head_is))
    (root_stepped n es agent r 1 from to (Some Swing) s one may.fits.0) d (omega (arith, step, position_next n es e s.next may l))
    (of_target (λ (x : ℕ). CountsAt (run_heap n (es ++ e ∷ [])) (es ++ e ∷ []) c.dummy s.next x) to s.next s.to_is
    (λ points. came_to n es e s.next c.dummy c.tail c.dummy s.next may l points (omega (arith, d, step, position_next n es e s.next may l)) (c.count s.next)))

counted_took : (n : HeapNumbers) (es : List (Event FifoNote)) (agent r by job at : ℕ) (from to : Link) → FifoHolds n es → IsRunning (run_heap n es) es
    → Counted n es → StaysCounted n es (event_by agent (Move (Root r) from to) (Some (Entry (Took by job at))))
counted_took n es agent r by job at from to holds run c may =
    let e : Event FifoNote = event_by agent (Move (Root r) from to) (Some (Entry (Took by job at))) in
    let s = may.may_act.steps in
    let zero_root : r ≡ 0 = may.may_act.root_is in
    let (l, step) = next_step n es holds 0 c.dummy (head_linked n es c run) c.head_is r from to s zero_root may.fits.0 in
    let t = same_le _ _ (position_next n es e c.tail may (last_linked n es c run)) in
    counted_next n es e c s.next c.tail may (root_stepped n es agent r 0 from to (Some (Entry (Took by job at))) s zero_root may.fits.0)
    (root_at n es e 1 ∙ (root_other agent r 1 from to (run_heap n es) (λ x. omega (arith, x, zero_root)) ∙ c.tail_is))
    (omega (arith, step, position_next n es e s.next may l)) t
    (of_target (λ (x : ℕ). CountsAt (run_heap n (es ++ e ∷ [])) (es ++ e ∷ []) s.next c.tail x) to s.next s.to_is
    (λ points. came_to n es e s.next c.dummy c.tail s.next c.tail may l points (omega (arith, t, step, position_next n es e s.next may l)) (c.count s.next)))

-- a Put links a node other than node 0
own_one : (id : ℕ) → 0 ≢ id → own_link id ≡ 1
unfolding own_link
own_one zero ne = absurd (ne refl)
own_one (suc id) ne = refl

counted_put : (n : HeapNumbers) (es : List (Event FifoNote)) (agent t by job at : ℕ) (from to : Link) → FifoHolds n es → IsRunning (run_heap n es) es
    → Counted n es → StaysCounted n es (event_by agent (Move (Next t) from to) (Some (Entry (Put by job at))))
counted_put n es agent t by job at from to holds run c may =
    let e : Event FifoNote = event_by agent (Move (Next t) from to) (Some (Entry (Put by job at))) in
    let h : Heap = run_heap n es in
    let m = may.may_act in
    let j = put_has_job n es agent t by job at from to holds may in
    counted_still n es e run c may (root_at n es e 0 ∙ root_next agent t 0 from to h) (root_at n es e 1 ∙ root_next agent t 1 from to h)
    (λ id points.
    let id_is : m.id ≡ id = names to m.id id m.to_is points in
    let new : IsLinkedNode (run_heap n (es ++ e ∷ [])) id =
    subst (λ (x : ℕ). IsLinkedNode (run_heap n (es ++ e ∷ [])) x) id_is (record { node = j.node; there = j.there; linked = j.linked }) in
    let own : own_link id ≡ 1 = own_one id (λ x. unlinked_apart h 0 m.id m.node run.zero m.there m.unlinked (x ∙ sym id_is)) in
    elim (c.count id) [
      | inl none ↦ inr (new, omega (arith, none, own, links_more es e id points))
      | inr was ↦ absurd (unlinked_apart h id m.id m.node was.0 m.there m.unlinked (sym id_is))
    ])

counts_next : (n : HeapNumbers) (es : List (Event FifoNote)) (e : Event FifoNote) → FifoHolds n es → has_begun es ≡ true → Counted n es
    → FifoMay n es e → Counted n (es ++ e ∷ [])
counts_next n es e holds begun c may =
    let h : Heap = run_heap n es in
    let run = holds.running begun in
    each_kind h (λ act noted. FifoMay n es (event_by e.agent act noted) → Counted n (es ++ event_by e.agent act noted ∷ []))
    (λ act plain m.
    let x : Event FifoNote = event_by e.agent act None in
    let roots = plain_roots e.agent act h plain in
    counted_still n es x run c m (root_at n es x 0 ∙ ap (λ (l : List Link). slice_get l 0) roots)
    (root_at n es x 1 ∙ ap (λ (l : List Link). slice_get l 1) roots)
    (λ id points. missed (points_to act id) (plain_points act id plain) points))
    (λ r from to b m. absurd (begin_late h es r run b.root_is (m.fits.0 ∙ ap (λ (x : Link). Some x) b.from_is)))
    (λ r from to b m. counted_swing n es e.agent r from to holds run c m)
    (λ r from to by job at b m. counted_took n es e.agent r by job at from to holds run c m)
    (λ t from to by job at b m. counted_put n es e.agent t by job at from to holds run c m)
    (λ d link by b m.
    let x : Event FifoNote = event_by e.agent (Look (Next d) link) (Some (Entry (Empty by))) in
    counted_still n es x run c m (root_at n es x 0) (root_at n es x 1) (λ id points. missed false refl points))
    e.act e.note may.may_act may

-- the second Begin

counts_begin : (n : HeapNumbers) (es : List (Event FifoNote)) (id : ℕ) → FifoHolds n es → has_begun es ≡ true → OpeningLinks es
    → CountsAt (run_heap n es) es 0 0 id
counts_begin n es zero holds begun o = inr ((holds.running begun).zero, omega (arith, o.first, begins_few 0 es, begins_few 1 es))
counts_begin n es (suc id) holds begun o = inl (o.others id)

begin_counted : (n : HeapNumbers) (es : List (Event FifoNote)) (e : Event FifoNote) → FifoHolds n es → has_begun es ≡ false → OpeningLinks es
    → FifoMay n es e → has_begun (es ++ e ∷ []) ≡ true → Counted n (es ++ e ∷ [])
begin_counted n es e holds early o may now =
    let after = fifo_keeps n es e holds may in
    let (zero_begun, one_begun) = (and-eq-true_iff (root_has_begun 0 (es ++ e ∷ [])) (root_has_begun 1 (es ++ e ∷ []))).0 now in
    let begins = (opening_next n es e holds may early).begins in
    record {
      dummy = 0;
      tail = 0;
      head_is = begun_root n (es ++ e ∷ []) 0 begins after.lawful zero_begun;
      tail_is = begun_root n (es ++ e ∷ []) 1 begins after.lawful one_begun;
      count = λ id. counts_begin n (es ++ e ∷ []) id after now (opening_links_next n es e holds early o may);
    }

record IsCounted (n : HeapNumbers) (es : List (Event FifoNote)) : Type 0 where
  holds : FifoHolds n es
  early : has_begun es ≡ false → OpeningLinks es
  counted : has_begun es ≡ true → Counted n es

is_counted_next : (n : HeapNumbers) (es : List (Event FifoNote)) (e : Event FifoNote) → IsCounted n es → FifoMay n es e → IsCounted n (es ++ e ∷ [])
is_counted_next n es e i may = record {
  holds = fifo_keeps n es e i.holds may;
  early = λ early. let before = not_begun_before es (e ∷ []) early in opening_links_next n es e i.holds before (i.early before) may;
  counted = λ now. by_test now (has_begun es) refl;
}
  where
    by_test : has_begun (es ++ e ∷ []) ≡ true → (b : Bool) → has_begun es ≡ b → Counted n (es ++ e ∷ [])
    by_test now true is = counts_next n es e i.holds is (i.counted is) may
    by_test now false is = begin_counted n es e i.holds is (i.early is) may now

own_few : (id : ℕ) → own_link id ≤ 1
unfolding own_link
own_few zero = omega arith
own_few (suc id) = omega arith

own_zero : own_link 0 ≡ 0
unfolding own_link
own_zero = refl

few : (n : HeapNumbers) (es : List (Event FifoNote)) (id : ℕ) → IsCounted n es → (b : Bool) → has_begun es ≡ b → links_made es id ≤ own_link id + 2
few n es zero i false is = omega (arith, (i.early is).first, begins_few 0 es, begins_few 1 es)
few n es (suc id) i false is = omega (arith, (i.early is).others id)
few n es id i true is = elim ((i.counted is).count id) [ inl none ↦ omega (arith, none) | inr c ↦ omega (arith, c.1) ]

counted_all : (n : HeapNumbers) (es : List (Event FifoNote)) → AllAllowed (FifoMay n) [] es → IsCounted n es
counted_all n es all = stays (FifoMay n) (IsCounted n) (λ xs x i may. is_counted_next n xs x i may) [] es (record {
  holds = nothing_yet n;
  early = λ e. record { first = omega arith; others = λ id. refl };
  counted = λ now. cc;
}) all

-- in all, at most three links are made to a node, and at most two to node 0
pub at_most_three : (n : HeapNumbers) (es : List (Event FifoNote)) (id : ℕ) → AllAllowed (FifoMay n) [] es → links_made es id ≤ 3
at_most_three n es id all = omega (arith, few n es id (counted_all n es all) (has_begun es) refl, own_few id)

pub at_most_two : (n : HeapNumbers) (es : List (Event FifoNote)) → AllAllowed (FifoMay n) [] es → links_made es 0 ≤ 2
at_most_two n es all = omega (arith, few n es 0 (counted_all n es all) (has_begun es) refl, own_zero)
