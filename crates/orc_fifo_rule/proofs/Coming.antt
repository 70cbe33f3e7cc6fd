-- The events of a queue's calls are allowed in every later journal.
use Rattle.std.proofs.Common.{List, Some, [], ap, arith, inl, refl, subst, sym, true, ℕ, ◌++◌, ◌+◌, ◌<◌, ◌^◌, ◌∙◌, ◌∷◌, ◌≡◌, ◌≢◌}
use Rattle.std.specs.List.{slice_get}
use Rattle.orc_heap.proofs.Known.{linked_known}
use Rattle.orc_heap.specs.Allowed.{AllowedLater, HasLink}
use Rattle.orc_heap.specs.Heap.{Heap, HeapNumbers, Node, null, shown, link_to}
use Rattle.orc_heap.specs.Journals.{run_heap, event_by}
use Rattle.orc_heap.specs.declared.events.Act.TheVariants.{Look, Move}
use Rattle.orc_heap.specs.declared.events.Event.{Event}
use Rattle.orc_heap.specs.declared.events.Place.TheVariants.{Next, Root}
use Rattle.orc_history.proofs.Histories.{IsLegalFrom-snoc}
use Rattle.orc_history.specs.QueueHistory.{puts_in, waiting_after}
use Rattle.orc_history.specs.declared.queue.QueueEntry.TheVariants.{Empty, Put, Took}
use Rattle.orc_fifo_rule.specs.declared.fifo.FifoNote.{FifoNote}
use Rattle.orc_fifo_rule.specs.declared.fifo.FifoNote.TheVariants.{Entry, Swing}
use Rattle.orc_fifo_rule.specs.QueueDiscipline.{FifoHolds, FifoMay, HasJob, IsRunning, entries_of, has_begun, position_of}
use Rattle.orc_fifo_rule.specs.Watches.{IsLeftBehind, WasNamed, node_to_put}
use Rattle.orc_fifo_rule.specs.Laws.Events.{begun_more}
use Rattle.orc_fifo_rule.specs.Laws.Nodes.{job_linked}
use Rattle.orc_fifo_rule.specs.Laws.Paths.{path_ends, path_step, successor_linked}
use Rattle.orc_heap.proofs.Fresh.{node_later}
use Rattle.orc_heap.proofs.Sides.{null_side}
use Rattle.orc_fifo_rule.specs.Laws.Kept.{fifo_keeps, fifo_moves_linked}
use Rattle.orc_fifo_rule.proofs.Later.{holds_later, job_later, link_later, named_later, next_position, position_later, still_named}
use Rattle.orc_fifo_rule.proofs.Leaving.{left_later}
use Rattle.orc_heap.proofs.SingleActs.{link_same, shown_link, some_same}

-- where root 0 names a node with a null link, nothing waits
nothing_waits : (h : Heap) (es : List (Event FifoNote)) (id : ℕ) → IsRunning h es → shown h (Root 0) ≡ Some (link_to id)
    → shown h (Next id) ≡ Some null → waiting_after [] (entries_of es) ≡ []
nothing_waits h es id run root none =
    let same : id ≡ run.dummy = link_same id run.dummy (some_same (sym root ∙ run.head_is)) in
    let at : shown h (Next run.dummy) ≡ Some null = subst (λ (x : ℕ). shown h (Next x) ≡ Some null) same none in
    let one = path_ends es h run.dummy run.tail run.front run.to_tail at in
    let two = path_ends es h run.tail run.last run.back run.to_last (subst (λ (x : ℕ). shown h (Next x) ≡ Some null) one.1 at) in
    run.waiting ∙ (ap (λ z. z ++ run.back) one.0 ∙ two.0)

-- an Empty, wherever root 0 named the node at some time and its link is null
pub empty_allowed : (n : HeapNumbers) (agent id : ℕ) (seen : List (Event FifoNote)) → FifoHolds n seen → has_begun seen ≡ true → WasNamed (run_heap n seen) 0 id
    → AllowedLater (FifoMay n) n agent seen (Next id) null (event_by agent (Look (Next id) null) (Some (Entry (Empty agent))))
empty_allowed n agent id seen holds begun named = λ more later at.
    let es : List (Event FifoNote) = seen ++ more in
    let h : Heap = run_heap n es in
    let now = holds_later n seen more holds later.allowed in
    let run = now.running (begun_more seen more begun) in
    let head = still_named h 0 id (named_later n seen more 0 id named later.allowed) at in
    let waits = nothing_waits h es id run head at in
    record {
      fits = at;
      may_act = record { head_is = head; link_is = refl };
      in_time = begun_more seen more begun;
      may_enter = (refl, IsLegalFrom-snoc (position_of h 0) [] (entries_of es) (Empty agent) now.legal (waits, tt));
    }

-- a Swing of root 1, wherever the node's link leads to the other
pub swing_allowed : (n : HeapNumbers) (agent id next : ℕ) (seen : List (Event FifoNote)) → FifoHolds n seen → has_begun seen ≡ true
    → HasLink (run_heap n seen) id (link_to next)
    → AllowedLater (FifoMay n) n agent seen (Root 1) (link_to id) (event_by agent (Move (Root 1) (link_to id) (link_to next)) (Some Swing))
swing_allowed n agent id next seen holds begun link = λ more later at.
    let es : List (Event FifoNote) = seen ++ more in
    let h : Heap = run_heap n es in
    let now = holds_later n seen more holds later.allowed in
    let l = link_later n seen more id next link later.allowed in
    let x = successor_linked n es id next now l in
    record {
      fits = (at, linked_known n es agent next now.lawful x);
      may_act = record { root_is = refl; steps = record { id = id; next = next; from_is = refl; to_is = refl; successor = shown_link h id (link_to next) l } };
      in_time = begun_more seen more begun;
      may_enter = tt;
    }

one_job : (h : Heap) (id job at j p : ℕ) → HasJob h id job at → HasJob h id j p → (j ≡ job) × (p ≡ at)
one_job h id job at j p a b =
    let one : b.node ≡ a.node = some_same (sym b.there ∙ a.there) in
    let job_is : j ≡ job = some_same (sym b.holds.job_is ∙ (ap (λ (x : Node). x.first) one ∙ a.holds.job_is)) in
    let at_is : p + 1 ≡ at + 1 = some_same (sym b.holds.position_is ∙ (ap (λ (x : Node). x.second) one ∙ a.holds.position_is)) in
    (job_is, omega (arith, at_is))

-- what waits, where its first Put is this job
front_waits : (waiting front back rest : List (ℕ × ℕ)) (put : ℕ × ℕ) (job at : ℕ) → waiting ≡ front ++ back → front ≡ put ∷ rest → put.0 ≡ job
    → put.1 ≡ at → waiting ≡ (job, at) ∷ (rest ++ back)
front_waits waiting front back rest put job at all first job_is at_is =
    let whole : put ≡ (job, at) = ap (λ (x : ℕ). (x, put.1)) job_is ∙ ap (λ (x : ℕ). (job, x)) at_is in
    all ∙ (ap (λ z. z ++ back) first ∙ ap (λ (x : ℕ × ℕ). x ∷ (rest ++ back)) whole)

-- a Took of root 0, wherever root 1 has left the node, whose link leads to the other
pub took_allowed : (n : HeapNumbers) (agent id next job at : ℕ) (seen : List (Event FifoNote)) → FifoHolds n seen → has_begun seen ≡ true
    → IsLeftBehind (run_heap n seen) id
    → HasLink (run_heap n seen) id (link_to next) → HasJob (run_heap n seen) next job at
    → AllowedLater (FifoMay n) n agent seen (Root 0) (link_to id)
    (event_by agent (Move (Root 0) (link_to id) (link_to next)) (Some (Entry (Took agent job at))))
took_allowed n agent id next job at seen holds begun left link has = λ more later shows.
    let es : List (Event FifoNote) = seen ++ more in
    let h : Heap = run_heap n es in
    let now = holds_later n seen more holds later.allowed in
    let run = now.running (begun_more seen more begun) in
    let l = link_later n seen more id next link later.allowed in
    let away = left_later n seen more id holds begun left later.allowed in
    let j = job_later n seen more next job at has later.allowed in
    let same : run.dummy ≡ id = link_same run.dummy id (some_same (sym run.head_is ∙ shows)) in
    let successor : shown h (Next run.dummy) ≡ Some (link_to next) =
    subst (λ (x : ℕ). shown h (Next x) ≡ Some (link_to next)) (sym same) (shown_link h id (link_to next) l) in
    let apart : run.dummy ≢ run.tail = λ x. away.tail_apart (run.tail_is ∙ ap (λ (y : ℕ). Some (link_to y)) (sym x ∙ same)) in
    let (put, rest, front_is, put_node, path) = path_step es h run.dummy run.tail run.front next run.to_tail successor apart in
    let (job_is, at_is) = one_job h next job at put.0 put.1 j (now.puts next put.0 put.1 put_node) in
    let waits : waiting_after [] (entries_of es) ≡ (job, at) ∷ (rest ++ run.back) =
    front_waits (waiting_after [] (entries_of es)) run.front run.back rest put job at run.waiting front_is job_is at_is in
    record {
      fits = (shows, linked_known n es agent next now.lawful (job_linked h next job at j));
      may_act = record {
        root_is = refl;
        steps = record { id = id; next = next; from_is = refl; to_is = refl; successor = shown_link h id (link_to next) l };
        tail_apart = away.tail_apart;
      };
      in_time = begun_more seen more begun;
      may_enter = (refl, IsLegalFrom-snoc (position_of h 0) [] (entries_of es) (Took agent job at) now.legal (rest ++ run.back, waits, tt));
    }

-- a Put of the agent's fresh node, wherever root 1 named the other at some time and its link is null
pub put_allowed : (n : HeapNumbers) (agent id fresh job at : ℕ) (seen : List (Event FifoNote)) → FifoHolds n seen → has_begun seen ≡ true
    → WasNamed (run_heap n seen) 1 id
    → position_of (run_heap n seen) id ≡ at → at < 2 ^ 62 → slice_get (run_heap n seen).nodes fresh ≡ Some (node_to_put agent job at)
    → AllowedLater (FifoMay n) n agent seen (Next id) null (event_by agent (Move (Next id) null (link_to fresh)) (Some (Entry (Put agent job at))))
put_allowed n agent id fresh job at seen holds begun named position low there = λ more later shows.
    let es : List (Event FifoNote) = seen ++ more in
    let h : Heap = run_heap n es in
    let now = holds_later n seen more holds later.allowed in
    let begun_now = begun_more seen more begun in
    let was = named_later n seen more 1 id named later.allowed in
    let node = node_later n (FifoHolds n) (FifoMay n) (fifo_keeps n) (λ es e holds may. may.fits) (fifo_moves_linked n) agent fresh
    (node_to_put agent job at) seen more holds there refl refl refl later in
    let place : at ≡ position_of h 0 + puts_in (entries_of es) =
    sym position ∙ (sym (position_later n seen more id named.linked later.allowed) ∙ next_position n es id now begun_now was shows) in
    record {
      fits = (shows, record { node = node_to_put agent job at; there = node; known = inl refl });
      may_act = record {
        tail_is = still_named h 1 id was shows;
        from_is = refl;
        id = fresh;
        to_is = refl;
        node = node_to_put agent job at;
        there = node;
        unlinked = refl;
        ends = refl;
        side_null = null_side h fresh (node_to_put agent job at) node refl;
        holds = record { job_is = refl; position_is = refl; low = low };
      };
      in_time = begun_now;
      may_enter = (refl, IsLegalFrom-snoc (position_of h 0) [] (entries_of es) (Put agent job at) now.legal (place, tt));
    }
