-- Steps along a path of links.
use Rattle.std.proofs.Common.{List, Some, [], arith, inl, inr, length, refl, subst, sym, ℕ, ◌++◌, ◌∙◌, ◌∷◌, ◌≡◌, ◌≢◌, ◌≤◌}
use Rattle.orc_heap.specs.Allowed.{IsLinkedNode, HasLink}
use Rattle.orc_heap.specs.Heap.{Heap, HeapNumbers, null, shown, link_to}
use Rattle.orc_heap.specs.Journals.{run_heap}
use Rattle.orc_heap.specs.declared.events.Event.{Event}
use Rattle.orc_heap.specs.declared.events.Link.{Link}
use Rattle.orc_heap.specs.declared.events.Place.TheVariants.{Next, Root}
use Rattle.orc_fifo_rule.specs.declared.fifo.FifoNote.{FifoNote}
use Rattle.orc_fifo_rule.specs.QueueDiscipline.{FifoHolds, IsPath, IsPutNode, IsRunning, StepsOn}
use Rattle.orc_fifo_rule.specs.Laws.Nodes.{job_linked, path_linked}
use Rattle.orc_heap.proofs.SingleActs.{link_same, null_to, shown_link, some_same, has_link}

-- behind a node with a null link the path ends
pub path_ends : (es : List (Event FifoNote)) (h : Heap) (d last : ℕ) (puts : List (ℕ × ℕ)) → IsPath es h d puts last → shown h (Next d) ≡ Some null
    → (puts ≡ []) × (d ≡ last)
path_ends es h d last [] path at = (refl, path)
path_ends es h d last (put ∷ puts) (next, link, put_node, rest) at = absurd (null_to next (some_same (sym at ∙ shown_link h d (link_to next) link)))

-- the one step behind the tail
pub back_one : (es : List (Event FifoNote)) (h : Heap) (tail last : ℕ) (back : List (ℕ × ℕ)) (x : ℕ) → IsPath es h tail back last
    → HasLink h last null → length back ≤ 1 → shown h (Next tail) ≡ Some (link_to x)
    → (put : ℕ × ℕ) × (back ≡ put ∷ []) × HasLink h tail (link_to x) × IsPutNode es x put.0 put.1 × (x ≡ last)
back_one es h tail last [] x path ends short at =
    let there : shown h (Next tail) ≡ Some null = subst (λ (y : ℕ). shown h (Next y) ≡ Some null) (sym path) (shown_link h last null ends) in
    absurd (null_to x (some_same (sym there ∙ at)))
back_one es h tail last (put ∷ []) x (next, link, put_node, rest) ends short at =
    let same : next ≡ x = link_same next x (some_same (sym (shown_link h tail (link_to next) link) ∙ at)) in
    (put, refl, subst (λ (y : ℕ). HasLink h tail (link_to y)) same link, subst (λ (y : ℕ). IsPutNode es y put.0 put.1) same put_node, sym same ∙ rest)
back_one es h tail last (put ∷ other ∷ puts) x path ends short at = absurd (omega arith)

pub path_snoc : (es : List (Event FifoNote)) (h : Heap) (d m x : ℕ) (puts : List (ℕ × ℕ)) (put : ℕ × ℕ) → IsPath es h d puts m
    → HasLink h m (link_to x) → IsPutNode es x put.0 put.1
    → IsPath es h d (puts ++ put ∷ []) x
path_snoc es h d m x [] put path link put_node = (x, subst (λ (y : ℕ). HasLink h y (link_to x)) (sym path) link, put_node, refl)
path_snoc es h d m x (other ∷ puts) put (next, one, two, rest) link put_node = (next, one, two, path_snoc es h next m x puts put rest link put_node)

-- the first step of a path that leads elsewhere
pub path_step : (es : List (Event FifoNote)) (h : Heap) (d tail : ℕ) (front : List (ℕ × ℕ)) (x : ℕ) → IsPath es h d front tail
    → shown h (Next d) ≡ Some (link_to x) → d ≢ tail
    → (put : ℕ × ℕ) × (rest : List (ℕ × ℕ)) × (front ≡ put ∷ rest) × IsPutNode es x put.0 put.1 × IsPath es h x rest tail
path_step es h d tail [] x path at apart = absurd (apart path)
path_step es h d tail (put ∷ puts) x (next, link, put_node, rest) at apart =
    let same : next ≡ x = link_same next x (some_same (sym (shown_link h d (link_to next) link) ∙ at)) in
    (put, puts, refl, subst (λ (y : ℕ). IsPutNode es y put.0 put.1) same put_node, subst (λ (y : ℕ). IsPath es h y puts tail) same rest)

pub tail_linked : (h : Heap) (es : List (Event FifoNote)) (run : IsRunning h es) → IsLinkedNode h run.tail
tail_linked h es run = path_linked es h run.tail run.last run.back run.to_last run.ends

pub dummy_linked : (h : Heap) (es : List (Event FifoNote)) (run : IsRunning h es) → IsLinkedNode h run.dummy
dummy_linked h es run = over run.front run.to_tail
  where
    over : (front : List (ℕ × ℕ)) → IsPath es h run.dummy front run.tail → IsLinkedNode h run.dummy
    over [] path = subst (λ (y : ℕ). IsLinkedNode h y) (sym path) (tail_linked h es run)
    over (put ∷ puts) (next, link, put_node, rest) = record { node = link.node; there = link.there; linked = link.linked }

-- the node to which a once linked node leads is once linked
pub successor_linked : (n : HeapNumbers) (es : List (Event FifoNote)) (t x : ℕ) → FifoHolds n es → HasLink (run_heap n es) t (link_to x)
    → IsLinkedNode (run_heap n es) x
successor_linked n es t x holds link =
    elim (holds.links t (link_to x) link) [
      | inl none ↦ absurd (null_to x (sym none))
      | inr leads ↦
          let (next, job, same, put) = leads in
          subst (λ (y : ℕ). IsLinkedNode (run_heap n es) y) (sym (link_same x next same)) (job_linked (run_heap n es) next job _ (holds.puts next job _ put))
    ]

-- a root that steps on leaves a once linked node for its successor
pub root_steps : (h : Heap) (root id : ℕ) → IsLinkedNode h id → shown h (Root root) ≡ Some (link_to id) → (r : ℕ) (from to : Link) (s : StepsOn h from to)
    → r ≡ root → shown h (Root r) ≡ Some from → (s.id ≡ id) × HasLink h s.id (link_to s.next)
root_steps h root id linked leads r from to s is at =
    let here : shown h (Root root) ≡ Some from = subst (λ (x : ℕ). shown h (Root x) ≡ Some from) is at in
    let same : s.id ≡ id = link_same s.id id (sym s.from_is ∙ some_same (sym here ∙ leads)) in
    (same, has_link h s.id (link_to s.next) (subst (λ (x : ℕ). IsLinkedNode h x) (sym same) linked) s.successor)

pub tail_steps : (h : Heap) (es : List (Event FifoNote)) (run : IsRunning h es) (r : ℕ) (from to : Link) (s : StepsOn h from to) → r ≡ 1
    → shown h (Root r) ≡ Some from → (s.id ≡ run.tail) × HasLink h s.id (link_to s.next)
tail_steps h es run = root_steps h 1 run.tail (tail_linked h es run) run.tail_is

pub head_steps : (h : Heap) (es : List (Event FifoNote)) (run : IsRunning h es) (r : ℕ) (from to : Link) (s : StepsOn h from to) → r ≡ 0
    → shown h (Root r) ≡ Some from → (s.id ≡ run.dummy) × HasLink h s.id (link_to s.next)
head_steps h es run = root_steps h 0 run.dummy (dummy_linked h es run) run.head_is

-- a Put stands at the last node
pub put_at_last : (h : Heap) (es : List (Event FifoNote)) (run : IsRunning h es) (t : ℕ) → shown h (Root 1) ≡ Some (link_to t) → shown h (Next t) ≡ Some null
    → (run.tail ≡ t) × (run.back ≡ []) × (run.last ≡ t)
put_at_last h es run t root none =
    let same : run.tail ≡ t = link_same run.tail t (some_same (sym run.tail_is ∙ root)) in
    let at : shown h (Next run.tail) ≡ Some null = subst (λ (x : ℕ). shown h (Next x) ≡ Some null) (sym same) none in
    let (no_back, last_is) = path_ends es h run.tail run.last run.back run.to_last at in
    (same, no_back, sym last_is ∙ same)
