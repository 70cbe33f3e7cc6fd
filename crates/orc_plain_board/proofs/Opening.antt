-- The steps that a new board begins with: their events, the words that they leave, and that the discipline allows them.
use Rattle.std.proofs.Common.{◌≡◌, ℕ, ◌<◌, ◌≤◌, List, [], ◌∷◌, ◌++◌, Bool, cond, if◌then◌else◌, Some, None, slice_index, slice_set, refl, sym, ap, ◌∙◌, subst, arith, eq-eqb}
use Rattle.orc_layout.specs.Layout.{layout_of}
use Rattle.orc_layout.specs.declared.layout.Layout.{Layout}
use Rattle.orc_words.specs.Bounds.{Bounds, bounds_of}
use Rattle.orc_words.specs.NewWords.{new_words}
use Rattle.orc_words.specs.Places.{place}
use Rattle.orc_words.specs.declared.place.Word.TheVariants as word
use Rattle.orc_words.specs.declared.shape.Shape.{Shape}
use Rattle.orc_heap.specs.Acts.{with_value}
use Rattle.orc_heap.specs.Allowed.{AllAllowed}
use Rattle.orc_heap.specs.Heap.{HeapNumbers, new_heap, new_node, null}
use Rattle.orc_heap.specs.Journals.{event_by, run_from as heap_from}
use Rattle.orc_heap.specs.Seeds.{DummyAllowed, HasRoots, SeedAllowed, dummy_link, dummy_node, opening_events}
use Rattle.orc_heap.specs.declared.discipline.Discipline as discipline
use Rattle.orc_heap.specs.declared.events.Act.TheVariants as act
use Rattle.orc_heap.specs.declared.events.Event.{Event}
use Rattle.orc_heap.specs.declared.events.Place.TheVariants.{Root}
use Rattle.orc_heap.proofs.Stays.{stays}
use Rattle.orc_shared_words.specs.Ends.{OpensLawfully}
use Rattle.orc_shared_words.specs.Runs.{AgentsBelow}
use Rattle.orc_plain_board.specs.Machine.{State, AllowedFrom, IsRowLink, events_at, next, numbers, project, project_from, run, run_from, start, tested, unmarked}
use Rattle.orc_plain_board.specs.Rules.{opening_steps, plain_rules, step_of}
use Rattle.orc_plain_board.specs.declared.machine.PlainOp.TheVariants.{GateTake, Fill, LinkCas}
use Rattle.orc_plain_board.specs.declared.machine.PlainStep.{PlainStep}
use Rattle.orc_heap.specs.declared.seed.Seed.{Seed}
use Rattle.orc_heap.specs.declared.seed.Seed.TheVariants.{Empty, Dummy}
use Rattle.orc_any_domain.proofs.Rows.{some_one}
use Rattle.orc_plain_board.proofs.Lists.{same_word}
use Rattle.orc_plain_board.proofs.Ties.{tie_start}
use Rattle.orc_words.proofs.NewWords.{new_words_each}

module _ {N : Type 0} (b : Bounds) (first : ℕ) (begin : N) (roots : 2 ≤ b.roots) (rows : 0 < b.rows) where
  -- the words of the dummy, and then of the links to it
  abbrev pub node_words : List ℕ
  node_words = slice_set (slice_set (slice_set (new_words b) (place b (word.Gate 0)) 3) (place b (word.First 0)) 0) (place b (word.Second 0)) first

  abbrev pub dummy_words : List ℕ
  dummy_words = slice_set (slice_set node_words (place b (word.Root 0)) 2) (place b (word.Root 1)) 2

  abbrev given_state : State
  given_state =
      record {
        words = slice_set (new_words b) (place b (word.Gate 0)) 3;
        given = 0 ∷ [];
        heap =
            heap_from (new_heap (numbers b)) (event_by {N = N} 0 act.Give None ∷ []);
      }

  abbrev filled_state : State
  filled_state = record { words = node_words; given = 0 ∷ []; heap = heap_from (new_heap (numbers b)) (dummy_node {N = N} first) }

  abbrev linked_state : State
  linked_state =
      record {
        words = slice_set node_words (place b (word.Root 0)) 2;
        given = 0 ∷ [];
        heap =
            heap_from (new_heap (numbers b)) (dummy_node {N = N} first ++ dummy_link 0 begin ∷ []);
      }

  zero_gate : slice_index (new_words b) (place b (word.Gate 0)) ≡ 0
  zero_gate = ((tie_start b).free 0 rows (λ id e. cc)).gate

  zero_root : (r : ℕ) → r < b.roots → slice_index (new_words b) (place b (word.Root r)) ≡ 0
  zero_root r lt = new_words_each b (word.Root r) lt

  node_root : (r : ℕ) → r < b.roots → slice_index node_words (place b (word.Root r)) ≡ 0
  node_root r lt =
      same_word (slice_set (slice_set (new_words b) (place b (word.Gate 0)) 3) (place b (word.First 0)) 0) (place b (word.Second 0)) first
      (place b (word.Root r)) (λ e. omega (arith, e, lt))
      ∙ (same_word (slice_set (new_words b) (place b (word.Gate 0)) 3) (place b (word.First 0)) 0 (place b (word.Root r)) (λ e. omega (arith, e, lt))
      ∙ (same_word (new_words b) (place b (word.Gate 0)) 3 (place b (word.Root r)) (λ e. omega (arith, e, lt)) ∙ zero_root r lt))

  second_root : slice_index (slice_set node_words (place b (word.Root 0)) 2) (place b (word.Root 1)) ≡ 0
  second_root = same_word node_words (place b (word.Root 0)) 2 (place b (word.Root 1)) (λ e. omega (arith, e)) ∙ node_root 1 (omega (arith, roots))

  given_first : next b (start b) (step_of {N = N} 0 (GateTake 0) None) ≡ given_state
  given_first =
      ap (λ (h : Bool). record {
        words =
            slice_set (new_words b) (place b (word.Gate 0)) (cond h 3 (slice_index (new_words b) (place b (word.Gate 0))));
        given =
            if h then 0 ∷ [] else [];
        heap = heap_from (new_heap (numbers b)) (if h then event_by {N = N} 0 act.Give None ∷ [] else []);
      })
      (eq-eqb (slice_index (new_words b) (place b (word.Gate 0))) 0 zero_gate)

  give_event : events_at b (start b) (step_of {N = N} 0 (GateTake 0) None) ≡ event_by 0 act.Give None ∷ []
  give_event =
      ap (λ (h : Bool). if h then event_by {N = N} 0 act.Give None ∷ [] else []) (eq-eqb (slice_index (new_words b) (place b (word.Gate 0))) 0 zero_gate)

  abbrev link_step : ℕ → PlainStep N
  link_step r = step_of 0 (LinkCas (word.Root r) (unmarked None) (unmarked (Some 0))) (Some begin)

  first_linked : next b filled_state (link_step 0) ≡ linked_state
  first_linked =
      ap (λ (h : Bool). record {
        words = slice_set node_words (place b (word.Root 0)) (cond h 2 (slice_index node_words (place b (word.Root 0))));
        given = 0 ∷ [];
        heap = heap_from filled_state.heap (tested filled_state 0 (Root 0) null (dummy_link 0 begin) h ∷ []);
      })
      (eq-eqb (slice_index node_words (place b (word.Root 0))) 0 (node_root 0 (omega (arith, roots))))

  first_event : events_at b filled_state (link_step 0) ≡ dummy_link 0 begin ∷ []
  first_event =
      ap (λ (h : Bool). tested filled_state 0 (Root 0) null (dummy_link 0 begin) h ∷ [])
      (eq-eqb (slice_index node_words (place b (word.Root 0))) 0 (node_root 0 (omega (arith, roots))))

  second_event : events_at b linked_state (link_step 1) ≡ dummy_link 1 begin ∷ []
  second_event =
      ap (λ (h : Bool). tested linked_state 0 (Root 1) null (dummy_link 1 begin) h ∷ [])
      (eq-eqb (slice_index linked_state.words (place b (word.Root 1))) 0 second_root)

  second_words : (next b linked_state (link_step 1)).words ≡ dummy_words
  second_words =
      ap (λ (h : Bool). slice_set linked_state.words (place b (word.Root 1)) (cond h 2 (slice_index linked_state.words (place b (word.Root 1)))))
      (eq-eqb (slice_index linked_state.words (place b (word.Root 1))) 0 second_root)

  rest : List (PlainStep N)
  rest = step_of 0 (Fill 0 0 0) None ∷ step_of 0 (Fill 0 1 first) None ∷ link_step 0 ∷ link_step 1 ∷ []

  pub dummy_events : project b (opening_steps (Dummy first begin)) ≡ opening_events (Dummy first begin)
  unfolding rest
  dummy_events =
      (λ i. give_event i ++ project_from b (given_first i) rest)
      ∙ ((λ i. event_by 0 act.Give None ∷ event_by 0 (act.Fill 0 0 0) None ∷ event_by 0 (act.Fill 0 1 first) None
      ∷ (first_event i ++ (events_at b (first_linked i) (link_step 1) ++ [])))
      ∙ (λ i. event_by 0 act.Give None ∷ event_by 0 (act.Fill 0 0 0) None ∷ event_by 0 (act.Fill 0 1 first) None ∷ dummy_link 0 begin ∷ (second_event i ++ [])))

  pub dummy_run : (run b (opening_steps (Dummy first begin))).words ≡ dummy_words
  unfolding rest
  dummy_run = ap (λ (x : State). (run_from b x rest).words) given_first ∙ (ap (λ (x : State). (next b x (link_step 1)).words) first_linked ∙ second_words)

  -- the writes of the code
  pub written_words : (items : List ℕ) (p1 p2 p3 p4 p5 link : ℕ) → items ≡ new_words b → p1 ≡ place b (word.Gate 0) → p2 ≡ place b (word.First 0)
      → p3 ≡ place b (word.Second 0) → p4 ≡ place b (word.Root 0) → p5 ≡ place b (word.Root 1) → link ≡ 2
      → slice_set (slice_set (slice_set (slice_set (slice_set items p1 3) p2 0) p3 first) p4 link) p5 link ≡ (run b (opening_steps (Dummy first begin))).words
  written_words items p1 p2 p3 p4 p5 link e e1 e2 e3 e4 e5 e6 =
      (λ i. slice_set (slice_set (slice_set (slice_set (slice_set (e i) (e1 i) 3) (e2 i) 0) (e3 i) first) (e4 i) (e6 i)) (e5 i) (e6 i)) ∙ sym dummy_run

module _ {D N : Type 0} (d : discipline.Ghosts D N) (b : Bounds) (first : ℕ) (begin : N) (began : d.holds (numbers b) [])
    (can : DummyAllowed d.may (numbers b) first begin) where
  abbrev holds : List (Event N) → Type 0
  holds = d.holds (numbers b)

  abbrev may : List (Event N) → Event N → Type 0
  may = d.may (numbers b)

  pub dummy_each : AllAllowed may [] (opening_events (Dummy first begin))
  dummy_each =
      let e0 : Event N = event_by 0 act.Give None in
      let e1 : Event N = event_by 0 (act.Fill 0 0 0) None in
      let e2 : Event N = event_by 0 (act.Fill 0 1 first) None in
      let m0 : may [] e0 = d.allows_plain (numbers b) [] e0 began tt (refl, tt) in
      let h1 : holds (e0 ∷ []) = d.keeps (numbers b) [] e0 began m0 in
      let m1 : may (e0 ∷ []) e1 =
      d.allows_plain (numbers b) (e0 ∷ []) e1 h1 (record { node = new_node 0; there = refl; mine = refl; unlinked = refl }, omega arith) (refl, tt) in
      let h2 : holds (e0 ∷ e1 ∷ []) = d.keeps (numbers b) (e0 ∷ []) e1 h1 m1 in
      let m2 : may (e0 ∷ e1 ∷ []) e2 =
      d.allows_plain (numbers b) (e0 ∷ e1 ∷ []) e2 h2 (
        record { node = with_value 0 0 (new_node 0); there = refl; mine = refl; unlinked = refl },
        omega arith,
      ) (refl, tt) in
      (m0, (m1, (m2, (can.first_link, (can.second_link, tt)))))

pub has_roots : {N : Type 0} (may : HeapNumbers → List (Event N) → Event N → Type 0) (n : HeapNumbers) (seed : Seed N) → SeedAllowed may n seed
    → HasRoots n seed
has_roots may n Empty can = tt
has_roots may n (Dummy first begin) can = can.roots

module _ {D N : Type 0} (d : discipline.Ghosts D N) (shape : Shape) where
  abbrev k : Bounds
  k = bounds_of shape

  pub opened_events : (seed : Seed N) → HasRoots (numbers k) seed → project k (opening_steps seed) ≡ opening_events seed
  opened_events Empty roots = refl
  opened_events (Dummy first begin) roots = let some = shape.some_rows in dummy_events k first begin roots (omega (arith, some))

  opened_each : (seed : Seed N) → d.holds (numbers k) [] → SeedAllowed d.may (numbers k) seed → AllAllowed (d.may (numbers k)) [] (opening_events seed)
  opened_each Empty began can = tt
  opened_each (Dummy first begin) began can = dummy_each d k first begin began can

  opened_lawful : (seed : Seed N) → SeedAllowed d.may (numbers k) seed → AllowedFrom k (opening_steps seed)
  opened_lawful Empty can = tt
  opened_lawful (Dummy first begin) can =
      let some = shape.some_rows in
      let roots = can.roots in
      let rows : 0 < k.rows = omega (arith, some) in
      let one : 0 < k.roots = omega (arith, roots) in
      let two : 1 < k.roots = omega (arith, roots) in
      let null : IsRowLink k None = λ row e. cc in
      let first_row : IsRowLink k (Some 0) = λ row e. subst (λ z. z < k.rows) (some_one 0 row e) rows in
      (rows, ((rows, omega arith), ((rows, omega arith), ((one, null, first_row), ((two, null, first_row), tt)))))

  opened_below : (seed : Seed N) → AgentsBelow (λ (s : PlainStep N). s.agent) k.agents (opening_steps seed)
  opened_below Empty = tt
  opened_below (Dummy first begin) = let some = shape.some_agents in let one : 0 < k.agents = omega (arith, some) in (one, (one, (one, (one, (one, tt)))))

  -- the opening is allowed
  pub opens : (layout : Layout) (laid : layout ≡ layout_of k) (seed : Seed N) → d.holds (numbers k) [] → SeedAllowed d.may (numbers k) seed
      → OpensLawfully plain_rules (record { shape = shape; seed = seed; layout = layout; laid = laid }) (d.holds (numbers k)) (d.may (numbers k))
  opens layout laid seed began can =
      let events = opened_events seed (has_roots d.may (numbers k) seed can) in
      let each = subst (AllAllowed (d.may (numbers k)) []) (sym events) (opened_each seed began can) in
      let some = shape.some_agents in record {
        lawful = opened_lawful seed can;
        each = each;
        kept = stays (d.may (numbers k)) (d.holds (numbers k)) (λ es e h m. d.keeps (numbers k) es e h m) [] (project k (opening_steps seed)) began each;
        below = opened_below seed;
        someone = omega (arith, some);
        born = λ c l m. refl;
      }

  -- an opening that is lawful has the roots that it links from
  pub lawful_roots : (seed : Seed N) → AllowedFrom k (opening_steps seed) → HasRoots (numbers k) seed
  lawful_roots Empty can = tt
  lawful_roots (Dummy first begin) can = let two = can.1.1.1.1.0.0 in omega (arith, two)
