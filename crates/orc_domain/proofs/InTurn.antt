-- Passes that drain one after another: each alone, so that the state is at rest afterwards.
use Rattle.std.proofs.Common.{Bool, List, [], ap, arith, false, length, refl, subst, suc, sym, true, zero, ℕ, ◌++◌, ◌+◌, ◌<◌, ◌≤◌, ◌∙◌, ◌∷◌, ◌≡◌, ◌≢◌}
use Rattle.std.proofs.Common.{◌-◌}
use Rattle.std.proofs.lemmas.Bool.{ltb-true}
use Rattle.std.proofs.lemmas.List.{append_cancel_left}
use Rattle.std.proofs.lemmas.List.Elements.{All-from_recursion, recursion_from_All}
use Rattle.std.specs.List.{AllByRecursion}
use Rattle.std.specs.Prelude.{nat_lt, slice_index_or}
use mathlib.Core.List.{IsPrefix}
use mathlib.Core.Logic.{dite}
use native.Mathlib.Decide.{ℕ_discrete}
use Rattle.orc_core.specs.Machine.{record_at}
use Rattle.orc_any_domain.proofs.Lists.{pairwise_at, pairwise_long}
use Rattle.orc_any_domain.specs.Learning.{HearsAll, HoldsSame}
use Rattle.orc_history.specs.Lists.{Pairwise}
use Rattle.orc_rest.proofs.DrainAll.{rest_after_drains}
use Rattle.orc_rest.specs.Drains.{DrainedAlone}
use Rattle.orc_heap.proofs.Pieces.{goes_on}
use Rattle.orc_heap.specs.Allowed.{events_by}
use Rattle.orc_heap.specs.Seats.{Seat}
use Rattle.orc_heap.specs.declared.events.Event.{Event}
use Rattle.orc_machine_board.proofs.Licences.{signed}
use Rattle.orc_machine_board.specs.Laws.Steps.{counted_obeys}
use Rattle.orc_machine_board.specs.Passes.{steps_of}
use Rattle.orc_machine_board.specs.Rules.{bounds_in, counted_rules, run_of}
use Rattle.orc_machine_board.specs.declared.machine.MachineShape.{MachineShape}
use Rattle.orc_projection.specs.Projection.{project}
use Rattle.orc_domain.proofs.Numbered.{number_at}
use Rattle.orc_domain.specs.Drains.{AreNumbered, DrainInTurn, DrainsNext, DrainsPart}
use Rattle.orc_rest.specs.Rest.{IsAtRest}
use Rattle.orc_rest.specs.Records.{IsBetweenRounds}
use Rattle.orc_rest.specs.Turns.{AllOf, IsReachedState}
use Rattle.orc_shared_words.proofs.Events.{others_add}
use Rattle.orc_heap.proofs.Prefixes.{both_prefixes, prefix_same}
use Rattle.orc_shared_words.proofs.Runs.{below-front, below-tail, by_other, by_own, cons_nil, none_behind, none_between}
use Rattle.orc_shared_words.specs.Runs.{AgentsBelow}
use Rattle.orc_sound.specs.Journals.{plain}
use Rattle.orc_sound.specs.declared.steps.Step.{Step}
use Rattle.orc_words.specs.Bounds.{Bounds}

module _ {N : Type 0} where
  -- where no other agent has a step, each step is the agent's
  all_of : (n k : ℕ) (ss : List (Step N)) → AgentsBelow (λ (s : Step N). s.agent) n ss
      → ((i : ℕ) → i < n → i ≢ k → steps_of i ss ≡ []) → AllOf k (plain ss)
  all_of n k [] b none = tt
  all_of n k (s ∷ ss) b none = (
    dite (ℕ_discrete s.agent k) (λ e. e) (λ ne. absurd (cons_nil s (steps_of s.agent ss)
        (sym (by_own (λ (x : Step N). x.agent) s.agent s ss refl) ∙ none s.agent b.0 ne))),
    all_of n k ss b.1 (λ i l ne. fewer i (none i l ne)),
  )
    where
      fewer : (i : ℕ) → steps_of i (s ∷ ss) ≡ [] → steps_of i ss ≡ []
      fewer i e = dite (ℕ_discrete s.agent i)
          (λ own. absurd (cons_nil s (steps_of i ss) (sym (by_own (λ (x : Step N). x.agent) i s ss own) ∙ e)))
          (λ ne. sym (by_other (λ (x : Step N). x.agent) i s ss ne) ∙ e)

  -- and no other agent has one
  none_of : (k i : ℕ) (ss : List (Step N)) → AllOf k (plain ss) → i ≢ k → steps_of i ss ≡ []
  none_of k i [] all ne = refl
  none_of k i (s ∷ ss) all ne = by_other (λ (x : Step N). x.agent) i s ss (λ e. ne (sym e ∙ all.0)) ∙ none_of k i ss all.1 ne

  -- events of no agent are none
  no_events : (es : List (Event N)) → ((i : ℕ) → events_by i es ≡ []) → es ≡ []
  no_events [] none = refl
  no_events (e ∷ es) none = absurd (cons_nil e (events_by e.agent es) (sym (by_own (λ (x : Event N). x.agent) e.agent e es refl) ∙ none e.agent))

  module _ (k : MachineShape N) (a : ℕ) (before after : List (Step N)) (d : DrainsPart (bounds_in k) a before after) (all : AllOf a (plain d.part)) where
    -- a drain that is its agent's alone adds no event
    pub adds_no_event : project (bounds_in k) after ≡ project (bounds_in k) before
    adds_no_event =
        d.quiet.is ∙ (ap (λ z. project (bounds_in k) before ++ z) (no_events d.quiet.events by) ∙ nil (project (bounds_in k) before))
      where
        nil : (es : List (Event N)) → es ++ [] ≡ es
        nil [] = refl
        nil (e ∷ es) = ap (λ z. e ∷ z) (nil es)

        by : (i : ℕ) → events_by i d.quiet.events ≡ []
        by i = dite (ℕ_discrete i a)
            (λ e. subst (λ x. events_by x d.quiet.events ≡ []) (sym e) d.quiet.own)
            (λ ne.
            let t = others_add counted_rules k (counted_obeys k) (signed (bounds_in k)) i before d.part (none_of a i d.part all ne) in
            let same : d.quiet.events ≡ t.0 = append_cancel_left (project (bounds_in k) before) d.quiet.events t.0
            (sym d.quiet.is ∙ (ap (project (bounds_in k)) d.is ∙ t.2)) in
            ap (events_by i) same ∙ t.1)

module _ {N W : Type 0} (seat : W → Seat N) (journal : W → List (Step N)) where
  -- the lists between the drains
  abbrev pub list_at : List (Step N) → List W → ℕ → List (Step N)
  list_at j ws zero = j
  list_at j [] (suc i) = j
  list_at j (w ∷ ws) (suc i) = list_at (journal w) ws i

  turn_at : (b : Bounds) (j : List (Step N)) (vs ws : List W) → DrainInTurn seat journal b j vs ws → (i : ℕ) (d : W) → i < length vs
      → DrainsNext seat journal b (list_at j ws i) (slice_index_or vs i d) (slice_index_or ws i d)
  turn_at b j [] ws t i d l = absurd (omega (arith, l))
  turn_at b j (v ∷ vs) [] t i d l = absurd t
  turn_at b j (v ∷ vs) (w ∷ ws) t zero d l = t.0
  turn_at b j (v ∷ vs) (w ∷ ws) t (suc i) d l = turn_at b (journal w) vs ws t.1 i d (omega (arith, l))

  pub turns_same : (b : Bounds) (j : List (Step N)) (vs ws : List W) → DrainInTurn seat journal b j vs ws → Pairwise (HoldsSame seat) vs ws
  turns_same b j [] [] t = tt
  turns_same b j (v ∷ vs) (w ∷ ws) t = (t.0.same, turns_same b (journal w) vs ws t.1)
  turns_same b j [] (w ∷ ws) t = absurd t
  turns_same b j (v ∷ vs) [] t = absurd t

  list_next : (j : List (Step N)) (ws : List W) (i : ℕ) (d : W) → i < length ws → list_at j ws (suc i) ≡ journal (slice_index_or ws i d)
  list_next j [] i d l = absurd (omega (arith, l))
  list_next j (w ∷ ws) zero d l = refl
  list_next j (w ∷ ws) (suc i) d l = list_next (journal w) ws i d (omega (arith, l))

  -- passes of these agents, which had seen one list, drained one after another
  module _ (k : MachineShape N) (j : List (Step N)) (vs ws : List W) (turns : DrainInTurn seat journal (bounds_in k) j vs ws)
      (order : AreNumbered seat 0 vs) (same : AllByRecursion (λ v. journal v ≡ j) vs) (n : ℕ) (long : length vs ≡ n) (d : W)
    where
      abbrev b : Bounds
      b = bounds_in k

      abbrev at : ℕ → List (Step N)
      at i = list_at j ws i

      turn : (i : ℕ) → i < n → DrainsNext seat journal b (at i) (slice_index_or vs i d) (slice_index_or ws i d)
      turn i l = turn_at b j vs ws turns i d (omega (arith, l, long))

      agent_is : (i : ℕ) → i < n → (seat (slice_index_or vs i d)).agent ≡ i
      agent_is i l = let e = number_at seat 0 vs order i d (omega (arith, l, long)) in omega (arith, e)

      began_at : (i : ℕ) → i < n → journal (slice_index_or vs i d) ≡ j
      began_at i l = All-from_recursion (λ v. journal v ≡ j) vs same i d (omega (arith, l, long))

      long_after : length ws ≡ n
      long_after = pairwise_long (HoldsSame seat) vs ws (turns_same b j vs ws turns) ∙ long

      next_is : (i : ℕ) → i < n → at (suc i) ≡ journal (slice_index_or ws i d)
      next_is i l = list_next j ws i d (omega (arith, l, long_after))

      drains : (i : ℕ) → i < n → DrainsPart b i (at i) (at (suc i))
      drains i l =
          subst (λ z. DrainsPart b i (at i) z) (sym (next_is i l))
          (subst (λ z. DrainsPart b z (at i) (journal (slice_index_or ws i d))) (agent_is i l) (turn i l).drains)

      ready : (i : ℕ) → i < n → IsBetweenRounds (record_at (run_of b j) i)
      ready i l =
          subst (λ z. IsBetweenRounds (record_at (run_of b j) z)) (agent_is i l)
          (subst (λ z. IsBetweenRounds (record_at (run_of b z) (seat (slice_index_or vs i d)).agent)) (began_at i l) (turn i l).began)

      own_first : (i : ℕ) → i < n → steps_of i (at i) ≡ steps_of i j
      own_first i l =
          subst (λ z. steps_of i (at i) ≡ steps_of i z) (began_at i l)
          (subst (λ z. steps_of z (at i) ≡ steps_of z (journal (slice_index_or vs i d))) (agent_is i l) (turn i l).own)

      one_grows : (i : ℕ) → i < n → IsPrefix (at i) (at (suc i))
      one_grows i l = let p = drains i l in (p.part, sym p.is)

      grows_by : (i t h : ℕ) → h ≡ i + t → h ≤ n → IsPrefix (at i) (at h)
      grows_by i zero h e l = let z : h ≡ i = omega (arith, e) in prefix_same (at i) (at h) (ap at z)
      grows_by i (suc t) h e l =
          let z : h ≡ suc (i + t) = omega (arith, e) in
          subst (λ x. IsPrefix (at i) (at x)) (sym z)
          (goes_on (at i) (at (i + t)) (at (suc (i + t))) (grows_by i t (i + t) refl (omega (arith, e, l))) (one_grows (i + t) (omega (arith, e, l))))

      grows : (i h : ℕ) → i ≤ h → h ≤ n → IsPrefix (at i) (at h)
      grows i h l m = grows_by i (h - i) h (omega (arith, l)) m

      -- an agent without a step between two lists has none in a drain between them
      none_in : (a low i high : ℕ) → low ≤ i → suc i ≤ high → (m : high ≤ n) → (l : i < n) → steps_of a (at high) ≡ steps_of a (at low)
          → steps_of a (drains i l).part ≡ []
      none_in a low i high p q m l e =
          let by : Step N → ℕ = λ s. s.agent in
          let here = none_between by a (at high) (at i) (at low) (grows i high (omega (arith, q)) m) (grows low i p (omega (arith, l))) e in
          let next = none_between by a (at high) (at (suc i)) (at low) (grows (suc i) high q m) (grows low (suc i) (omega (arith, p)) (omega (arith, l))) e in
          none_behind by a (at (suc i)) (at i) ((drains i l).part, sym (drains i l).is) (next ∙ sym here)

      agent_after : (i : ℕ) → i < n → (seat (slice_index_or ws i d)).agent ≡ i
      agent_after i l = (turn i l).same.agent ∙ agent_is i l

      -- then one has learned from all of them, and they have seen what it has seen
      module _ (us : List W) (f : List (Step N)) (hear : Pairwise (HearsAll seat (λ (s : Step N). s.agent) journal f) ws us)
          (within : (top : List (Step N)) → AllByRecursion (λ w. IsPrefix (journal w) top) ws → IsPrefix f top) (some : 0 < n)
          (low : AgentsBelow (λ (s : Step N). s.agent) n f)
        where
          hears_at : (i : ℕ) → i < n → HearsAll seat (λ (s : Step N). s.agent) journal f (slice_index_or ws i d) (slice_index_or us i d)
          hears_at i l =
              let e = pairwise_long (HearsAll seat (λ (s : Step N). s.agent) journal f) ws us hear in
              pairwise_at (HearsAll seat (λ (s : Step N). s.agent) journal f) ws us hear i d d (omega (arith, l, e, long_after))

          at_most : IsPrefix f (at n)
          at_most = within (at n) (recursion_from_All (λ w. IsPrefix (journal w) (at n)) ws (λ i e l. let m : i < n = omega (arith, l, long_after) in
              subst (λ z. IsPrefix z (at n)) (list_next j ws i e l) (grows (suc i) n m (omega arith))))

          at_least : IsPrefix (at n) f
          at_least =
              let l : n - 1 < n = omega (arith, some) in
              let e : n ≡ suc (n - 1) = omega (arith, some) in
              let h = hears_at (n - 1) l in
              subst (λ z. IsPrefix z f) (sym (ap at e ∙ next_is (n - 1) l)) (subst (IsPrefix (journal (slice_index_or ws (n - 1) d))) h.seen h.hears.more)

          is_last : at n ≡ f
          is_last = both_prefixes f (at n) at_most at_least

          own : (i : ℕ) → i < n → steps_of i (at n) ≡ steps_of i (at (suc i))
          own i l =
              let h = hears_at i l in
              ap (steps_of i) (is_last ∙ sym h.seen)
              ∙ (subst (λ z. steps_of z (journal (slice_index_or us i d)) ≡ steps_of z (journal (slice_index_or ws i d))) (agent_after i l) h.hears.own
              ∙ ap (steps_of i) (sym (next_is i l)))

          below : AgentsBelow (λ (s : Step N). s.agent) n (at n)
          below = subst (AgentsBelow (λ (s : Step N). s.agent) n) (sym is_last) low

          alone : (i : ℕ) → (l : i < n) → AllOf i (plain (drains i l).part)
          alone i l = all_of n i (drains i l).part inside (λ a m ne. by a m ne)
            where
              inside : AgentsBelow (λ (s : Step N). s.agent) n (drains i l).part
              inside =
                  let w = grows (suc i) n (omega (arith, l)) (omega arith) in
                  below-tail (λ (s : Step N). s.agent) n (at i) (drains i l).part (subst (AgentsBelow (λ (s : Step N). s.agent) n) (drains i l).is
                  (below-front (λ (s : Step N). s.agent) n (at (suc i)) w.0 (subst (AgentsBelow (λ (s : Step N). s.agent) n) (sym w.1) below)))

              by : (a : ℕ) → a < n → a ≢ i → steps_of a (drains i l).part ≡ []
              by a m ne = cases (nat_lt a i) refl
                where
                  cases : (t : Bool) → nat_lt a i ≡ t → steps_of a (drains i l).part ≡ []
                  cases true e = let lt = ltb-true a i e in none_in a (suc a) i n (omega (arith, lt)) (omega (arith, l)) (omega arith) l (own a m)
                  cases false e =
                      let ge : i ≤ a = grind arith in
                      none_in a 0 i a (omega arith) (omega (arith, ge, ne)) (omega (arith, m)) l (own_first a m)

          -- no drain added an event
          nothing_at : (h : ℕ) → h ≤ n → project b (at h) ≡ project b j
          nothing_at zero l = refl
          nothing_at (suc i) l =
              let m : i < n = omega (arith, l) in
              adds_no_event k i (at i) (at (suc i)) (drains i m) (alone i m) ∙ nothing_at i (omega (arith, l))

          pub nothing_more : project b f ≡ project b j
          nothing_more = ap (project b) (sym is_last) ∙ nothing_at n (omega arith)

          pub goes_further : IsPrefix j f
          goes_further = subst (IsPrefix j) is_last (grows 0 n (omega arith) (omega arith))

          alone_at : (i : ℕ) → i < n → DrainedAlone i (run_of b (at i)) (run_of b (at (i + 1)))
          alone_at i l =
              let p = drains i l in
              let e : i + 1 ≡ suc i = omega arith in
              subst (λ z. DrainedAlone i (run_of b (at i)) (run_of b (at z))) (sym e)
              (record { drained = p.drained; alone = subst (AllOf i) p.steps (alone i l); between = p.between })

          pub rests : IsReachedState (run_of b j) → (run_of b j).bounds.agents ≡ n → IsAtRest (run_of b f)
          rests r e = subst (λ z. IsAtRest (run_of b z)) is_last (rest_after_drains n (λ i. run_of b (at i)) r e (λ a l. ready a l) (λ i l. alone_at i l))
