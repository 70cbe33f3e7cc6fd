-- A journal at rest, and the rows that are out after it.
use Rattle.std.proofs.Common.{Bool, List, [], arith, false, refl, subst, sym, true, ℕ, ◌++◌, ◌<◌, ◌∙◌, ◌∷◌, ◌≡◌, ◌≤◌, Contains, length}
use Rattle.std.proofs.lemmas.Bool.{false≢true, ltb-true}
use Rattle.std.specs.Prelude.{nat_lt, ◌&&◌}
use Rattle.orc_core.specs.Machine.{Machine, new_machine, nobody, record_at}
use Rattle.orc_core.specs.Runs.{run}
use Rattle.orc_core.specs.Sums.{sum_below}
use Rattle.orc_core.specs.declared.records.Agent.{Agent}
use Rattle.orc_heap.proofs.Roots.{root_linked}
use Rattle.orc_heap.proofs.Runs.{run_from-append}
use Rattle.orc_heap.proofs.Stays.{stays}
use Rattle.orc_heap.proofs.Told.{linked_told}
use Rattle.orc_heap.specs.Allowed.{AllAllowed, MovesLinked, Rises}
use Rattle.orc_heap.specs.Heap.{HeapNumbers, new_heap}
use Rattle.orc_heap.specs.Journals.{run_heap}
use Rattle.orc_heap.specs.declared.events.Event.{Event}
use Rattle.orc_projection.proofs.Mirrored.{projection_lawful}
use Rattle.orc_projection.proofs.Runs.{first_shows, project_shows}
use Rattle.orc_projection.proofs.Shows.{Shows}
use Rattle.orc_projection.specs.Mirror.{numbers_of}
use Rattle.orc_projection.specs.PresentIds.{no_ids, node_link}
use Rattle.orc_projection.specs.Projection.{StoresUnmarked, present_ids, project}
use Rattle.orc_sound.proofs.AllFits.{AllFits, all_first, all_run, run_bounds}
use Rattle.orc_sound.proofs.Facts.{Counted, hands_row}
use Rattle.orc_sound.proofs.Full.{full_first}
use Rattle.orc_sound.proofs.Journals.{plain_lawful}
use Rattle.orc_sound.proofs.Shown.{out_hidden, out_shown, word_shown}
use Rattle.orc_sound.proofs.Sums.{sum_zero}
use Rattle.orc_sound.proofs.World.{world_of}
use Rattle.orc_sound.specs.Journals.{IsLawfulJournal, plain}
use Rattle.orc_sound.specs.Linked.{IsOut}
use Rattle.orc_sound.specs.RetirementToken.{places_of}
use Rattle.orc_sound.specs.declared.steps.Step.{Step}
use Rattle.orc_words.specs.Bounds.{Bounds, IsShape}
use Rattle.orc_words.specs.Packed.{link_of}
use Rattle.orc_words.specs.declared.place.Word.TheVariants.{Handover, Root}
use Rattle.orc_rest.proofs.RowRankRuns.{AllMoveLinked, first_rank, rank_run}
use Rattle.orc_rest.proofs.Reached.{AtRest, Resting, out_reached, reached_out, small_row, target_node}
use Rattle.orc_rest.specs.Reached.{IsReached, AreTheReached, LiesInOneRow}
use Rattle.orc_rest.specs.Rest.{IsAtRest, IsResting, EndsAtRest}
use Rattle.orc_rest.specs.Reuse.{rows_out}
use Rattle.orc_rest.proofs.ValuesBelow.{distinct_below, length-values_below, value_at, value_below, values_below}
use Rattle.orc_core.specs.Counts.{is_out}

-- the empty record rests
pub nobody_rests : (room : ℕ) → IsResting (nobody room)
nobody_rests room = record { holds = λ r. refl; fresh = refl; inc = refl; dec = refl; due = refl; doom = refl; hand = refl; scan = refl; list = refl }

all_rest : (m : Machine) → Counted m.bounds (world_of m) → IsAtRest m → (x : ℕ) → IsResting (record_at m x)
all_rest m c q x = cases (nat_lt x m.bounds.agents) refl
  where
    cases : (t : Bool) → nat_lt x m.bounds.agents ≡ t → IsResting (record_at m x)
    cases true e = q.agents x (ltb-true x m.bounds.agents e)
    cases false e =
        let l : m.bounds.agents ≤ x = grind arith in let k = c.enrolment.most in
        subst IsResting (sym (c.enrolment.empty x (omega arith))) (nobody_rests m.bounds.rows)

no_places : (d : Agent) (r : ℕ) → IsResting d → places_of d r ≡ 0
no_places d r q = rw (q.hand, q.scan, q.doom, q.list) refl

handed_zero : (m : Machine) → Counted m.bounds (world_of m) → IsAtRest m → (a k : ℕ) → (world_of m).memory (Handover a k) ≡ 0
handed_zero m c q a k = cases (nat_lt a m.bounds.agents && nat_lt k 8) refl
  where
    cases : (t : Bool) → (nat_lt a m.bounds.agents && nat_lt k 8) ≡ t → (world_of m).memory (Handover a k) ≡ 0
    cases true e = within (ltb-true a m.bounds.agents (left _ _ e)) (ltb-true k 8 (right _ _ e))
      where
        left : (x y : Bool) → (x && y) ≡ true → x ≡ true
        left true y h = refl
        left false y h = h

        right : (x y : Bool) → (x && y) ≡ true → y ≡ true
        right true y h = h
        right false y h = absurd (false≢true h)

        within : a < m.bounds.agents → k < 8 → (world_of m).memory (Handover a k) ≡ 0
        within h i = word_shown m (Handover a k) (h, i) ∙ q.handovers a k h i
    cases false e = c.outside (Handover a k) e

resting : (m : Machine) → Counted m.bounds (world_of m) → IsAtRest m → Resting m.bounds (world_of m)
resting m c q = record {
  fresh = λ x. (all_rest m c q x).fresh;
  inc = λ x. (all_rest m c q x).inc;
  dec = λ x. (all_rest m c q x).dec;
  due = λ x. (all_rest m c q x).due;
  doom = λ x. (all_rest m c q x).doom;
  clear = λ r h.
      let t = c.token r h in
      let s = sum_zero m.bounds.agents (λ a. places_of (record_at m a) r) (λ a. no_places (record_at m a) r (all_rest m c q a)) in
      let n = sum_zero m.bounds.agents (λ a. sum_below 8 (λ k. hands_row ((world_of m).memory (Handover a k)) r))
      (λ a. sum_zero 8 (λ k. hands_row ((world_of m).memory (Handover a k)) r) (λ k. none r (handed_zero m c q a k))) in
      omega arith;
}
  where
    none : {w : ℕ} (r : ℕ) → w ≡ 0 → hands_row w r ≡ 0
    none r e = rw e (zero_name r)
      where
        zero_name : (r : ℕ) → hands_row 0 r ≡ 0
        zero_name r = grind arith

-- what a discipline says of the Moves
pub moves_all : {N : Type 0} (holds : List (Event N) → Type 0) (may : List (Event N) → Event N → Type 0) (n : HeapNumbers)
    → ((seen : List (Event N)) (e : Event N) → holds seen → may seen e → holds (seen ++ e ∷ []))
    → ((seen : List (Event N)) (e : Event N) → holds seen → may seen e → MovesLinked e.act (run_heap n seen))
    → (seen es : List (Event N)) → holds seen → AllAllowed may seen es → AllMoveLinked (run_heap n seen) es
moves_all holds may n keeps moves seen [] h m = tt
moves_all holds may n keeps moves seen (e ∷ es) h m = (
  moves seen e h m.0,
  subst (λ g. AllMoveLinked g es) (run_from-append (new_heap n) seen (e ∷ []))
      (moves_all holds may n keeps moves (seen ++ e ∷ []) es (keeps seen e h m.0) m.1),
)

-- all of it, after a journal
pub at_rest : {N : Type 0} (b : Bounds) (steps : List (Step N)) (rank : ℕ → ℕ) → IsShape b → IsLawfulJournal (new_machine b) steps → StoresUnmarked steps
    → AllMoveLinked (new_heap (numbers_of b)) (project b steps)
    → Rises rank (run_heap (numbers_of b) (project b steps))
    → IsAtRest (run (new_machine b) (plain steps)) → (run (new_machine b) (plain steps)).bounds ≡ b
    → AtRest b (world_of (run (new_machine b) (plain steps))) (present_ids b steps) (run_heap (numbers_of b) (project b steps)) rank
at_rest b steps rank shape l n moves rises q e =
    let m = run (new_machine b) (plain steps) in
    let p = present_ids b steps in
    let h = run_heap (numbers_of b) (project b steps) in
    let s = (project_shows (new_machine b) no_ids (new_heap (numbers_of b)) steps (full_first b shape) (all_first b) l n (first_shows b)).1 in
    let a = all_run (new_machine b) (plain steps) (full_first b shape) (all_first b) (plain_lawful (new_machine b) steps l) in
    let g = rank_run (new_machine b) no_ids (new_heap (numbers_of b)) steps (full_first b shape) (all_first b) l n (first_shows b) moves (first_rank b) in
    let shows : Shows b (world_of m) p h = s in
    let all : AllFits b (world_of m) = a in
    let lawful = projection_lawful b steps shape l n in
    record {
      shape = shape;
      all = all;
      shows = shows;
      ranked = g;
      rises = rises;
      roots = λ i r k t.
          let o = all.counted.roots_out i r t in
          let x = shows.rows r o in
          let linked = root_linked (numbers_of b) (project b steps) i (p.node r) (node_link p (link_of ((world_of m).memory (Root i))))
          (target_node p ((world_of m).memory (Root i)) r (small_row b (world_of m) r shape all o) t) (shows.roots i k) in
          record { node = x.node; there = x.there; linked = linked_told (numbers_of b) (project b steps) (p.node r) x.node lawful x.there ∙ linked };
      resting = subst (λ (c : Bounds). Resting c (world_of m)) e (resting m (subst (λ (c : Bounds). Counted c (world_of m)) (sym e) all.counted) q);
    }

-- the same for a discipline whose links rise, with what it leads to
module _ {N : Type 0} (holds : List (Event N) → Type 0) (may : List (Event N) → Event N → Type 0) (rank : List (Event N) → ℕ → ℕ) (n : HeapNumbers)
    (keeps : (seen : List (Event N)) (e : Event N) → holds seen → may seen e → holds (seen ++ e ∷ []))
    (moves : (seen : List (Event N)) (e : Event N) → holds seen → may seen e → MovesLinked e.act (run_heap n seen))
    (rises : (seen : List (Event N)) → holds seen → Rises (rank seen) (run_heap n seen)) (b : Bounds) (steps : List (Step N)) (same : n ≡ numbers_of b)
    (ends : EndsAtRest holds may b steps)
  where
    rested : AtRest b (world_of (run (new_machine b) (plain steps))) (present_ids b steps) (run_heap (numbers_of b) (project b steps)) (rank (project b steps))
    rested =
        at_rest b steps (rank (project b steps)) ends.shape ends.lawful ends.unmarked
        (subst (λ k. AllMoveLinked (new_heap k) (project b steps)) same (moves_all holds may n keeps moves [] (project b steps) ends.starts ends.allowed))
        (subst (λ k. Rises (rank (project b steps)) (run_heap k (project b steps))) same
        (rises (project b steps) (stays may holds (λ es x k j. keeps es x k j) [] (project b steps) ends.starts ends.allowed)))
        ends.rest (run_bounds (new_machine b) (plain steps))

    pub row_reached : (r : ℕ) → IsOut (run (new_machine b) (plain steps)) r
        → IsReached (numbers_of b) (run_heap (numbers_of b) (project b steps)) ((present_ids b steps).node r)
    row_reached r o =
        out_reached b (world_of (run (new_machine b) (plain steps))) (present_ids b steps) (run_heap (numbers_of b) (project b steps))
        (rank (project b steps)) r rested (out_hidden (run (new_machine b) (plain steps)) r o)

    one_row : (q r : ℕ) → IsOut (run (new_machine b) (plain steps)) q → IsOut (run (new_machine b) (plain steps)) r
        → (present_ids b steps).node q ≡ (present_ids b steps).node r → q ≡ r
    one_row q r o u e =
        rested.shows.apart q r (out_hidden (run (new_machine b) (plain steps)) q o) (out_hidden (run (new_machine b) (plain steps)) r u) e

    pub reached_row : (id : ℕ) → IsReached (numbers_of b) (run_heap (numbers_of b) (project b steps)) id
        → LiesInOneRow (run (new_machine b) (plain steps)) (present_ids b steps) id
    reached_row id w =
        let o = reached_out b (world_of (run (new_machine b) (plain steps))) (present_ids b steps) (run_heap (numbers_of b) (project b steps))
        (rank (project b steps)) id rested w in
        let out = out_shown (run (new_machine b) (plain steps)) o.row o.is_out in
        record { row = o.row; is_out = out; is = o.is; only = λ r u e. one_row r o.row u out (e ∙ sym o.is) }

    -- the rows that are out, read as their present nodes
    pub reached_list : (ids : List ℕ) × AreTheReached (numbers_of b) (run_heap (numbers_of b) (project b steps)) ids
        × (length ids ≡ rows_out (run (new_machine b) (plain steps)))
    reached_list =
        let m = run (new_machine b) (plain steps) in
        let f = (present_ids b steps).node in (
          values_below m.bounds.rows (is_out m) f,
          record {
            distinct = distinct_below m.bounds.rows (is_out m) f (λ i j h k o u e. one_row i j (h, o) (k, u) e);
            exactly = λ id. (
              λ c. let v =
                  value_at m.bounds.rows (is_out m) f id c in
                  subst (IsReached (numbers_of b) (run_heap (numbers_of b) (project b steps))) v.is (row_reached v.at (v.below, v.passes)),
              λ w. let o =
                  reached_row id w in subst (Contains (values_below m.bounds.rows (is_out m) f)) o.is
                  (value_below m.bounds.rows (is_out m) f o.row o.is_out.0 o.is_out.1),
            );
          },
          length-values_below m.bounds.rows (is_out m) f,
        )
