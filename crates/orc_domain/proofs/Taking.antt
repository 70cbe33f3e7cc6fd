-- A row that is taken is the pass's fresh row, and its node is new.
use Rattle.std.proofs.Common.{Bool, List, None, Some, [], ap, arith, eq-eqb, false, length, refl, subst, sym, true, ℕ, ◌++◌, ◌∙◌, ◌≡◌, ◌≤◌, ◌∷◌}
use Rattle.std.specs.Prelude.{cond, if◌then◌else◌, slice_get}
use Rattle.orc_core.specs.Machine.{new_machine, record_at, word_read}
use Rattle.orc_core.specs.declared.ops.Op.TheVariants.{GateTake}
use Rattle.orc_core.specs.declared.records.Agent.{Agent}
use Rattle.orc_any_domain.proofs.Counting.{nodes_stay}
use Rattle.orc_heap.proofs.Runs.{run_heap-snoc}
use Rattle.orc_heap.specs.Heap.{Heap, Node, new_node}
use Rattle.orc_heap.specs.Journals.{event_by, run_heap}
use Rattle.orc_heap.specs.OwnEvents.{Puts}
use Rattle.orc_heap.specs.declared.discipline.Discipline as discipline
use Rattle.orc_heap.specs.declared.events.Act.TheVariants.{Give}
use Rattle.orc_machine_board.proofs.Licences.{signed}
use Rattle.orc_machine_board.specs.Kinds.{asks}
use Rattle.orc_machine_board.specs.Laws.Steps.{counted_obeys, in_range}
use Rattle.orc_machine_board.specs.Licences.{ids_of}
use Rattle.orc_machine_board.specs.Rules.{bounds_in, counted_rules, heap_numbers, run_of, step_of}
use Rattle.orc_machine_board.specs.declared.machine.MachineShape.{MachineShape}
use Rattle.orc_projection.proofs.Mirrored.{ids-append, projection_mirrors}
use Rattle.orc_projection.specs.PresentIds.{PresentIds, no_ids, with_taken}
use Rattle.orc_projection.specs.Projection.{events_of, is_taken, present_ids, project}
use Rattle.orc_domain.proofs.Seats.{puts, step_events}
use Rattle.orc_domain.proofs.Stages.{Stage, Steps, before_lawful, before_record, before_unmarked, seat}
use Rattle.orc_shared_words.proofs.Events.{others_add}
use Rattle.orc_sound.specs.declared.steps.Step.{Step}

get_last : {A : Type 0} (xs : List A) (x : A) → slice_get (xs ++ x ∷ []) (length xs) ≡ Some x
get_last [] x = refl
get_last (y ∷ ys) x = get_last ys x

was_one : (t : Bool) (n : ℕ) → n ≡ cond t 1 0 → n ≡ 1 → t ≡ true
was_one true n e one = refl
was_one false n e one = absurd (omega arith)

module _ {D N : Type 0} {d : discipline.Ghosts D N} {k : MachineShape N} where
  -- what a take that succeeded tells: its node is the last one that was given
  pub record Takes (r : ℕ) (s t : Stage d k) : Type 0 where
    pub fresh : t.view.record_is.fresh ≡ Some r
    pub puts : Puts (seat s) (event_by s.view.agent Give None ∷ []) (seat t)
    pub node : slice_get (run_heap (heap_numbers k) (seat t).seen).nodes ((ids_of (bounds_in k) t.view).node r) ≡ Some (new_node s.view.agent)
    pub new : length (run_heap (heap_numbers k) (seat s).seen).nodes ≤ (ids_of (bounds_in k) t.view).node r

  module _ (s t : Stage d k) (r n : ℕ) (m : Steps (GateTake r) s n t) (won : n ≡ 1) where
    abbrev j : List (Step N)
    j = s.view.journal ++ m.met

    abbrev w : ℕ
    w = word_read (run_of (bounds_in k) j) s.view.agent (GateTake r)

    taken : is_taken s.view.record_is w ≡ true
    taken = was_one (is_taken s.view.record_is w) n m.answer won

    there : is_taken (record_at (run_of (bounds_in k) j) s.view.agent) w ≡ true
    there = subst (λ (e : Agent). is_taken e w ≡ true) (sym (before_record (asks (GateTake r)) None s t n m)) taken

    gives : step_events (asks (GateTake r)) None s t n m ≡ event_by s.view.agent Give None ∷ []
    gives = ap (λ (z : Bool). events_of (step_of s.view.agent (asks (GateTake r)) None) (if z then Some Give else None)) there

    ids : ids_of (bounds_in k) t.view ≡ with_taken r (present_ids (bounds_in k) j)
    ids = ap (present_ids (bounds_in k)) m.journal
        ∙ (ids-append (new_machine (bounds_in k)) no_ids j (step_of s.view.agent (asks (GateTake r)) None ∷ [])
        ∙ ap (λ (z : Bool). if z then with_taken r (present_ids (bounds_in k) j) else present_ids (bounds_in k) j) there)

    pub takes : Takes r s t
    takes =
        let b = bounds_in k in
        let q = asks (GateTake r) in
        let x = step_of s.view.agent q None in
        let p = present_ids b j in
        let mirror = projection_mirrors b j (in_range k.shape) (before_lawful q None s t n m) (before_unmarked q None s t n m) in
        let h = run_heap (heap_numbers k) (project b j) in
        let events : project b t.view.journal ≡ project b j ++ event_by s.view.agent Give None ∷ [] = ap (project b) m.journal
        ∙ ((counted_obeys k).project_next j x ∙ ap (λ l. project b j ++ l) gives) in
        let heap : (run_heap (heap_numbers k) (project b t.view.journal)).nodes ≡ h.nodes ++ new_node s.view.agent ∷ [] =
        ap (λ l. (run_heap (heap_numbers k) l).nodes) events ∙ ap (λ (g : Heap). g.nodes)
        (run_heap-snoc (heap_numbers k) (project b j) (event_by s.view.agent Give None)) in
        let id : (ids_of b t.view).node r ≡ length h.nodes = ap (λ (z : PresentIds). z.node r) ids
        ∙ (ap (λ (z : Bool). if z then p.given else p.node r) (eq-eqb r r refl) ∙ sym mirror.given) in
        record {
          fresh = ap (λ (e : Agent). e.fresh) m.record_is ∙ ap (λ (z : Bool). cond z (Some r) s.view.record_is.fresh) taken;
          puts = subst (λ es. Puts (seat s) es (seat t)) gives (puts q None s t n m);
          node = subst (λ (z : List Node × ℕ). slice_get z.0 z.1 ≡ Some (new_node s.view.agent)) (λ i. (sym heap i, sym id i))
              (get_last h.nodes (new_node s.view.agent));
          new =
              let more = others_add counted_rules k (counted_obeys k) (signed b) s.view.agent s.view.journal m.met m.others in
              let e = nodes_stay (heap_numbers k) (project b s.view.journal) more.0 in
              let same = ap (λ l. length (run_heap (heap_numbers k) l).nodes) more.2 in
              omega (arith, e, same, id);
        }
