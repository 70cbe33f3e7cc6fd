-- A read of a held row's value.
use Rattle.std.proofs.Common.{List, None, Some, [], ap, append-nil, arith, length, refl, subst, suc, sym, zero, ℕ, ◌++◌, ◌<◌, ◌∙◌, ◌≡◌, ◌∷◌}
use Rattle.std.proofs.lemmas.Bool.{lt-ltb}
use Rattle.std.specs.Prelude.{slice_get, ◌&&◌}
use Rattle.orc_core.specs.Machine.{word_read}
use Rattle.orc_core.specs.declared.ops.Op.TheVariants.{Read}
use Rattle.orc_core.specs.declared.records.Agent.{Agent}
use Rattle.orc_heap.specs.Calls.{ReadsValue, value_of}
use Rattle.orc_heap.specs.Heap.{Node}
use Rattle.orc_heap.specs.Journals.{run_heap}
use Rattle.orc_heap.specs.OwnEvents.{Only}
use Rattle.orc_heap.specs.Slots.{Hold, Holds, id_in}
use Rattle.orc_heap.specs.declared.discipline.Discipline as discipline
use Rattle.orc_heap.specs.declared.events.Event.{Event}
use Rattle.orc_machine_board.specs.Kinds.{MayDo, asks}
use Rattle.orc_machine_board.specs.Laws.Steps.{counted_obeys, in_range}
use Rattle.orc_machine_board.specs.Rules.{bounds_in, heap_numbers, run_of}
use Rattle.orc_machine_board.specs.declared.machine.MachineShape.{MachineShape}
use Rattle.orc_projection.proofs.Mirrored.{projection_mirrors}
use Rattle.orc_projection.specs.Mirror.{Mirrors}
use Rattle.orc_projection.specs.Projection.{present_ids, project}
use Rattle.orc_domain.proofs.Held.{hold_has, hold_low, hold_slot}
use Rattle.orc_domain.proofs.Seats.{before_keep, calm_forced, only, ready_calm}
use Rattle.orc_domain.proofs.Stages.{Between, Stage, Steps, before_lawful, before_out, before_unmarked, seat}
use Rattle.orc_domain.proofs.Untouched.{still_between}
use Rattle.orc_domain.specs.Seats.{IsBetweenCalls}
use Rattle.orc_sound.specs.Linked.{IsOut}
use Rattle.orc_sound.specs.declared.steps.Step.{Step}

there : {A : Type 0} (xs : List A) (i : ℕ) → i < length xs → (x : A) × (slice_get xs i ≡ Some x)
there [] i lt = absurd (omega arith)
there (x ∷ xs) zero lt = (x, refl)
there (x ∷ xs) (suc i) lt = there xs i (omega arith)

module _ {D N : Type 0} {d : discipline.Ghosts D N} {k : MachineShape N} (s : Stage d k) (h : Hold) (held : Holds (seat s).slots h) (which : ℕ)
    (low : which < 2) where
  pub may_read : IsBetweenCalls s.view.record_is → MayDo (bounds_in k) s.view (Read h.row which)
  may_read ready =
      let b = bounds_in k in
      let agent = lt-ltb s.view.agent b.agents s.number in
      let row = lt-ltb h.row b.rows (hold_low s h held) in
      let two = lt-ltb which 2 low in
      let on = ready.enrolled in
      let first = calm_forced s.view.record_is (Read h.row which) (ready_calm s.view.record_is ready) in
      let has = hold_has s h held in
      λ i. ((agent i && on i) && first i) && ((row i && two i) && has i)

  module _ (t : Stage d k) (n : ℕ) (m : Steps (Read h.row which) s n t) where
    abbrev j : List (Step N)
    j = s.view.journal ++ m.met

    pub read_only : Only [] (seat s) (seat t)
    read_only = only (asks (Read h.row which)) None s t n m (ap (λ (d : Agent). d.slots) m.record_is) (ap (λ (d : Agent). d.fresh) m.record_is)

    pub read_between : Between s → Between t
    read_between is = still_between s t [] is read_only.puts read_only.fresh (λ id. refl) (subst IsBetweenCalls (sym m.record_is) is.ready)

    -- the value word of a row that is out is its node's value
    word_is : (Mirrors (run_of (bounds_in k) j) (present_ids (bounds_in k) j) (run_heap (heap_numbers k) (project (bounds_in k) j))) → (w : ℕ) (node : Node)
        → w < 2
        → IsOut (run_of (bounds_in k) j) h.row → slice_get (run_heap (heap_numbers k) (project (bounds_in k) j)).nodes
        ((present_ids (bounds_in k) j).node h.row) ≡ Some node
        → (filled : ℕ) → value_of w node ≡ Some filled → word_read (run_of (bounds_in k) j) s.view.agent (Read h.row w) ≡ filled
    word_is mirror zero node two out e filled f = mirror.first h.row filled node out e f
    word_is mirror (suc zero) node two out e filled f = mirror.second h.row filled node out e f
    word_is mirror (suc (suc w)) node two out e filled f = absurd (omega arith)

    pub reads_value : ReadsValue (run_heap (heap_numbers k) (seat t).seen) (id_in (seat s).slots h) which n
    reads_value =
        let b = bounds_in k in
        let q = asks (Read h.row which) in
        let has = hold_has s h held in
        let id : id_in (seat s).slots h ≡ (present_ids b j).node h.row = (hold_slot s h held).1 ∙ sym (before_keep q None s t n m h.row has) in
        let out : IsOut (run_of b j) h.row = before_out q None s t n m h.row has in
        let mirror = projection_mirrors b j (in_range k.shape) (before_lawful q None s t n m) (before_unmarked q None s t n m) in
        let node = there (run_heap (heap_numbers k) (project b j)).nodes ((present_ids b j).node h.row)
        (subst (λ z. (present_ids b j).node h.row < z) (sym mirror.given) (mirror.there h.row out)) in
        let same : project b t.view.journal ≡ project b j = ap (project b) m.journal
        ∙ ((counted_obeys k).project_next j (record { agent = s.view.agent; op = q.op; want = q.want; note = None }) ∙ append-nil (project b j)) in
        subst (λ (z : List (Event N) × ℕ). ReadsValue (run_heap (heap_numbers k) z.0) z.1 which n) (λ i. (sym same i, sym id i))
        record { node = node.0; there = node.1; is = λ filled f. m.answer ∙ word_is mirror which node.0 low out node.1 filled f }
