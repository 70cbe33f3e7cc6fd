-- A check of the row that is to be linked.
use Rattle.std.proofs.Common.{List, None, Some, [], ap, append-nil, arith, length, length-append, refl, subst, sym, take, true, ℕ, ◌++◌, ◌+◌, ◌<◌, ◌∙◌, ◌≡◌, ◌∷◌, ◌≤◌}
use Rattle.std.proofs.Math.Seq.{take-append_seam}
use Rattle.std.proofs.lemmas.Bool.{lt-ltb}
use Rattle.std.specs.Prelude.{slice_get, ◌&&◌}
use mathlib.Core.List.{IsPrefix}
use Rattle.orc_core.specs.Allowed.{may}
use Rattle.orc_core.specs.Machine.{word_in}
use Rattle.orc_core.specs.declared.ops.CounterUse.TheVariants.{Check}
use Rattle.orc_core.specs.declared.ops.Op.TheVariants.{CounterLoad}
use Rattle.orc_core.specs.declared.records.Agent.{Agent}
use Rattle.orc_fault.specs.declared.Spent.{Spent}
use Rattle.orc_heap.specs.Calls.{IsWorn, links_made}
use Rattle.orc_heap.specs.Slots.{Hold, Holds, id_in}
use Rattle.orc_heap.specs.declared.discipline.Discipline as discipline
use Rattle.orc_history.specs.Parts.{InPart}
use Rattle.orc_machine_board.specs.Kinds.{MayDo, asks}
use Rattle.orc_machine_board.specs.Laws.Steps.{counted_obeys, in_range}
use Rattle.orc_machine_board.specs.Rules.{bounds_in, run_of, step_of}
use Rattle.orc_machine_board.specs.declared.machine.MachineShape.{MachineShape}
use Rattle.orc_projection.proofs.Worn.{row_worn}
use Rattle.orc_projection.specs.Projection.{present_ids, project}
use Rattle.orc_domain.proofs.Held.{hold_has, hold_low, hold_slot}
use Rattle.orc_domain.proofs.Rounds.{begin_le}
use Rattle.orc_domain.proofs.Searching.{get_seam, idles}
use Rattle.orc_domain.proofs.LeftParts.{same_by}
use Rattle.orc_domain.proofs.Seats.{before_keep, calm_forced}
use Rattle.orc_machine_rest.proofs.TakenIn.{done_later}
use Rattle.orc_domain.proofs.Stages.{Stage, Steps, before_lawful, before_out, done_one, seat}
use Rattle.orc_domain.specs.Causes.{IsWornIn}
use Rattle.orc_domain.specs.Searches.{Idles}
use Rattle.orc_domain.specs.Seats.{IsCalm}
use Rattle.orc_sound.specs.declared.steps.Step.{Step}
use Rattle.orc_words.specs.Bounds.{Bounds}
use Rattle.orc_words.specs.Packed.{sequence_of}
use Rattle.orc_words.specs.declared.place.Word.TheVariants.{Counter}

-- a calm agent may read a row's counter
pub check_may : (b : Bounds) (a : ℕ) (d : Agent) (r : ℕ) → a < b.agents → IsCalm d → r < b.rows → may b 0 a (CounterLoad r Check) d ≡ true
check_may b a d r h calm low =
    let agent = lt-ltb a b.agents h in
    let on = calm.enrolled in
    let first = calm_forced d (CounterLoad r Check) calm in
    let row = lt-ltb r b.rows low in
    λ i. ((agent i && on i) && first i) && row i

module _ {D N : Type 0} {d : discipline.Ghosts D N} {k : MachineShape N} (s : Stage d k) (h : Hold) (held : Holds (seat s).slots h) where
  pub check_can : IsCalm s.view.record_is → MayDo (bounds_in k) s.view (CounterLoad h.row Check)
  check_can calm = check_may (bounds_in k) s.view.agent s.view.record_is h.row s.number calm (hold_low s h held)

  module _ (t : Stage d k) (n : ℕ) (m : Steps (CounterLoad h.row Check) s n t) where
    abbrev b : Bounds
    b = bounds_in k

    abbrev j : List (Step N)
    j = s.view.journal ++ m.met

    abbrev x : Step N
    x = step_of s.view.agent (asks (CounterLoad h.row Check)) None

    pub checks : Idles (bounds_in k) s.view t.view
    checks = idles (asks (CounterLoad h.row Check)) s t n m tt refl (same_by s.view.record_is _ t.view.record_is m.record_is
        (record { enrolled = refl; slots = refl; fresh = refl; due = refl; inc = refl; dec = refl; doom = refl; scan = refl }))

    -- the load adds no event
    silent : project b t.view.journal ≡ project b j
    silent = ap (project b) m.journal ∙ ((counted_obeys k).project_next j x ∙ append-nil (project b j))

    module _ (why : Spent) (is : why ≡ record { row = h.row; sequence = sequence_of n }) (high : (bounds_in k).limit + 64 ≤ sequence_of n) where
      -- a refusal names the row of the node, to which 32 events or more have made a link
      pub is_worn : IsWorn (seat s).slots h why (seat t).seen
      is_worn =
          let q = asks (CounterLoad h.row Check) in
          let has = hold_has s h held in
          let many = row_worn b j h.row (in_range k.shape) (before_lawful q None s t n m) (before_out q None s t n m h.row has)
          (subst (λ w. b.limit + 64 ≤ sequence_of w) m.answer high) in
          let same : (present_ids b j).node h.row ≡ id_in (seat s).slots h = before_keep q None s t n m h.row has ∙ sym (hold_slot s h held).1 in
          let made : links_made (project b j) ((present_ids b j).node h.row) ≡ links_made (seat t).seen (id_in (seat s).slots h) =
          λ i. links_made (sym silent i) (same i) in
          record { row = ap (λ (z : Spent). z.row) is; links = omega (arith, many, made) }

      -- and the call's part has the load
      pub is_worn_in : InPart (λ (z : Step N). z.agent) s.view.agent s.view.journal t.view.journal (IsWornIn (bounds_in k) s.view.agent why t.view.journal)
      is_worn_in =
          let a = s.view.agent in
          let q = asks (CounterLoad h.row Check) in
          let long = ap length m.journal in
          let there : slice_get t.view.journal (length j) ≡ Some x = ap (λ z. slice_get z (length j)) m.journal ∙ get_seam j x [] in
          let early = length-append s.view.journal m.met in
          let front : take (length j) t.view.journal ≡ j = ap (take (length j)) m.journal ∙ take-append_seam j (x ∷ []) in
          let grows : IsPrefix s.view.journal t.view.journal = done_later a s.view.journal t.view.journal (q.op ∷ []) (done_one q None s t n m) in
          subst (λ (z : Spent). InPart (λ (y : Step N). y.agent) a s.view.journal t.view.journal (IsWornIn b a z t.view.journal)) (sym is) record {
            place = length j;
            first = begin_le a s.view.journal t.view.journal (length j) x grows there refl (omega (arith, early));
            last = omega (arith, long, length-append j (x ∷ []));
            step = x;
            there = there;
            its = refl;
            op = refl;
            read = ap sequence_of (m.answer ∙ ap (λ z. word_in (run_of b z) (Counter h.row)) (sym front));
            high = high;
          }
