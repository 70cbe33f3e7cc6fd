-- Second links stay null: no allowed event moves one, and each node that it links has none that isn't null.
use Rattle.std.proofs.Common.{List, [], false, inl, inr, subst, sym, true, ℕ, ◌++◌, ◌∙◌, ◌∷◌, ◌≡◌, ◌⊎◌}
use Rattle.orc_heap.proofs.Runs.{run_heap-snoc}
use Rattle.orc_heap.proofs.Sides.{MovesNoSide, plain_moves_no_side, sides_after}
use Rattle.orc_heap.proofs.SingleActs.{plain_moves}
use Rattle.orc_heap.specs.Acts.{Fits}
use Rattle.orc_heap.specs.Allowed.{AreSidesNull, HasNullSide, IsLinkedNode}
use Rattle.orc_heap.specs.Heap.{Heap, HeapNumbers}
use Rattle.orc_heap.specs.Journals.{moves_to, run_heap}
use Rattle.orc_heap.specs.declared.events.Event.{Event}
use Rattle.orc_fifo_rule.specs.declared.fifo.FifoNote.{FifoNote}
use Rattle.orc_fifo_rule.specs.QueueDiscipline.{FifoHolds, FifoMay, IsInTime, has_begun}
use Rattle.orc_fifo_rule.specs.Laws.Kinds.{each_kind}
use Rattle.orc_fifo_rule.specs.Laws.Leaves.{names}
use Rattle.orc_fifo_rule.specs.Laws.Paths.{head_steps, successor_linked, tail_steps}

module _ (n : HeapNumbers) (es : List (Event FifoNote)) (e : Event FifoNote) (holds : FifoHolds n es) (may : FifoMay n es e) where
  abbrev h : Heap
  h = run_heap n es

  moves_no_side : MovesNoSide e.act
  moves_no_side = each_kind h (λ act noted. MovesNoSide act)
      (λ act plain. plain_moves_no_side act plain)
      (λ r from to m. tt)
      (λ r from to m. tt)
      (λ r from to by job at m. tt)
      (λ t from to by job at m. tt)
      (λ d link by m. tt)
      e.act e.note may.may_act

  links_no_side : (id : ℕ) → moves_to e.act id ≡ true → IsLinkedNode h id ⊎ HasNullSide h id
  links_no_side id = each_kind h
      (λ act noted. IsInTime (has_begun es) noted → Fits e.agent act h → moves_to act id ≡ true → IsLinkedNode h id ⊎ HasNullSide h id)
      (λ act plain time fits moves. let bad : true ≡ false = sym moves ∙ plain_moves act id plain in cc)
      (λ r from to m time fits moves. inr (subst (HasNullSide h) (names to 0 id m.to_is moves) m.side_null))
      (λ r from to m time fits moves.
      let step = tail_steps h es (holds.running time) r from to m.steps m.root_is fits.0 in
      inl (subst (IsLinkedNode h) (names to m.steps.next id m.steps.to_is moves) (successor_linked n es m.steps.id m.steps.next holds step.1)))
      (λ r from to by job at m time fits moves.
      let step = head_steps h es (holds.running time) r from to m.steps m.root_is fits.0 in
      inl (subst (IsLinkedNode h) (names to m.steps.next id m.steps.to_is moves) (successor_linked n es m.steps.id m.steps.next holds step.1)))
      (λ t from to by job at m time fits moves. inr (subst (HasNullSide h) (names to m.id id m.to_is moves) m.side_null))
      (λ d link by m time fits moves. let bad : false ≡ true = moves in cc)
      e.act e.note may.may_act may.in_time may.fits

  pub sides_next : AreSidesNull (run_heap n (es ++ e ∷ []))
  sides_next = rw (run_heap-snoc n es e) (sides_after e.agent e.act h may.fits moves_no_side links_no_side holds.sides)
