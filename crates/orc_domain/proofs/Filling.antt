-- A fill of the fresh node.
use Rattle.std.proofs.Common.{None, Option, Some, [], ap, eq-eqb, refl, subst, sym, true, ℕ, ◌<◌, ◌∙◌, ◌≡◌, ◌∷◌}
use Rattle.std.specs.Option.{option_map}
use Rattle.std.proofs.lemmas.Bool.{or_right}
use Rattle.orc_core.specs.RecordParts.{any_holds, names}
use Rattle.orc_core.specs.declared.ops.Op.TheVariants.{Fill as FillStep}
use Rattle.orc_heap.specs.Calls.{fill_of}
use Rattle.orc_heap.specs.Journals.{event_by}
use Rattle.orc_heap.specs.OwnEvents.{Only}
use Rattle.orc_heap.specs.Seats.{HoldsFresh}
use Rattle.orc_heap.specs.Slots.{Hold, id_in}
use Rattle.orc_heap.specs.declared.discipline.Discipline as discipline
use Rattle.orc_heap.specs.declared.events.Act.TheVariants.{Fill}
use Rattle.orc_machine_board.proofs.Holds.{has_out}
use Rattle.orc_machine_board.specs.Holding.{HasRow}
use Rattle.orc_machine_board.specs.Kinds.{MayDo}
use Rattle.orc_machine_board.specs.Laws.Steps.{in_range}
use Rattle.orc_machine_board.specs.Licences.{ids_of}
use Rattle.orc_machine_board.specs.Rules.{bounds_in, run_of}
use Rattle.orc_machine_board.specs.declared.machine.MachineShape.{MachineShape}
use Rattle.orc_domain.proofs.Giving.{fill_may, fill_only}
use Rattle.orc_domain.proofs.Held.{hold_has, hold_low, hold_slot, mirrors}
use Rattle.orc_domain.proofs.Seats.{ready_calm}
use Rattle.orc_domain.proofs.Stages.{Between, Stage, Steps, seat}
use Rattle.orc_domain.proofs.Untouched.{still_between}
use Rattle.orc_domain.specs.Seats.{IsBetweenCalls}
use Rattle.orc_sound.specs.Linked.{IsOut}

module _ {D N : Type 0} {d : discipline.Ghosts D N} {k : MachineShape N} (s : Stage d k) where
  pub has_is_out : (r : ℕ) → HasRow s.view.record_is r → IsOut (run_of (bounds_in k) s.view.journal) r
  has_is_out r has = has_out (bounds_in k) s.view.journal s.view.agent r (in_range k.shape) s.lawful s.number (subst (λ e. HasRow e r) (sym s.mine) has)

  -- rows that the agent has are different nodes, so that a hold of the fresh node is one of the fresh row
  pub fresh_row : (h : Hold) → HoldsFresh (seat s) h → names s.view.record_is.fresh h.row ≡ true
  fresh_row h f = went s.view.record_is.fresh refl
    where
      went : (o : Option ℕ) → s.view.record_is.fresh ≡ o → names s.view.record_is.fresh h.row ≡ true
      went None is =
          let e : option_map (ids_of (bounds_in k) s.view).node None ≡ Some (id_in (seat s).slots h) =
          ap (option_map (ids_of (bounds_in k) s.view).node) (sym is) ∙ f.fresh in
          cc
      went (Some r) is =
          let p = ids_of (bounds_in k) s.view in
          let e : Some (p.node r) ≡ Some (id_in (seat s).slots h) = ap (option_map p.node) (sym is) ∙ f.fresh in
          let id : p.node r ≡ id_in (seat s).slots h = cc in
          let named : names s.view.record_is.fresh r ≡ true = ap (λ o. names o r) is ∙ eq-eqb r r refl in
          let one : HasRow s.view.record_is r = or_right (any_holds s.view.record_is.slots r) (names s.view.record_is.fresh r) named in
          let same : r ≡ h.row = (mirrors s).apart r h.row (has_is_out r one) (has_is_out h.row (hold_has s h f.held)) (id ∙ (hold_slot s h f.held).1) in
          subst (λ z. names s.view.record_is.fresh z ≡ true) same named

  module _ (h : Hold) (fresh : HoldsFresh (seat s) h) (which : ℕ) (low : which < 2) (value : ℕ) where
    pub fill_can : IsBetweenCalls s.view.record_is → MayDo (bounds_in k) s.view (FillStep h.row which value)
    fill_can ready = fill_may (bounds_in k) s.view.agent s.view.record_is h.row which value s.number (ready_calm s.view.record_is ready) (fresh_row h fresh)
        (hold_low s h fresh.held) low

    module _ (t : Stage d k) (n : ℕ) (m : Steps (FillStep h.row which value) s n t) where
      pub fills : Only (fill_of (seat s) h which value ∷ []) (seat s) (seat t)
      fills = subst (λ id. Only (event_by s.view.agent (Fill id which value) None ∷ []) (seat s) (seat t)) (sym (hold_slot s h fresh.held).1)
          (fill_only s t h.row which value n m (fresh_row h fresh)).0

      pub fills_between : Between s → Between t
      fills_between is = still_between s t _ is fills.puts fills.fresh (λ id. refl) (subst IsBetweenCalls (sym m.record_is) is.ready)
