-- A slot that is released.
use Rattle.std.proofs.Common.{List, None, Option, Some, [], ap, arith, false, refl, suc, sym, zero, ℕ, ◌<◌, ◌∙◌, ◌≡◌, ◌≢◌, ◌∷◌}
use Rattle.std.proofs.lemmas.Bool.{ne_eqb}
use Rattle.std.specs.Option.{option_map}
use Rattle.std.specs.Prelude.{slice_index_or, slice_set}
use Rattle.orc_core.specs.RecordParts.{holds_fresh, is_empty, is_published, slot_of}
use Rattle.orc_core.specs.declared.ops.Op.TheVariants.{Clear}
use Rattle.orc_core.specs.declared.records.Agent.{Agent}
use Rattle.orc_core.specs.declared.records.SlotUse.{SlotUse}
use Rattle.orc_core.specs.declared.records.SlotUse.TheVariants.{Empty, Held}
use Rattle.orc_heap.proofs.Changes.{get_lt}
use Rattle.orc_heap.specs.Slots.{Hold, Holds, id_in}
use Rattle.orc_heap.specs.declared.discipline.Discipline as discipline
use Rattle.orc_machine_board.specs.Kinds.{MayDo}
use Rattle.orc_machine_board.specs.Licences.{ids_of}
use Rattle.orc_machine_board.specs.Rules.{bounds_in}
use Rattle.orc_machine_board.specs.declared.machine.MachineShape.{MachineShape}
use Rattle.orc_domain.proofs.Held.{hold_slot}
use Rattle.orc_domain.proofs.Protecting.{still_ready}
use Rattle.orc_domain.proofs.Seats.{ready_calm}
use Rattle.orc_domain.proofs.Setting.{clear_may, set_length}
use Rattle.orc_domain.proofs.Stages.{Between, Stage, seat}
use Rattle.orc_domain.proofs.Untouched.{still_between}
use Rattle.orc_domain.specs.Calls.{SameParts, Unlocks}
use Rattle.orc_domain.specs.Laws.Holding.{slot_at}
use Rattle.orc_domain.specs.Seats.{IsBetweenCalls}

set_zero : (slots : List SlotUse) (k : ℕ) → slice_index_or slots 0 Empty ≡ Empty → slice_index_or (slice_set slots k Empty) 0 Empty ≡ Empty
set_zero [] k e = refl
set_zero (s ∷ ss) zero e = refl
set_zero (s ∷ ss) (suc k) e = e

set_bare : (slots : List SlotUse) (k j : ℕ) → is_published (slice_index_or slots j Empty) ≡ false
    → is_published (slice_index_or (slice_set slots k Empty) j Empty) ≡ false
set_bare [] k j h = h
set_bare (s ∷ ss) zero zero h = refl
set_bare (s ∷ ss) zero (suc j) h = h
set_bare (s ∷ ss) (suc k) zero h = h
set_bare (s ∷ ss) (suc k) (suc j) h = set_bare ss k j h

-- a slot that is emptied leaves the record ready
pub emptied_ready : (d e : Agent) (slot : ℕ) → IsBetweenCalls d → SameParts (record d { slots = slice_set d.slots slot Empty }) e → IsBetweenCalls e
emptied_ready d e slot r same = still_ready (record d { slots = slice_set d.slots slot Empty }) e same record {
  enrolled = r.enrolled;
  eight = set_length d.slots slot Empty ∙ r.eight;
  due = r.due;
  inc = r.inc;
  dec = r.dec;
  zero = set_zero d.slots slot r.zero;
  published = λ j. set_bare d.slots slot j (r.published j);
  doom = r.doom;
  found = r.found;
}

module _ {D N : Type 0} {d : discipline.Ghosts D N} {k : MachineShape N} (s : Stage d k) (between : Between s) (h : Hold) (held : Holds (seat s).slots h)
    (linked : (seat s).fresh ≢ Some (id_in (seat s).slots h)) where
  pub slot_has : slot_of s.view.record_is h.slot ≡ Held h.row
  slot_has = slot_at s.view.record_is.slots h.slot h.row (hold_slot s h held).0

  pub slot_low : h.slot < 8
  slot_low = let e = between.ready.eight in let l = get_lt s.view.record_is.slots h.slot (Held h.row) (hold_slot s h held).0 in omega (arith, e, l)

  -- the slot doesn't hold the fresh row
  pub slot_linked : holds_fresh s.view.record_is.fresh (Held h.row) ≡ false
  slot_linked = went s.view.record_is.fresh refl
    where
      went : (o : Option ℕ) → s.view.record_is.fresh ≡ o → holds_fresh o (Held h.row) ≡ false
      went None is = refl
      went (Some f) is = ne_eqb h.row f (λ e. linked (ap (option_map (ids_of (bounds_in k) s.view).node) is
          ∙ ap Some (ap (ids_of (bounds_in k) s.view).node (sym e) ∙ sym (hold_slot s h held).1)))

  pub release_can : MayDo (bounds_in k) s.view (Clear h.slot)
  release_can = clear_may (bounds_in k) s.view.agent h.slot s.view.record_is s.number slot_low (ready_calm s.view.record_is between.ready) (ap is_empty slot_has)
      (ap (holds_fresh s.view.record_is.fresh) slot_has ∙ slot_linked)

  module _ (t : Stage d k) (un : Unlocks (bounds_in k) h.slot s.view t.view) where
    pub release_between : Between t
    release_between = still_between s t [] between un.sets.puts un.sets.fresh (λ id. refl)
        (emptied_ready s.view.record_is t.view.record_is h.slot between.ready un.same)
