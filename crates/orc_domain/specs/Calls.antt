-- What the parts of calls do to what a pass shows.
use Rattle.std.specs.Prelude.{None, [], slice_set, ℕ, ◌∷◌, ◌≡◌}
use Rattle.orc_core.specs.declared.ops.CounterUse.TheVariants.{Check}
use Rattle.orc_core.specs.declared.ops.Op.TheVariants.{Clear, CounterLoad, SetRetired, TakeIn}
use Rattle.orc_core.specs.declared.records.Agent.{Agent}
use Rattle.orc_core.specs.declared.records.SlotUse.TheVariants.{Empty}
use Rattle.orc_heap.specs.OwnEvents.{Puts}
use Rattle.orc_machine_board.specs.Views.{MachineView}
use Rattle.orc_machine_rest.specs.OwnSteps.{HasDone}
use Rattle.orc_domain.specs.Seats.{SetsSlot, seat_by}
use Rattle.orc_words.specs.Bounds.{Bounds}

-- the record is the same but for what was looked at and checked, what was handed over, and what is listed
pub record SameParts (d e : Agent) : Type 0 where
  pub enrolled : e.enrolled ≡ d.enrolled
  pub slots : e.slots ≡ d.slots
  pub fresh : e.fresh ≡ d.fresh
  pub due : e.due ≡ d.due
  pub inc : e.inc ≡ d.inc
  pub dec : e.dec ≡ d.dec
  pub doom : e.doom ≡ d.doom
  pub scan : e.scan ≡ d.scan

module _ {N : Type 0} where
  -- the slot was cleared, and what was handed over beside it was taken in
  pub record Unlocks (b : Bounds) (slot : ℕ) (s t : MachineView N) : Type 0 where
    pub sets : SetsSlot [] slot None (seat_by b s) (seat_by b t)
    pub same : SameParts (record s.record_is { slots = slice_set s.record_is.slots slot Empty }) t.record_is
    pub done : HasDone s.agent (Clear slot ∷ TakeIn slot ∷ []) s.journal t.journal

  -- the fresh row was retired: it is fresh no more, and nothing else that the pass shows has changed but what was seen
  pub record Retires (b : Bounds) (r : ℕ) (s t : MachineView N) : Type 0 where
    pub slots : (seat_by b t).slots ≡ (seat_by b s).slots
    pub puts : Puts (seat_by b s) [] (seat_by b t)
    pub same : SameParts (record s.record_is { fresh = None }) t.record_is
    pub sequence : ℕ
    pub done : HasDone s.agent (CounterLoad r Check ∷ SetRetired r sequence ∷ []) s.journal t.journal
