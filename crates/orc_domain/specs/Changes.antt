-- What the parts of a change of a link do to what a pass shows, and what they need of its record.
use Rattle.std.specs.Option.{ForSome, option_map}
use Rattle.std.specs.Prelude.{List, None, Option, Some, [], false, length, true, ℕ, ◌<◌, ◌^◌, ◌≡◌, ◌∷◌, ◌⊎◌}
use Rattle.orc_core.specs.Allowed.{may_change, may_target}
use Rattle.orc_core.specs.RecordParts.{names, slot_of}
use Rattle.orc_core.specs.declared.records.Agent.{Agent}
use Rattle.orc_core.specs.declared.records.SlotUse.TheVariants.{Empty}
use Rattle.orc_heap.specs.Acts.{aim_act}
use Rattle.orc_heap.specs.Journals.{event_by}
use Rattle.orc_heap.specs.OwnEvents.{Only}
use Rattle.orc_heap.specs.declared.events.Event.{Event}
use Rattle.orc_machine_board.specs.Licences.{AimAllowed, ids_of}
use Rattle.orc_machine_board.specs.Views.{MachineView}
use Rattle.orc_domain.specs.Calls.{SameParts}
use Rattle.orc_machine_rest.specs.OwnSteps.{LeavesNothing}
use Rattle.orc_domain.specs.Seats.{seat_by}
use Rattle.orc_words.specs.Bounds.{Bounds, link_limit}

-- the bit of what is due may be tried: its sequence is small, and it isn't the fresh row
abbrev pub MayTryDue : Agent → Type 0
MayTryDue d = ForSome d.due (λ s. (s.number < 2 ^ 40) × (names d.fresh s.row ≡ false))

-- what a change of a link left pending may be counted: slot 0 is empty for the arming, and no pending row is the fresh one
pub record IsCountable (d : Agent) : Type 0 where
  pub enrolled : d.enrolled ≡ true
  pub eight : length d.slots ≡ 8
  pub due : d.due ≡ None
  pub zero : slot_of d 0 ≡ Empty
  pub others : (r : ℕ) → (d.inc ≡ Some r) ⊎ (d.dec ≡ Some r) → names d.fresh r ≡ false

-- the pass shows the same but for what it has seen, without an event of its own; its record is this one now, but for what was
-- looked at and checked and what is listed; and nothing was left beside a slot that was cleared
pub record Becomes {N : Type 0} (b : Bounds) (d : Agent) (s t : MachineView N) : Type 0 where
  pub only : Only [] (seat_by b s) (seat_by b t)
  pub same : SameParts d t.record_is
  pub leaves : LeavesNothing s.agent s.journal t.journal

module _ {N : Type 0} where
  -- the link of this number of the fresh row's node was set, and nothing else that the pass shows has changed
  abbrev pub Stores : Bounds → ℕ → ℕ → Option ℕ → MachineView N → MachineView N → Type 0
  Stores b r number to s t =
      Only (event_by s.agent (aim_act number ((ids_of b s).node r) (option_map (ids_of b s).node to)) None ∷ []) (seat_by b s) (seat_by b t)

  -- the link of this number of the fresh row may be set to this target, which is another row, and whose sequence was checked
  pub record MayStore (may : List (Event N) → Event N → Type 0) (b : Bounds) (r number : ℕ) (to : Option ℕ) (s : MachineView N) : Type 0 where
    pub target : may_target b s.record_is to ≡ true
    pub low : may_change s.record_is (link_limit b) None to ≡ true
    pub other : (t : ℕ) → to ≡ Some t → names s.record_is.fresh t ≡ false
    pub licensed : AimAllowed may b s r number to
