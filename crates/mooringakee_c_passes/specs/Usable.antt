-- When an agent's place at a container of any kind can be used.
use Rattle.std.specs.Prelude.{List}
use Rattle.orc_core.specs.declared.records.Agent.{Agent}
use Rattle.orc_heap.specs.Seats.{IsIdle}
use Rattle.orc_heap.specs.declared.discipline.Discipline as discipline
use Rattle.orc_machine_board.specs.declared.machine.MachineShape.{MachineShape}
use Rattle.orc_machine_board.specs.declared.machine.Reclaiming.{Reclaiming}
use Rattle.orc_machine_board.specs.declared.machine.Request.{Request}
use Rattle.orc_domain.specs.Passes.{IsPassOf, seat_of}
use Rattle.orc_domain.specs.declared.domain.OrcDomain.{OrcDomain}
use Rattle.orc_domain.specs.declared.domain.OrcPass.{OrcPass}
use Rattle.orc_shared_words.specs.declared.machine.Machine as machine
use Rattle.orc_sound.specs.declared.steps.Step.{Step}
use Rattle.mooringakee_c_passes.specs.Ending.{ArePlacesOf}

module _ {D N : Type 0} {d : discipline.Ghosts D N} {m : machine.Ghosts Reclaiming N (MachineShape N) Request (Step N) Agent Agent} where
  -- the pass is one of the domain that the container stands on, and idle; and these are places to which the domain's passes are given back
  pub record CanBeUsed (domain : OrcDomain D N) (rooms : List (OrcDomain D N))
      (p : OrcPass D N d m) : Type 0 where
    pub belongs : IsPassOf domain p
    pub idle : IsIdle (seat_of domain p)
    pub places : ArePlacesOf domain rooms
