-- What a container tells once all its passes were given back.
use Rattle.std.specs.Prelude.{All, List, length, ◌≡◌}
use Rattle.given_back.specs.declared.places.GivenBack.{GivenBack}
use Rattle.orc_any_domain.specs.declared.domain.RowCounts.{RowCounts}
use Rattle.orc_core.specs.declared.records.Agent.{Agent}
use Rattle.orc_heap.specs.declared.discipline.Discipline as discipline
use Rattle.orc_machine_board.specs.declared.machine.MachineShape.{MachineShape}
use Rattle.orc_machine_board.specs.declared.machine.Reclaiming.{Reclaiming}
use Rattle.orc_machine_board.specs.declared.machine.Request.{Request}
use Rattle.orc_domain.specs.Passes.{domain_bounds}
use Rattle.orc_domain.specs.Rest.{ComesToRest}
use Rattle.orc_domain.specs.declared.domain.OrcDomain.{OrcDomain}
use Rattle.orc_domain.specs.declared.domain.OrcPass.{OrcPass}
use Rattle.orc_shared_words.specs.declared.machine.Machine as machine
use Rattle.orc_sound.specs.declared.steps.Step.{Step}

module _ {D N : Type 0} where
  -- there is a place for each pass of this domain, and for passes of no other
  pub record ArePlacesOf (domain : OrcDomain D N) (places : List (OrcDomain D N)) : Type 0 where
    pub many : length places ≡ (domain_bounds domain).agents
    pub each : All (λ d. d ≡ domain) places

module _ {D N : Type 0} {d : discipline.Ghosts D N} {m : machine.Ghosts Reclaiming N (MachineShape N) Request (Step N) Agent Agent} where
  -- all passes of this domain, which are given back to these places, came to rest, and these are the rows that the domain gave, those
  -- that it freed and those that are out, by the whole journal of its steps: as many were given as were freed and are out
  pub record TellsRows {K : Type 0} (domain : OrcDomain D N)
      (places : GivenBack (OrcPass D N d m) K (OrcDomain D N)) (counts : RowCounts) : Type 0 where
    pub passes : List (OrcPass D N d m)
    pub ends : ComesToRest domain passes counts
