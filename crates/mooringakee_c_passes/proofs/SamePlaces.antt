-- What is known of a domain is known of it by another name.
use Rattle.std.proofs.Common.{List, subst, ◌≡◌}
use Rattle.orc_core.specs.declared.records.Agent.{Agent}
use Rattle.orc_heap.specs.Seats.{IsIdle}
use Rattle.orc_heap.specs.declared.discipline.Discipline as discipline
use Rattle.orc_machine_board.specs.declared.machine.MachineShape.{MachineShape}
use Rattle.orc_machine_board.specs.declared.machine.Reclaiming.{Reclaiming}
use Rattle.orc_machine_board.specs.declared.machine.Request.{Request}
use Rattle.orc_domain.specs.Passes.{IsPassOf, seat_of}
use Rattle.orc_domain.specs.declared.domain.OrcDomain.{OrcDomain}
use Rattle.orc_domain.specs.declared.domain.OrcPass.{OrcPass}
use Rattle.orc_shared_words.specs.declared.machine.Machine as machine
use Rattle.orc_sound.specs.declared.steps.Step.{Step}
use Rattle.mooringakee_c_passes.specs.Usable.{CanBeUsed}

module _ {D N : Type 0} {d : discipline.Ghosts D N} {m : machine.Ghosts Reclaiming N (MachineShape N) Request (Step N) Agent Agent} where
  -- a pass of the same domain, as it is and with its places
  pub usable_by : {x y : OrcDomain D N} (p : OrcPass D N d m) → x ≡ y → IsPassOf x p → IsIdle (seat_of x p)
      → IsPassOf y p × IsIdle (seat_of y p)
  usable_by p is belongs idle = subst (λ (z : OrcDomain D N). IsPassOf z p × IsIdle (seat_of z p)) is (belongs, idle)

  -- a pass that goes on can be used as before
  pub still_used : {x y : OrcDomain D N} {rooms : List (OrcDomain D N)} {old : OrcPass D N d m}
      (p : OrcPass D N d m) → x ≡ y → CanBeUsed y rooms old → IsPassOf x p × IsIdle (seat_of x p)
      → CanBeUsed y rooms p
  still_used p is before now =
      let here = usable_by p is now.0 now.1 in
      record { belongs = here.0; idle = here.1; places = before.places }

  -- and what else is true
  pub used_after : {x y : OrcDomain D N} {rooms : List (OrcDomain D N)} {old : OrcPass D N d m} {Z : Type 0}
      (p : OrcPass D N d m) → x ≡ y → CanBeUsed y rooms old × Z → IsPassOf x p × IsIdle (seat_of x p)
      → CanBeUsed y rooms p × Z
  used_after p is before now = (still_used p is before.0 now, before.1)
