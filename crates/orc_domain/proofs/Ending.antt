-- Where a call begins and may end, by the pass.
use Rattle.std.proofs.Common.{ℕ, ◌<◌}
use mathlib.Core.List.{IsPrefix}
use Rattle.orc_core.specs.declared.records.Agent.{Agent}
use Rattle.orc_heap.specs.declared.discipline.Discipline as discipline
use Rattle.orc_machine_board.specs.Views.{Belongs}
use Rattle.orc_machine_board.specs.declared.board.MachineBoard.{MachineBoard}
use Rattle.orc_machine_board.specs.declared.board.MachineBoardPass.{MachineBoardPass}
use Rattle.orc_machine_board.specs.declared.machine.MachineShape.{MachineShape}
use Rattle.orc_machine_board.specs.declared.machine.Reclaiming.{Reclaiming}
use Rattle.orc_machine_board.specs.declared.machine.Request.{Request}
use Rattle.orc_machine_rest.proofs.TakenIn.{done_later}
use Rattle.orc_machine_rest.specs.OwnSteps.{LeavesNothing}
use Rattle.orc_domain.proofs.Stages.{Between, Stage, stage}
use Rattle.orc_domain.specs.Passes.{IsPassOf, domain_bounds}
use Rattle.orc_domain.specs.declared.domain.OrcDomain.{OrcDomain}
use Rattle.orc_domain.specs.declared.domain.OrcPass.{OrcPass}
use Rattle.orc_shared_words.specs.declared.machine.Machine as machine
use Rattle.orc_sound.specs.declared.steps.Step.{Step}

module _ {D N : Type 0} {d : discipline.Ghosts D N} {k : MachineShape N} where
  -- where a call may end that began at s: it is between calls again, and left nothing beside a slot that it cleared
  pub record Ends (s t : Stage d k) : Type 0 where
    pub between : Between t
    pub leaves : LeavesNothing s.view.agent s.view.journal t.view.journal

  pub ends_later : {s t : Stage d k} → Ends s t → IsPrefix s.view.journal t.view.journal
  ends_later e = done_later _ _ _ _ e.leaves.done

module _ {D N : Type 0} {d : discipline.Ghosts D N} {m : machine.Ghosts Reclaiming N (MachineShape N) Request (Step N) Agent Agent} where
  -- a pass that belongs to a board is at one
  abbrev pub stage_of : {board : MachineBoard D N} {p : MachineBoardPass D N d m} → Belongs board p
      → Stage d board.words.shape
  stage_of {board} {p} h = stage d board.words.shape _ _ h.keeps

  -- a pass of a domain is between calls
  abbrev pub between_of : {domain : OrcDomain D N} {p : OrcPass D N d m} (h : IsPassOf domain p)
      → Between (stage_of h.board)
  between_of h = record { ready = h.ready; untouched = h.untouched }

  -- a pass of its board that is between calls is one of the domain's
  pub pass_of : {domain : OrcDomain D N} {q : MachineBoardPass D N d m} {next : ℕ}
      (h : Belongs domain.board q) → Between (stage_of h) → next < (domain_bounds domain).rows → IsPassOf domain (record { pass = q; next = next })
  pass_of h is inside = record { board = h; ready = is.ready; untouched = is.untouched; inside = inside }
