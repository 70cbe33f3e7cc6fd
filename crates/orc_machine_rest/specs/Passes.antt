-- The pass of an agent that settles, and the state that it has seen.
use Rattle.std.specs.Prelude.{ℕ, ◌<◌, ◌≡◌}
use Rattle.orc_core.specs.Machine.{Machine, record_at}
use Rattle.orc_core.specs.declared.records.Agent.{Agent}
use Rattle.orc_heap.specs.declared.discipline.Discipline as discipline
use Rattle.orc_machine_board.specs.Rules.{run_of}
use Rattle.orc_machine_board.specs.Views.{Belongs, board_bounds, shows}
use Rattle.orc_machine_board.specs.declared.board.MachineBoard.{MachineBoard}
use Rattle.orc_machine_board.specs.declared.board.MachineBoardPass.{MachineBoardPass}
use Rattle.orc_machine_board.specs.declared.machine.MachineShape.{MachineShape}
use Rattle.orc_machine_board.specs.declared.machine.Reclaiming.{Reclaiming}
use Rattle.orc_machine_board.specs.declared.machine.Request.{Request}
use Rattle.orc_rest.specs.Turns.{IsReachedState}
use Rattle.orc_shared_words.specs.declared.machine.Machine as machine
use Rattle.orc_sound.specs.declared.steps.Step.{Step}

module _ {D N : Type 0} {d : discipline.Ghosts D N} {m : machine.Ghosts Reclaiming N (MachineShape N) Request (Step N) Agent Agent} where
  -- the state after what the pass has seen
  abbrev pub state_of : MachineBoard D N → MachineBoardPass D N d m → Machine
  state_of board p = run_of (board_bounds board) (shows p).journal

  -- the record of an agent in that state
  abbrev pub agent_record : MachineBoard D N → ℕ → MachineBoardPass D N d m → Agent
  agent_record board a p = record_at (state_of board p) a

  -- the pass is one of the board's, and this agent's, who is one of the board's agents; the state is one that steps have led to
  pub record IsPassOf (board : MachineBoard D N) (a : ℕ) (p : MachineBoardPass D N d m) : Type 0 where
    pub belongs : Belongs board p
    pub agent : (shows p).agent ≡ a
    pub low : a < (state_of board p).bounds.agents
    pub reached : IsReachedState (state_of board p)
