-- A job that goes through a queue of two rows on a board of one agent, step by step. The steps are those of Michael and
-- Scott's queue (1996), with the counts and slots of OrcGC (Correia, Ramalhete and Felber 2021).
use Rattle.std.specs.Prelude.{List, None, Some, [], ◌++◌, ◌∷◌, ◌≡◌}
use Rattle.orc_core.specs.Machine.{Machine}
use Rattle.orc_core.specs.declared.ops.CounterUse.TheVariants.{Check}
use Rattle.orc_core.specs.declared.ops.Op.{Op}
use Rattle.orc_core.specs.declared.ops.Op.TheVariants.{Arm, Clear, CounterLoad, Dec, Fill, GateLook, GateTake, Inc, LinkCas, LinkLoad, Publish, Read, TakeIn}
use Rattle.orc_core.specs.declared.records.Agent.{Agent}
use Rattle.orc_fifo_rule.specs.declared.fifo.FifoNote.{FifoNote}
use Rattle.orc_fifo_rule.specs.declared.fifo.FifoNote.TheVariants.{Begin, Entry, Swing}
use Rattle.orc_heap.specs.declared.discipline.Discipline as discipline
use Rattle.orc_heap.specs.declared.seed.Seed.TheVariants.{Dummy}
use Rattle.orc_history.specs.declared.queue.QueueEntry.TheVariants.{Put}
use Rattle.orc_machine_board.specs.Kinds.{asks}
use Rattle.orc_machine_board.specs.Rules.{does, machine_opening, run_of, step_of, without_mark}
use Rattle.orc_machine_board.specs.Views.{Belongs, board_bounds, shows}
use Rattle.orc_machine_board.specs.declared.board.MachineBoard.{MachineBoard}
use Rattle.orc_machine_board.specs.declared.board.MachineBoardPass.{MachineBoardPass}
use Rattle.orc_machine_board.specs.declared.machine.MachineShape.{MachineShape}
use Rattle.orc_machine_board.specs.declared.machine.Reclaiming.{Reclaiming}
use Rattle.orc_machine_board.specs.declared.machine.Request.{Request}
use Rattle.orc_shared_words.specs.declared.machine.Machine as machine
use Rattle.orc_sound.specs.declared.steps.Step.{Step}
use Rattle.orc_words.specs.Bounds.{Bounds}
use Rattle.orc_words.specs.declared.packed.RowLink.{RowLink}
use Rattle.orc_words.specs.declared.place.Word.{Word}
use Rattle.orc_words.specs.declared.place.Word.TheVariants.{Next, Root}

-- the sizes of the board
abbrev pub small : Bounds
small = record { rows = 2; roots = 2; agents = 1; limit = 8; links = 1 }

-- these ops of agent 0
abbrev pub own_steps : {N : Type 0} → List Op → List (Step N)
own_steps [] = []
own_steps (op ∷ ops) = does 0 op None ∷ own_steps ops

-- an exchange of a link by agent 0
abbrev pub exchanged : {N : Type 0} → Word → RowLink → RowLink → N → Step N
exchanged place from to note = step_of 0 (asks (LinkCas place from to)) (Some note)

-- the link to no row
abbrev pub null_row : RowLink
null_row = without_mark None

-- the link to row 0
abbrev pub row_0 : RowLink
row_0 = without_mark (Some 0)

-- the link to row 1
abbrev pub row_1 : RowLink
row_1 = without_mark (Some 1)

-- row 0 is the dummy
abbrev pub opened : List (Step FifoNote)
opened = machine_opening 1 (Dummy 0 Begin)

-- row 1 is taken out and filled with job 6 for position 0; row 0 is held, as root 1 shows it; its link is null
abbrev pub before_put : List (Step FifoNote)
before_put = opened ++ own_steps (
    GateLook 1 ∷ CounterLoad 1 Check ∷ GateTake 1 ∷ Fill 1 0 6 ∷ Fill 1 1 1 ∷ Publish 1 1
    ∷ LinkLoad (Root 1) None ∷ Publish 2 0 ∷ LinkLoad (Root 1) (Some 2) ∷ LinkLoad (Next 0) None ∷ CounterLoad 1 Check ∷ [])

-- the link of row 0 leads to row 1
abbrev pub before_swing : List (Step FifoNote)
before_swing = (before_put ++ exchanged (Next 0) null_row row_1 (Entry (Put 0 6 0)) ∷ []) ++ own_steps (Inc 1 ∷ CounterLoad 1 Check ∷ [])

-- root 1 has stepped on to row 1, and nothing is pending or held
abbrev pub after_put : List (Step FifoNote)
after_put = (before_swing ++ exchanged (Root 1) row_0 row_1 Swing ∷ []) ++ own_steps (
    Inc 1 ∷ Arm 0 ∷ Dec 0 ∷ Clear 0 ∷ TakeIn 0 ∷ Clear 1 ∷ TakeIn 1 ∷ Clear 2 ∷ TakeIn 2 ∷ [])

-- rows 0 and 1 are held, as root 0 and the link of row 0 show them, and the job was read
abbrev pub before_took : List (Step FifoNote)
before_took = (after_put ++ own_steps (
    LinkLoad (Root 0) None ∷ Publish 1 0 ∷ LinkLoad (Root 0) (Some 1)
    ∷ LinkLoad (Next 0) None ∷ Publish 2 1 ∷ LinkLoad (Next 0) (Some 2) ∷ CounterLoad 1 Check ∷ [])) ++ does 0 (Read 1 0) None ∷ []

module _ {D N : Type 0} {d : discipline.Ghosts D N} {m : machine.Ghosts Reclaiming N (MachineShape N) Request (Step N) Agent Agent} where
  -- the board is this small, and the pass is that of its one agent
  pub record IsSolePass (board : MachineBoard D N) (p : MachineBoardPass D N d m) : Type 0 where
    pub belongs : Belongs board p
    pub sizes : board_bounds board ≡ small
    pub agent : (shows p).agent ≡ 0

  -- so it is, and the machine is where the pass's steps lead
  pub record IsPlayed (board : MachineBoard D N) (p : MachineBoardPass D N d m) (state : Machine) : Type 0 where
    pub sole : IsSolePass board p
    pub is : state ≡ run_of (board_bounds board) (shows p).journal
