-- What a pass shows, and what a step of it tells.
use Rattle.std.specs.Prelude.{List, Option, Some, [], ℕ, ◌++◌, ◌<◌, ◌∷◌, ◌≡◌}
use Rattle.orc_core.specs.Actions.{action_of}
use Rattle.orc_core.specs.After.{after}
use Rattle.orc_core.specs.Machine.{word_read}
use Rattle.orc_core.specs.declared.records.Agent.{Agent}
use Rattle.orc_heap.specs.Heap.{HeapNumbers}
use Rattle.orc_heap.specs.declared.discipline.Discipline as discipline
use Rattle.orc_heap.specs.declared.events.Event.{Event}
use Rattle.orc_history.specs.Journals.{own_of}
use Rattle.orc_projection.specs.Mirror.{numbers_of}
use Rattle.orc_machine_board.specs.Rules.{counted_rules, run_of, step_of}
use Rattle.orc_machine_board.specs.declared.board.MachineBoard.{MachineBoard}
use Rattle.orc_machine_board.specs.declared.board.MachineBoardPass.{MachineBoardPass}
use Rattle.orc_machine_board.specs.declared.machine.Reclaiming.{Reclaiming}
use Rattle.orc_machine_board.specs.declared.machine.Request.{Request}
use Rattle.orc_machine_board.specs.declared.machine.MachineShape.{MachineShape}
use Rattle.orc_heap.specs.declared.seed.Seed.{Seed}
use Rattle.orc_shared_words.specs.Lists.{Among}
use Rattle.orc_shared_words.specs.Steps.{LaterJournal}
use Rattle.orc_shared_words.specs.declared.journal.View.{View}
use Rattle.orc_shared_words.specs.declared.machine.Machine as machine
use Rattle.orc_sound.specs.declared.steps.Step.{Step}
use Rattle.orc_words.specs.Bounds.{Bounds, bounds_of}
use Rattle.orc_words.specs.Operations.{answer_of}

-- the agent, the steps that it has seen, its record, and the agents whose passes it took in
pub record MachineView (N : Type 0) : Type 0 where
  pub agent : ℕ
  pub journal : List (Step N)
  pub record_is : Agent
  pub absorbed : List ℕ

module _ {N : Type 0} where
  -- what the pass of an agent shows that has this view
  abbrev pub view_of : ℕ → View (Step N) Agent → MachineView N
  view_of a v = record { agent = a; journal = v.seen; record_is = v.own; absorbed = v.also }

  -- a pass, which showed s and shows t, made this step, and the answer is n
  pub record Makes (b : Bounds) (q : Request) (note : Option N) (s : MachineView N) (n : ℕ) (t : MachineView N) : Type 0 where
    pub agent : t.agent ≡ s.agent
    pub absorbed : t.absorbed ≡ s.absorbed
    -- steps of others came before its own
    pub met : List (Step N)
    pub others : own_of (λ (x : Step N). x.agent) s.agent met ≡ []
    pub retired : (c : ℕ) → Among c s.absorbed → own_of (λ (x : Step N). x.agent) c met ≡ []
    pub journal : t.journal ≡ (s.journal ++ met) ++ step_of s.agent q note ∷ []
    -- the word that it read, its answer, and the record that it leaves
    pub answer : n ≡ answer_of (action_of s.agent q.op s.record_is).operation (word_read (run_of b (s.journal ++ met)) s.agent q.op)
    pub record_is : t.record_is ≡ after q.op s.record_is (word_read (run_of b (s.journal ++ met)) s.agent q.op)

  -- what is true of a pass between calls
  pub record Keeps (k : MachineShape N) (holds : List (Event N) → Type 0) (may : List (Event N) → Event N → Type 0) (v : View (Step N) Agent)
      (a : ℕ) : Type 0 where
    pub is : v.agent ≡ Some a
    pub number : a < (bounds_of k.shape).agents
    pub began : holds []
    pub now : LaterJournal counted_rules k holds may v.seen v a

module _ {D N : Type 0} where
  -- the sizes of a board
  abbrev pub board_bounds : MachineBoard D N → Bounds
  board_bounds board = bounds_of board.words.shape.shape

  -- what its journal begins with
  abbrev pub board_seed : MachineBoard D N → Seed N
  board_seed board = board.words.shape.seed

  -- the numbers of its heap
  abbrev pub board_numbers : MachineBoard D N → HeapNumbers
  board_numbers board = numbers_of (board_bounds board)

module _ {D N : Type 0} {d : discipline.Ghosts D N} {m : machine.Ghosts Reclaiming N (MachineShape N) Request (Step N) Agent Agent} where
  -- what the pass shows
  abbrev pub shows : MachineBoardPass D N d m → MachineView N
  shows p = view_of p.pass.agent p.pass.seat.me.0

  -- the pass is one of the board's
  pub record Belongs (board : MachineBoard D N) (p : MachineBoardPass D N d m) : Type 0 where
    pub table : p.pass.seat.table_id ≡ board.words.table.shared.table_id
    pub keeps : Keeps board.words.shape (d.holds (board_numbers board)) (d.may (board_numbers board)) p.pass.seat.me.0 p.pass.agent
