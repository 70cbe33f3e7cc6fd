-- What a pass shows, and what is true of it between calls.
use Rattle.std.specs.Prelude.{[], ◌≡◌, ℕ, ◌<◌, List, length, Option, Some, None}
use Rattle.orc_words.specs.Bounds.{Bounds, bounds_of}
use Rattle.orc_heap.specs.Heap.{Heap, HeapNumbers}
use Rattle.orc_heap.specs.Journals.{run_heap}
use Rattle.orc_heap.specs.Seats.{IsUntouched}
use Rattle.orc_heap.specs.declared.discipline.Discipline as discipline
use Rattle.orc_heap.specs.declared.events.Event.{Event}
use Rattle.orc_shared_words.specs.Steps.{LaterJournal}
use Rattle.orc_shared_words.specs.declared.journal.View.{View}
use Rattle.orc_shared_words.specs.declared.machine.Machine as machine
use Rattle.orc_any_domain.specs.Rows.{index_of}
use Rattle.orc_plain_board.specs.Machine.{State, numbers, project, run}
use Rattle.orc_plain_board.specs.Rules.{plain_rules}
use Rattle.orc_plain_board.specs.declared.machine.Plain.{Plain}
use Rattle.orc_plain_board.specs.declared.machine.PlainOp.{PlainOp}
use Rattle.orc_plain_board.specs.declared.machine.PlainStep.{PlainStep}
use Rattle.orc_plain_board.specs.declared.pass.PlainBoard.{PlainBoard}
use Rattle.orc_plain_board.specs.declared.pass.PlainBoardPass.{PlainBoardPass}
use Rattle.orc_plain_board.specs.declared.shape.PlainShape.{PlainShape}
use Rattle.orc_heap.specs.declared.seed.Seed.{Seed}

-- the agent, the events that it has seen, the rows that these gave, in the order of the Gives, its fresh row, the row
-- that its last gate look saw free, and the agents whose passes it took in
pub record PlainView (N : Type 0) : Type 0 where
  pub agent : ℕ
  pub events : List (Event N)
  pub rows : List ℕ
  pub fresh : Option ℕ
  pub looked : Option ℕ
  pub absorbed : List ℕ

-- the same, of a pass that has these steps behind it
abbrev pub view_of : {N : Type 0} → Bounds → ℕ → View (PlainStep N) (Unit {0}) → Option ℕ → Option ℕ → PlainView N
view_of b agent v fresh looked = record {
  agent = agent;
  events = project b v.seen;
  rows = (run b v.seen).given;
  fresh = fresh;
  looked = looked;
  absorbed = v.also;
}

-- the heap after the events that were seen
abbrev pub heap_of : {N : Type 0} → Bounds → PlainView N → Heap
heap_of b s = run_heap (numbers b) s.events

-- the fresh row, if there is one, was given, and its node is untouched
abbrev pub FreshHeld : ℕ → State → Option ℕ → Type 0
FreshHeld a x None = Unit {0}
FreshHeld a x (Some row) = (index_of row x.given < length x.given) × IsUntouched a x.heap (index_of row x.given)

-- what is true of a pass between calls
pub record Keeps {N : Type 0} (k : PlainShape N) (holds : List (Event N) → Type 0) (may : List (Event N) → Event N → Type 0)
    (v : View (PlainStep N) (Unit {0})) (a : ℕ) (fresh : Option ℕ) : Type 0 where
  pub is : v.agent ≡ Some a
  pub number : a < (bounds_of k.shape).agents
  pub began : holds []
  pub now : LaterJournal plain_rules k holds may v.seen v a
  pub untouched : FreshHeld a (run (bounds_of k.shape) v.seen) fresh

module _ {D N : Type 0} where
  -- the sizes of a board
  abbrev pub board_bounds : PlainBoard D N → Bounds
  board_bounds board = bounds_of board.words.shape.shape

  -- the numbers of its heap
  abbrev pub board_numbers : PlainBoard D N → HeapNumbers
  board_numbers board = numbers (board_bounds board)

module _ {D N : Type 0} where
  -- what its journal begins with
  abbrev pub board_seed : PlainBoard D N → Seed N
  board_seed board = board.words.shape.seed

-- the row was given, and its node is untouched
pub record IsFreshRow {N : Type 0} (b : Bounds) (s : PlainView N) (row : ℕ) : Type 0 where
  pub given : index_of row s.rows < length s.rows
  pub untouched : IsUntouched s.agent (heap_of b s) (index_of row s.rows)

module _ {D N : Type 0} {d : discipline.Ghosts D N} {m : machine.Ghosts Plain N (PlainShape N) PlainOp (PlainStep N) (Unit {0}) (Unit {0})} where
  -- what the pass shows, by the sizes of its board
  abbrev pub shows_by : Bounds → PlainBoardPass D N (PlainShape N) PlainOp (PlainStep N) (Unit {0}) (Unit {0}) d m → PlainView N
  shows_by b p = view_of b p.pass.agent p.pass.seat.me.0 p.fresh p.looked

  -- what the pass shows
  abbrev pub shows : PlainBoard D N → PlainBoardPass D N (PlainShape N) PlainOp (PlainStep N) (Unit {0}) (Unit {0}) d m → PlainView N
  shows board p = shows_by (board_bounds board) p

  -- the pass is one of the board's
  pub record Belongs (board : PlainBoard D N) (p : PlainBoardPass D N (PlainShape N) PlainOp (PlainStep N) (Unit {0}) (Unit {0}) d m) : Type 0 where
    pub table : p.pass.seat.table_id ≡ board.words.table.shared.table_id
    pub keeps : Keeps board.words.shape (d.holds (board_numbers board)) (d.may (board_numbers board)) p.pass.seat.me.0 p.pass.agent p.fresh
