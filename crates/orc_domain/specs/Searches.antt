-- A search for a row that may be given.
use Rattle.std.specs.Prelude.{List, None, Some, [], length, slice_get, take, ℕ, ◌%◌, ◌++◌, ◌∷◌, ◌+◌, ◌<◌, ◌≡◌, ◌≤◌}
use Rattle.orc_heap.specs.Heap.{new_node}
use Rattle.orc_heap.specs.Journals.{event_by, run_heap}
use Rattle.orc_heap.specs.OwnEvents.{Only, Puts}
use Rattle.orc_heap.specs.declared.events.Act.TheVariants.{Give}
use Rattle.orc_machine_board.specs.Licences.{ids_of}
use Rattle.orc_machine_board.specs.Rules.{run_of}
use Rattle.orc_machine_board.specs.Views.{MachineView}
use Rattle.orc_machine_rest.specs.OwnSteps.{LeavesNothing}
use Rattle.orc_projection.specs.Mirror.{numbers_of}
use Rattle.orc_domain.specs.Calls.{SameParts}
use Rattle.orc_domain.specs.Causes.{IsTaken}
use Rattle.orc_domain.specs.Seats.{seat_by}
use Rattle.orc_sound.specs.declared.steps.Step.{Step}
use Rattle.orc_words.specs.Bounds.{Bounds}

module _ {N : Type 0} where
  -- the pass went on, and shows the same but for what it has seen, without an event of its own, and without a slot that it cleared
  -- and didn't take in from
  pub record Idles (b : Bounds) (s t : MachineView N) : Type 0 where
    pub more : List (Step N)
    pub journal : t.journal ≡ s.journal ++ more
    pub leaves : LeavesNothing s.agent s.journal t.journal
    pub only : Only [] (seat_by b s) (seat_by b t)
    pub same : SameParts s.record_is t.record_is

  -- at a state after the agent's first step since the journal before, or right before that step, the row couldn't be given
  pub record Found (b : Bounds) (a : ℕ) (before after : List (Step N)) (r : ℕ) : Type 0 where
    pub own : ℕ
    pub step : Step N
    pub there : slice_get after own ≡ Some step
    pub its : step.agent ≡ a
    pub early : length before ≤ own
    pub place : ℕ
    pub later : own ≤ place
    pub within : place ≤ length after
    pub taken : IsTaken b (run_of b (take place after)) r

  -- a row that was tried couldn't be given
  pub record Fails (b : Bounds) (r : ℕ) (s t : MachineView N) : Type 0 where
    pub idle : Idles b s t
    pub found : Found b s.agent s.journal t.journal r

  -- a row that was tried is taken: it is the pass's fresh row, its node is new, and nothing else that the pass shows has changed
  pub record Gets (b : Bounds) (r : ℕ) (s t : MachineView N) : Type 0 where
    pub more : List (Step N)
    pub journal : t.journal ≡ s.journal ++ more
    pub leaves : LeavesNothing s.agent s.journal t.journal
    pub same : SameParts (record s.record_is { fresh = Some r }) t.record_is
    pub slots : (seat_by b t).slots ≡ (seat_by b s).slots
    pub puts : Puts (seat_by b s) (event_by s.agent Give None ∷ []) (seat_by b t)
    pub new : length (run_heap (numbers_of b) (seat_by b s).seen).nodes ≤ (ids_of b t).node r
    pub node : slice_get (run_heap (numbers_of b) (seat_by b t).seen).nodes ((ids_of b t).node r) ≡ Some (new_node s.agent)

  -- the rows that were tried, from `begin` on, couldn't be given
  pub record TriedRows (b : Bounds) (begin rows offset : ℕ) (s t : MachineView N) : Type 0 where
    pub idle : Idles b s t
    pub found : (k : ℕ) → k < offset → Found b s.agent s.journal t.journal ((begin + k) % rows)

  -- all rows were tried, once round from `begin` on, and none could be given
  abbrev pub TriesAll : Bounds → ℕ → MachineView N → MachineView N → Type 0
  TriesAll b begin s t = TriedRows b begin b.rows b.rows s t
