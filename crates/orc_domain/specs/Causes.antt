-- Why a call of a domain refuses: what was so in the part of the journal that the call made.
use Rattle.std.specs.Prelude.{List, Some, false, length, slice_get, take, true, ℕ, ◌/◌, ◌<◌, ◌≡◌, ◌≤◌, ◌⊎◌}
use Rattle.orc_core.specs.Counts.{is_out}
use Rattle.orc_core.specs.Machine.{Machine, new_machine, word_in}
use Rattle.orc_core.specs.declared.ops.CounterUse.TheVariants.{Check}
use Rattle.orc_core.specs.declared.ops.Op.TheVariants.{CounterLoad}
use Rattle.orc_fault.specs.declared.Spent.{Spent}
use Rattle.orc_heap.specs.Allowed.{events_by}
use Rattle.orc_heap.specs.Moves.{gives_in}
use Rattle.orc_history.specs.Parts.{InPart}
use Rattle.orc_machine_board.specs.Rules.{run_of}
use Rattle.orc_projection.specs.Projection.{StoresUnmarked, project}
use Rattle.orc_sound.specs.Journals.{IsLawfulJournal}
use Rattle.orc_sound.specs.declared.steps.Step.{Step}
use Rattle.orc_words.specs.Bounds.{Bounds, IsShape, link_limit}
use Rattle.orc_words.specs.Packed.{sequence_of}
use Rattle.orc_words.specs.declared.place.Word.TheVariants.{Counter, Gate}

-- the row is free, and its life or its sequence is at the limit
pub record IsSpentFree (b : Bounds) (m : Machine) (r : ℕ) : Type 0 where
  pub free : is_out m r ≡ false
  pub spent : (b.limit ≤ word_in m (Gate r) / 2) ⊎ (b.limit ≤ sequence_of (word_in m (Counter r)))

-- the row can't be given: it is out, or it is a spent free row
abbrev pub IsTaken : Bounds → Machine → ℕ → Type 0
IsTaken b m r = (is_out m r ≡ true) ⊎ IsSpentFree b m r

module _ {N : Type 0} where
  -- the steps are those of a domain of these sizes
  pub record IsOfDomain (b : Bounds) (j : List (Step N)) : Type 0 where
    pub shape : IsShape b
    pub lawful : IsLawfulJournal (new_machine b) j
    pub unmarked : StoresUnmarked j

  -- between two places of a journal no row was given to the agent, and each row, at some state in between, couldn't be given
  pub record IsLacking (b : Bounds) (agent : ℕ) (j : List (Step N)) (from to : ℕ) : Type 0 where
    pub ordered : from ≤ to
    pub within : to ≤ length j
    pub steps : IsOfDomain b (take to j)
    pub none : gives_in (events_by agent (project b (take to j))) ≡ gives_in (events_by agent (project b (take from j)))
    pub place : (r : ℕ) → r < b.rows → ℕ
    pub first : (r : ℕ) (h : r < b.rows) → from ≤ place r h
    pub last : (r : ℕ) (h : r < b.rows) → place r h ≤ to
    pub taken : (r : ℕ) (h : r < b.rows) → IsTaken b (run_of b (take (place r h) j)) r

  -- between two places of a journal the agent read this sequence of the row, at or above the limit for links
  pub record IsWornIn (b : Bounds) (agent : ℕ) (why : Spent) (j : List (Step N)) (from to : ℕ) : Type 0 where
    pub place : ℕ
    pub first : from ≤ place
    pub last : place < to
    pub step : Step N
    pub there : slice_get j place ≡ Some step
    pub its : step.agent ≡ agent
    pub op : step.op ≡ CounterLoad why.row Check
    pub read : why.sequence ≡ sequence_of (word_in (run_of b (take place j)) (Counter why.row))
    pub high : link_limit b ≤ why.sequence

  -- in the part of the journal that a call of the agent made, it read the sequence of the row so
  abbrev pub ReadsWorn : Bounds → ℕ → (before after : List (Step N)) → Spent → Type 0
  ReadsWorn b agent before after why = InPart (λ (s : Step N). s.agent) agent before after (IsWornIn b agent why after)
