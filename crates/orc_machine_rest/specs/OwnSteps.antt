-- The steps that a call's agent makes: at most how many, and that what was handed over beside a slot is taken in once the slot is clear.
use Rattle.std.specs.Prelude.{Bool, List, [], false, length, map, true, ℕ, ◌*◌, ◌++◌, ◌+◌, ◌<◌, ◌∷◌, ◌≡◌, ◌≤◌}
use Rattle.orc_core.specs.declared.ops.Op.{Op}
use Rattle.orc_core.specs.declared.ops.Op.TheVariants.{Clear, Dec, TakeIn, Unretire}
use Rattle.orc_machine_board.specs.Passes.{steps_of}
use Rattle.orc_sound.specs.declared.steps.Step.{Step}
use Rattle.orc_words.specs.Bounds.{Bounds}

-- the first of these is this op
abbrev pub FirstIs : Op → List Op → Type 0
FirstIs op [] = ⊥
FirstIs op (first ∷ rest) = first ≡ op

-- right after each Clear of a slot comes the TakeIn of that slot
abbrev pub TakesInCleared : List Op → Type 0
TakesInCleared [] = Unit {0}
TakesInCleared (Clear slot ∷ ops) = FirstIs (TakeIn slot) ops × TakesInCleared ops
TakesInCleared (op ∷ ops) = TakesInCleared ops

-- the kinds that settle and answer the word that they read
abbrev pub answers_word : Op → Bool
answers_word (Dec row) = true
answers_word (Unretire row) = true
answers_word op = false

-- the most rounds of one settling
abbrev pub most_rounds : Bounds → ℕ
most_rounds b = 4 * (b.rows + 8 * b.agents)

-- the most steps of one round: a Start, a look at each slot, an End, six for each link of the row, and two that free it
abbrev pub steps_a_round : Bounds → ℕ
steps_a_round b = 8 * b.agents + 6 * b.links + 4

module _ {N : Type 0} where
  -- the agent has at most n steps more
  abbrev pub AtMostMore : ℕ → ℕ → (before after : List (Step N)) → Type 0
  AtMostMore agent n before after = length (steps_of agent after) ≤ length (steps_of agent before) + n

  -- the ops of an agent's steps, in order
  abbrev pub ops_of : ℕ → List (Step N) → List Op
  ops_of agent j = map (λ (s : Step N). s.op) (steps_of agent j)

  -- the journal has gone on, and the agent's own ops in what is new are these
  pub record HasDone (agent : ℕ) (ops : List Op) (before after : List (Step N)) : Type 0 where
    pub part : List (Step N)
    pub is : after ≡ before ++ part
    pub own : ops_of agent part ≡ ops

  -- of each slot that the agent cleared in what is new, it took in next what was handed over beside it
  pub record LeavesNothing (agent : ℕ) (before after : List (Step N)) : Type 0 where
    pub ops : List Op
    pub done : HasDone agent ops before after
    pub taken_in : TakesInCleared ops

  -- in what is new, the agent took in what was handed over beside this slot
  pub record HasTakenIn (agent slot : ℕ) (before after : List (Step N)) : Type 0 where
    pub earlier : List Op
    pub later : List Op
    pub done : HasDone agent (earlier ++ TakeIn slot ∷ later) before after

  -- and beside each of its eight slots
  abbrev pub TakesInAll : ℕ → List (Step N) → List (Step N) → Type 0
  TakesInAll agent before after = (slot : ℕ) → slot < 8 → HasTakenIn agent slot before after
