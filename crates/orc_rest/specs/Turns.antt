-- What steps of one agent, with steps of others between them, do to the states around them.
use Rattle.std.specs.Prelude.{List, [], true, ◌++◌, ◌+◌, ◌<◌, ◌∷◌, ◌≡◌, ◌≢◌, ◌≤◌, ℕ}
use Rattle.orc_core.specs.Machine.{Machine, new_machine, record_at, word_in}
use Rattle.orc_core.specs.RecordParts.{is_empty, slot_of}
use Rattle.orc_core.specs.Runs.{IsLawful, run}
use Rattle.orc_core.specs.declared.ops.Op.{Op}
use Rattle.orc_rest.specs.Work.{work_left}
use Rattle.orc_words.specs.Bounds.{Bounds, IsShape}
use Rattle.orc_words.specs.declared.place.Word.TheVariants.{Handover}

-- the state after some lawful list of steps from a new one
pub record IsReachedState (m : Machine) : Type 0 where
  pub bounds : Bounds
  pub steps : List (ℕ × Op)
  pub shape : IsShape bounds
  pub lawful : IsLawful (new_machine bounds) steps
  pub is : m ≡ run (new_machine bounds) steps

-- each step is the agent's
abbrev pub AllOf : ℕ → List (ℕ × Op) → Type 0
AllOf a [] = Unit {0}
AllOf a (s ∷ ss) = (s.0 ≡ a) × AllOf a ss

-- no step is the agent's
abbrev pub NoneOf : ℕ → List (ℕ × Op) → Type 0
NoneOf a [] = Unit {0}
NoneOf a (s ∷ ss) = (s.0 ≢ a) × NoneOf a ss

-- others step, and then the agent makes this step
pub record MadeAfterOthers (a : ℕ) (op : Op) (m n : Machine) : Type 0 where
  pub others : List (ℕ × Op)
  pub apart : NoneOf a others
  pub lawful : IsLawful m (others ++ (a, op) ∷ [])
  pub is : n ≡ run m (others ++ (a, op) ∷ [])

-- the agent's own handover words are 0
abbrev pub NoneHanded : ℕ → Machine → Type 0
NoneHanded a m = (k : ℕ) → k < 8 → word_in m (Handover a k) ≡ 0

-- no slot of another agent names a row
abbrev pub NoSlotsBut : ℕ → Machine → Type 0
NoSlotsBut a m = (x j : ℕ) → x ≢ a → is_empty (slot_of (record_at m x) j) ≡ true

-- handover words of other agents that were 0 are 0
abbrev pub StaysZero : ℕ → Machine → Machine → Type 0
StaysZero a m n = (x k : ℕ) → x < m.bounds.agents → k < 8 → x ≢ a → word_in m (Handover x k) ≡ 0 → word_in n (Handover x k) ≡ 0

-- some steps lead from one state to another. If all are the agent's own, the work that is left to it falls by so much, and handover
-- words that were 0 are 0: its own, and, where no other agent's slot names a row, those of others
pub record Turn (a drop : ℕ) (m n : Machine) : Type 0 where
  pub steps : List (ℕ × Op)
  pub lawful : IsLawful m steps
  pub is : n ≡ run m steps
  pub falls : AllOf a steps → work_left n a + drop ≤ work_left m a
  pub hands : AllOf a steps → NoneHanded a m → NoneHanded a n
  pub others : AllOf a steps → NoSlotsBut a m → StaysZero a m n
