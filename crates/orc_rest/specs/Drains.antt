-- Draining: an agent takes in all eight of its handover words, and settles.
use Rattle.std.specs.Prelude.{List, ◌++◌, ◌+◌, ◌<◌, ◌≡◌, ℕ}
use Rattle.orc_core.specs.Machine.{Machine, record_at, word_in}
use Rattle.orc_core.specs.Runs.{IsLawful, run}
use Rattle.orc_core.specs.declared.ops.Op.{Op}
use Rattle.orc_rest.specs.Records.{IsBetweenRounds, IsDone}
use Rattle.orc_rest.specs.Turns.{AllOf, IsReachedState, NoSlotsBut, NoneHanded, NoneOf, StaysZero}
use Rattle.orc_words.specs.declared.place.Word.TheVariants.{Handover}

-- the agent took in its handover words from slot k on: if all steps are its own, and its handover words below k were 0, all are 0
pub record TookIn (a k : ℕ) (m n : Machine) : Type 0 where
  pub steps : List (ℕ × Op)
  pub lawful : IsLawful m steps
  pub is : n ≡ run m steps
  pub reached : IsReachedState n
  pub bounds : n.bounds ≡ m.bounds
  pub hands : AllOf a steps → ((j : ℕ) → j < k → word_in m (Handover a j) ≡ 0) → NoneHanded a n
  pub others : AllOf a steps → NoSlotsBut a m → StaysZero a m n

-- the agent drained. Where the steps from its own first one on are all its own, it has no retired row to see to, and its handover
-- words are 0; and, where no other agent's slot named a row at that step, those of others that were 0 are 0
pub record Drained (a : ℕ) (m n : Machine) : Type 0 where
  pub steps : List (ℕ × Op)
  pub lawful : IsLawful m steps
  pub is : n ≡ run m steps
  pub done : (o p : List (ℕ × Op)) → steps ≡ o ++ p → NoneOf a o → AllOf a p → IsDone (record_at n a)
  pub hands : (o p : List (ℕ × Op)) → steps ≡ o ++ p → NoneOf a o → AllOf a p → NoneHanded a n
  pub others : (o p : List (ℕ × Op)) → steps ≡ o ++ p → NoneOf a o → AllOf a p → NoSlotsBut a (run m o) → StaysZero a (run m o) n

-- the agent drained while no other agent stepped
pub record DrainedAlone (a : ℕ) (m n : Machine) : Type 0 where
  pub drained : Drained a m n
  pub alone : AllOf a drained.steps
  pub between : IsBetweenRounds (record_at n a)

-- agent 0 drained alone, then agent 1, and so on up to n agents; these are the states between
abbrev pub DrainedInOrder : ℕ → (ℕ → Machine) → Type 0
DrainedInOrder n ms = (i : ℕ) → i < n → DrainedAlone i (ms i) (ms (i + 1))
