-- Queue history: the calls of a queue, one after another, as those of a plain list (Michael and Scott 1996).
use Rattle.std.specs.Prelude.{◌≡◌, ℕ, ◌+◌, List, [], ◌∷◌, ◌++◌, Option, Some, None, drop}
use Rattle.orc_history.specs.declared.queue.QueueEntry.{QueueEntry}
use Rattle.orc_history.specs.declared.queue.QueueEntry.TheVariants.{Put, Took, Empty}

-- the agent that made the call
abbrev pub agent_of_entry : QueueEntry → ℕ
agent_of_entry (Put agent job at) = agent
agent_of_entry (Took agent job at) = agent
agent_of_entry (Empty agent) = agent

-- what a dequeue of this agent with this answer enters
abbrev pub entry_of_dequeue : ℕ → Option (ℕ × ℕ) → QueueEntry
entry_of_dequeue agent None = Empty agent
entry_of_dequeue agent (Some got) = Took agent got.0 got.1

-- how many Puts stand in the history
abbrev pub puts_in : List QueueEntry → ℕ
puts_in [] = 0
puts_in (Put agent job at ∷ es) = puts_in es + 1
puts_in (Took agent job at ∷ es) = puts_in es
puts_in (Empty agent ∷ es) = puts_in es

-- the jobs with their positions that wait after the history, where these waited before it
abbrev pub waiting_after : List (ℕ × ℕ) → List QueueEntry → List (ℕ × ℕ)
waiting_after waiting [] = waiting
waiting_after waiting (Put agent job at ∷ es) = waiting_after (waiting ++ (job, at) ∷ []) es
waiting_after waiting (Took agent job at ∷ es) = waiting_after (drop 1 waiting) es
waiting_after waiting (Empty agent ∷ es) = waiting_after waiting es

-- from these waiting jobs on, a Put appends at the next position, a Took takes the front, and an Empty finds none
abbrev pub IsLegalFrom : ℕ → List (ℕ × ℕ) → List QueueEntry → Type 0
IsLegalFrom next waiting [] = Unit {0}
IsLegalFrom next waiting (Put agent job at ∷ es) = (at ≡ next) × IsLegalFrom (next + 1) (waiting ++ (job, at) ∷ []) es
IsLegalFrom next waiting (Took agent job at ∷ es) =
    (rest : List (ℕ × ℕ)) × (waiting ≡ (job, at) ∷ rest) × IsLegalFrom next rest es
IsLegalFrom next waiting (Empty agent ∷ es) = (waiting ≡ []) × IsLegalFrom next waiting es

-- the history is that of a queue that starts empty, where the first Put has this position
abbrev pub IsLegalQueue : ℕ → List QueueEntry → Type 0
IsLegalQueue first history = IsLegalFrom first [] history
