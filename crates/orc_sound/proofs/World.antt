-- The state as functions: the memory by its words, and the seats by the agents' numbers.
use Rattle.std.proofs.Common.{Bool, cond, false, true, ℕ}
use Rattle.std.specs.Prelude.{nat_lt, ◌&&◌, ◌==◌}
use Rattle.orc_words.specs.Bounds.{Bounds}
use Rattle.orc_words.specs.declared.place.Word.{Word}
use Rattle.orc_words.specs.declared.place.Word.TheVariants.{Counter, Enrolled, First, Gate, Handover, Next, Root, Second, Slot, Side}
use Rattle.orc_words.specs.Operations.{word_after}
use Rattle.orc_core.specs.Actions.{action_of}
use Rattle.orc_core.specs.After.{after}
use Rattle.orc_core.specs.Machine.{Machine, record_at, word_in}
use Rattle.orc_core.specs.declared.actions.Action.{Action}
use Rattle.orc_core.specs.declared.ops.Op.{Op}
use Rattle.orc_core.specs.declared.records.Agent.{Agent}

pub record World : Type 0 where
  pub memory : Word → ℕ
  pub seats : ℕ → Agent

abbrev pub same_word : Word → Word → Bool
same_word Enrolled Enrolled = true
same_word (Root i) (Root j) = i == j
same_word (Gate i) (Gate j) = i == j
same_word (Counter i) (Counter j) = i == j
same_word (First i) (First j) = i == j
same_word (Second i) (Second j) = i == j
same_word (Next i) (Next j) = i == j
same_word (Side i) (Side j) = i == j
same_word (Slot a i) (Slot b j) = (a == b) && (i == j)
same_word (Handover a i) (Handover b j) = (a == b) && (i == j)
same_word _ _ = false

-- the memory with v at w
abbrev pub write : (Word → ℕ) → Word → ℕ → Word → ℕ
write m w v x = cond (same_word x w) v (m x)

abbrev pub seat : (ℕ → Agent) → ℕ → Agent → ℕ → Agent
seat seats a d b = cond (b == a) d (seats b)

-- the step, by its parts: d the old record, t the action
abbrev pub stepped : World → ℕ → Op → Agent → Action → World
stepped m a op d t = record {
  memory = write m.memory t.word (word_after t.operation (m.memory t.word));
  seats = seat m.seats a (after op d (m.memory t.word));
}

abbrev pub step_world : World → ℕ → Op → World
step_world m a op = stepped m a op (m.seats a) (action_of a op (m.seats a))

abbrev pub is_within : Bounds → Word → Bool
is_within s Enrolled = true
is_within s (Root i) = nat_lt i s.roots
is_within s (Gate r) = nat_lt r s.rows
is_within s (Counter r) = nat_lt r s.rows
is_within s (First r) = nat_lt r s.rows
is_within s (Second r) = nat_lt r s.rows
is_within s (Next r) = nat_lt r s.rows
is_within s (Side r) = nat_lt r s.rows && nat_lt 1 s.links
is_within s (Slot a k) = nat_lt a s.agents && nat_lt k 8
is_within s (Handover a k) = nat_lt a s.agents && nat_lt k 8

-- the state as functions. A word that is not within the shape is 0
abbrev pub world_of : Machine → World
world_of m = record { memory = λ w. cond (is_within m.bounds w) (word_in m w) 0; seats = λ a. record_at m a }

-- the word that the step reads, and the record that it leaves
abbrev pub read_by : World → ℕ → Op → ℕ
read_by z a op = z.memory (action_of a op (z.seats a)).word

abbrev pub record_by : World → ℕ → Op → Agent
record_by z a op = after op (z.seats a) (read_by z a op)
