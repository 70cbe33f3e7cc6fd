-- The state of the machine, and one step of it.
use Rattle.std.specs.Prelude.{◌≡◌, ℕ, ◌<◌, ◌≤◌, Bool, true, false, nat_lt, None, List, [], replicate, length, slice_index, slice_index_or, slice_set}
use Rattle.orc_words.specs.declared.place.Word.{Word}
use Rattle.orc_words.specs.declared.place.Word.TheVariants.{Enrolled}
use Rattle.orc_words.specs.Bounds.{Bounds, IsShape}
use Rattle.orc_words.specs.NewWords.{new_words}
use Rattle.orc_words.specs.Places.{place, places}
use Rattle.orc_core.specs.declared.records.Agent.{Agent}
use Rattle.orc_core.specs.declared.records.SlotUse.TheVariants.{Empty}
use Rattle.orc_core.specs.declared.ops.Op.{Op}
use Rattle.orc_words.specs.Operations.{word_after, answer_of}
use Rattle.orc_core.specs.Actions.{action_of}
use Rattle.orc_core.specs.After.{after}
use Rattle.orc_core.specs.Allowed.{may}

-- all words by their places, and the agents' records by their numbers
pub record Machine : Type 0 where
  pub bounds : Bounds
  pub words : List ℕ
  pub agents : List Agent

-- the empty record, with this room in its work list
abbrev pub nobody : ℕ → Agent
nobody room = record {
  enrolled = false;
  slots = replicate 8 Empty;
  fresh = None;
  looked = None;
  checked = None;
  inc = None;
  dec = None;
  due = None;
  hand = None;
  scan = None;
  doom = None;
  list = record { items = []; room = room };
}

-- the record of an agent; an empty one for a number that no agent has
abbrev pub record_at : Machine → ℕ → Agent
record_at m a = slice_index_or m.agents a (nobody m.bounds.rows)

-- what a word holds
abbrev pub word_in : Machine → Word → ℕ
word_in m w = slice_index m.words (place m.bounds w)

-- the agent may make the step in this state
abbrev pub is_allowed : Machine → ℕ → Op → Bool
is_allowed m a op = may m.bounds (word_in m Enrolled) a op (record_at m a)

-- the word that the step reads
abbrev pub word_read : Machine → ℕ → Op → ℕ
word_read m a op = word_in m (action_of a op (record_at m a)).word

-- the place of that word, by the agent's record
abbrev pub place_acted_on : Bounds → ℕ → Op → Agent → ℕ
place_acted_on b a op d = place b (action_of a op d).word

-- one word and one record are written
abbrev pub step : Machine → ℕ → Op → Machine
step m a op = record {
  bounds = m.bounds;
  words = slice_set m.words (place m.bounds (action_of a op (record_at m a)).word) (word_after (action_of a op (record_at m a)).operation (word_read m a op));
  agents = slice_set m.agents a (after op (record_at m a) (word_read m a op));
}

-- what the step answers
abbrev pub answer : Machine → ℕ → Op → ℕ
answer m a op = answer_of (action_of a op (record_at m a)).operation (word_read m a op)

-- each agent's work list has this room
abbrev pub EachWithRoom : ℕ → List Agent → Type 0
EachWithRoom room agents = (a : ℕ) → a < length agents → (slice_index_or agents a (nobody room)).list.room ≡ room

-- all words and all records are there, and each work list has room for all rows
pub record IsWhole (m : Machine) : Type 0 where
  pub shape : IsShape m.bounds
  pub words : length m.words ≡ places m.bounds
  pub agents : length m.agents ≡ m.bounds.agents
  pub rooms : EachWithRoom m.bounds.rows m.agents

-- the step, if it is allowed, leaves the agent's work list with no more rows than the table has
abbrev pub LeavesRoom : Machine → ℕ → Op → Type 0
LeavesRoom m a op = is_allowed m a op ≡ true → length (after op (record_at m a) (word_read m a op)).list.items ≤ m.bounds.rows

-- the agent's work list has a free place
abbrev pub has_room : Machine → ℕ → Bool
has_room m a = nat_lt (length (record_at m a).list.items) m.bounds.rows

-- a new table's words, and empty records
abbrev pub new_machine : Bounds → Machine
new_machine b = record { bounds = b; words = new_words b; agents = replicate b.agents (nobody b.rows) }
