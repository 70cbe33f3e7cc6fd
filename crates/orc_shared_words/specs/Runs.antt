-- How a journal runs, as far as shared words need it.
use Rattle.orc_heap.specs.declared.events.Event.{Event}
use Rattle.orc_layout.specs.Layout.{IsLayout}
use Rattle.std.specs.Prelude.{List, Option, [], slice_index, slice_set, ℕ, ◌++◌, ◌<◌, ◌∷◌, ◌≡◌, ◌≢◌}

-- K is the shape, S a step of a journal, Op an operation, Rec an agent's record, N a note
pub record Rules (K S Op Rec N : Type 0) : Type 1 where
  -- how many agents there are
  pub agents : K → ℕ
  -- the record of no agent, and that of each new pass of a machine of this shape
  pub blank : Rec
  pub born : K → Rec
  -- of an agent with this record, the place of the operation's word
  pub place : K → ℕ → Op → Rec → ℕ
  -- the index of a place in the table
  pub index : K → ℕ → ℕ
  -- of the number found there: the number written, the answer, and the record afterwards
  pub written : K → ℕ → Op → Rec → ℕ → ℕ
  pub answer : K → ℕ → Op → Rec → ℕ → ℕ
  pub after : K → ℕ → Op → Rec → ℕ → Rec
  -- the record allows the operation
  pub allowed : K → ℕ → Op → Rec → Type 0
  -- a step's agent, and the step of an agent, an operation and a note
  pub by : S → ℕ
  pub step : ℕ → Op → Option N → S
  -- the steps with which each journal begins
  pub opening : K → List S
  -- after a journal, the words and each agent's record
  pub words : K → List S → List ℕ
  pub own : K → List S → ℕ → Rec
  -- each step was allowed where it stands
  pub lawful : K → List S → Type 0
  -- the events of a step after a journal, and of a whole journal
  pub events : K → List S → S → List (Event N)
  pub project : K → List S → List (Event N)

-- each step is of one of the agents
abbrev pub AgentsBelow : {S : Type 0} → (S → ℕ) → ℕ → List S → Type 0
AgentsBelow by n [] = Unit {0}
AgentsBelow by n (s ∷ ss) = (by s < n) × AgentsBelow by n ss

module _ {K S Op Rec N : Type 0} (r : Rules K S Op Rec N) (k : K) where
  -- the word that a step finds after the journal
  abbrev pub found_by : List S → ℕ → Op → ℕ
  found_by j a op = slice_index (r.words k j) (r.place k a op (r.own k j a))

  -- what one more step does
  pub record Obeys : Type 0 where
    -- the words of the table stand in the order of their places
    pub layout : IsLayout (r.index k)
    pub by_step : (a : ℕ) (op : Op) (said : Option N) → r.by (r.step a op said) ≡ a
    -- it writes its word
    pub words_next : (j : List S) (a : ℕ) (op : Op) (said : Option N)
        → r.words k (j ++ r.step a op said ∷ []) ≡ slice_set (r.words k j) (r.place k a op (r.own k j a)) (r.written k a op (r.own k j a) (found_by j a op))
    -- it changes its agent's record, and no other
    pub own_next : (j : List S) (a : ℕ) (op : Op) (said : Option N) → a < r.agents k
        → r.own k (j ++ r.step a op said ∷ []) a ≡ r.after k a op (r.own k j a) (found_by j a op)
    pub own_other : (j : List S) (s : S) (b : ℕ) → b ≢ r.by s → r.own k (j ++ s ∷ []) b ≡ r.own k j b
    -- where the record allows it, the journal stays lawful
    pub lawful_next : (j : List S) (a : ℕ) (op : Op) (said : Option N) → r.lawful k j → r.allowed k a op (r.own k j a)
        → r.lawful k (j ++ r.step a op said ∷ [])
    -- it appends its events
    pub project_next : (j : List S) (s : S) → r.project k (j ++ s ∷ []) ≡ r.project k j ++ r.events k j s
