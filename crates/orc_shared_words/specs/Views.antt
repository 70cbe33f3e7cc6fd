-- How views of passes are made, cut in two and put together.
use Rattle.orc_shared_words.specs.Lists.{Among}
use Rattle.orc_shared_words.specs.Runs.{Rules}
use Rattle.orc_shared_words.specs.declared.journal.View.{View}
use Rattle.std.specs.Prelude.{None, Option, Some, [], ℕ, ◌++◌, ◌+◌, ◌∷◌, ◌≡◌, ◌⊎◌}

-- the number to be handed out next
abbrev pub next_number : Option ℕ → Option ℕ
next_number None = None
next_number (Some n) = Some (n + 1)

-- the agent of a pass
abbrev pub agent_of : Option ℕ → ℕ
agent_of None = 0
agent_of (Some a) = a

module _ {S Rec : Type 0} where
  -- the pass is that of agent b, or took it in for good
  abbrev pub Covers : View S Rec → ℕ → Type 0
  Covers v b = (v.agent ≡ Some b) ⊎ Among b v.also

  -- a pass keeps a note's list beside its own
  abbrev pub keeping : View S Rec → View S Rec → View S Rec
  keeping v w = record v { kept = w.seen }

  -- a pass takes in another for good, and what that one had taken in
  abbrev pub absorbing : View S Rec → View S Rec → View S Rec
  absorbing v w = record v { also = agent_of w.agent ∷ w.also ++ v.also; taken = w.seen ∷ w.taken ++ v.taken }

  -- the maker has handed out a number
  abbrev pub one_handed : View S Rec → View S Rec
  one_handed v = record v { free = next_number v.free }

module _ {K S Op Rec N : Type 0} (r : Rules K S Op Rec N) where
  -- a note has the list of its pass, and no agent
  abbrev pub note_of : View S Rec → View S Rec
  note_of v = record { seen = v.seen; kept = []; agent = None; free = None; born = r.blank; also = []; taken = []; own = r.blank }

  -- a spent view knows nothing and has no agent
  abbrev pub spent_view : View S Rec
  spent_view = record { seen = []; kept = []; agent = None; free = None; born = r.blank; also = []; taken = []; own = r.blank }

  -- the pass of the next agent: it has seen what the maker has, and its record is the one that the maker hands out
  abbrev pub next_pass : View S Rec → View S Rec
  next_pass v = record { seen = v.seen; kept = []; agent = v.free; free = None; born = r.blank; also = []; taken = []; own = v.born }

  -- the first pass is that of agent 0, and has seen the opening
  abbrev pub first_view : K → View S Rec
  first_view k = record { seen = r.opening k; kept = []; agent = Some 0; free = Some 1; born = r.born k; also = []; taken = []; own = r.own k (r.opening k) 0 }
