-- How a journal begins, and which pass has seen all of it.
use Rattle.orc_heap.specs.Allowed.{AllAllowed}
use Rattle.orc_heap.specs.declared.events.Event.{Event}
use Rattle.orc_layout.specs.Layout.{lay}
use mathlib.Core.List.{IsPrefix}
use Rattle.orc_shared_words.specs.Runs.{AgentsBelow, Rules}
use Rattle.orc_shared_words.specs.Views.{Covers}
use Rattle.orc_shared_words.specs.declared.journal.View.{View}
use Rattle.std.specs.Prelude.{List, [], ℕ, ◌<◌, ◌≡◌, ◌≤◌}

module _ {K S Op Rec N : Type 0} (r : Rules K S Op Rec N) (k : K) where
  -- the steps of the opening
  pub record OpensLawfully (holds : List (Event N) → Type 0) (may : List (Event N) → Event N → Type 0) : Type 0 where
    pub lawful : r.lawful k (r.opening k)
    -- each event is allowed where it stands, so that the discipline holds
    pub each : AllAllowed may [] (r.project k (r.opening k))
    pub kept : holds (r.project k (r.opening k))
    -- they are steps of agents of the machine, of which there is one
    pub below : AgentsBelow r.by (r.agents k) (r.opening k)
    pub someone : 0 < r.agents k
    -- they leave the agents after agent 0 with the record of a new pass
    pub born : (b : ℕ) → 1 ≤ b → b < r.agents k → r.own k (r.opening k) b ≡ r.born k

  -- the passes of all agents are in this one
  abbrev pub OwnsAll : View S Rec → Type 0
  OwnsAll v = (b : ℕ) → b < r.agents k → Covers v b

  -- a journal that is the whole one, and the words that it leaves, each at the index of its place
  pub record Whole (holds : List (Event N) → Type 0) (may : List (Event N) → Event N → Type 0) (j : List S) (words : List ℕ) : Type 0 where
    pub words_are : words ≡ lay (r.index k) (r.words k j)
    pub lawful : r.lawful k j
    pub opened : IsPrefix (r.opening k) j
    pub below : AgentsBelow r.by (r.agents k) j
    -- each event is allowed where it stands, so that the discipline holds
    pub each : AllAllowed may [] (r.project k j)
    pub kept : holds (r.project k j)
