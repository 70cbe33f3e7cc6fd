-- What a pass has to see to, what passes learn from each other, and which pass has seen all.
use Rattle.std.specs.Prelude.{List, None, [], cond, is_some, length, replicate, true, ℕ, ◌+◌, ◌++◌, ◌<◌, ◌∷◌, ◌≡◌, ◌||◌, ◌⊎◌}
use Rattle.orc_core.specs.declared.records.Agent.{Agent}
use Rattle.orc_core.specs.declared.records.SlotUse.TheVariants.{Empty}
use Rattle.orc_history.specs.Journals.{own_of}
use Rattle.orc_machine_board.specs.Views.{MachineView}
use Rattle.orc_shared_words.specs.Lists.{Among, IsLonger}
use Rattle.orc_sound.specs.declared.steps.Step.{Step}
use Rattle.orc_words.specs.Bounds.{Bounds}

-- the entries of the work list, and one more where the agent keeps a hand or a scan
abbrev pub backlog_in : Agent → ℕ
backlog_in d = length d.list.items + cond (is_some d.hand || is_some d.scan) 1 0

-- the agent is enrolled; it has no row in a slot, fresh, pending, in hand or listed
pub record HasNothing (d : Agent) : Type 0 where
  pub enrolled : d.enrolled ≡ true
  pub slots : d.slots ≡ replicate 8 Empty
  pub fresh : d.fresh ≡ None
  pub due : d.due ≡ None
  pub inc : d.inc ≡ None
  pub dec : d.dec ≡ None
  pub hand : d.hand ≡ None
  pub scan : d.scan ≡ None
  pub doom : d.doom ≡ None
  pub list : d.list.items ≡ []

module _ {N : Type 0} where
  -- the steps of an agent
  abbrev pub steps_of : ℕ → List (Step N) → List (Step N)
  steps_of a j = own_of (λ s. s.agent) a j

  -- a pass is the same but for what it has seen, where no step of its agent, or of one that it took in, is new
  pub record SameButSteps (s t : MachineView N) : Type 0 where
    pub agent : t.agent ≡ s.agent
    pub record_is : t.record_is ≡ s.record_is
    pub absorbed : t.absorbed ≡ s.absorbed
    pub own : steps_of s.agent t.journal ≡ steps_of s.agent s.journal
    pub retired : (a : ℕ) → Among a s.absorbed → steps_of a t.journal ≡ steps_of a s.journal

  -- two passes, s and u, are now t and w, and both have seen the longer one of their two lists
  pub record LearnsSteps (s u t w : MachineView N) : Type 0 where
    pub longer : IsLonger s.journal u.journal t.journal
    pub both : w.journal ≡ t.journal
    pub into : SameButSteps s t
    pub from : SameButSteps u w

  -- a pass, which was s and is t, has taken in the pass u for good, and has seen the longer one of their two lists; no step of
  -- its agent, of u's, or of one that either had taken in, is new
  pub record AbsorbsSteps (s u t : MachineView N) : Type 0 where
    pub longer : IsLonger s.journal u.journal t.journal
    pub agent : t.agent ≡ s.agent
    pub record_is : t.record_is ≡ s.record_is
    pub absorbed : t.absorbed ≡ u.agent ∷ u.absorbed ++ s.absorbed
    pub own : steps_of s.agent t.journal ≡ steps_of s.agent s.journal
    pub retired : (a : ℕ) → Among a s.absorbed → steps_of a t.journal ≡ steps_of a s.journal
    pub taken : (a : ℕ) → (a ≡ u.agent) ⊎ Among a u.absorbed → steps_of a t.journal ≡ steps_of a u.journal

  -- each agent is the pass's own, or one that it took in
  abbrev pub TookInAll : Bounds → MachineView N → Type 0
  TookInAll b s = (a : ℕ) → a < b.agents → (a ≡ s.agent) ⊎ Among a s.absorbed
