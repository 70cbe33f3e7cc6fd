-- What a pass learns from others, and a desk from the desks of a team.
use Rattle.std.specs.List.{AllByRecursion}
use Rattle.std.specs.Prelude.{◌≡◌, ◌≢◌, ℕ, List}
use mathlib.Core.List.{IsPrefix}
use Rattle.orc_history.specs.Journals.{LearnsEntries, own_of}
use Rattle.orc_history.specs.Lists.{Pairwise}
use Rattle.orc_team.specs.declared.team.Worker.{Worker}
use Rattle.orc_team.specs.Site.{Site}

-- of passes W: its agent, and what it has seen; and the entries of an agent in a journal
module _ {W A E : Type 0} (agent : W → ℕ) (journal : W → List A) (own : ℕ → List A → List E) where
  -- what the pass has seen stands in the list, and it has no new entry of its own
  pub record IsHeard (list : List A) (w v : W) : Type 0 where
    pub agent_is : agent v ≡ agent w
    pub begins : IsPrefix (journal w) (journal v)
    pub seen : IsPrefix (journal v) list
    pub own_is : own (agent w) (journal v) ≡ own (agent w) (journal w)

  -- the pass has seen the list, in which the entries of its agent are those that it had seen before
  pub record HasSeenAll (list : List A) (w v : W) : Type 0 where
    pub agent_is : agent v ≡ agent w
    pub begins : IsPrefix (journal w) list
    pub is : journal v ≡ list
    pub own_is : own (agent w) list ≡ own (agent w) (journal w)

  -- one pass has learned from each of the others once; had it seen all before, then nothing is new and all have seen it
  pub record Learned (me : ℕ) (before after : List A) (ws vs : List W) : Type 0 where
    pub grows : IsPrefix before after
    pub own_is : own me after ≡ own me before
    pub each : Pairwise (IsHeard after) ws vs
    pub again : AllByRecursion (λ w. IsPrefix (journal w) before) ws → (after ≡ before) × Pairwise (HasSeenAll after) ws vs

  -- one pass has learned from all others twice over
  pub record LearnedAll (me : ℕ) (before after : List A) (ws vs : List W) : Type 0 where
    pub grows : IsPrefix before after
    pub own_is : own me after ≡ own me before
    pub each : Pairwise (HasSeenAll after) ws vs

-- at most the passes have changed
pub record SameWorker {D T : Type 0} (w v : Worker D T) : Type 0 where
  pub agent_is : v.agent ≡ w.agent
  pub replies_are : v.replies ≡ w.replies

-- in each container the passes of two desks learned from each other
abbrev pub LearnEach : {D : Type 0} → Site D → ℕ → ℕ → D → D → D → D → Type 0
LearnEach s me other a b a2 b2 =
    (c : s.Container) → LearnsEntries (s.history c) (s.agent_of c) me other (s.journal c a) (s.journal c b) (s.journal c a2) (s.journal c b2)

-- the entries of an agent in a journal of a container
abbrev pub own_in : {D : Type 0} → (s : Site D) → (c : s.Container) → ℕ → List (s.Step c) → List (s.Entry c)
own_in s c agent j = own_of (s.agent_of c) agent (s.history c j)

module _ {D T : Type 0} (s : Site D) where
  -- a worker at a desk of its own, which is another agent than this one
  pub record IsOther (me : ℕ) (w : Worker D T) : Type 0 where
    pub is_desk : s.usable w.agent w.desk
    pub other : me ≢ w.agent

  -- in each container the desk's pass learned from those of these workers once
  abbrev pub LearnsOnce : ℕ → D → D → List (Worker D T) → List (Worker D T) → Type 0
  LearnsOnce me old new ws vs = (c : s.Container) → Learned (λ (w : Worker D T). w.agent) (λ (w : Worker D T). s.journal c w.desk) (own_in s c) me
      (s.journal c old) (s.journal c new) ws vs

  -- in each container the desk's pass learned from those of these workers twice over
  abbrev pub LearnsAll : ℕ → D → D → List (Worker D T) → List (Worker D T) → Type 0
  LearnsAll me old new ws vs = (c : s.Container) → LearnedAll (λ (w : Worker D T). w.agent) (λ (w : Worker D T). s.journal c w.desk) (own_in s c) me
      (s.journal c old) (s.journal c new) ws vs
