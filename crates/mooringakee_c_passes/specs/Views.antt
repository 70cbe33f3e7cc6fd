-- What an agent's place at a container shows of it, and how that goes on from before a call, `old`, to after it, `new`.
use Rattle.std.specs.Prelude.{List, [], ℕ, ◌≡◌}
use Rattle.orc_history.specs.Journals.{Adds, Within}

-- whose an entry is, and which histories are those of one such container, empty at first; the calls of the container that the place's
-- pass has seen, in their order; its agent, and the agents whose calls may come between; how many turns a call has; how many steps its
-- pass has seen; and between which two places of these a refusal has its cause
pub record CallView (E W : Type 0) : Type 1 where
  pub agent_of : E → ℕ
  pub IsLegal : List E → Type 0
  pub seen : List E
  pub agent : ℕ
  pub crowd : ℕ → Type 0
  pub turns : ℕ
  pub steps : ℕ
  pub has_cause : W → ℕ → ℕ → Type 0

module _ {E W : Type 0} where
  -- the pass has seen more calls: its own among them are these, in this order, and all of them are those of one container
  pub record GoesOn (old : CallView E W) (own : List E) (new : CallView E W) : Type 0 where
    pub turns : new.turns ≡ old.turns
    pub agent : new.agent ≡ old.agent
    pub entered : Adds old.agent_of old.crowd old.agent old.seen own new.seen
    pub legal : new.IsLegal new.seen

  -- the call entered nothing, and was refused for this cause
  pub record RefusesCall (old : CallView E W) (why : W) (new : CallView E W) : Type 0 where
    pub none : GoesOn old [] new
    pub cause : Within old.steps new.steps (new.has_cause why)
