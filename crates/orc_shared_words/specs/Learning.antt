-- What passes learn from each other.
use Rattle.orc_shared_words.specs.Lists.{IsLonger}
use Rattle.orc_history.specs.Journals.{own_of}
use Rattle.orc_shared_words.specs.Views.{Covers}
use Rattle.orc_shared_words.specs.declared.journal.View.{View}
use Rattle.std.specs.Prelude.{ℕ, ◌≡◌}

module _ {S Rec : Type 0} where
  -- the pass is the same but for what it has seen, where no step of an agent that it covers is new
  pub record SameButSeen (by : S → ℕ) (v w : View S Rec) : Type 0 where
    pub agent : w.agent ≡ v.agent
    pub free : w.free ≡ v.free
    pub also : w.also ≡ v.also
    pub mine : w.own ≡ v.own
    pub steps : (b : ℕ) → Covers v b → own_of by b w.seen ≡ own_of by b v.seen

  -- the pass has seen the longer one of its list and of the list that it kept
  pub record Confirmed (by : S → ℕ) (v w : View S Rec) : Type 0 where
    pub one : IsLonger v.seen v.kept w.seen
    pub same : SameButSeen by v w

  -- two passes, v and u, learned from each other, and are now w and x
  pub record LearnedBoth (by : S → ℕ) (v u w x : View S Rec) : Type 0 where
    -- both have seen one list, the longer one
    pub longer : IsLonger v.seen u.seen w.seen
    pub both : x.seen ≡ w.seen
    -- and are the same but for that
    pub into : SameButSeen by v w
    pub from : SameButSeen by u x
