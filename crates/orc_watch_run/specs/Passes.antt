-- The passes of a run, one for each agent, before it and after it.
use Rattle.std.specs.Prelude.{List, [], ℕ, ◌∷◌, ◌≡◌}
use Rattle.std.specs.List.{AllByRecursion}
use Rattle.orc_cell.specs.CellCalls.{IsUsable, history}
use Rattle.orc_heap.specs.Domains.{agent}
use Rattle.orc_heap.specs.declared.links.Links.{Ghosts as LinksOf}
use Rattle.orc_pairs_rule.specs.declared.pairs.PairsNote.{PairsNote}
use Rattle.orc_team.specs.Seats.{EachNumbered}
use Rattle.orc_watch.specs.declared.line.WatchLine.{WatchLine}
use Rattle.orc_watch.specs.declared.reply.WatchReply.{WatchReply}
use Rattle.orc_watch_run.specs.CellView.{cell_view}
use Rattle.orc_watch_run.specs.Follows.{WatchRepliesFollow}

module _ {L D P S : Type 0} (members : LinksOf L D P S PairsNote) (links : L) where
  -- a usable pass of this agent
  pub record IsUsablePassOf (by : ℕ) (p : P) : Type 0 where
    pub usable : IsUsable members links p
    pub agent_is : agent members links p ≡ by

  -- one that has seen no entry
  pub record IsFreshPass (by : ℕ) (p : P) : Type 0 where
    pub is_pass : IsUsablePassOf by p
    pub new : history members links p ≡ []

  -- one fresh pass per agent, in order from this one
  abbrev pub AreFresh : ℕ → List P → Type 0
  AreFresh by ps = EachNumbered IsFreshPass by ps

  -- one usable pass per agent, in order from this one
  abbrev pub AreUsable : ℕ → List P → Type 0
  AreUsable by ps = EachNumbered IsUsablePassOf by ps

  -- the journal that the first pass has seen
  abbrev pub first_seen : List P → List S
  first_seen [] = []
  first_seen (p ∷ ps) = members.journal p

  -- all passes have seen this journal
  abbrev pub HaveSeen : List S → List P → Type 0
  HaveSeen k ps = AllByRecursion (λ p. members.journal p ≡ k) ps

  -- all passes have seen the same journal
  abbrev pub HaveSeenTheSame : List P → Type 0
  HaveSeenTheSame ps = HaveSeen (first_seen ps) ps

  -- the replies and the parts that were read at last follow the journal that the first pass has seen
  abbrev pub FollowsPasses : List WatchLine → ℕ → List P → List WatchReply → ℕ → ℕ → Type 0
  FollowsPasses lines workers ps replies left right = WatchRepliesFollow (cell_view members links) lines workers replies left right (first_seen ps)
