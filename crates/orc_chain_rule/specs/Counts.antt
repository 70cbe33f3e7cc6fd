-- How many Unlinks, Added true and Removed true stand in a list of events and its history, the entries of other agents, and the
-- marked nodes that are still on a chain.
use Rattle.std.specs.Prelude.{Contains, List, Option, Some, None, [], filter, if◌then◌else◌, not, true, ℕ, ◌+◌, ◌==◌, ◌∷◌, ◌≡◌}
use Rattle.orc_heap.specs.Allowed.{HasLink}
use Rattle.orc_heap.specs.Heap.{Heap}
use Rattle.orc_heap.specs.declared.events.Event.{Event}
use Rattle.orc_heap.specs.declared.events.Link.{Link}
use Rattle.orc_history.specs.SetHistory.{agent_of_set_entry}
use Rattle.orc_history.specs.declared.set.SetEntry.{SetEntry}
use Rattle.orc_history.specs.declared.set.SetEntry.TheVariants.{Added, Asked, Removed}
use Rattle.orc_chain_rule.specs.declared.chain.ChainNote.{ChainNote}
use Rattle.orc_chain_rule.specs.declared.chain.ChainNote.TheVariants.{Entry, Unlink}
use Rattle.orc_ordered_chains.specs.Chains.{IsOnChain}

-- 1 for an Unlink, and 0 for anything else
abbrev pub unlinks_with : Option ChainNote → ℕ
unlinks_with (Some Unlink) = 1
unlinks_with (Some (Entry entry)) = 0
unlinks_with None = 0

-- how many Unlinks stand in the events
abbrev pub unlinks_in : List (Event ChainNote) → ℕ
unlinks_in [] = 0
unlinks_in (e ∷ es) = unlinks_with e.note + unlinks_in es

-- 1 for an entry that says that a key was taken out, and 0 for any other
abbrev pub removes_with : SetEntry → ℕ
removes_with (Added by key answer) = 0
removes_with (Removed by key answer) = if answer then 1 else 0
removes_with (Asked by key answer) = 0

-- how often a key was taken out
abbrev pub removes_in : List SetEntry → ℕ
removes_in [] = 0
removes_in (e ∷ es) = removes_with e + removes_in es

-- 1 for an entry that says that a key was added, and 0 for any other
abbrev pub adds_with : SetEntry → ℕ
adds_with (Added by key answer) = if answer then 1 else 0
adds_with (Removed by key answer) = 0
adds_with (Asked by key answer) = 0

-- how often a key was added
abbrev pub adds_in : List SetEntry → ℕ
adds_in [] = 0
adds_in (e ∷ es) = adds_with e + adds_in es

-- the entries of agents other than this one
abbrev pub entries_of_others : ℕ → List SetEntry → List SetEntry
entries_of_others agent es = filter (λ e. not (agent_of_set_entry e == agent)) es

-- the node is on a chain, and its link is marked
pub record IsLeftOver (h : Heap) (id : ℕ) : Type 0 where
  pub root : ℕ
  pub on_chain : IsOnChain h root id
  pub link : Link
  pub has_link : HasLink h id link
  pub marked : link.mark ≡ true

-- each marked node that is still on a chain is one of these
abbrev pub AreLeftOver : Heap → List ℕ → Type 0
AreLeftOver h ids = (id : ℕ) → IsLeftOver h id → Contains ids id
