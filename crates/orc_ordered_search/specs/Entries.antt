-- Where the entries of a set's history may stand.
use Rattle.std.specs.Prelude.{Bool, List, None, Option, Some, false, slice_get, true, ℕ, ◌∷◌, ◌≡◌, ◌⊎◌}
use Rattle.orc_heap.specs.Allowed.{AllowedLater}
use Rattle.orc_heap.specs.Heap.{HeapNumbers, Node, link_to, null}
use Rattle.orc_heap.specs.Journals.{FitsAfter, event_by, run_heap}
use Rattle.orc_heap.specs.declared.events.Act.TheVariants.{Aim, Look, Move}
use Rattle.orc_heap.specs.declared.events.Event.{Event}
use Rattle.orc_heap.specs.declared.events.Link.{Link}
use Rattle.orc_heap.specs.declared.events.Place.{Place}
use Rattle.orc_heap.specs.declared.events.Place.TheVariants.{Next}
use Rattle.orc_history.specs.declared.set.SetEntry.{SetEntry}
use Rattle.orc_history.specs.declared.set.SetEntry.TheVariants.{Added, Asked, Removed}
use Rattle.orc_ordered_chains.specs.Chains.{FollowsOn, HasRank, IsAbove, IsChainPlace, IsRun, link_over}
use Rattle.orc_ordered_search.specs.Reading.{Reading}
use Rattle.orc_ordered_search.specs.declared.call.Call.{Call}
use Rattle.orc_ordered_search.specs.declared.call.Call.TheVariants.{Ask, Remove}

-- a node that was given to the agent, to which nothing links, with these values, aimed at this target
abbrev pub node_to_link : ℕ → ℕ → ℕ → Option ℕ → Node
node_to_link agent value kind to =
    record { giver = agent; first = Some value; second = Some kind; link = link_over to; side = null; named = false; linked = false }

-- an answer of this agent that the key is absent
abbrev pub IsAbsence : ℕ → ℕ → SetEntry → Type 0
IsAbsence agent key entry = (entry ≡ Removed agent key false) ⊎ (entry ≡ Asked agent key false)

-- and one that it is present
abbrev pub IsPresence : ℕ → ℕ → SetEntry → Type 0
IsPresence agent key entry = (entry ≡ Added agent key false) ⊎ (entry ≡ Asked agent key true)

-- what a call enters that answers so
abbrev pub entry_by : Call → ℕ → ℕ → Bool → SetEntry
entry_by Ask agent key answer = Asked agent key answer
entry_by Remove agent key answer = Removed agent key answer

-- an Aim is allowed wherever it fits
abbrev pub AllowsAim : {N : Type 0} → HeapNumbers → (List (Event N) → Event N → Type 0) → Type 0
AllowsAim {N} n may = (agent id : ℕ) (to : Option ℕ) (es : List (Event N)) → FitsAfter n es (event_by agent (Aim id to) None)
    → may es (event_by agent (Aim id to) None)

-- a Move with this note of the agent's may lead an unmarked link of a place below the rank, from which a run of marked nodes leads to null or
-- above the rank, to the agent's new node with these values, which is aimed at the same target
abbrev pub AllowsNode : {N : Type 0} → Reading N → (List (Event N) → Type 0) → (List (Event N) → Event N → Type 0) → ℕ → ℕ → ℕ → ℕ → N → Type 0
AllowsNode {N} r holds may rank value kind agent noted = (place : Place) (from : Link) (over : List ℕ) (to : Option ℕ) (id : ℕ) (seen : List (Event N))
    → holds seen → FollowsOn r.order (run_heap r.numbers seen) place rank → from.mark ≡ false → IsRun (run_heap r.numbers seen) from over to
    → IsAbove r.order (run_heap r.numbers seen) to rank → slice_get (run_heap r.numbers seen).nodes id ≡ Some (node_to_link agent value kind to)
    → AllowedLater may r.numbers agent seen place from (event_by agent (Move place from (link_to id)) (Some noted))

module _ {N : Type 0} (r : Reading N) (holds : List (Event N) → Type 0) (may : List (Event N) → Event N → Type 0) (rank_of : ℕ → ℕ) (noted : SetEntry → N) where
  -- a Look may tell of the key's absence that found an unmarked link of a place below the key's rank, from which a run of marked nodes
  -- leads to null or above the rank
  abbrev pub AllowsAbsence : Type 0
  AllowsAbsence = (agent : ℕ) (place : Place) (from : Link) (over : List ℕ) (to : Option ℕ) (key : ℕ) (entry : SetEntry) (seen : List (Event N))
      → IsAbsence agent key entry → holds seen → FollowsOn r.order (run_heap r.numbers seen) place (rank_of key) → from.mark ≡ false
      → IsRun (run_heap r.numbers seen) from over to → IsAbove r.order (run_heap r.numbers seen) to (rank_of key)
      → AllowedLater may r.numbers agent seen place from (event_by agent (Look place from) (Some (noted entry)))

  -- one may tell of its presence that found the link of a node with the key's rank unmarked
  abbrev pub AllowsPresence : Type 0
  AllowsPresence = (agent id key : ℕ) (link : Link) (entry : SetEntry) (seen : List (Event N)) → IsPresence agent key entry → holds seen
      → HasRank r.order (run_heap r.numbers seen) id (rank_of key) → link.mark ≡ false
      → AllowedLater may r.numbers agent seen (Next id) link (event_by agent (Look (Next id) link) (Some (noted entry)))

  -- a Move may take a key out that marks the unmarked link of a node with the key's rank
  abbrev pub AllowsMark : Type 0
  AllowsMark = (agent id key : ℕ) (link : Link) (seen : List (Event N)) → holds seen → HasRank r.order (run_heap r.numbers seen) id (rank_of key)
      → link.mark ≡ false
      → AllowedLater may r.numbers agent seen (Next id) link
      (event_by agent (Move (Next id) link (record { to = link.to; mark = true })) (Some (noted (Removed agent key true))))

  -- one may add a key to which the agent has a new node, with the key as its first value
  abbrev pub AllowsAdd : ℕ → Type 0
  AllowsAdd kind = (agent key : ℕ) → AllowsNode r holds may (rank_of key) key kind agent (noted (Added agent key true))

-- a Move with this note may lead a place of a chain past a run of marked nodes
abbrev pub AllowsUnlink : {N : Type 0} → Reading N → (List (Event N) → Type 0) → (List (Event N) → Event N → Type 0) → N → Type 0
AllowsUnlink {N} r holds may unlinking = (agent : ℕ) (place : Place) (from : Link) (first : ℕ) (others : List ℕ) (to : Option ℕ) (seen : List (Event N))
    → holds seen → IsChainPlace r.order (run_heap r.numbers seen) place → from.mark ≡ false → IsRun (run_heap r.numbers seen) from (first ∷ others) to
    → AllowedLater may r.numbers agent seen place from (event_by agent (Move place from (link_over to)) (Some unlinking))
