-- The chain discipline: what the events of sorted lists of linked nodes obey. After Harris 2001.
use Rattle.std.specs.Prelude.{List, None, Option, Some, [], false, refl, slice_get, true, unwrap_or, ℕ, ◌%◌, ◌↔◌, ◌∷◌, ◌≡◌}
use Rattle.orc_heap.specs.Heap.{Heap, HeapNumbers, Node, shown}
use Rattle.orc_heap.specs.Allowed.{AreSidesNull, IsLinkedNode}
use Rattle.orc_heap.specs.Journals.{FitsAfter, IsLawful, noted_entries, run_heap}
use Rattle.orc_heap.specs.Moves.{move_with}
use Rattle.orc_heap.specs.declared.events.Act.{Act}
use Rattle.orc_heap.specs.declared.events.Act.TheVariants.{Look, Move}
use Rattle.orc_heap.specs.declared.events.Event.{Event}
use Rattle.orc_heap.specs.declared.events.Link.{Link}
use Rattle.orc_heap.specs.declared.events.Place.{Place}
use Rattle.orc_heap.specs.declared.events.Place.TheVariants.{Next, Root, Side}
use Rattle.orc_history.specs.SetHistory.{IsLegalSet, agent_of_set_entry, has, keys_after}
use Rattle.orc_history.specs.declared.set.SetEntry.{SetEntry}
use Rattle.orc_history.specs.declared.set.SetEntry.TheVariants.{Added, Removed}
use Rattle.orc_ordered_chains.specs.Answers.{MayAnswer}
use Rattle.orc_ordered_chains.specs.Chains.{AreChains as AreOrderedChains, FollowsOn as RankFollowsOn, HasRankBy, IsAboveBy, IsOnChain, MarksStay, MayLink, MayUnlink as MayLeadPast, Order}
use Rattle.orc_chain_rule.specs.declared.chain.ChainNote.{ChainNote}
use Rattle.orc_chain_rule.specs.declared.chain.ChainNote.TheVariants.{Entry, Unlink}

-- what a note enters in the history
abbrev pub entries_in : Option ChainNote → List SetEntry
entries_in (Some (Entry entry)) = entry ∷ []
entries_in noted = []

-- the set history of the events
abbrev pub entries_of : List (Event ChainNote) → List SetEntry
entries_of es = noted_entries entries_in es

-- the keys of the set after the events
abbrev pub set_after : List (Event ChainNote) → List ℕ
set_after es = keys_after [] (entries_of es)

-- the rank of a node is its key, its first value
abbrev pub by_key : Option ℕ → Option ℕ → Option ℕ
by_key first second = first

-- a chain at each root, of the keys with its remainder by the number of roots, in order
abbrev pub chain_order : ℕ → Order
chain_order roots = record { rank = by_key; root = λ key. key % roots; begins = λ root. true; begun = λ key. refl }

-- a once linked node, whose first value is this key
abbrev pub HasKey : Heap → ℕ → ℕ → Type 0
HasKey h id key = HasRankBy by_key h id key

-- no root's links lead to the node
abbrev pub IsOnNoChain : Heap → ℕ → Type 0
IsOnNoChain h id = (root : ℕ) → ¬ IsOnChain h root id

-- a root, or the first link of a once linked node: a chain has no second links
abbrev pub IsChainPlace : Place → Heap → Type 0
IsChainPlace (Root r) h = Unit {0}
IsChainPlace (Next id) h = IsLinkedNode h id
IsChainPlace (Side id) h = ⊥

-- the target is null, or a node with a greater key
abbrev pub IsAbove : Heap → Option ℕ → ℕ → Type 0
IsAbove h to key = IsAboveBy by_key h to key

-- this key may follow the place: it is of that root, or greater than the node's key and of the same root
abbrev pub FollowsOn : ℕ → Heap → Place → ℕ → Type 0
FollowsOn roots h place key = RankFollowsOn (chain_order roots) h place key

-- a node on the chain of the key's root has the key, and its own link is unmarked
pub record IsPresent (roots : ℕ) (h : Heap) (key : ℕ) : Type 0 where
  pub id : ℕ
  pub has_key : HasKey h id key
  pub link : Link
  pub at : shown h (Next id) ≡ Some link
  pub unmarked : link.mark ≡ false
  pub on_chain : IsOnChain h (key % roots) id

-- the chains of a heap, whose set has these keys
pub record AreChains (roots : ℕ) (h : Heap) (keys : List ℕ) : Type 0 where
  -- a once linked node's first value is its key
  pub keyed : (id : ℕ) → IsLinkedNode h id → (key : ℕ) × HasKey h id key
  -- keys rise along the links, a node is reached only from the root of its key, and one whose own link is unmarked is on that chain
  pub ordered : AreOrderedChains (chain_order roots) h
  -- no root's link is marked
  pub plain_roots : (root : ℕ) (link : Link) → shown h (Root root) ≡ Some link → link.mark ≡ false
  -- the set has the keys of the nodes on the chains whose own link is unmarked
  pub set : (key : ℕ) → (has key keys ≡ true) ↔ IsPresent roots h key

-- what the events of sorted lists obey
pub record ChainHolds (n : HeapNumbers) (es : List (Event ChainNote)) : Type 0 where
  pub lawful : IsLawful n es
  pub legal : IsLegalSet (entries_of es)
  pub chains : AreChains n.roots (run_heap n es) (set_after es)
  -- a marked link never changes
  pub frozen : MarksStay n es
  -- the second link of a once linked node, if there is one, is null
  pub sides : AreSidesNull (run_heap n es)

-- an Added true: a place on the chain of the key's root, below the key, goes to a node that was never linked and has the key. Its
-- own link leads above the key, to what the place showed or what a run of marked nodes from there leads to; its second link is null
abbrev pub MayAdd : ℕ → Heap → Place → Link → Link → ℕ → Type 0
MayAdd roots h place from to key = MayLink (chain_order roots) h place from to key

-- a Removed true: the link of a once linked node with the key gets a mark, and keeps its target
pub record MayRemove (h : Heap) (id : ℕ) (from to : Link) (key : ℕ) : Type 0 where
  pub has_key : HasKey h id key
  pub plain : from.mark ≡ false
  pub to_is : to ≡ record { to = from.to; mark = true }

-- an Unlink: a root, or the link of a once linked node, goes to what a run of at least one marked node from its target on leads to
abbrev pub MayUnlink : ℕ → Heap → Place → Link → Link → Type 0
MayUnlink roots h place from to = MayLeadPast (chain_order roots) h place from to

-- the act that may carry a note; an act without one is no Move
abbrev pub MayAct : ℕ → Heap → List ℕ → Act → Option ChainNote → Type 0
MayAct roots h keys act None = move_with act ≡ 0
MayAct roots h keys (Move place from to) (Some Unlink) = MayUnlink roots h place from to
MayAct roots h keys (Move place from to) (Some (Entry (Added by key answer))) = (answer ≡ true) × MayAdd roots h place from to key
MayAct roots h keys (Move (Next id) from to) (Some (Entry (Removed by key answer))) = (answer ≡ true) × MayRemove h id from to key
MayAct roots h keys (Look place link) (Some (Entry entry)) = MayAnswer keys entry
MayAct roots h keys act noted = ⊥

-- an entry has the event's agent
abbrev pub IsOwnEntry : ℕ → Option ChainNote → Type 0
IsOwnEntry agent (Some (Entry entry)) = agent_of_set_entry entry ≡ agent
IsOwnEntry agent noted = Unit {0}

-- what the discipline allows
pub record ChainMay (n : HeapNumbers) (es : List (Event ChainNote)) (e : Event ChainNote) : Type 0 where
  pub fits : FitsAfter n es e
  pub may_act : MayAct n.roots (run_heap n es) (set_after es) e.act e.note
  pub own : IsOwnEntry e.agent e.note

-- the first value of a node, and 0 where it has none or isn't there
abbrev pub key_in : Option Node → ℕ
key_in None = 0
key_in (Some n) = unwrap_or n.first 0

-- the same of the node of this id
abbrev pub key_of : Heap → ℕ → ℕ
key_of h id = key_in (slice_get h.nodes id)

-- keys rise along the links
abbrev pub chain_rank : HeapNumbers → List (Event ChainNote) → ℕ → ℕ
chain_rank n es id = key_of (run_heap n es) id
