-- The split-order discipline: what the events of a split-ordered set obey. After Shalev and Shavit 2006, over the chains of Harris 2001.
use Rattle.std.specs.Prelude.{List, None, Option, Some, [], false, slice_get, true, unwrap_or, ℕ, ◌*◌, ◌-◌, ◌<◌, ◌↔◌, ◌∷◌, ◌≡◌, ◌≤◌, ◌^◌, ◌⊎◌}
use Rattle.orc_heap.specs.Heap.{Heap, HeapNumbers, Node, link_to, null, shown}
use Rattle.orc_heap.specs.Allowed.{AreSidesNull, HasNullSide, IsLinkedNode}
use Rattle.orc_heap.specs.Journals.{FitsAfter, IsLawful, noted_entries, run_heap}
use Rattle.orc_heap.specs.Moves.{move_with}
use Rattle.orc_heap.specs.declared.events.Act.{Act}
use Rattle.orc_heap.specs.declared.events.Act.TheVariants.{Look, Move}
use Rattle.orc_heap.specs.declared.events.Event.{Event}
use Rattle.orc_heap.specs.declared.events.Link.{Link}
use Rattle.orc_heap.specs.declared.events.Place.{Place}
use Rattle.orc_heap.specs.declared.events.Place.TheVariants.{Next, Root}
use Rattle.orc_history.specs.SetHistory.{IsLegalSet, agent_of_set_entry, has, keys_after}
use Rattle.orc_history.specs.declared.set.SetEntry.{SetEntry}
use Rattle.orc_history.specs.declared.set.SetEntry.TheVariants.{Added, Removed}
use Rattle.orc_ordered_chains.specs.Answers.{MayAnswer}
use Rattle.orc_ordered_chains.specs.Chains.{AreChains, IsOnChain, LeadsTo, MarksStay, MayLink, MayUnlink}
use Rattle.orc_split_rule.specs.SplitOrder.{dummy_place, key_place, place_of, split_order}
use Rattle.orc_split_rule.specs.declared.split.SplitNote.{SplitNote}
use Rattle.orc_split_rule.specs.declared.split.SplitNote.TheVariants.{Anchor, Bucket, Entry, Grow, Unlink}

-- what a note enters in the history
abbrev pub entries_in : Option SplitNote → List SetEntry
entries_in (Some (Entry entry)) = entry ∷ []
entries_in noted = []

-- the set history of the events
abbrev pub entries_of : List (Event SplitNote) → List SetEntry
entries_of es = noted_entries entries_in es

-- the keys of the set after the events
abbrev pub set_after : List (Event SplitNote) → List ℕ
set_after es = keys_after [] (entries_of es)

-- the greatest number of buckets: there is a root for each, and one for their number
abbrev pub greatest : HeapNumbers → ℕ
greatest n = n.roots - 1

-- a once linked node with these values
pub record HasValues (h : Heap) (id first second : ℕ) : Type 0 where
  pub node : Node
  pub there : slice_get h.nodes id ≡ Some node
  pub linked : node.linked ≡ true
  pub first_is : node.first ≡ Some first
  pub second_is : node.second ≡ Some second

-- a once linked node with this key; the dummy of this bucket; a size node with this size
abbrev pub HasKey : Heap → ℕ → ℕ → Type 0
HasKey h id key = HasValues h id key 1

abbrev pub IsDummy : Heap → ℕ → ℕ → Type 0
IsDummy h id bucket = HasValues h id bucket 0

abbrev pub IsSizeNode : Heap → ℕ → ℕ → Type 0
IsSizeNode h id size = HasValues h id size 2

-- a number of buckets: a power of two, and at most this many
abbrev pub IsSize : ℕ → ℕ → Type 0
IsSize most size = (size ≤ most) × (i : ℕ) × (size ≡ 2 ^ i)

-- the first value of a node, and 0 where it has none or isn't there
abbrev pub first_in : Option Node → ℕ
first_in None = 0
first_in (Some n) = unwrap_or n.first 0

-- the number of buckets that a target of the last root stands for: 1 for null, and else what the size node says
abbrev pub size_at : Heap → Option ℕ → ℕ
size_at h None = 1
size_at h (Some id) = first_in (slice_get h.nodes id)

-- the same of the link that the last root shows
abbrev pub size_by : Heap → Option Link → ℕ
size_by h None = 1
size_by h (Some link) = size_at h link.to

-- the number of buckets after the events
abbrev pub size_of : HeapNumbers → List (Event SplitNote) → ℕ
size_of n es = size_by (run_heap n es) (shown (run_heap n es) (Root (greatest n)))

-- a key node on the chain has the key, and its own link is unmarked
pub record IsPresent (h : Heap) (key : ℕ) : Type 0 where
  pub id : ℕ
  pub has_key : HasKey h id key
  pub link : Link
  pub at : shown h (Next id) ≡ Some link
  pub unmarked : link.mark ≡ false
  pub on_chain : IsOnChain h 0 id

-- a once linked node is a key node, a dummy or a size node
abbrev pub IsOfKind : Heap → ℕ → Type 0
IsOfKind h id = ((key : ℕ) × HasKey h id key) ⊎ (((bucket : ℕ) × IsDummy h id bucket) ⊎ ((size : ℕ) × IsSizeNode h id size))

-- the nodes of a heap, its anchors and its size
pub record AreBuckets (most : ℕ) (h : Heap) : Type 0 where
  pub kinds : (id : ℕ) → IsLinkedNode h id → IsOfKind h id
  -- no root's link is marked, nor a dummy's
  pub plain_roots : (root : ℕ) (link : Link) → shown h (Root root) ≡ Some link → link.mark ≡ false
  pub plain_dummies : (id bucket : ℕ) (link : Link) → IsDummy h id bucket → shown h (Next id) ≡ Some link → link.mark ≡ false
  -- each bucket's root is null or names the bucket's dummy
  pub anchors : (bucket id : ℕ) → 1 ≤ bucket → bucket < most → LeadsTo h (Root bucket) (Some id) → IsDummy h id bucket
  -- the size's root is null or names a size node
  pub size : (id : ℕ) → 1 ≤ most → LeadsTo h (Root most) (Some id) → (size : ℕ) × IsSizeNode h id size × IsSize most size
  -- the link of a size node is null, and so is each second link
  pub size_links : (id size : ℕ) → IsSizeNode h id size → shown h (Next id) ≡ Some null
  pub sides : AreSidesNull h

-- what the events of a split-ordered set obey
pub record SplitHolds (n : HeapNumbers) (es : List (Event SplitNote)) : Type 0 where
  pub lawful : IsLawful n es
  pub legal : IsLegalSet (entries_of es)
  pub chains : AreChains split_order (run_heap n es)
  pub buckets : AreBuckets (greatest n) (run_heap n es)
  -- the set has the keys of the key nodes on the chain whose own link is unmarked
  pub set : (key : ℕ) → (has key (set_after es) ≡ true) ↔ IsPresent (run_heap n es) key
  -- a marked link never changes
  pub frozen : MarksStay n es

-- an Added true links a key node with the key
pub record MayAdd (h : Heap) (place : Place) (from to : Link) (key : ℕ) : Type 0 where
  pub links : MayLink split_order h place from to (key_place key)
  pub first_is : links.node.first ≡ Some key
  pub second_is : links.node.second ≡ Some 1

-- a Bucket links the dummy of a bucket in the same way
pub record MayMakeBucket (most : ℕ) (h : Heap) (place : Place) (from to : Link) : Type 0 where
  pub bucket : ℕ
  pub low : 1 ≤ bucket
  pub high : bucket < most
  pub links : MayLink split_order h place from to (dummy_place bucket)
  pub first_is : links.node.first ≡ Some bucket
  pub second_is : links.node.second ≡ Some 0

-- a Removed true: the link of the once linked key node with the key gets a mark, and keeps its target
pub record MayRemove (h : Heap) (id : ℕ) (from to : Link) (key : ℕ) : Type 0 where
  pub has_key : HasKey h id key
  pub plain : from.mark ≡ false
  pub to_is : to ≡ record { to = from.to; mark = true }

-- an Anchor: the root of a bucket goes from null to the bucket's dummy, which is on the chain
pub record MayAnchor (most : ℕ) (h : Heap) (bucket : ℕ) (from to : Link) : Type 0 where
  pub low : 1 ≤ bucket
  pub high : bucket < most
  pub from_is : from ≡ null
  pub id : ℕ
  pub to_is : to ≡ link_to id
  pub dummy : IsDummy h id bucket
  pub on_chain : IsOnChain h 0 id

-- a Grow: the size's root goes to a size node of twice the size, which was never linked and has null links
pub record MayGrow (most : ℕ) (h : Heap) (from to : Link) : Type 0 where
  pub some : 1 ≤ most
  pub plain : from.mark ≡ false
  pub id : ℕ
  pub to_is : to ≡ link_to id
  pub node : Node
  pub there : slice_get h.nodes id ≡ Some node
  pub unlinked : node.linked ≡ false
  pub first_is : node.first ≡ Some (2 * size_at h from.to)
  pub second_is : node.second ≡ Some 2
  pub own_null : node.link ≡ null
  pub side_null : HasNullSide h id
  pub most_is : 2 * size_at h from.to ≤ most

-- the act that may carry a note; an act without one is no Move
abbrev pub MayAct : ℕ → Heap → List ℕ → Act → Option SplitNote → Type 0
MayAct most h keys act None = move_with act ≡ 0
MayAct most h keys (Move place from to) (Some Unlink) = MayUnlink split_order h place from to
MayAct most h keys (Move place from to) (Some Bucket) = MayMakeBucket most h place from to
MayAct most h keys (Move place from to) (Some (Entry (Added by key answer))) = (answer ≡ true) × MayAdd h place from to key
MayAct most h keys (Move (Next id) from to) (Some (Entry (Removed by key answer))) = (answer ≡ true) × MayRemove h id from to key
MayAct most h keys (Move (Root root) from to) (Some Anchor) = MayAnchor most h root from to
MayAct most h keys (Move (Root root) from to) (Some Grow) = (root ≡ most) × MayGrow most h from to
MayAct most h keys (Look place link) (Some (Entry entry)) = MayAnswer keys entry
MayAct most h keys act noted = ⊥

-- an entry has the event's agent
abbrev pub IsOwnEntry : ℕ → Option SplitNote → Type 0
IsOwnEntry agent (Some (Entry entry)) = agent_of_set_entry entry ≡ agent
IsOwnEntry agent noted = Unit {0}

-- what the discipline allows
pub record SplitMay (n : HeapNumbers) (es : List (Event SplitNote)) (e : Event SplitNote) : Type 0 where
  pub fits : FitsAfter n es e
  pub may_act : MayAct (greatest n) (run_heap n es) (set_after es) e.act e.note
  pub own : IsOwnEntry e.agent e.note

-- the split place of a node, and 0 where it has none
abbrev pub split_place_of : Option Node → ℕ
split_place_of None = 0
split_place_of (Some n) = unwrap_or (place_of n.first n.second) 0

-- split places rise along the links
abbrev pub split_rank : HeapNumbers → List (Event SplitNote) → ℕ → ℕ
split_rank n es id = split_place_of (slice_get (run_heap n es).nodes id)
