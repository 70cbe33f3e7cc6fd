-- Chains of linked nodes in order of rank, and the Moves that keep them so. After Harris 2001.
use Rattle.std.specs.Prelude.{Bool, List, None, Option, Some, [], false, slice_get, true, ℕ, ◌++◌, ◌<◌, ◌∷◌, ◌≡◌}
use Rattle.orc_heap.specs.Allowed.{HasLink, HasNullSide}
use Rattle.orc_heap.specs.Heap.{Heap, HeapNumbers, Node, link_to, shown}
use Rattle.orc_heap.specs.Journals.{run_heap}
use Rattle.orc_heap.specs.declared.events.Event.{Event}
use Rattle.orc_heap.specs.declared.events.Link.{Link}
use Rattle.orc_heap.specs.declared.events.Place.{Place}
use Rattle.orc_heap.specs.declared.events.Place.TheVariants.{Next, Root, Side}

-- which nodes stand on chains, and where
pub record Order : Type 0 where
  -- the rank of a node with these values, or none where such a node stands on no chain
  pub rank : Option ℕ → Option ℕ → Option ℕ
  -- the root from which the nodes of a rank are reached
  pub root : ℕ → ℕ
  -- whether a chain begins at this root, as at the root of each rank
  pub begins : ℕ → Bool
  pub begun : (rank : ℕ) → begins (root rank) ≡ true

-- an unmarked link to this target
abbrev pub link_over : Option ℕ → Link
link_over to = record { to = to; mark = false }

-- what ranks alone say
module _ (rank_of : Option ℕ → Option ℕ → Option ℕ) where
  -- a once linked node with this rank
  pub record HasRankBy (h : Heap) (id rank : ℕ) : Type 0 where
    pub node : Node
    pub there : slice_get h.nodes id ≡ Some node
    pub linked : node.linked ≡ true
    pub rank_is : rank_of node.first node.second ≡ Some rank

  -- the target is null, or a node with a greater rank
  abbrev pub IsAboveBy : Heap → Option ℕ → ℕ → Type 0
  IsAboveBy h None rank = Unit {0}
  IsAboveBy h (Some id) rank = (high : ℕ) × HasRankBy h id high × (rank < high)

-- the same in an order
abbrev pub HasRank : Order → Heap → ℕ → ℕ → Type 0
HasRank o h id rank = HasRankBy o.rank h id rank

abbrev pub IsAbove : Order → Heap → Option ℕ → ℕ → Type 0
IsAbove o h to rank = IsAboveBy o.rank h to rank

-- the place's link, marked or not, has this target
pub record LeadsTo (h : Heap) (place : Place) (to : Option ℕ) : Type 0 where
  pub link : Link
  pub at : shown h place ≡ Some link
  pub to_is : link.to ≡ to

-- from this place on, the links lead over these nodes to the target
abbrev pub IsPath : Heap → Place → List ℕ → Option ℕ → Type 0
IsPath h place [] to = LeadsTo h place to
IsPath h place (id ∷ ids) to = LeadsTo h place (Some id) × IsPath h (Next id) ids to

-- the links lead from this root to the node
pub record IsOnChain (h : Heap) (root id : ℕ) : Type 0 where
  pub over : List ℕ
  pub path : IsPath h (Root root) over (Some id)

-- the same of a place: it is the root itself, or the link of such a node
abbrev pub IsPlaceOnChain : Heap → ℕ → Place → Type 0
IsPlaceOnChain h root (Root r) = r ≡ root
IsPlaceOnChain h root (Next id) = IsOnChain h root id
IsPlaceOnChain h root (Side id) = ⊥

-- this link leads over these nodes, each once linked and with a marked link, to the target
abbrev pub IsRun : Heap → Link → List ℕ → Option ℕ → Type 0
IsRun h link [] to = link.to ≡ to
IsRun h link (id ∷ ids) to =
    (link.to ≡ Some id) × (next : Link) × HasLink h id next × (next.mark ≡ true) × IsRun h next ids to

-- a marked link never changes
abbrev pub MarksStay : {N : Type 0} → HeapNumbers → List (Event N) → Type 0
MarksStay {N} n es = (before after : List (Event N)) (id : ℕ) (link : Link) → es ≡ before ++ after
    → HasLink (run_heap n before) id link → link.mark ≡ true → HasLink (run_heap n es) id link

module _ (o : Order) where
  -- a root at which a chain begins, or the first link of a once linked node with a rank
  abbrev pub IsChainPlace : Heap → Place → Type 0
  IsChainPlace h (Root r) = o.begins r ≡ true
  IsChainPlace h (Next id) = (rank : ℕ) × HasRank o h id rank
  IsChainPlace h (Side id) = ⊥

  -- the place is a root, or the link of a node with a lower rank
  abbrev pub IsPlaceBelow : Heap → Place → ℕ → Type 0
  IsPlaceBelow h (Root r) rank = Unit {0}
  IsPlaceBelow h (Next id) rank = (low : ℕ) × HasRank o h id low × (low < rank)
  IsPlaceBelow h (Side id) rank = ⊥

  -- this rank may follow the place: it is of that root, or greater than the node's and of the same root
  abbrev pub FollowsOn : Heap → Place → ℕ → Type 0
  FollowsOn h (Root r) rank = o.root rank ≡ r
  FollowsOn h (Next id) rank = (low : ℕ) × HasRank o h id low × (low < rank) × (o.root rank ≡ o.root low)
  FollowsOn h (Side id) rank = ⊥

  -- the chains of a heap
  pub record AreChains (h : Heap) : Type 0 where
    -- the link of a place of a chain, marked or not, is null or names a once linked node whose rank may follow: so ranks rise
    -- along the links, and a node is reached only from the root of its rank
    pub leads : (place : Place) (id : ℕ) → IsChainPlace h place → LeadsTo h place (Some id) → (rank : ℕ) × HasRank o h id rank × FollowsOn h place rank
    -- a once linked node with a rank whose own link is unmarked is on its root's chain
    pub kept : (id rank : ℕ) (link : Link) → HasRank o h id rank → shown h (Next id) ≡ Some link → link.mark ≡ false → IsOnChain h (o.root rank) id

  -- a node is linked: a place on the chain of the rank's root, below the rank, goes to a node that was never linked and has the rank. Its
  -- own link leads above the rank, to what the place showed or what a run of marked nodes from there leads to; its second link is null
  pub record MayLink (h : Heap) (place : Place) (from to : Link) (rank : ℕ) : Type 0 where
    pub on_chain : IsPlaceOnChain h (o.root rank) place
    pub below : IsPlaceBelow h place rank
    pub plain : from.mark ≡ false
    pub id : ℕ
    pub to_is : to ≡ link_to id
    pub node : Node
    pub there : slice_get h.nodes id ≡ Some node
    pub unlinked : node.linked ≡ false
    pub rank_is : o.rank node.first node.second ≡ Some rank
    pub own_plain : node.link.mark ≡ false
    pub over : List ℕ
    pub run : IsRun h from over node.link.to
    pub above : IsAbove o h node.link.to rank
    pub side_null : HasNullSide h id

  -- a node is marked: its link gets a mark, and keeps its target
  pub record MayMark (h : Heap) (id : ℕ) (from to : Link) : Type 0 where
    pub rank : ℕ
    pub has_rank : HasRank o h id rank
    pub plain : from.mark ≡ false
    pub to_is : to ≡ record { to = from.to; mark = true }

  -- a run of marked nodes is led past: a place of a chain goes to what a run of at least one marked node from its target on leads to
  pub record MayUnlink (h : Heap) (place : Place) (from to : Link) : Type 0 where
    pub linked : IsChainPlace h place
    pub plain : from.mark ≡ false
    pub plain_after : to.mark ≡ false
    pub first : ℕ
    pub others : List ℕ
    pub run : IsRun h from (first ∷ others) to.to

  -- a once linked node with this rank, whose own link is unmarked
  pub record IsLive (h : Heap) (id rank : ℕ) : Type 0 where
    pub has_rank : HasRank o h id rank
    pub link : Link
    pub at : shown h (Next id) ≡ Some link
    pub unmarked : link.mark ≡ false
