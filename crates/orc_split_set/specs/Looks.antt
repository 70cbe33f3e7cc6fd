-- How few loads a question makes that nobody disturbs, where the root of its key's bucket is set. After Shalev and Shavit 2006.
use Rattle.std.specs.Prelude.{List, None, Option, Some, [], length, suc, zero, ℕ, ◌*◌, ◌+◌, ◌∷◌, ◌≡◌, ◌≤◌, ◌⊎◌}
use Rattle.orc_heap.specs.Heap.{Heap, HeapNumbers}
use Rattle.orc_heap.specs.Seats.{Seat}
use Rattle.orc_heap.specs.declared.events.Act.{Act}
use Rattle.orc_heap.specs.declared.events.Act.TheVariants.{Look}
use Rattle.orc_heap.specs.declared.events.Event.{Event}
use Rattle.orc_heap.specs.declared.events.Place.{Place}
use Rattle.orc_heap.specs.declared.events.Place.TheVariants.{Next, Root}
use Rattle.orc_ordered_chains.specs.Chains.{IsPath, LeadsTo}
use Rattle.orc_ordered_search.specs.Ways.{AreLoads, Stops}
use Rattle.orc_split_rule.specs.SplitDiscipline.{size_of}
use Rattle.orc_split_rule.specs.SplitOrder.{bucket_of, split_order}
use Rattle.orc_split_rule.specs.declared.split.SplitNote.{SplitNote}
use Rattle.orc_split_set.specs.Crowds.{SeesOwn}
use Rattle.orc_split_set.specs.Rootings.{IsRootSet}

-- the bucket is the first one, which has no dummy, or its root isn't null
abbrev pub HasStart : Heap → ℕ → Type 0
HasStart h bucket = (bucket ≡ 0) ⊎ IsRootSet h bucket

-- a search begins where the bucket does: at root 0, or at the node that the bucket's root names
abbrev pub StartsAt : Heap → ℕ → Place → Type 0
StartsAt h zero start = start ≡ Root 0
StartsAt h (suc bucket) start = (id : ℕ) → LeadsTo h (Root (suc bucket)) (Some id) → start ≡ Next id

-- how many loads of the bucket's root tell where the search begins
abbrev pub root_loads : ℕ → ℕ
root_loads zero = 0
root_loads (suc bucket) = 2

-- a search for a split place may end there: at the chain's end, or at an unmarked node with the place or a greater one
abbrev pub MayEnd : Heap → ℕ → Option ℕ → Type 0
MayEnd h place None = Unit {0}
MayEnd h place (Some id) = Stops split_order h place id

-- 1 for a node, and 0 for none
abbrev pub node_count : Option ℕ → ℕ
node_count None = 0
node_count (Some id) = 1

-- so many nodes stand on the chain from a bucket's dummy, or from root 0's target, to where a search for the split place may end
pub record ReachesIn (h : Heap) (bucket place many : ℕ) : Type 0 where
  pub nodes : List ℕ
  pub to : Option ℕ
  pub path : IsPath h (Root bucket) nodes to
  pub ends : MayEnd h place to
  pub many_is : many ≡ length nodes + node_count to

-- the pass made only loads, at most so many, if it saw only own events
abbrev pub LoadsFew : ℕ → Seat SplitNote → Seat SplitNote → Type 0
LoadsFew most s t = (k : SeesOwn s t) → AreLoads k.part × (length k.part ≤ most)

-- the pass made at most so many events, if it saw only own events
abbrev pub StepsFew : ℕ → Seat SplitNote → Seat SplitNote → Type 0
StepsFew most s t = (k : SeesOwn s t) → length k.part ≤ most

-- how many loads a search makes at most that begins before these nodes and ends there
abbrev pub search_loads : List ℕ → Option ℕ → ℕ
search_loads nodes None = 2 * length nodes + 2
search_loads nodes (Some id) = 2 * length nodes + 4

-- the bucket of a key, by the number of buckets that the pass saw
abbrev pub bucket_now : HeapNumbers → ℕ → Seat SplitNote → ℕ
bucket_now n key s = bucket_of key (size_of n s.seen)
