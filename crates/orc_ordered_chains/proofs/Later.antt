-- What stays true of chains over all events that a discipline allows, where each fits and leaves marked links.
use Rattle.std.proofs.Common.{List, None, Option, Some, [], ap, false, replicate, suc, subst, sym, true, zero, ℕ, ◌++◌, ◌∙◌, ◌∷◌, ◌≡◌, slice_get}
use Rattle.orc_heap.proofs.Known.{linked_known}
use Rattle.orc_heap.proofs.Linked.{linked_after}
use Rattle.orc_heap.proofs.Runs.{run_heap-snoc}
use Rattle.orc_heap.proofs.Stays.{stays}
use Rattle.orc_heap.specs.Acts.{IsTarget, heap_after}
use Rattle.orc_heap.specs.Allowed.{AllAllowed, HasLink, IsLinkedNode}
use Rattle.orc_heap.specs.Heap.{Heap, HeapNumbers, Node, new_heap, null, shown}
use Rattle.orc_heap.specs.Journals.{FitsAfter, IsLawful, run_heap}
use Rattle.orc_heap.specs.declared.events.Event.{Event}
use Rattle.orc_heap.specs.declared.events.Link.{Link}
use Rattle.orc_heap.specs.declared.events.Place.{Place}
use Rattle.orc_heap.specs.declared.events.Place.TheVariants.{Next, Root, Side}
use Rattle.orc_ordered_chains.specs.Chains.{AreChains, FollowsOn, HasRank, IsAbove, IsPlaceBelow, IsChainPlace, IsOnChain, IsPlaceOnChain, IsRun, LeadsTo, Order}
use Rattle.orc_ordered_chains.proofs.Acts.{rank_linked, rank_stays, values_after}
use Rattle.orc_ordered_chains.proofs.Frozen.{KeepsMarked}
use Rattle.orc_ordered_chains.proofs.Paths.{run_follows}

-- before all events

pub no_node : (id : ℕ) (n : Node) → (let none : List Node = [] in slice_get none id ≡ Some n → ⊥)
no_node id n e = cc

pub null_root : (roots r : ℕ) (link : Link) → slice_get (replicate roots null) r ≡ Some link → link ≡ null
null_root zero r link e = cc
null_root (suc roots) zero link e = cc
null_root (suc roots) (suc r) link e = null_root roots r link e

pub root_leads_nowhere : (n : HeapNumbers) (r id : ℕ) → LeadsTo (new_heap n) (Root r) (Some id) → ⊥
root_leads_nowhere n r id to =
    let none : None ≡ Some id = ap (λ (x : Link). x.to) (sym (null_root n.roots r to.link to.at)) ∙ to.to_is in
    cc

pub no_chains : (o : Order) (n : HeapNumbers) → AreChains o (new_heap n)
no_chains o n = record {
  leads = λ place id l to. absurd (nowhere place id l to);
  kept = λ id rank link k at plain. absurd (no_node id k.node k.there);
}
  where
    nowhere : (place : Place) (id : ℕ) → IsChainPlace o (new_heap n) place → LeadsTo (new_heap n) place (Some id) → ⊥
    nowhere (Root r) id l to = root_leads_nowhere n r id to
    nowhere (Side d) id l to = l
    nowhere (Next d) id (rank, own) to = no_node d own.node own.there

module _ (o : Order) where
  -- a place that shows an unmarked link is on its root's chain
  pub follows_on_chain : (h : Heap) → AreChains o h → (place : Place) (from : Link) (rank : ℕ) → FollowsOn o h place rank
      → shown h place ≡ Some from → from.mark ≡ false
      → IsPlaceOnChain h (o.root rank) place × IsPlaceBelow o h place rank
  follows_on_chain h c (Root r) from rank f at plain = (sym f, tt)
  follows_on_chain h c (Side id) from rank f at plain = absurd f
  follows_on_chain h c (Next id) from rank (low, own, less, same) at plain =
      (subst (λ (z : ℕ). IsOnChain h z id) (sym same) (c.kept id low from own at plain), (low, own, less))

  -- what a place of a chain leads to, over a run, is known to every agent
  pub run_target : {N : Type 0} (n : HeapNumbers) (es : List (Event N)) (agent : ℕ) (place : Place) (from : Link) (over : List ℕ) (to : Option ℕ)
      → IsLawful n es
      → AreChains o (run_heap n es) → IsChainPlace o (run_heap n es) place
      → shown (run_heap n es) place ≡ Some from → IsRun (run_heap n es) from over to → IsTarget agent (run_heap n es) to
  run_target n es agent place from over None lawful c l at run = tt
  run_target n es agent place from over (Some id) lawful c l at run =
      let (rank, own, f) = run_follows o (run_heap n es) c place from over id l at run in
      linked_known n es agent id lawful (rank_linked o (run_heap n es) id rank own)

module _ {N : Type 0} (o : Order) (n : HeapNumbers) (may : List (Event N) → Event N → Type 0)
    (fits : (es : List (Event N)) (e : Event N) → may es e → FitsAfter n es e)
    (marked : KeepsMarked n may)
  where
    pub linked_later : (seen more : List (Event N)) (id : ℕ) → IsLinkedNode (run_heap n seen) id → AllAllowed may seen more
        → IsLinkedNode (run_heap n (seen ++ more)) id
    linked_later seen more id l all =
        stays may (λ es. IsLinkedNode (run_heap n es) id)
        (λ es e x allowed. let s = linked_after e.agent e.act (run_heap n es) id x.node (fits es e allowed) x.there x.linked in rw (run_heap-snoc n es e)
        (record { node = s.node; there = s.there; linked = s.linked }))
        seen more l all

    -- a once linked node keeps its rank, and a marked link
    pub rank_later : (seen more : List (Event N)) (id rank : ℕ) → HasRank o (run_heap n seen) id rank → AllAllowed may seen more
        → HasRank o (run_heap n (seen ++ more)) id rank
    rank_later seen more id rank k all =
        stays may (λ es. HasRank o (run_heap n es) id rank)
        (λ es e x allowed. rw (run_heap-snoc n es e)
        (rank_stays o (run_heap n es) (heap_after e.agent e.act (run_heap n es)) (values_after e.agent e.act (run_heap n es) (fits es e allowed)) id rank x))
        seen more k all

    pub marked_later : (seen more : List (Event N)) (id : ℕ) (link : Link) → HasLink (run_heap n seen) id link → link.mark ≡ true
        → AllAllowed may seen more
        → HasLink (run_heap n (seen ++ more)) id link
    marked_later seen more id link l mark all =
        stays may (λ es. HasLink (run_heap n es) id link) (λ es e x allowed. marked es e id link allowed x mark) seen more l all

    pub chain_place_later : (seen more : List (Event N)) (place : Place) → IsChainPlace o (run_heap n seen) place → AllAllowed may seen more
        → IsChainPlace o (run_heap n (seen ++ more)) place
    chain_place_later seen more (Root r) on all = on
    chain_place_later seen more (Side id) on all = on
    chain_place_later seen more (Next id) (rank, own) all = (rank, rank_later seen more id rank own all)

    -- so do a run, and what lies below and above a rank
    pub run_later : (seen more : List (Event N)) (from : Link) (over : List ℕ) (to : Option ℕ) → IsRun (run_heap n seen) from over to
        → AllAllowed may seen more
        → IsRun (run_heap n (seen ++ more)) from over to
    run_later seen more from [] to run all = run
    run_later seen more from (x ∷ xs) to (is, next, own, mark, run) all =
        (is, next, marked_later seen more x next own mark all, mark, run_later seen more next xs to run all)

    pub follows_later : (seen more : List (Event N)) (place : Place) (rank : ℕ) → FollowsOn o (run_heap n seen) place rank
        → AllAllowed may seen more
        → FollowsOn o (run_heap n (seen ++ more)) place rank
    follows_later seen more (Root r) rank f all = f
    follows_later seen more (Side id) rank f all = f
    follows_later seen more (Next id) rank (low, own, less, same) all = (low, rank_later seen more id low own all, less, same)

    pub above_later : (seen more : List (Event N)) (to : Option ℕ) (rank : ℕ) → IsAbove o (run_heap n seen) to rank
        → AllAllowed may seen more → IsAbove o (run_heap n (seen ++ more)) to rank
    above_later seen more None rank a all = tt
    above_later seen more (Some id) rank (high, own, less) all = (high, rank_later seen more id high own all, less)
