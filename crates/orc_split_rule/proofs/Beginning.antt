-- Where a search may begin, and that it comes by what it looks for.
use Rattle.std.proofs.Common.{List, Some, arith, refl, subst, suc, ℕ, ◌++◌, ◌<◌, ◌∷◌, ◌^◌}
use Rattle.orc_heap.proofs.Moved.{shown_node}
use Rattle.orc_heap.specs.Heap.{Heap, HeapNumbers}
use Rattle.orc_heap.specs.Journals.{run_heap}
use Rattle.orc_heap.specs.declared.events.Event.{Event}
use Rattle.orc_heap.specs.declared.events.Place.TheVariants.{Next, Root}
use Rattle.orc_ordered_chains.specs.Chains.{FollowsOn, IsLive, IsOnChain, IsPath}
use Rattle.orc_ordered_chains.proofs.Paths.{live_behind, path_join}
use Rattle.orc_split_rule.specs.declared.split.SplitNote.{SplitNote}
use Rattle.orc_split_rule.specs.SplitOrder.{IsAncestor, bucket_of, dummy_place, key_place, split_order}
use Rattle.orc_split_rule.specs.SplitDiscipline.{IsDummy, IsPresent, IsSize, SplitHolds}
use Rattle.orc_split_rule.specs.Laws.Sets.{present_live}
use Rattle.orc_split_rule.specs.Laws.Values.{dummy_rank}
use Rattle.orc_split_rule.proofs.Coming.{dummy_on_chain}
use Rattle.orc_split_rule.proofs.Reversed.{ancestor_before, ancestor_first, low_first}

-- the dummy of a key's bucket, or of an ancestor of it, lies below the key
below_key : (key most size back old : ℕ) → IsSize most size → IsAncestor back old (bucket_of key size) → dummy_place old < key_place key
below_key key most size back old (low, i, is) a =
    let first = ancestor_first back old (bucket_of key (2 ^ i)) (subst (λ (s : ℕ). IsAncestor back old (bucket_of key s)) is a) in
    omega (arith, first, low_first key i)

pub begins_below : (h : Heap) (id key most size back old : ℕ) → IsSize most size → IsAncestor back old (bucket_of key size) → IsDummy h id old
    → FollowsOn split_order h (Next id) (key_place key)
begins_below h id key most size back old is a d = (dummy_place old, dummy_rank h id old d, below_key key most size back old is a, refl)

-- the dummy of an ancestor lies below that of the bucket
pub begins_below_dummy : (h : Heap) (id bucket back old : ℕ) → IsAncestor (suc back) old bucket → IsDummy h id old
    → FollowsOn split_order h (Next id) (dummy_place bucket)
begins_below_dummy h id bucket back old a d =
    (dummy_place old, dummy_rank h id old d, omega (arith, ancestor_before back old bucket a), refl)

-- from there the links lead to the key's node, if the key is in the set
pub leads_to_key : (n : HeapNumbers) (es : List (Event SplitNote)) (id key most size back old : ℕ) → SplitHolds n es → IsSize most size
    → IsAncestor back old (bucket_of key size) → IsDummy (run_heap n es) id old
    → (y : IsPresent (run_heap n es) key) → (over : List ℕ) × IsPath (run_heap n es) (Next id) over (Some y.id)
leads_to_key n es id key most size back old holds is a d y =
    let h : Heap = run_heap n es in
    let at = shown_node h id d.node d.there in
    let live : IsLive split_order h id (dummy_place old) =
    record { has_rank = dummy_rank h id old d; link = d.node.link; at = at; unmarked = holds.buckets.plain_dummies id old d.node.link d at } in
    live_behind split_order h holds.chains id y.id (dummy_place old) (key_place key) live (present_live h key y)
    (below_key key most size back old is a) refl

-- and what they lead to is on the chain
pub on_from_dummy : (n : HeapNumbers) (es : List (Event SplitNote)) (id bucket next : ℕ) (over : List ℕ) → SplitHolds n es → IsDummy (run_heap n es) id bucket
    → IsPath (run_heap n es) (Next id) over (Some next) → IsOnChain (run_heap n es) 0 next
on_from_dummy n es id bucket next over holds d path =
    let on = dummy_on_chain n es id bucket holds d in
    record { over = on.over ++ id ∷ over; path = path_join (run_heap n es) (Root 0) on.over id over (Some next) on.path path }
