-- Where runs of marked nodes end.
use Rattle.std.proofs.Common.{List, Option, Some, [], false, subst, sym, ℕ, ◌∙◌, ◌∷◌, ◌≡◌}
use Rattle.orc_heap.proofs.SingleActs.{shown_link, some_same}
use Rattle.orc_heap.specs.Allowed.{HasLink}
use Rattle.orc_heap.specs.Heap.{Heap, shown}
use Rattle.orc_heap.specs.declared.events.Link.{Link}
use Rattle.orc_heap.specs.declared.events.Place.TheVariants.{Next}
use Rattle.orc_ordered_chains.specs.Chains.{IsRun}
use Rattle.orc_ordered_chains.proofs.Paths.{not_marked}

-- a node has the link that it shows
pub link_one : (h : Heap) (id : ℕ) (link next : Link) → shown h (Next id) ≡ Some link → HasLink h id next → next ≡ link
link_one h id link next at own = some_same (sym (shown_link h id next own) ∙ at)

-- a run doesn't go past an unmarked node
pub run_ends : (h : Heap) (from : Link) (over : List ℕ) (to : Option ℕ) (id : ℕ) (link : Link) → from.to ≡ Some id → shown h (Next id) ≡ Some link
    → link.mark ≡ false → IsRun h from over to → to ≡ Some id
run_ends h from [] to id link is at plain run = sym run ∙ is
run_ends h from (x ∷ xs) to id link is at plain (leads, next, own, mark, run) =
    let same : x ≡ id = some_same (sym leads ∙ is) in
    absurd (not_marked h id link next at plain (subst (λ (y : ℕ). shown h (Next y) ≡ Some next) same (shown_link h x next own)) mark)
