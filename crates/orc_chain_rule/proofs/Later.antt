-- What stays true over all events that the discipline allows.
use Rattle.std.proofs.Common.{List, Option, [], ap, false, true, ℕ, ◌++◌, ◌≡◌}
use Rattle.orc_heap.proofs.Stays.{stays}
use Rattle.orc_heap.specs.Allowed.{AllAllowed, HasLink, IsLinkedNode}
use Rattle.orc_heap.specs.Heap.{HeapNumbers}
use Rattle.orc_heap.specs.Journals.{FitsAfter, run_heap}
use Rattle.orc_heap.specs.declared.events.Event.{Event}
use Rattle.orc_heap.specs.declared.events.Link.{Link}
use Rattle.orc_heap.specs.declared.events.Place.{Place}
use Rattle.orc_ordered_chains.specs.Chains.{IsRun}
use Rattle.orc_ordered_chains.proofs.Frozen.{nothing_marked}
use Rattle.orc_ordered_chains.proofs.Later.{above_later as above_allowed, follows_later as follows_allowed, linked_later as linked_allowed, marked_later as marked_allowed, no_chains, no_node, null_root, rank_later, run_later as run_allowed}
use Rattle.orc_chain_rule.specs.declared.chain.ChainNote.{ChainNote}
use Rattle.orc_chain_rule.specs.ChainDiscipline.{ChainHolds, ChainMay, FollowsOn, HasKey, IsAbove, chain_order}
use Rattle.orc_chain_rule.specs.Watches.{LeavesOut}
use Rattle.orc_chain_rule.specs.Laws.Kept.{chain_keeps, marked_next}

-- the empty list obeys the discipline
pub nothing_yet : (n : HeapNumbers) → ChainHolds n []
nothing_yet n = record {
  lawful = tt;
  legal = tt;
  chains = record {
    keyed = λ id l. absurd (no_node id l.node l.there);
    ordered = no_chains (chain_order n.roots) n;
    plain_roots = λ r link at. ap (λ (x : Link). x.mark) (null_root n.roots r link at);
    set = λ key. ((λ is. let bad : false ≡ true = is in cc), (λ y. absurd (no_node y.id y.has_key.node y.has_key.there)));
  };
  frozen = nothing_marked n;
  sides = λ id l. absurd (no_node id l.node l.there);
}

pub holds_later : (n : HeapNumbers) (seen more : List (Event ChainNote)) → ChainHolds n seen → AllAllowed (ChainMay n) seen more → ChainHolds n (seen ++ more)
holds_later n seen more holds all = stays (ChainMay n) (ChainHolds n) (λ es e h may. chain_keeps n es e h may) seen more holds all

pub may_fits : (n : HeapNumbers) (es : List (Event ChainNote)) (e : Event ChainNote) → ChainMay n es e → FitsAfter n es e
may_fits n es e may = may.fits

-- a once linked node stays one, with its key, and with a marked link; so do a run, and what lies below and above a key
module _ (n : HeapNumbers) (seen more : List (Event ChainNote)) where
  pub linked_later : (id : ℕ) → IsLinkedNode (run_heap n seen) id → AllAllowed (ChainMay n) seen more → IsLinkedNode (run_heap n (seen ++ more)) id
  linked_later = linked_allowed (chain_order 1) n (ChainMay n) (may_fits n) (marked_next n) seen more

  pub key_later : (id key : ℕ) → HasKey (run_heap n seen) id key → AllAllowed (ChainMay n) seen more → HasKey (run_heap n (seen ++ more)) id key
  key_later = rank_later (chain_order 1) n (ChainMay n) (may_fits n) (marked_next n) seen more

  pub marked_later : (id : ℕ) (link : Link) → HasLink (run_heap n seen) id link → link.mark ≡ true → AllAllowed (ChainMay n) seen more
      → HasLink (run_heap n (seen ++ more)) id link
  marked_later = marked_allowed (chain_order 1) n (ChainMay n) (may_fits n) (marked_next n) seen more

  pub run_later : (from : Link) (over : List ℕ) (to : Option ℕ) → IsRun (run_heap n seen) from over to → AllAllowed (ChainMay n) seen more
      → IsRun (run_heap n (seen ++ more)) from over to
  run_later = run_allowed (chain_order 1) n (ChainMay n) (may_fits n) (marked_next n) seen more

  pub follows_later : (roots : ℕ) (place : Place) (key : ℕ) → FollowsOn roots (run_heap n seen) place key → AllAllowed (ChainMay n) seen more
      → FollowsOn roots (run_heap n (seen ++ more)) place key
  follows_later roots = follows_allowed (chain_order roots) n (ChainMay n) (may_fits n) (marked_next n) seen more

  pub above_later : (to : Option ℕ) (key : ℕ) → IsAbove (run_heap n seen) to key → AllAllowed (ChainMay n) seen more
      → IsAbove (run_heap n (seen ++ more)) to key
  above_later = above_allowed (chain_order 1) n (ChainMay n) (may_fits n) (marked_next n) seen more

pub left_out_later : (n : HeapNumbers) (seen more : List (Event ChainNote)) (roots : ℕ) (place : Place) (from : Link) (over : List ℕ) (to : Option ℕ) (key : ℕ)
    → LeavesOut roots (run_heap n seen) place from over to key → AllAllowed (ChainMay n) seen more
    → LeavesOut roots (run_heap n (seen ++ more)) place from over to key
left_out_later n seen more roots place from over to key out all = record {
  below = follows_later n seen more roots place key out.below all;
  unmarked = out.unmarked;
  run = run_later n seen more from over to out.run all;
  above = above_later n seen more to key out.above all;
}
