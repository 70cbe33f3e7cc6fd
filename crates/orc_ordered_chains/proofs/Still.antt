-- Chains where no link of theirs changed, and what the other files on chains share.
use Rattle.std.proofs.Common.{List, Option, Some, [], sym, true, ℕ, ◌∙◌, ◌∷◌, ◌≡◌}
use Rattle.orc_heap.specs.Heap.{Heap, shown}
use Rattle.orc_heap.specs.declared.events.Place.{Place}
use Rattle.orc_heap.specs.declared.events.Place.TheVariants.{Next, Root, Side}
use Rattle.orc_ordered_chains.specs.Chains.{AreChains, FollowsOn, HasRank, IsChainPlace, IsLive, IsOnChain, IsPath, Order}
use Rattle.orc_ordered_chains.proofs.Acts.{IsUnmoved, KeepsValues, chain_place_linked, rank_before, rank_linked, rank_stays}
use Rattle.orc_ordered_chains.proofs.Paths.{leads_same}

module _ (o : Order) where
  -- a rank may follow after the act what it may follow before it
  pub follows_stays : (h k : Heap) → KeepsValues h k → (p : Place) (rank : ℕ) → FollowsOn o h p rank → FollowsOn o k p rank
  follows_stays h k v (Root r) rank f = f
  follows_stays h k v (Side id) rank f = f
  follows_stays h k v (Next id) rank (low, own, less, same) = (low, rank_stays o h k v id low own, less, same)

  -- the links of chains are as they were, and no node with a rank came to be linked
  pub record IsStill (h k : Heap) : Type 0 where
    pub shows : (place : Place) → IsChainPlace o h place → shown k place ≡ shown h place
    pub values : KeepsValues h k
    pub before : (id rank : ℕ) → HasRank o k id rank → HasRank o h id rank

  -- an act that is no Move
  pub unmoved_still : (h k : Heap) → IsUnmoved h k → IsStill h k
  unmoved_still h k u = record {
    shows = λ p on. u.shows p (chain_place_linked o h p on);
    values = u.values;
    before = λ id rank r. rank_before o h k u.values id rank (u.old id (rank_linked o k id rank r)) r;
  }

  pub place_before : (h k : Heap) (p : Place) → ((id rank : ℕ) → HasRank o k id rank → HasRank o h id rank) → IsChainPlace o k p → IsChainPlace o h p
  place_before h k (Root r) old l = l
  place_before h k (Side id) old l = l
  place_before h k (Next id) old (rank, own) = (rank, old id rank own)

  path_still : (h k : Heap) → AreChains o h → IsStill h k → (p : Place) (ids : List ℕ) (to : Option ℕ) → IsChainPlace o h p
      → IsPath h p ids to → IsPath k p ids to
  path_still h k c s p [] to l path = leads_same h k p to (s.shows p l) path
  path_still h k c s p (x ∷ xs) to l path =
      let (a, own, f) = c.leads p x l path.0 in
      (leads_same h k p (Some x) (s.shows p l) path.0, path_still h k c s (Next x) xs to (a, own) path.1)

  pub chain_still : (h k : Heap) → AreChains o h → IsStill h k → (root id : ℕ) → o.begins root ≡ true → IsOnChain h root id → IsOnChain k root id
  chain_still h k c s root id begins on = record { over = on.over; path = path_still h k c s (Root root) on.over (Some id) begins on.path }

  pub chains_still : (h k : Heap) → AreChains o h → IsStill h k → AreChains o k
  chains_still h k c s = record {
    leads = λ p id l to.
        let before = place_before h k p s.before l in
        let (rank, own, f) = c.leads p id before (leads_same k h p (Some id) (sym (s.shows p before)) to) in
        (rank, rank_stays o h k s.values id rank own, follows_stays h k s.values p rank f);
    kept = λ id rank link own at plain.
        let had = s.before id rank own in
        chain_still h k c s (o.root rank) id (o.begun rank)
        (c.kept id rank link had (sym (s.shows (Next id) (rank, had)) ∙ at) plain);
  }

  pub live_still : (h k : Heap) → IsStill h k → (id rank : ℕ) → IsLive o h id rank → IsLive o k id rank
  live_still h k s id rank y = record {
    has_rank = rank_stays o h k s.values id rank y.has_rank;
    link = y.link;
    at = s.shows (Next id) (rank, y.has_rank) ∙ y.at;
    unmarked = y.unmarked;
  }

  pub live_before : (h k : Heap) → IsStill h k → (id rank : ℕ) → IsLive o k id rank → IsLive o h id rank
  live_before h k s id rank y =
      let had = s.before id rank y.has_rank in
      record { has_rank = had; link = y.link; at = sym (s.shows (Next id) (rank, had)) ∙ y.at; unmarked = y.unmarked }
