-- Chains after an Unlink.
use Rattle.std.proofs.Common.{Option, Some, [], ap, false, inl, inr, refl, subst, sym, ℕ, ◌∙◌, ◌∷◌, ◌≡◌}
use Rattle.orc_heap.specs.Allowed.{IsLinkedNode}
use Rattle.orc_heap.specs.Heap.{Heap, shown}
use Rattle.orc_heap.specs.declared.events.Link.{Link}
use Rattle.orc_heap.specs.declared.events.Place.{Place}
use Rattle.orc_heap.specs.declared.events.Place.TheVariants.{Next}
use Rattle.orc_heap.proofs.SingleActs.{some_same}
use Rattle.orc_ordered_chains.specs.Chains.{AreChains, FollowsOn, HasRank, IsChainPlace, IsLive, IsOnChain, IsRun, LeadsTo, MayUnlink, Order}
use Rattle.orc_ordered_chains.proofs.Acts.{IsMoved, place_either, rank_before, rank_linked, rank_stays, unmarked_after, unmarked_before}
use Rattle.orc_ordered_chains.proofs.Paths.{detour, leads_same, run_follows}
use Rattle.orc_ordered_chains.proofs.Still.{follows_stays, place_before}

module _ (o : Order) (h k : Heap) (p : Place) (from to : Link) (c : AreChains o h) (m : IsMoved h k p from to) (u : MayUnlink o h p from to) where
  target_has : (id : ℕ) → to.to ≡ Some id → (rank : ℕ) × HasRank o h id rank × FollowsOn o h p rank
  target_has id is =
      run_follows o h c p from (u.first ∷ u.others) id u.linked m.at (subst (λ (t : Option ℕ). IsRun h from (u.first ∷ u.others) t) is u.run)

  pub unlink_old : (id : ℕ) → IsLinkedNode k id → IsLinkedNode h id
  unlink_old id l = elim (m.old id l) [ inl before ↦ before | inr is ↦ (let (rank, own, f) = target_has id is in rank_linked o h id rank own) ]

  had : (id rank : ℕ) → HasRank o k id rank → HasRank o h id rank
  had id rank own = rank_before o h k m.values id rank (unlink_old id (rank_linked o k id rank own)) own

  on_chain : (root y : ℕ) (link : Link) → shown h (Next y) ≡ Some link → link.mark ≡ false → IsOnChain h root y → IsOnChain k root y
  on_chain root y link at plain on =
      detour h k p from (u.first ∷ u.others) to.to [] m.at u.run (record { link = to; at = m.moved; to_is = refl }) m.others y link at plain root on

  leads : (q : Place) (id : ℕ) → IsChainPlace o k q → LeadsTo k q (Some id) → (rank : ℕ) × HasRank o k id rank × FollowsOn o k q rank
  leads q id l to_node = elim (place_either q p) [
    | inl same ↦
        let here : LeadsTo k p (Some id) = subst (λ (z : Place). LeadsTo k z (Some id)) same to_node in
        let is : to.to ≡ Some id = ap (λ (x : Link). x.to) (some_same (sym m.moved ∙ here.at)) ∙ here.to_is in
        let (rank, own, f) = target_has id is in
        (rank, rank_stays o h k m.values id rank own, subst (λ (z : Place). FollowsOn o k z rank) (sym same) (follows_stays o h k m.values p rank f))
    | inr ne ↦
        let (rank, own, f) = c.leads q id (place_before o h k q had l) (leads_same k h q (Some id) (sym (m.others q ne)) to_node) in
        (rank, rank_stays o h k m.values id rank own, follows_stays o h k m.values q rank f)
  ]

  pub chains_unlink : AreChains o k
  chains_unlink = record {
    leads = leads;
    kept = λ id rank link own at plain.
        let (was, before, was_plain) = unmarked_before h k p from to m u.plain u.plain_after (Next id) link at plain in
        on_chain (o.root rank) id was before was_plain (c.kept id rank was (had id rank own) before was_plain);
  }

  pub live_unlink : (id rank : ℕ) → IsLive o h id rank → IsLive o k id rank
  live_unlink id rank y =
      let (own, at, plain) = unmarked_after h k p from to m u.plain u.plain_after (Next id) y.link y.at y.unmarked in
      record { has_rank = rank_stays o h k m.values id rank y.has_rank; link = own; at = at; unmarked = plain }

  pub live_before_unlink : (id rank : ℕ) → IsLive o k id rank → IsLive o h id rank
  live_before_unlink id rank y =
      let (own, at, plain) = unmarked_before h k p from to m u.plain u.plain_after (Next id) y.link y.at y.unmarked in
      record { has_rank = had id rank y.has_rank; link = own; at = at; unmarked = plain }
