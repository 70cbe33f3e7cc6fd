-- Chains after a node was linked.
use Rattle.std.proofs.Common.{List, Option, Some, [], ap, arith, false, inl, inr, refl, slice_get, subst, sym, true, ℕ, ◌++◌, ◌∙◌, ◌∷◌, ◌≡◌, ◌≢◌, ◌⊎◌}
use Rattle.orc_heap.specs.Allowed.{HasNullSide, IsLinkedNode}
use Rattle.orc_heap.specs.Heap.{Heap, Node, link_to, shown}
use Rattle.orc_heap.specs.declared.events.Link.{Link}
use Rattle.orc_heap.specs.declared.events.Place.{Place}
use Rattle.orc_heap.specs.declared.events.Place.TheVariants.{Next, Root, Side}
use Rattle.orc_heap.proofs.SingleActs.{some_same}
use Rattle.orc_ordered_chains.specs.Chains.{AreChains, FollowsOn, HasRank, IsAbove, IsPlaceBelow, IsChainPlace, IsLive, IsOnChain, IsPath, IsPlaceOnChain, IsRun, LeadsTo, MayLink, Order}
use Rattle.orc_ordered_chains.proofs.Acts.{IsLinkedIn, IsMoved, place_either, rank_before, rank_linked, rank_one, rank_stays, unmarked_after, unmarked_before}
use Rattle.orc_ordered_chains.proofs.Paths.{absent, chain_root, detour, leads_same, moved_target, path_join, place_on_chain, run_follows}
use Rattle.orc_ordered_chains.proofs.Still.{follows_stays}

-- a node that was never linked is linked at a place that shows an unmarked link, from where a run leads to the node's own target
abbrev pub may_link : (o : Order) (h : Heap) (place : Place) (from : Link) (over : List ℕ) (rank fresh : ℕ) (node : Node)
    → IsPlaceOnChain h (o.root rank) place × IsPlaceBelow o h place rank → from.mark ≡ false
    → slice_get h.nodes fresh ≡ Some node → node.linked ≡ false → o.rank node.first node.second ≡ Some rank → node.link.mark ≡ false
    → IsRun h from over node.link.to → IsAbove o h node.link.to rank → HasNullSide h fresh → MayLink o h place from (link_to fresh) rank
may_link o h place from over rank fresh node on plain there unlinked rank_is own_plain run above side_null = record {
  on_chain = on.0;
  below = on.1;
  plain = plain;
  id = fresh;
  to_is = refl;
  node = node;
  there = there;
  unlinked = unlinked;
  rank_is = rank_is;
  own_plain = own_plain;
  over = over;
  run = run;
  above = above;
  side_null = side_null;
}

module _ (o : Order) (h k : Heap) (p : Place) (from to : Link) (rank : ℕ) (c : AreChains o h) (m : IsMoved h k p from to)
    (a : MayLink o h p from to rank) (new : IsLinkedIn h k a.id a.node)
  where
    new_rank : HasRank o k a.id rank
    new_rank = record {
      node = new.now.node;
      there = new.now.there;
      linked = new.now.linked;
      rank_is = ap (λ (x : Option ℕ). o.rank x new.now.node.second) new.first ∙ (ap (λ (x : Option ℕ). o.rank a.node.first x) new.second ∙ a.rank_is);
    }

    unlinked : IsLinkedNode h a.id → ⊥
    unlinked l =
        let one : l.node ≡ a.node = some_same (sym l.there ∙ a.there) in
        let bad : true ≡ false = sym l.linked ∙ (ap (λ (x : Node). x.linked) one ∙ a.unlinked) in
        cc

    p_on : IsChainPlace o h p
    p_on = place_on_chain o h c rank p a.on_chain

    pub link_old : (id : ℕ) → IsLinkedNode k id → IsLinkedNode h id ⊎ (id ≡ a.id)
    link_old id l = elim (m.old id l) [ inl before ↦ inl before | inr is ↦ inr (some_same (sym is ∙ ap (λ (x : Link). x.to) a.to_is)) ]

    rank_old : (id b : ℕ) → HasRank o k id b → HasRank o h id b ⊎ (id ≡ a.id)
    rank_old id b own = elim (link_old id (rank_linked o k id b own)) [
      | inl before ↦ inl (rank_before o h k m.values id b before own)
      | inr is ↦ inr is
    ]

    -- the rank may follow the place
    follows : FollowsOn o h p rank
    follows = cases p a.on_chain a.below
      where
        cases : (q : Place) → IsPlaceOnChain h (o.root rank) q → IsPlaceBelow o h q rank → FollowsOn o h q rank
        cases (Root r) on under = sym on
        cases (Side d) on under = absurd on
        cases (Next d) on (low, own, less) = (low, own, less, sym (chain_root o h c (o.root rank) d low (o.begun rank) on own))

    -- and what the new node leads to may follow the rank
    follows_new : (id : ℕ) → a.node.link.to ≡ Some id → (high : ℕ) × HasRank o h id high × FollowsOn o k (Next a.id) high
    follows_new id is =
        let (high, own, f) = run_follows o h c p from a.over id p_on m.at (subst (λ (t : Option ℕ). IsRun h from a.over t) is a.run) in
        let (b, mine, less) = subst (λ (t : Option ℕ). IsAbove o h t rank) is a.above in
        (high, own, (rank, new_rank, omega (arith, rank_one o h id high b own mine, less), same p follows high f))
      where
        same : (q : Place) → FollowsOn o h q rank → (high : ℕ) → FollowsOn o h q high → o.root high ≡ o.root rank
        same (Root r) f high g = g ∙ sym f
        same (Side d) f high g = absurd f
        same (Next d) (low, own, less, one) high (low2, has2, less2, two) = two ∙ (ap (λ (x : ℕ). o.root x) (rank_one o h d low2 low has2 own) ∙ sym one)

    leads : (q : Place) (id : ℕ) → IsChainPlace o k q → LeadsTo k q (Some id) → (b : ℕ) × HasRank o k id b × FollowsOn o k q b
    leads q id l to_node = elim (place_either q p) [
      | inl same ↦
          let here : LeadsTo k p (Some id) = subst (λ (z : Place). LeadsTo k z (Some id)) same to_node in
          let is : a.id ≡ id = moved_target h k p from to a.id id m a.to_is here in (
            rank,
            subst (λ (z : ℕ). HasRank o k z rank) is new_rank,
            subst (λ (z : Place). FollowsOn o k z rank) (sym same) (follows_stays o h k m.values p rank follows),
          )
      | inr ne ↦ other q l to_node ne
    ]
      where
        from_old : (q : Place) → IsChainPlace o h q → LeadsTo k q (Some id) → q ≢ p → (b : ℕ) × HasRank o k id b × FollowsOn o k q b
        from_old q l to_node ne =
            let (b, own, f) = c.leads q id l (leads_same k h q (Some id) (sym (m.others q ne)) to_node) in
            (b, rank_stays o h k m.values id b own, follows_stays o h k m.values q b f)

        other : (q : Place) → IsChainPlace o k q → LeadsTo k q (Some id) → q ≢ p → (b : ℕ) × HasRank o k id b × FollowsOn o k q b
        other (Root r) l to_node ne = from_old (Root r) l to_node ne
        other (Side d) l to_node ne = absurd l
        other (Next d) (low, own_low) to_node ne = elim (rank_old d low own_low) [
          | inl before ↦ from_old (Next d) (low, before) to_node ne
          | inr same ↦
              let here : LeadsTo k (Next a.id) (Some id) = subst (λ (z : ℕ). LeadsTo k (Next z) (Some id)) same to_node in
              let is : a.node.link.to ≡ Some id = ap (λ (x : Link). x.to) (some_same (sym new.shows ∙ here.at)) ∙ here.to_is in
              let (b, own, f) = follows_new id is in
              (b, rank_stays o h k m.values id b own, subst (λ (z : ℕ). FollowsOn o k (Next z) b) (sym same) f)
        ]

    -- the links lead from the place over the new node
    pub link_way : IsPath k p (a.id ∷ []) a.node.link.to
    link_way = (record { link = to; at = m.moved; to_is = ap (λ (x : Link). x.to) a.to_is }, record { link = a.node.link; at = new.shows; to_is = refl })

    on_chain : (root y : ℕ) (link : Link) → shown h (Next y) ≡ Some link → link.mark ≡ false → IsOnChain h root y → IsOnChain k root y
    on_chain root y link at plain on = detour h k p from a.over a.node.link.to (a.id ∷ []) m.at a.run link_way m.others y link at plain root on

    new_on_chain : IsOnChain k (o.root rank) a.id
    new_on_chain = cases p m a.on_chain
      where
        step : (q : Place) → IsMoved h k q from to → LeadsTo k q (Some a.id)
        step q n = record { link = to; at = n.moved; to_is = ap (λ (x : Link). x.to) a.to_is }

        cases : (q : Place) → IsMoved h k q from to → IsPlaceOnChain h (o.root rank) q → IsOnChain k (o.root rank) a.id
        cases (Root r) n on = record { over = []; path = subst (λ (z : ℕ). LeadsTo k (Root z) (Some a.id)) on (step (Root r) n) }
        cases (Side d) n on = absurd on
        cases (Next d) n on =
            let there = on_chain (o.root rank) d from n.at a.plain on in
            record { over = there.over ++ d ∷ []; path = path_join k (Root (o.root rank)) there.over d [] (Some a.id) there.path (step (Next d) n) }

    pub live_link : (id b : ℕ) → IsLive o h id b → IsLive o k id b
    live_link id b y =
        let (own, at, plain) = unmarked_after h k p from to m a.plain (ap (λ (x : Link). x.mark) a.to_is) (Next id) y.link y.at y.unmarked in
        record { has_rank = rank_stays o h k m.values id b y.has_rank; link = own; at = at; unmarked = plain }

    -- the new node is live
    pub live_new : IsLive o k a.id rank
    live_new = record { has_rank = new_rank; link = a.node.link; at = new.shows; unmarked = a.own_plain }

    pub live_before_link : (id b : ℕ) → IsLive o k id b → IsLive o h id b ⊎ (id ≡ a.id)
    live_before_link id b y = elim (rank_old id b y.has_rank) [
      | inl had ↦
          let (own, at, plain) = unmarked_before h k p from to m a.plain (ap (λ (x : Link). x.mark) a.to_is) (Next id) y.link y.at y.unmarked in
          inl (record { has_rank = had; link = own; at = at; unmarked = plain })
      | inr is ↦ inr is
    ]

    pub chains_link : AreChains o k
    chains_link = record {
      leads = leads;
      kept = λ id b link own at plain. elim (rank_old id b own) [
        | inl had ↦
            let (was, before, was_plain) = unmarked_before h k p from to m a.plain (ap (λ (x : Link). x.mark) a.to_is) (Next id) link at plain in
            on_chain (o.root b) id was before was_plain (c.kept id b was had before was_plain)
        | inr is ↦
            let one : rank ≡ b = rank_one o k id rank b (subst (λ (z : ℕ). HasRank o k z rank) (sym is) new_rank) own in
            subst (λ (z : ℕ). IsOnChain k (o.root z) id) one (subst (λ (z : ℕ). IsOnChain k (o.root rank) z) (sym is) new_on_chain)
      ];
    }

    -- no node with the rank was live
    pub link_absent : (id : ℕ) → IsLive o h id rank → ⊥
    link_absent id y = absent o h c p from a.over a.node.link.to rank a.on_chain a.below m.at a.run a.above id y
