-- Paths along the links of chains: where they lead, that they are lines, and how they go on after a Move.
use Rattle.std.proofs.Common.{List, Option, Some, [], ap, arith, false, inl, inr, length, subst, suc, sym, true, zero, ℕ, ◌++◌, ◌<◌, ◌∙◌, ◌∷◌, ◌≡◌, ◌≢◌, ◌≤◌, ◌⊎◌}
use Rattle.orc_heap.specs.Heap.{Heap, link_to, shown}
use Rattle.orc_heap.specs.declared.events.Link.{Link}
use Rattle.orc_heap.specs.declared.events.Place.{Place}
use Rattle.orc_heap.specs.declared.events.Place.TheVariants.{Next, Root, Side}
use Rattle.orc_ordered_chains.specs.Chains.{AreChains, FollowsOn, HasRank, IsAbove, IsPlaceBelow, IsChainPlace, IsLive, IsOnChain, IsPath, IsPlaceOnChain, IsRun, LeadsTo, Order}
use Rattle.orc_heap.proofs.SingleActs.{shown_link, some_same}
use Rattle.orc_ordered_chains.proofs.Acts.{IsMoved, place_either, rank_one}

pub leads_one : (h : Heap) (p : Place) (a b : Option ℕ) → LeadsTo h p a → LeadsTo h p b → a ≡ b
leads_one h p a b x y =
    let same : x.link ≡ y.link = some_same (sym x.at ∙ y.at) in
    sym x.to_is ∙ (ap (λ (l : Link). l.to) same ∙ y.to_is)

pub leads_same : (h k : Heap) (p : Place) (to : Option ℕ) → shown k p ≡ shown h p → LeadsTo h p to → LeadsTo k p to
leads_same h k p to same l = record { link = l.link; at = same ∙ l.at; to_is = l.to_is }

-- what a moved place leads to is the node that it was moved to
pub moved_target : (h k : Heap) (p : Place) (from to : Link) (i id : ℕ) → IsMoved h k p from to → to ≡ link_to i → LeadsTo k p (Some id) → i ≡ id
moved_target h k p from to i id m is l =
    some_same (sym (ap (λ (x : Link). x.to) is) ∙ (ap (λ (x : Link). x.to) (some_same (sym m.moved ∙ l.at)) ∙ l.to_is))

-- a run is a path
pub run_path : (h : Heap) (p : Place) (from : Link) (ids : List ℕ) (to : Option ℕ) → shown h p ≡ Some from → IsRun h from ids to → IsPath h p ids to
run_path h p from [] to at run = record { link = from; at = at; to_is = run }
run_path h p from (x ∷ xs) to at (is, next, own, mark, run) =
    (record { link = from; at = at; to_is = is }, run_path h (Next x) next xs to (shown_link h x next own) run)

pub path_join : (h : Heap) (p : Place) (xs : List ℕ) (d : ℕ) (ys : List ℕ) (to : Option ℕ) → IsPath h p xs (Some d) → IsPath h (Next d) ys to
    → IsPath h p (xs ++ d ∷ ys) to
path_join h p [] d ys to a b = (a, b)
path_join h p (x ∷ xs) d ys to a b = (a.0, path_join h (Next x) xs d ys to a.1 b)

-- a node with an unmarked link is in no run
pub not_marked : (h : Heap) (x : ℕ) (link next : Link) → shown h (Next x) ≡ Some link → link.mark ≡ false → shown h (Next x) ≡ Some next → next.mark ≡ true → ⊥
not_marked h x link next at plain shows mark =
    let same : link ≡ next = some_same (sym at ∙ shows) in
    let bad : false ≡ true = sym plain ∙ (ap (λ (l : Link). l.mark) same ∙ mark) in
    cc

-- a path to a node with an unmarked link goes past a run: it ends there, or goes on, and is shorter
pub past_run : (h : Heap) (p : Place) (from : Link) (run : List ℕ) (to : Option ℕ) (ids : List ℕ) (y : ℕ) (link : Link) → shown h (Next y) ≡ Some link
    → link.mark ≡ false
    → shown h p ≡ Some from → IsRun h from run to → IsPath h p ids (Some y)
    → (to ≡ Some y) ⊎ ((d : ℕ) × (rest : List ℕ) × (to ≡ Some d) × IsPath h (Next d) rest (Some y) × (length rest < length ids))
past_run h p from [] to [] y link own plain at run path = inl (sym run ∙ (ap (λ (l : Link). l.to) (some_same (sym at ∙ path.at)) ∙ path.to_is))
past_run h p from [] to (v ∷ ids) y link own plain at run path =
    inr (v, ids, sym run ∙ (ap (λ (l : Link). l.to) (some_same (sym at ∙ path.0.at)) ∙ path.0.to_is), path.1, omega arith)
past_run h p from (x ∷ xs) to [] y link own plain at (is, next, has_link, mark, run) path =
    let same : x ≡ y = some_same (sym is ∙ (ap (λ (l : Link). l.to) (some_same (sym at ∙ path.at)) ∙ path.to_is)) in
    absurd (not_marked h y link next own plain (subst (λ (z : ℕ). shown h (Next z) ≡ Some next) same (shown_link h x next has_link)) mark)
past_run h p from (x ∷ xs) to (v ∷ ids) y link own plain at (is, next, has_link, mark, run) path =
    let same : v ≡ x = some_same (sym path.0.to_is ∙ (ap (λ (l : Link). l.to) (some_same (sym path.0.at ∙ at)) ∙ is)) in
    elim (past_run h (Next x) next xs to ids y link own plain (shown_link h x next has_link) run
    (subst (λ (z : ℕ). IsPath h (Next z) ids (Some y)) same path.1)) [
      | inl end ↦ inl end
      | inr more ↦ inr (more.0, more.1, more.2, more.3, omega (arith, more.4))
    ]

-- a path to a node with an unmarked link goes on where one place leads another way over its run
detour_step : (h k : Heap) (p : Place) (from : Link) (run : List ℕ) (to : Option ℕ) (new : List ℕ) → shown h p ≡ Some from → IsRun h from run to
    → IsPath k p new to
    → ((q : Place) → q ≢ p → shown k q ≡ shown h q)
    → (y : ℕ) (link : Link) → shown h (Next y) ≡ Some link → link.mark ≡ false
    → (q : Place) (ids : List ℕ) → IsPath h q ids (Some y)
    → ((d : ℕ) (rest : List ℕ) → length rest < length ids → IsPath h (Next d) rest (Some y) → (over : List ℕ) × IsPath k (Next d) over (Some y))
    → (over : List ℕ) × IsPath k q over (Some y)
detour_step h k p from run to new at r way others y link own plain q ids path go =
    elim (place_either q p) [ inl same ↦ turn same | inr ne ↦ straight ids path go ne ]
  where
    turn : q ≡ p → (over : List ℕ) × IsPath k q over (Some y)
    turn same =
        let here : IsPath h p ids (Some y) = subst (λ (z : Place). IsPath h z ids (Some y)) same path in
        elim (past_run h p from run to ids y link own plain at r here) [
          | inl end ↦ (new, subst (λ (z : Place). IsPath k z new (Some y)) (sym same) (subst (λ (t : Option ℕ). IsPath k p new t) end way))
          | inr more ↦
              let (d, rest, is, on, less) = more in
              let (over, further) = go d rest less on in
              let there : IsPath k p new (Some d) = subst (λ (t : Option ℕ). IsPath k p new t) is way in
              (new ++ d ∷ over, subst (λ (z : Place). IsPath k z (new ++ d ∷ over) (Some y)) (sym same) (path_join k p new d over (Some y) there further))
        ]

    straight : (ids : List ℕ) → IsPath h q ids (Some y)
        → ((d : ℕ) (rest : List ℕ) → length rest < length ids → IsPath h (Next d) rest (Some y) → (over : List ℕ) × IsPath k (Next d) over (Some y))
        → q ≢ p → (over : List ℕ) × IsPath k q over (Some y)
    straight [] path go ne = ([], leads_same h k q (Some y) (others q ne) path)
    straight (v ∷ ids) path go ne =
        let (over, further) = go v ids (omega arith) path.1 in
        (v ∷ over, (leads_same h k q (Some v) (others q ne) path.0, further))

detour_of : (h k : Heap) (p : Place) (from : Link) (run : List ℕ) (to : Option ℕ) (new : List ℕ) → shown h p ≡ Some from → IsRun h from run to
    → IsPath k p new to
    → ((q : Place) → q ≢ p → shown k q ≡ shown h q)
    → (y : ℕ) (link : Link) → shown h (Next y) ≡ Some link → link.mark ≡ false
    → (fuel : ℕ) (q : Place) (ids : List ℕ) → length ids ≤ fuel → IsPath h q ids (Some y) → (over : List ℕ) × IsPath k q over (Some y)
detour_of h k p from run to new at r way others y link own plain zero q ids few path =
    detour_step h k p from run to new at r way others y link own plain q ids path (λ d rest less on. absurd (omega (arith, few, less)))
detour_of h k p from run to new at r way others y link own plain (suc fuel) q ids few path =
    detour_step h k p from run to new at r way others y link own plain q ids path (λ d rest less on.
    detour_of h k p from run to new at r way others y link own plain fuel (Next d) rest (omega (arith, few, less)) on)

pub detour : (h k : Heap) (p : Place) (from : Link) (run : List ℕ) (to : Option ℕ) (new : List ℕ) → shown h p ≡ Some from → IsRun h from run to
    → IsPath k p new to
    → ((q : Place) → q ≢ p → shown k q ≡ shown h q)
    → (y : ℕ) (link : Link) → shown h (Next y) ≡ Some link → link.mark ≡ false
    → (root : ℕ) → IsOnChain h root y → IsOnChain k root y
detour h k p from run to new at r way others y link own plain root on =
    let (over, path) = detour_of h k p from run to new at r way others y link own plain (length on.over) (Root root) on.over (omega arith) on.path in
    record { over = over; path = path }

-- what follows is of chains in order

module _ (o : Order) where
  pub follows_trans : (h : Heap) (p : Place) (x a b : ℕ) → FollowsOn o h p a → HasRank o h x a → FollowsOn o h (Next x) b → FollowsOn o h p b
  follows_trans h (Root r) x a b f k (low, has, less, same) =
      let is : low ≡ a = rank_one o h x low a has k in
      same ∙ (ap (λ (z : ℕ). o.root z) is ∙ f)
  follows_trans h (Side id) x a b f k g = absurd f
  follows_trans h (Next id) x a b (first, own, under, one) k (low, has, less, same) =
      let is : low ≡ a = rank_one o h x low a has k in
      (first, own, omega (arith, is, under, less), same ∙ (ap (λ (z : ℕ). o.root z) is ∙ one))

  -- a path leads to ranks that may follow
  pub path_follows : (h : Heap) → AreChains o h → (p : Place) (ids : List ℕ) (id : ℕ) → IsChainPlace o h p
      → IsPath h p ids (Some id)
      → (rank : ℕ) × HasRank o h id rank × FollowsOn o h p rank
  path_follows h c p [] id l path = c.leads p id l path
  path_follows h c p (x ∷ xs) id l path =
      let (a, k, f) = c.leads p x l path.0 in
      let (b, j, g) = path_follows h c (Next x) xs id (a, k) path.1 in
      (b, j, follows_trans h p x a b f k g)

  -- a node is reached only from the root of its rank
  pub chain_root : (h : Heap) → AreChains o h → (root id rank : ℕ) → o.begins root ≡ true → IsOnChain h root id → HasRank o h id rank
      → o.root rank ≡ root
  chain_root h c root id rank begins on k =
      let (a, j, f) = path_follows h c (Root root) on.over id begins on.path in
      ap (λ (z : ℕ). o.root z) (rank_one o h id rank a k j) ∙ f

  pub chain_linked : (h : Heap) → AreChains o h → (root id : ℕ) → o.begins root ≡ true → IsOnChain h root id → (rank : ℕ) × HasRank o h id rank
  chain_linked h c root id begins on =
      let (a, j, f) = path_follows h c (Root root) on.over id begins on.path in
      (a, j)

  -- a place on the chain of a rank's root
  pub place_on_chain : (h : Heap) → AreChains o h → (rank : ℕ) (p : Place) → IsPlaceOnChain h (o.root rank) p → IsChainPlace o h p
  place_on_chain h c rank (Root r) on = subst (λ (z : ℕ). o.begins z ≡ true) (sym on) (o.begun rank)
  place_on_chain h c rank (Next d) on = chain_linked h c (o.root rank) d (o.begun rank) on
  place_on_chain h c rank (Side d) on = absurd on

  pub run_follows : (h : Heap) → AreChains o h → (p : Place) (from : Link) (ids : List ℕ) (id : ℕ) → IsChainPlace o h p
      → shown h p ≡ Some from → IsRun h from ids (Some id)
      → (rank : ℕ) × HasRank o h id rank × FollowsOn o h p rank
  run_follows h c p from ids id l at run = path_follows h c p ids id l (run_path h p from ids (Some id) at run)

  pub below : (h : Heap) → AreChains o h → (x : ℕ) (ids : List ℕ) (y a b : ℕ) → HasRank o h x a → HasRank o h y b
      → IsPath h (Next x) ids (Some y) → a < b
  below h c x ids y a b j k path =
      let (rank, has, follows) = path_follows h c (Next x) ids y (a, j) path in
      let (low, own, less, same) = follows in
      omega (arith, rank_one o h y rank b has k, rank_one o h x low a own j, less)

  -- of two nodes on one line, the one with the lower rank leads to the other
  pub from_low : (h : Heap) → AreChains o h → (p : Place) (xs ys : List ℕ) (x y a b : ℕ) → HasRank o h x a → HasRank o h y b
      → a < b
      → IsPath h p xs (Some x) → IsPath h p ys (Some y) → (zs : List ℕ) × IsPath h (Next x) zs (Some y)
  from_low h c p [] [] x y a b j k less s t =
      let same : x ≡ y = some_same (leads_one h p (Some x) (Some y) s t) in
      absurd (omega (arith, less, rank_one o h y a b (subst (λ (z : ℕ). HasRank o h z a) same j) k))
  from_low h c p [] (v ∷ ys) x y a b j k less s t =
      let same : v ≡ x = some_same (leads_one h p (Some v) (Some x) t.0 s) in
      (ys, subst (λ (z : ℕ). IsPath h (Next z) ys (Some y)) same t.1)
  from_low h c p (u ∷ xs) [] x y a b j k less s t =
      let same : y ≡ u = some_same (leads_one h p (Some y) (Some u) t s.0) in
      absurd (omega (arith, less, below h c u xs x b a (subst (λ (z : ℕ). HasRank o h z b) same k) j s.1))
  from_low h c p (u ∷ xs) (v ∷ ys) x y a b j k less s t =
      let same : v ≡ u = some_same (leads_one h p (Some v) (Some u) t.0 s.0) in
      from_low h c (Next u) xs ys x y a b j k less s.1 (subst (λ (z : ℕ). IsPath h (Next z) ys (Some y)) same t.1)

  -- two nodes on one line with one rank are one
  pub one_on_line : (h : Heap) → AreChains o h → (p : Place) (xs ys : List ℕ) (x y a : ℕ) → HasRank o h x a → HasRank o h y a
      → IsPath h p xs (Some x) → IsPath h p ys (Some y) → x ≡ y
  one_on_line h c p [] [] x y a j k s t = some_same (leads_one h p (Some x) (Some y) s t)
  one_on_line h c p [] (v ∷ ys) x y a j k s t =
      let same : v ≡ x = some_same (leads_one h p (Some v) (Some x) t.0 s) in
      absurd (omega (arith, below h c v ys y a a (subst (λ (z : ℕ). HasRank o h z a) (sym same) j) k t.1))
  one_on_line h c p (u ∷ xs) [] x y a j k s t =
      let same : y ≡ u = some_same (leads_one h p (Some y) (Some u) t s.0) in
      absurd (omega (arith, below h c u xs x a a (subst (λ (z : ℕ). HasRank o h z a) same k) j s.1))
  one_on_line h c p (u ∷ xs) (v ∷ ys) x y a j k s t =
      let same : v ≡ u = some_same (leads_one h p (Some v) (Some u) t.0 s.0) in
      one_on_line h c (Next u) xs ys x y a j k s.1 (subst (λ (z : ℕ). IsPath h (Next z) ys (Some y)) same t.1)

  pub live_on : (h : Heap) → AreChains o h → (id rank : ℕ) → IsLive o h id rank → IsOnChain h (o.root rank) id
  live_on h c id rank y = c.kept id rank y.link y.has_rank y.at y.unmarked

  -- a live node with a greater rank than a live one, of the same root, stands behind it
  pub live_behind : (h : Heap) → AreChains o h → (x y a b : ℕ) → IsLive o h x a → IsLive o h y b → a < b → o.root a ≡ o.root b
      → (zs : List ℕ) × IsPath h (Next x) zs (Some y)
  live_behind h c x y a b one two less same =
      let s = live_on h c x a one in
      let t = live_on h c y b two in
      from_low h c (Root (o.root a)) s.over t.over x y a b one.has_rank two.has_rank less s.path
      (subst (λ (r : ℕ). IsPath h (Root r) t.over (Some y)) (sym same) t.path)

  -- two live nodes with one rank are one
  pub one_live : (h : Heap) → AreChains o h → (x y rank : ℕ) → IsLive o h x rank → IsLive o h y rank → x ≡ y
  one_live h c x y rank a b =
      let s = live_on h c x rank a in
      let t = live_on h c y rank b in
      one_on_line h c (Root (o.root rank)) s.over t.over x y rank a.has_rank b.has_rank s.path t.path

  -- no live node has the rank where a place below it on its chain leads, over a run, to what is above it
  pub absent : (h : Heap) → AreChains o h → (p : Place) (from : Link) (run : List ℕ) (to : Option ℕ) (rank : ℕ)
      → IsPlaceOnChain h (o.root rank) p → IsPlaceBelow o h p rank → shown h p ≡ Some from → IsRun h from run to → IsAbove o h to rank
      → (id : ℕ) → IsLive o h id rank → ⊥
  absent h c p from run to rank on under at r above id y =
      let (ids, path) = reach p on under in
      elim (past_run h p from run to ids id y.link y.at y.unmarked at r path) [
        | inl end ↦
            let (high, has, less) = subst (λ (t : Option ℕ). IsAbove o h t rank) end above in
            omega (arith, rank_one o h id high rank has y.has_rank, less)
        | inr more ↦
            let (high, has, less) = subst (λ (t : Option ℕ). IsAbove o h t rank) more.2 above in
            omega (arith, less, below h c more.0 more.1 id high rank has y.has_rank more.3)
      ]
    where
      on_chain : IsOnChain h (o.root rank) id
      on_chain = live_on h c id rank y

      reach : (p : Place) → IsPlaceOnChain h (o.root rank) p → IsPlaceBelow o h p rank → (ids : List ℕ) × IsPath h p ids (Some id)
      reach (Root r) on under = (on_chain.over, subst (λ (z : ℕ). IsPath h (Root z) on_chain.over (Some id)) (sym on) on_chain.path)
      reach (Side d) on under = absurd on
      reach (Next d) on (low, own, less) =
          from_low h c (Root (o.root rank)) on.over on_chain.over d id low rank own y.has_rank less on.path on_chain.path
