-- Which nodes are on a chain after a Move, and that the nodes of a run that it leads past are on none.
use Rattle.std.proofs.Common.{Contains, List, Option, Some, [], ap, append-nil, append_assoc, arith, false, inl, inr, length, refl, subst, suc, sym, true, zero, ℕ, ◌++◌, ◌<◌, ◌==◌, ◌∙◌, ◌∷◌, ◌≡◌, ◌≢◌, ◌≤◌, ◌⊎◌}
use Rattle.std.proofs.lemmas.Bool.{eq-eqb, eqb-true, or_cases, or_left, or_right}
use Rattle.orc_heap.proofs.Runs.{run_heap-snoc}
use Rattle.orc_heap.specs.Acts.{Fits, heap_after}
use Rattle.orc_heap.specs.Allowed.{AllAllowed, HasLink, IsLinkedNode}
use Rattle.orc_heap.specs.Heap.{Heap, HeapNumbers, Node, link_to, shown}
use Rattle.std.specs.List.{slice_get}
use Rattle.orc_chain_rule.proofs.Later.{linked_later}
use Rattle.orc_heap.specs.Journals.{event_by, run_heap}
use Rattle.orc_heap.specs.declared.events.Act.TheVariants.{Move}
use Rattle.orc_heap.specs.declared.events.Event.{Event}
use Rattle.orc_heap.specs.declared.events.Link.{Link}
use Rattle.orc_heap.specs.declared.events.Place.{Place}
use Rattle.orc_heap.specs.declared.events.Place.TheVariants.{Next, Root, Side}
use Rattle.orc_history.specs.SetHistory.{has}
use Rattle.orc_history.specs.declared.set.SetEntry.TheVariants.{Added}
use Rattle.orc_chain_rule.specs.declared.chain.ChainNote.{ChainNote}
use Rattle.orc_chain_rule.specs.declared.chain.ChainNote.TheVariants.{Entry, Unlink}
use Rattle.orc_heap.proofs.SingleActs.{link_shown, linked_node, shown_link, some_same}
use Rattle.orc_ordered_chains.specs.Chains.{AreChains as AreOrderedChains, FollowsOn as RankFollowsOn, HasRank, IsChainPlace as IsRankedPlace, IsOnChain, IsPath, IsPlaceOnChain, IsRun, Order, link_over}
use Rattle.orc_ordered_chains.proofs.Acts.{IsMoved, act_unmoved, move_moves, place_either, rank_one, rank_stays}
use Rattle.orc_ordered_chains.proofs.Linking.{link_way}
use Rattle.orc_ordered_chains.proofs.Marking.{chain_before}
use Rattle.orc_ordered_chains.proofs.Paths.{below, chain_root, from_low, leads_one, leads_same, path_follows, path_join, run_follows, run_path}
use Rattle.orc_ordered_chains.proofs.Still.{IsStill, unmoved_still}
use Rattle.orc_chain_rule.specs.ChainDiscipline.{AreChains, ChainHolds, ChainMay, IsOnNoChain, chain_order, set_after}
use Rattle.orc_chain_rule.specs.Laws.Kinds.{each_kind}
use Rattle.orc_chain_rule.specs.Laws.Kept.{add_links, add_place, chain_keeps, remove_marks}

-- where a chain led before

pub chain_step : (h : Heap) (root : ℕ) (q : Place) (ids : List ℕ) (y : ℕ) → IsPlaceOnChain h root q → IsPath h q ids (Some y) → IsOnChain h root y
chain_step h root (Root r) ids y on path = record { over = ids; path = subst (λ (z : ℕ). IsPath h (Root z) ids (Some y)) on path }
chain_step h root (Side d) ids y on path = absurd on
chain_step h root (Next d) ids y on path = record { over = on.over ++ d ∷ ids; path = path_join h (Root root) on.over d ids (Some y) on.path path }

past_path : (k : Heap) (p : Place) (new : List ℕ) (to : Option ℕ) (ids : List ℕ) (y : ℕ) → IsPath k p new to → IsPath k p ids (Some y)
    → (has y new ≡ true) ⊎ ((to ≡ Some y) ⊎ ((d : ℕ) × (rest : List ℕ) × (to ≡ Some d) × IsPath k (Next d) rest (Some y) × (length rest < length ids)))
past_path k p [] to [] y way path = inr (inl (leads_one k p to (Some y) way path))
past_path k p [] to (v ∷ ids) y way path = inr (inr (v, ids, leads_one k p to (Some v) way path.0, path.1, omega arith))
past_path k p (x ∷ xs) to [] y way path =
    let same : x ≡ y = some_same (leads_one k p (Some x) (Some y) way.0 path) in
    inl (or_left (x == y) (has y xs) ((eq-eqb x y same)))
past_path k p (x ∷ xs) to (v ∷ ids) y way path =
    let same : v ≡ x = some_same (leads_one k p (Some v) (Some x) path.0 way.0) in
    elim (past_path k (Next x) xs to ids y way.1 (subst (λ (z : ℕ). IsPath k (Next z) ids (Some y)) same path.1)) [
      | inl new ↦ inl (or_right (x == y) (has y xs) (new))
      | inr more ↦ elim more [
        | inl end ↦ inr (inl end)
        | inr on ↦ inr (inr (on.0, on.1, on.2, on.3, omega (arith, on.4)))
      ]
    ]

-- a node on a chain was on it before, or it is new
module _ (h k : Heap) (root : ℕ) (p : Place) (from : Link) (run new : List ℕ) (to : Option ℕ) (at : shown h p ≡ Some from) (r : IsRun h from run to)
    (way : IsPath k p new to)
    (others : (q : Place) → q ≢ p → shown k q ≡ shown h q) (y : ℕ)
  where
    back_step : (q : Place) (ids : List ℕ) → IsPlaceOnChain h root q → IsPath k q ids (Some y)
        → ((d : ℕ) (rest : List ℕ) → length rest < length ids → IsOnChain h root d → IsPath k (Next d) rest (Some y) → (has y new ≡ true) ⊎ IsOnChain h root y)
        → (has y new ≡ true) ⊎ IsOnChain h root y
    back_step q ids on path go = elim (place_either q p) [ inl same ↦ turn same | inr ne ↦ straight ids path go ne ]
      where
        turn : q ≡ p → (has y new ≡ true) ⊎ IsOnChain h root y
        turn same =
            let here : IsPath k p ids (Some y) = subst (λ (z : Place). IsPath k z ids (Some y)) same path in
            let on_p : IsPlaceOnChain h root p = subst (λ (z : Place). IsPlaceOnChain h root z) same on in
            elim (past_path k p new to ids y way here) [
              | inl is_new ↦ inl is_new
              | inr more ↦ elim more [
                | inl end ↦ inr (chain_step h root p run y on_p (subst (λ (t : Option ℕ). IsPath h p run t) end (run_path h p from run to at r)))
                | inr further ↦
                    let (d, rest, is, path_d, less) = further in
                    go d rest less (chain_step h root p run d on_p (subst (λ (t : Option ℕ). IsPath h p run t) is (run_path h p from run to at r))) path_d
              ]
            ]

        straight : (ids : List ℕ) → IsPath k q ids (Some y)
            → ((d : ℕ) (rest : List ℕ) → length rest < length ids → IsOnChain h root d → IsPath k (Next d) rest (Some y) → (has y new ≡ true)
            ⊎ IsOnChain h root y)
            → q ≢ p → (has y new ≡ true) ⊎ IsOnChain h root y
        straight [] path go ne = inr (chain_step h root q [] y on (leads_same k h q (Some y) (sym (others q ne)) path))
        straight (v ∷ ids) path go ne = go v ids (omega arith) (chain_step h root q [] v on (leads_same k h q (Some v) (sym (others q ne)) path.0)) path.1

    back_of : (fuel : ℕ) (q : Place) (ids : List ℕ) → length ids ≤ fuel → IsPlaceOnChain h root q → IsPath k q ids (Some y)
        → (has y new ≡ true) ⊎ IsOnChain h root y
    back_of zero q ids few on path = back_step q ids on path (λ d rest less on_d path_d. absurd (omega (arith, few, less)))
    back_of (suc fuel) q ids few on path =
        back_step q ids on path (λ d rest less on_d path_d. back_of fuel (Next d) rest (omega (arith, few, less)) on_d path_d)

    pub chain_back : IsOnChain k root y → (has y new ≡ true) ⊎ IsOnChain h root y
    chain_back on = back_of (length on.over) (Root root) on.over (omega arith) refl on.path

pub path_still_back : (o : Order) (h k : Heap) → AreOrderedChains o h → IsStill o h k → (p : Place) (ids : List ℕ) (to : Option ℕ)
    → IsRankedPlace o h p → IsPath k p ids to → IsPath h p ids to
path_still_back o h k c s p [] to l path = leads_same k h p to (sym (s.shows p l)) path
path_still_back o h k c s p (x ∷ xs) to l path =
    let first = leads_same k h p (Some x) (sym (s.shows p l)) path.0 in
    let (a, own, f) = c.leads p x l first in
    (first, path_still_back o h k c s (Next x) xs to (a, own) path.1)

-- a run leads on from each of its nodes

reaches : (h : Heap) (p : Place) (from : Link) (over : List ℕ) (to : Option ℕ) (z : ℕ) → shown h p ≡ Some from → IsRun h from over to → Contains over z
    → (ids : List ℕ) × (next : Link) × (rest : List ℕ) × IsPath h p ids (Some z) × HasLink h z next × IsRun h next rest to
reaches h p from [] to z at run (i, low, is) = absurd (omega (arith, low))
reaches h p from (x ∷ xs) to z at (leads, next, own, mark, run) (zero, low, is) =
    ([], next, xs, record { link = from; at = at; to_is = leads ∙ ap (λ (y : ℕ). Some y) is }, subst (λ (y : ℕ). HasLink h y next) is own, run)
reaches h p from (x ∷ xs) to z at (leads, next, own, mark, run) (suc i, low, is) =
    let (ids, link, rest, path, mine, further) = reaches h (Next x) next xs to z (shown_link h x next own) run (i, omega (arith, low), is) in
    (x ∷ ids, link, rest, (record { link = from; at = at; to_is = leads }, path), mine, further)

run_above : (o : Order) (h : Heap) → AreOrderedChains o h → (x : ℕ) (rank : ℕ) (next : Link) (others : List ℕ) (z : ℕ) → HasRank o h x rank
    → HasLink h x next → IsRun h next others (Some z)
    → (high : ℕ) × HasRank o h z high × (rank < high)
run_above o h c x rank next others z own l run =
    let (high, mine, follows) = run_follows o h c (Next x) next others z (rank, own) (shown_link h x next l) run in
    let (low, same, less, one) = follows in
    (high, mine, omega (arith, rank_one o h x low rank same own, less))

-- a node of a run that a place leads past is on no chain

module _ (o : Order) (h k : Heap) (p : Place) (from to : Link) (over new : List ℕ) (target : Option ℕ) (c : AreOrderedChains o h)
    (d : AreOrderedChains o k)
    (m : IsMoved h k p from to) (place : IsRankedPlace o h p) (plain : to.mark ≡ false) (run : IsRun h from over target) (way : IsPath k p new target)
  where
    from_place : (root z rank : ℕ) (q : Place) → shown k q ≡ Some to → HasRank o k z rank → o.root rank ≡ root → RankFollowsOn o h q rank → IsOnChain k root z
        → (ids : List ℕ) × IsPath k q ids (Some z)
    from_place root z rank (Root r) at own same f on = (on.over, subst (λ (x : ℕ). IsPath k (Root x) on.over (Some z)) (sym same ∙ f) on.path)
    from_place root z rank (Side e) at own same f on = absurd f
    from_place root z rank (Next e) at own same (low, mine, less, one) on =
        let mine_k = rank_stays o h k m.values e low mine in
        let here : IsOnChain k root e = subst (λ (x : ℕ). IsOnChain k x e) (sym one ∙ same) (d.kept e low to mine_k at plain) in
        from_low o k d (Root root) here.over on.over e z low rank mine_k own less here.path on.path

    pub passed_off : (z : ℕ) → Contains over z → (has z new ≡ true → ⊥) → (root : ℕ) → o.begins root ≡ true → ¬ IsOnChain k root z
    passed_off z among old root begins on =
        let (ids, next, rest, path, own_link, further) = reaches h p from over target z m.at run among in
        let (rank, own, follows) = path_follows o h c p ids z place path in
        let own_k = rank_stays o h k m.values z rank own in
        let (back, path_k) = from_place root z rank p m.moved own_k (chain_root o k d root z rank begins on own_k) follows on in
        let beyond : (y : ℕ) → target ≡ Some y → (high : ℕ) × HasRank o h y high × (rank < high)
        = λ y is. run_above o h c z rank next rest y own own_link (subst (λ (t : Option ℕ). IsRun h next rest t) is further)
        in
        elim (past_path k p new target back z way path_k) [
          | inl is_new ↦ absurd (old is_new)
          | inr past ↦ elim past [
            | inl end ↦ (let (high, mine, less) = beyond z end in omega (arith, rank_one o h z high rank mine own, less))
            | inr on_from ↦
                let (y, ys, is, path_y, short) = on_from in
                let (high, mine, less) = beyond y is in
                omega (arith, less, below o k d y ys z high rank (rank_stays o h k m.values y high mine) own_k path_y)
          ]
        ]

-- a node that was never linked is no linked one
unlinked_apart : (h : Heap) (fresh id : ℕ) (node : Node) → slice_get h.nodes fresh ≡ Some node → node.linked ≡ false → IsLinkedNode h id
    → has id (fresh ∷ []) ≡ true → ⊥
unlinked_apart h fresh id node there unlinked l is = elim (or_cases (fresh == id) false is) [
  | inl same ↦
      let one : node ≡ l.node = some_same (sym there ∙ (ap (λ (x : ℕ). slice_get h.nodes x) (eqb-true fresh id same) ∙ l.there)) in
      let bad : true ≡ false = sym l.linked ∙ (ap (λ (x : Node). x.linked) (sym one) ∙ unlinked) in
      cc
  | inr bad ↦ cc
]

-- the chains after an event that is allowed
pub chains_after : (n : HeapNumbers) (es : List (Event ChainNote)) (e : Event ChainNote) → ChainHolds n es → ChainMay n es e
    → AreChains n.roots (heap_after e.agent e.act (run_heap n es)) (set_after (es ++ e ∷ []))
chains_after n es e holds may = subst (λ (g : Heap). AreChains n.roots g (set_after (es ++ e ∷ []))) (run_heap-snoc n es e) (chain_keeps n es e holds may).chains

-- the nodes of a run that an Unlink leads past
pub unlinked_off : (n : HeapNumbers) (agent : ℕ) (place : Place) (from : Link) (over : List ℕ) (to : Option ℕ) (id : ℕ) (seen : List (Event ChainNote))
    → ChainHolds n seen
    → (let e : Event ChainNote = event_by agent (Move place from (link_over to)) (Some Unlink) in ChainMay n seen e → IsRun (run_heap n seen) from over to
    → Contains over id → IsOnNoChain (run_heap n (seen ++ e ∷ [])) id)
unlinked_off n agent place from over to id seen holds may run among =
    let e : Event ChainNote = event_by agent (Move place from (link_over to)) (Some Unlink) in
    let h : Heap = run_heap n seen in
    let m = move_moves agent place from (link_over to) h may.fits in
    rw (run_heap-snoc n seen e)
    (λ root. passed_off (chain_order n.roots) h (heap_after agent e.act h) place from (link_over to) over [] to holds.chains.ordered
    (chains_after n seen e holds may).ordered
    m may.may_act.linked refl run (record { link = link_over to; at = m.moved; to_is = refl }) id among (λ bad. cc) root refl)

-- the nodes of a run that an Added leads past, from the new node on
pub added_off : (n : HeapNumbers) (agent : ℕ) (place : Place) (from : Link) (over : List ℕ) (to : Option ℕ) (key fresh id : ℕ) (seen : List (Event ChainNote))
    → ChainHolds n seen
    → (let e : Event ChainNote = event_by agent (Move place from (link_to fresh)) (Some (Entry (Added agent key true))) in
    ChainMay n seen e → shown (run_heap n seen) (Next fresh) ≡ Some (link_over to) → IsRun (run_heap n seen) from over to → Contains over id
    → IsOnNoChain (run_heap n (seen ++ e ∷ [])) id)
added_off n agent place from over to key fresh id seen holds may at run among =
    let e : Event ChainNote = event_by agent (Move place from (link_to fresh)) (Some (Entry (Added agent key true))) in
    let h : Heap = run_heap n seen in
    let k : Heap = heap_after agent e.act h in
    let keys : List ℕ = set_after seen in
    let c = holds.chains in
    let m = move_moves agent place from (link_to fresh) h may.fits in
    let a = may.may_act.1 in
    let l = add_place n.roots h keys c place from (link_to fresh) key a in
    let new = add_links n.roots h keys c agent place from (link_to fresh) key may.fits a in
    let same : fresh ≡ a.id = some_same (ap (λ (x : Link). x.to) a.to_is) in
    let own : a.node.link ≡ link_over to =
    link_shown h a.id (link_over to) a.node a.there (subst (λ (x : ℕ). shown h (Next x) ≡ Some (link_over to)) same at) in
    let way : IsPath k place (a.id ∷ []) to = (
      record { link = link_to fresh; at = m.moved; to_is = ap (λ (x : ℕ). Some x) same },
      record { link = a.node.link; at = new.shows; to_is = ap (λ (x : Link). x.to) own },
    ) in
    rw (run_heap-snoc n seen e)
    (λ root. passed_off (chain_order n.roots) h k place from (link_to fresh) over (a.id ∷ []) to c.ordered
    (chains_after n seen e holds may).ordered m l refl run way id among
    (λ is_new.
    let (ids, next, rest, path, own_link, further) = reaches h place from over to id m.at run among in
    unlinked_apart h a.id id a.node a.there a.unlinked (linked_node h id next own_link) is_new)
    root refl)

-- a once linked node that is on no chain stays on none

on_before : (n : HeapNumbers) (es : List (Event ChainNote)) (e : Event ChainNote) (root id : ℕ) → ChainHolds n es → ChainMay n es e
    → IsLinkedNode (run_heap n es) id
    → IsOnChain (heap_after e.agent e.act (run_heap n es)) root id → IsOnChain (run_heap n es) root id
on_before n es e root id holds may linked =
    let h : Heap = run_heap n es in
    let keys : List ℕ = set_after es in
    let c = holds.chains in
    let o = chain_order n.roots in
    each_kind n.roots h keys (λ act noted. Fits e.agent act h → IsOnChain (heap_after e.agent act h) root id → IsOnChain h root id)
    (λ act plain fits on. record {
      over = on.over;
      path = path_still_back o h (heap_after e.agent act h) c.ordered
          (unmoved_still o h (heap_after e.agent act h) (act_unmoved e.agent act h fits plain)) (Root root) on.over (Some id) refl on.path;
    })
    (λ p from to by key a fits on.
    let k : Heap = heap_after e.agent (Move p from to) h in
    let m = move_moves e.agent p from to h fits in
    let new = add_links n.roots h keys c e.agent p from to key fits a in
    let way = link_way o h k p from to key c.ordered m a new in
    elim (chain_back h k root p from a.over (a.id ∷ []) a.node.link.to m.at a.run way m.others id on) [
      | inl is_new ↦ absurd (unlinked_apart h a.id id a.node a.there a.unlinked linked is_new)
      | inr before ↦ before
    ])
    (λ x from to by key r fits on. chain_before o h (heap_after e.agent (Move (Next x) from to) h) x from to c.ordered
    (move_moves e.agent (Next x) from to h fits) (remove_marks n.roots h x from to key r) root id on)
    (λ p from to u fits on.
    let m = move_moves e.agent p from to h fits in
    elim (chain_back h (heap_after e.agent (Move p from to) h) root p from (u.first ∷ u.others) [] to.to m.at u.run
    (record { link = to; at = m.moved; to_is = refl }) m.others id on) [
      | inl bad ↦ cc
      | inr before ↦ before
    ])
    (λ p link entry t fits on. on)
    e.act e.note may.may_act may.fits

pub off_later : (n : HeapNumbers) (seen more : List (Event ChainNote)) (id : ℕ) → ChainHolds n seen → AllAllowed (ChainMay n) seen more
    → IsLinkedNode (run_heap n seen) id
    → IsOnNoChain (run_heap n seen) id → IsOnNoChain (run_heap n (seen ++ more)) id
off_later n seen [] id holds all linked off = rw (append-nil seen) off
off_later n seen (e ∷ more) id holds all linked off =
    let s = linked_later n seen (e ∷ []) id linked (all.0, tt) in
    let next : IsOnNoChain (run_heap n (seen ++ e ∷ [])) id =
    λ root on. off root (on_before n seen e root id holds all.0 linked (subst (λ (g : Heap). IsOnChain g root id) (run_heap-snoc n seen e) on)) in
    subst (λ (xs : List (Event ChainNote)). IsOnNoChain (run_heap n xs) id) (append_assoc seen (e ∷ []) more)
    (off_later n (seen ++ e ∷ []) more id (chain_keeps n seen e holds all.0) all.1 s next)
