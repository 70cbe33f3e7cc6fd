-- What the discipline owes to the traits of disciplines.
use Rattle.std.proofs.Common.{List, None, Option, Some, [], ap, arith, false, filter, inl, inr, not, refl, subst, sym, true, ℕ, ◌++◌, ◌==◌, ◌∙◌, ◌∷◌, ◌≡◌, ◌⊎◌}
use Rattle.std.proofs.lemmas.Bool.{false_from_ne_true}
use Rattle.std.specs.List.{slice_get}
use Rattle.std.specs.Prelude.{unwrap_or}
use Rattle.orc_heap.proofs.Moved.{shown_node}
use Rattle.orc_heap.proofs.Runs.{lawful-snoc, run_heap-snoc}
use Rattle.orc_heap.proofs.Sides.{side_rises}
use Rattle.orc_heap.proofs.SingleActs.{some_same}
use Rattle.orc_heap.specs.Acts.{Fits, heap_after}
use Rattle.orc_heap.specs.Allowed.{AreSidesNull, HasNullSide, IsLinkedNode, LeadsUp, MovesLinked, Rises}
use Rattle.orc_heap.specs.Heap.{Heap, HeapNumbers, Node, shown}
use Rattle.orc_heap.specs.Journals.{FitsAfter, IsPlain, event_by, run_heap}
use Rattle.orc_heap.specs.Moves.{move_with}
use Rattle.orc_heap.specs.declared.events.Act.{Act}
use Rattle.orc_heap.specs.declared.events.Act.TheVariants.{Look, Move}
use Rattle.orc_heap.specs.declared.events.Event.{Event}
use Rattle.orc_heap.specs.declared.events.Link.{Link}
use Rattle.orc_heap.specs.declared.events.Place.{Place}
use Rattle.orc_heap.specs.declared.events.Place.TheVariants.{Next, Root, Side}
use Rattle.orc_history.specs.SetHistory.{IsLegalSet, has}
use Rattle.orc_history.specs.declared.set.SetEntry.TheVariants.{Added, Removed}
use Rattle.orc_ordered_chains.specs.Chains.{IsChainPlace as IsRankedPlace, IsLive, MayMark}
use Rattle.orc_ordered_chains.proofs.Acts.{IsLinkedIn, IsMoved, act_unmoved, chain_place_first, chain_place_linked, chain_place_moves, move_links, move_moves, no_move_linked, no_move_plain, place_either, rank_linked, rank_one, rank_stays, sides_unmoved}
use Rattle.orc_ordered_chains.proofs.Keys.{answer_keys, answer_legal}
use Rattle.orc_ordered_chains.proofs.Entered.{entries_same, legal_one, set_more}
use Rattle.orc_ordered_chains.proofs.Frozen.{KeepsMarked, MovesUnmarked, marked_kept, marks_stay_more, no_move_unmarked}
use Rattle.orc_ordered_chains.proofs.Linking.{chains_link, link_absent, link_old, live_before_link, live_link, live_new}
use Rattle.orc_ordered_chains.proofs.Marking.{chains_mark, live_before_mark, live_mark, mark_old}
use Rattle.orc_ordered_chains.proofs.Paths.{one_live, place_on_chain}
use Rattle.orc_ordered_chains.proofs.Still.{chains_still, live_before, live_still, unmoved_still}
use Rattle.orc_ordered_chains.proofs.Unlinking.{chains_unlink, live_before_unlink, live_unlink, unlink_old}
use Rattle.orc_chain_rule.specs.declared.chain.ChainNote.{ChainNote}
use Rattle.orc_chain_rule.specs.declared.chain.ChainNote.TheVariants.{Entry, Unlink}
use Rattle.orc_chain_rule.specs.ChainDiscipline.{AreChains, ChainHolds, ChainMay, HasKey, IsOwnEntry, MayAct, MayAdd, MayRemove, MayUnlink, chain_order, chain_rank, entries_in, entries_of, key_of, set_after}
use Rattle.orc_chain_rule.specs.Laws.Kinds.{each_kind}
use Rattle.orc_chain_rule.specs.Laws.Sets.{live_present, present_live, set_added, set_removed, set_same}

pub chain_allows_plain : (n : HeapNumbers) (seen : List (Event ChainNote)) (e : Event ChainNote) → ChainHolds n seen → FitsAfter n seen e → IsPlain e
    → ChainMay n seen e
chain_allows_plain n seen e holds fits plain = record {
  fits = fits;
  may_act = subst (λ (x : Option ChainNote). MayAct n.roots (run_heap n seen) (set_after seen) e.act x) (sym plain.0) (no_move_plain e.act plain.1);
  own = subst (λ (x : Option ChainNote). IsOwnEntry e.agent x) (sym plain.0) tt;
}

-- the place of a Move that adds a key
pub add_place : (roots : ℕ) (h : Heap) (keys : List ℕ) → AreChains roots h keys → (p : Place) (from to : Link) (key : ℕ) → MayAdd roots h p from to key
    → IsRankedPlace (chain_order roots) h p
add_place roots h keys c p from to key a = place_on_chain (chain_order roots) h c.ordered key p a.on_chain

pub chain_moves_linked : (n : HeapNumbers) (seen : List (Event ChainNote)) (e : Event ChainNote) → ChainHolds n seen → ChainMay n seen e
    → MovesLinked e.act (run_heap n seen)
chain_moves_linked n seen e holds may =
    let h : Heap = run_heap n seen in
    let o = chain_order n.roots in
    each_kind n.roots h (set_after seen) (λ act noted. MovesLinked act h)
    (λ act plain. no_move_linked act h plain)
    (λ p from to by key a. chain_place_moves o h p from to (add_place n.roots h (set_after seen) holds.chains p from to key a))
    (λ x from to by key r. rank_linked o h x key r.has_key)
    (λ p from to u. chain_place_moves o h p from to u.linked)
    (λ p link entry t. tt)
    e.act e.note may.may_act

-- a Removed true marks a node
pub remove_marks : (roots : ℕ) (h : Heap) (x : ℕ) (from to : Link) (key : ℕ) → MayRemove h x from to key → MayMark (chain_order roots) h x from to
remove_marks roots h x from to key r = record { rank = key; has_rank = r.has_key; plain = r.plain; to_is = r.to_is }

-- what a heap with these keys is
record AreLists (roots : ℕ) (h : Heap) (keys : List ℕ) : Type 0 where
  chains : AreChains roots h keys
  sides : AreSidesNull h

module _ (roots : ℕ) (h k : Heap) (keys : List ℕ) (c : AreLists roots h keys) where
  lists_unmoved : (agent : ℕ) (act : Act) → Fits agent act h → move_with act ≡ 0 → AreLists roots (heap_after agent act h) keys
  lists_unmoved agent act fits plain =
      let g : Heap = heap_after agent act h in
      let o = chain_order roots in
      let u = act_unmoved agent act h fits plain in
      let still = unmoved_still o h g u in
      let ordered = chains_still o h g c.chains.ordered still in
      record {
        chains = record {
          keyed = λ id l. let (key, own) = c.chains.keyed id (u.old id l) in (key, rank_stays o h g u.values id key own);
          ordered = ordered;
          plain_roots = λ r link at. c.chains.plain_roots r link (sym (u.shows (Root r) tt) ∙ at);
          set = set_same roots h g keys c.chains ordered (live_still o h g still) (live_before o h g still);
        };
        sides = sides_unmoved h g u c.sides;
      }

  -- after a Move of a place of a chain, to an unmarked link if it is a root

  module _ (p : Place) (from to : Link) (m : IsMoved h k p from to) (on : IsRankedPlace (chain_order roots) h p) where
    roots_moved : ((r : ℕ) → Root r ≡ p → to.mark ≡ false) → (r : ℕ) (link : Link) → shown k (Root r) ≡ Some link → link.mark ≡ false
    roots_moved plain r link at = elim (place_either (Root r) p) [
      | inl same ↦
          let is : link ≡ to = some_same (sym at ∙ subst (λ (z : Place). shown k z ≡ Some to) (sym same) m.moved) in
          ap (λ (x : Link). x.mark) is ∙ plain r same
      | inr ne ↦ c.chains.plain_roots r link (sym (m.others (Root r) ne) ∙ at)
    ]

    sides_moved : ((id : ℕ) → IsLinkedNode k id → IsLinkedNode h id ⊎ HasNullSide h id) → AreSidesNull k
    sides_moved old id l link at =
        let was = sym (m.others (Side id) (chain_place_first (chain_order roots) h p id on)) ∙ at in
        elim (old id l) [ inl before ↦ c.sides id before link was | inr null ↦ null link was ]

    keyed_old : (id : ℕ) → IsLinkedNode h id → (key : ℕ) × HasKey k id key
    keyed_old id l = let (key, own) = c.chains.keyed id l in (key, rank_stays (chain_order roots) h k m.values id key own)

  lists_unlink : (p : Place) (from to : Link) → IsMoved h k p from to → MayUnlink roots h p from to → AreLists roots k keys
  lists_unlink p from to m u =
      let o = chain_order roots in
      let old = unlink_old o h k p from to c.chains.ordered m u in
      let ordered = chains_unlink o h k p from to c.chains.ordered m u in
      record {
        chains = record {
          keyed = λ id l. keyed_old p from to m u.linked id (old id l);
          ordered = ordered;
          plain_roots = roots_moved p from to m u.linked (λ r same. u.plain_after);
          set = set_same roots h k keys c.chains ordered
              (live_unlink o h k p from to c.chains.ordered m u)
              (live_before_unlink o h k p from to c.chains.ordered m u);
        };
        sides = sides_moved p from to m u.linked (λ id l. inl (old id l));
      }

  module _ (p : Place) (from to : Link) (key : ℕ) (m : IsMoved h k p from to) (a : MayAdd roots h p from to key) (new : IsLinkedIn h k a.id a.node) where
    lists_add : AreLists roots k (keys ++ key ∷ [])
    lists_add =
        let o = chain_order roots in
        let on = add_place roots h keys c.chains p from to key a in
        let old = link_old o h k p from to key c.chains.ordered m a new in
        let own = live_new o h k p from to key c.chains.ordered m a new in
        let ordered = chains_link o h k p from to key c.chains.ordered m a new in
        record {
          chains = record {
            keyed = λ id l. elim (old id l) [
              | inl before ↦ keyed_old p from to m on id before
              | inr is ↦ (key, subst (λ (z : ℕ). HasKey k z key) (sym is) own.has_rank)
            ];
            ordered = ordered;
            plain_roots = roots_moved p from to m on (λ r same. ap (λ (l : Link). l.mark) a.to_is);
            set = set_added roots h k keys c.chains ordered a.id key own
                (live_link o h k p from to key c.chains.ordered m a new)
                (λ id b y. elim (live_before_link o h k p from to key c.chains.ordered m a new id b y) [
                  | inl before ↦ inl before
                  | inr is ↦ inr (rank_one o k id key b (subst (λ (z : ℕ). HasKey k z key) (sym is) own.has_rank) y.has_rank)
                ]);
          };
          sides = sides_moved p from to m on (λ id l. elim (old id l) [
            | inl before ↦ inl before
            | inr is ↦ inr (subst (HasNullSide h) (sym is) a.side_null)
          ]);
        }

    -- and the key was absent
    add_absent : has key keys ≡ false
    add_absent = false_from_ne_true (has key keys) (λ is.
        let y = (c.chains.set key).0 is in
        link_absent (chain_order roots) h k p from to key c.chains.ordered m a new y.id (present_live roots h key y))

  -- a node is marked

  module _ (x : ℕ) (from to : Link) (key : ℕ) (m : IsMoved h k (Next x) from to) (r : MayRemove h x from to key) where
    mark : MayMark (chain_order roots) h x from to
    mark = remove_marks roots h x from to key r

    gone : IsLive (chain_order roots) h x key
    gone = record { has_rank = r.has_key; link = from; at = m.at; unmarked = r.plain }

    lists_remove : AreLists roots k (filter (λ y. not (y == key)) keys)
    lists_remove =
        let o = chain_order roots in
        let on : IsRankedPlace o h (Next x) = (key, r.has_key) in
        let old = mark_old o h k x from to c.chains.ordered m mark in
        let ordered = chains_mark o h k x from to c.chains.ordered m mark in
        record {
          chains = record {
            keyed = λ id l. keyed_old (Next x) from to m on id (old id l);
            ordered = ordered;
            plain_roots = roots_moved (Next x) from to m on (λ s same. cc);
            set = set_removed roots h k keys c.chains ordered key
                (λ id b ne y. live_mark o h k x from to c.chains.ordered m mark id b
                (λ same. ne (rank_one o h x b key (subst (λ (z : ℕ). HasKey h z b) same y.has_rank) r.has_key)) y)
                (λ id b y.
                let (apart, was) = live_before_mark o h k x from to c.chains.ordered m mark id b y in
                (λ same. apart (one_live o h c.chains.ordered id x key (subst (λ (z : ℕ). IsLive o h id z) same was) gone), was));
          };
          sides = sides_moved (Next x) from to m on (λ id l. inl (old id l));
        }

    remove_present : has key keys ≡ true
    remove_present = (c.chains.set key).1 (live_present roots h c.chains.ordered x key gone)

-- the node that an Added links
pub add_links : (roots : ℕ) (h : Heap) (keys : List ℕ) → AreChains roots h keys → (agent : ℕ) (p : Place) (from to : Link) (key : ℕ)
    → Fits agent (Move p from to) h → (a : MayAdd roots h p from to key) → IsLinkedIn h (heap_after agent (Move p from to) h) a.id a.node
add_links roots h keys c agent p from to key fits a =
    move_links agent p from to h a.id a.node fits (chain_place_linked (chain_order roots) h p (add_place roots h keys c p from to key a))
    (ap (λ (l : Link). l.to) a.to_is) a.there a.unlinked

-- what an event leaves of the history and of the heap
record Leaves (n : HeapNumbers) (es : List (Event ChainNote)) (e : Event ChainNote) : Type 0 where
  legal : IsLegalSet (entries_of (es ++ e ∷ []))
  lists : AreLists n.roots (heap_after e.agent e.act (run_heap n es)) (set_after (es ++ e ∷ []))

leaves : (n : HeapNumbers) (es : List (Event ChainNote)) (e : Event ChainNote) → ChainHolds n es → ChainMay n es e → Leaves n es e
leaves n es e holds may =
    let h : Heap = run_heap n es in
    let keys : List ℕ = set_after es in
    let c : AreLists n.roots h keys = record { chains = holds.chains; sides = holds.sides } in
    each_kind n.roots h keys (λ act noted. Fits e.agent act h → Leaves n es (event_by e.agent act noted))
    (λ act plain fits.
    let x : Event ChainNote = event_by e.agent act None in
    record {
      legal = rw (entries_same entries_in es x refl) holds.legal;
      lists = rw (entries_same entries_in es x refl) (lists_unmoved n.roots h h keys c e.agent act fits plain);
    })
    (λ p from to by key a fits.
    let x : Event ChainNote = event_by e.agent (Move p from to) (Some (Entry (Added by key true))) in
    let k : Heap = heap_after e.agent (Move p from to) h in
    let m = move_moves e.agent p from to h fits in
    let new = add_links n.roots h keys holds.chains e.agent p from to key fits a in
    record {
      legal = legal_one entries_in es x (Added by key true) refl holds.legal (rw (add_absent n.roots h k keys c p from to key m a new) refl, tt);
      lists = rw (set_more entries_in es x (Added by key true) refl) (lists_add n.roots h k keys c p from to key m a new);
    })
    (λ d from to by key r fits.
    let x : Event ChainNote = event_by e.agent (Move (Next d) from to) (Some (Entry (Removed by key true))) in
    let k : Heap = heap_after e.agent (Move (Next d) from to) h in
    let m = move_moves e.agent (Next d) from to h fits in
    record {
      legal = legal_one entries_in es x (Removed by key true) refl holds.legal (sym (remove_present n.roots h k keys c d from to key m r), tt);
      lists = rw (set_more entries_in es x (Removed by key true) refl) (lists_remove n.roots h k keys c d from to key m r);
    })
    (λ p from to u fits.
    let x : Event ChainNote = event_by e.agent (Move p from to) (Some Unlink) in
    record {
      legal = rw (entries_same entries_in es x refl) holds.legal;
      lists =
          rw (entries_same entries_in es x refl)
          (lists_unlink n.roots h (heap_after e.agent (Move p from to) h) keys c p from to (move_moves e.agent p from to h fits) u);
    })
    (λ p link entry t fits.
    let x : Event ChainNote = event_by e.agent (Look p link) (Some (Entry entry)) in
    record {
      legal = legal_one entries_in es x entry refl holds.legal (answer_legal keys entry t);
      lists = rw (set_more entries_in es x entry refl, answer_keys keys entry t) (lists_unmoved n.roots h h keys c e.agent (Look p link) fits refl);
    })
    e.act e.note may.may_act may.fits

-- a marked link never changes
pub marked_next : (n : HeapNumbers) → KeepsMarked n (ChainMay n)
marked_next n =
    marked_kept n (ChainMay n) (λ es e may. may.fits)
    (λ es e may. each_kind n.roots (run_heap n es) (set_after es) (λ act noted. MovesUnmarked act) no_move_unmarked
    (λ p from to by key a. a.plain) (λ d from to by key r. r.plain)
    (λ p from to u. u.plain) (λ p link entry t. tt) e.act e.note may.may_act)

-- an event that is allowed keeps what the events of sorted lists obey
pub chain_keeps : (n : HeapNumbers) (seen : List (Event ChainNote)) (e : Event ChainNote) → ChainHolds n seen → ChainMay n seen e
    → ChainHolds n (seen ++ e ∷ [])
chain_keeps n seen e holds may =
    let s = leaves n seen e holds may in
    record {
      lawful = lawful-snoc n seen e holds.lawful may.fits;
      legal = s.legal;
      chains = rw (run_heap-snoc n seen e) s.lists.chains;
      frozen = marks_stay_more n (ChainMay n) (marked_next n) seen e may holds.frozen;
      sides = rw (run_heap-snoc n seen e) s.lists.sides;
    }

-- links lead to greater keys
pub key_at : (h : Heap) (id key : ℕ) → HasKey h id key → key_of h id ≡ key
key_at h id key k = rw k.there (ap (λ (o : Option ℕ). unwrap_or o 0) k.rank_is)

pub chain_rises : (n : HeapNumbers) (seen : List (Event ChainNote)) → ChainHolds n seen → Rises (chain_rank n seen) (run_heap n seen)
chain_rises n seen holds = λ id node there linked. (
  cases id node there linked node.link.to refl,
  side_rises (chain_rank n seen) (run_heap n seen) id node there (holds.sides id (record { node = node; there = there; linked = linked })),
)
  where
    cases : (id : ℕ) (node : Node) → slice_get (run_heap n seen).nodes id ≡ Some node → node.linked ≡ true → (to : Option ℕ) → node.link.to ≡ to
        → LeadsUp (chain_rank n seen) (run_heap n seen) id node.link
    cases id node there linked None is = inl is
    cases id node there linked (Some next) is =
        let h : Heap = run_heap n seen in
        let (low, mine) = holds.chains.keyed id (record { node = node; there = there; linked = linked }) in
        let (key, own, follows) =
        holds.chains.ordered.leads (Next id) next (low, mine) (record { link = node.link; at = shown_node h id node there; to_is = is }) in
        let (below, same, less, one) = follows in
        inr (next, is, rank_linked (chain_order n.roots) h next key own, omega (arith, key_at h id below same, key_at h next key own, less))
