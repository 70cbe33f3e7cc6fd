-- What the discipline owes to the traits of disciplines.
use Rattle.std.proofs.Common.{List, None, Option, Some, [], ap, arith, false, filter, inl, inr, not, refl, subst, sym, true, ℕ, ◌++◌, ◌<◌, ◌==◌, ◌∙◌, ◌∷◌, ◌≡◌, ◌≢◌, ◌⊎◌}
use Rattle.std.proofs.lemmas.Bool.{false_from_ne_true}
use Rattle.std.specs.List.{slice_get}
use Rattle.std.specs.Prelude.{unwrap_or}
use Rattle.orc_heap.proofs.Moved.{shown_node}
use Rattle.orc_heap.proofs.Runs.{lawful-snoc, run_heap-snoc}
use Rattle.orc_heap.proofs.Sides.{side_rises}
use Rattle.orc_heap.proofs.SingleActs.{some_same}
use Rattle.orc_heap.specs.Acts.{Fits, heap_after}
use Rattle.orc_heap.specs.Allowed.{IsLinkedNode, LeadsUp, MovesLinked, Rises}
use Rattle.orc_heap.specs.Heap.{Heap, HeapNumbers, Node, null}
use Rattle.orc_heap.specs.Journals.{FitsAfter, IsPlain, event_by, run_heap}
use Rattle.orc_heap.specs.Moves.{move_with}
use Rattle.orc_heap.specs.declared.events.Act.{Act}
use Rattle.orc_heap.specs.declared.events.Act.TheVariants.{Look, Move}
use Rattle.orc_heap.specs.declared.events.Event.{Event}
use Rattle.orc_heap.specs.declared.events.Link.{Link}
use Rattle.orc_heap.specs.declared.events.Place.{Place}
use Rattle.orc_heap.specs.declared.events.Place.TheVariants.{Next, Root}
use Rattle.orc_history.specs.SetHistory.{IsLegalSet, has}
use Rattle.orc_history.specs.declared.set.SetEntry.TheVariants.{Added, Removed}
use Rattle.orc_ordered_chains.specs.Chains.{AreChains, HasRank, IsChainPlace, IsLive, MayLink, MayMark, MayUnlink}
use Rattle.orc_ordered_chains.proofs.Acts.{IsLinkedIn, IsMoved, act_unmoved, chain_place_linked, chain_place_moves, move_links, move_moves, no_move_linked, no_move_plain, rank_linked}
use Rattle.orc_ordered_chains.proofs.Keys.{answer_keys, answer_legal}
use Rattle.orc_ordered_chains.proofs.Entered.{entries_same, legal_one, set_more}
use Rattle.orc_ordered_chains.proofs.Frozen.{KeepsMarked, MovesUnmarked, marked_kept, marks_stay_more, no_move_unmarked}
use Rattle.orc_ordered_chains.proofs.Linking.{chains_link, link_absent, link_old, live_before_link, live_link, live_new}
use Rattle.orc_ordered_chains.proofs.Marking.{chains_mark, live_before_mark, live_mark, mark_old}
use Rattle.orc_ordered_chains.proofs.Paths.{one_live, place_on_chain}
use Rattle.orc_ordered_chains.proofs.Still.{IsStill, chains_still, live_before, live_still, unmoved_still}
use Rattle.orc_ordered_chains.proofs.Unlinking.{chains_unlink, live_before_unlink, live_unlink, unlink_old}
use Rattle.orc_split_rule.specs.declared.split.SplitNote.{SplitNote}
use Rattle.orc_split_rule.specs.declared.split.SplitNote.TheVariants.{Anchor, Bucket, Entry, Grow, Unlink}
use Rattle.orc_split_rule.specs.SplitOrder.{dummy_place, key_place, split_order}
use Rattle.orc_split_rule.specs.SplitDiscipline.{AreBuckets, HasKey, HasValues, IsOwnEntry, MayAct, MayAdd, MayAnchor, MayGrow, MayMakeBucket, MayRemove, SplitHolds, SplitMay, entries_in, entries_of, greatest, split_place_of, set_after, split_rank}
use Rattle.orc_split_rule.specs.Laws.Buckets.{IsLaid, anchor_still, buckets_anchor, buckets_grow, buckets_moved, buckets_unmoved, grow_still}
use Rattle.orc_split_rule.specs.Laws.Kinds.{each_kind}
use Rattle.orc_split_rule.specs.Laws.Sets.{IsLiveKey, IsSetOf, live_present, present_live, set_added, set_removed, set_same}
use Rattle.orc_split_rule.specs.Laws.Values.{dummy_rank, key_rank, value_before, value_first, value_linked, value_new, value_second, value_stays}

pub split_allows_plain : (n : HeapNumbers) (seen : List (Event SplitNote)) (e : Event SplitNote) → SplitHolds n seen → FitsAfter n seen e → IsPlain e
    → SplitMay n seen e
split_allows_plain n seen e holds fits plain = record {
  fits = fits;
  may_act = subst (λ (x : Option SplitNote). MayAct (greatest n) (run_heap n seen) (set_after seen) e.act x) (sym plain.0) (no_move_plain e.act plain.1);
  own = subst (λ (x : Option SplitNote). IsOwnEntry e.agent x) (sym plain.0) tt;
}

-- the place of a Move that links a node
link_place : (h : Heap) → AreChains split_order h → (p : Place) (from to : Link) (rank : ℕ) → MayLink split_order h p from to rank
    → IsChainPlace split_order h p
link_place h c p from to rank a = place_on_chain split_order h c rank p a.on_chain

pub split_moves_linked : (n : HeapNumbers) (seen : List (Event SplitNote)) (e : Event SplitNote) → SplitHolds n seen → SplitMay n seen e
    → MovesLinked e.act (run_heap n seen)
split_moves_linked n seen e holds may =
    let h : Heap = run_heap n seen in
    each_kind (greatest n) h (set_after seen) (λ act noted. MovesLinked act h)
    (λ act plain. no_move_linked act h plain)
    (λ p from to by key a. chain_place_moves split_order h p from to (link_place h holds.chains p from to (key_place key) a.links))
    (λ x from to by key r. value_linked h x key 1 r.has_key)
    (λ p from to u. chain_place_moves split_order h p from to u.linked)
    (λ p from to b. chain_place_moves split_order h p from to (link_place h holds.chains p from to (dummy_place b.bucket) b.links))
    (λ root from to a. tt)
    (λ from to g. tt)
    (λ p link entry t. tt)
    e.act e.note may.may_act

-- what a heap with these keys is
record AreSplit (most : ℕ) (h : Heap) (keys : List ℕ) : Type 0 where
  chains : AreChains split_order h
  buckets : AreBuckets most h
  set : IsSetOf h keys

-- what links of a chain that are as they were leave of the keys
still_set : (h k : Heap) (keys : List ℕ) → AreChains split_order h → IsSetOf h keys → IsStill split_order h k → IsSetOf k keys
still_set h k keys c s still =
    set_same h k keys s (chains_still split_order h k c still)
    (λ id key y. record { own = value_stays h k still.values id key 1 y.own; live = live_still split_order h k still id (key_place key) y.live })
    (λ id key y.
    let live = live_before split_order h k still id (key_place key) y.live in
    record { own = value_before h k still.values id key 1 (rank_linked split_order h id (key_place key) live.has_rank) y.own; live = live })
    c

split_unmoved : (most : ℕ) (h : Heap) (keys : List ℕ) (agent : ℕ) (act : Act) → AreSplit most h keys → Fits agent act h → move_with act ≡ 0
    → AreSplit most (heap_after agent act h) keys
split_unmoved most h keys agent act c fits plain =
    let u = act_unmoved agent act h fits plain in
    let still = unmoved_still split_order h (heap_after agent act h) u in
    record {
      chains = chains_still split_order h (heap_after agent act h) c.chains still;
      buckets = buckets_unmoved most h (heap_after agent act h) c.buckets u;
      set = still_set h (heap_after agent act h) keys c.chains c.set still;
    }

module _ (most : ℕ) (h k : Heap) (keys : List ℕ) (c : AreSplit most h keys) where
  split_unlink : (p : Place) (from to : Link) → IsMoved h k p from to → MayUnlink split_order h p from to → AreSplit most k keys
  split_unlink p from to m u =
      let chains = chains_unlink split_order h k p from to c.chains m u in
      record {
        chains = chains;
        buckets = buckets_moved most h k p from to c.buckets m u.linked
            (λ id l. inl (unlink_old split_order h k p from to c.chains m u id l)) (inl u.plain_after);
        set = set_same h k keys c.set chains
            (λ id key y. record {
              own = value_stays h k m.values id key 1 y.own;
              live = live_unlink split_order h k p from to c.chains m u id (key_place key) y.live;
            })
            (λ id key y. record {
              own = value_before h k m.values id key 1 (unlink_old split_order h k p from to c.chains m u id (value_linked k id key 1 y.own)) y.own;
              live = live_before_unlink split_order h k p from to c.chains m u id (key_place key) y.live;
            })
            c.chains;
      }

  -- a Move that links a node

  module _ (p : Place) (from to : Link) (m : IsMoved h k p from to) (rank : ℕ) (a : MayLink split_order h p from to rank)
      (new : IsLinkedIn h k a.id a.node) (first second : ℕ) (first_is : a.node.first ≡ Some first) (second_is : a.node.second ≡ Some second) where
    new_value : HasValues k a.id first second
    new_value = value_new h k a.id a.node first second new first_is second_is

    link_chains : AreChains split_order k
    link_chains = chains_link split_order h k p from to rank c.chains m a new

    link_buckets : second < 2 → AreBuckets most k
    link_buckets low =
        let laid : IsLaid k a.id = record {
          first = first;
          second = second;
          values = new_value;
          low = low;
          link = a.node.link;
          at = new.shows;
          plain = a.own_plain;
          side = λ link at. a.side_null link (sym new.side ∙ at);
        } in
        buckets_moved most h k p from to c.buckets m (link_place h c.chains p from to rank a)
        (λ id l. elim (link_old split_order h k p from to rank c.chains m a new id l) [
          | inl before ↦ inl before
          | inr is ↦ inr (subst (λ (z : ℕ). IsLaid k z) (sym is) laid)
        ])
        (inl (ap (λ (l : Link). l.mark) a.to_is))

    link_live : (id key : ℕ) → IsLiveKey h id key → IsLiveKey k id key
    link_live id key y = record {
      own = value_stays h k m.values id key 1 y.own;
      live = live_link split_order h k p from to rank c.chains m a new id (key_place key) y.live;
    }

    link_back : (id key : ℕ) → IsLiveKey k id key → IsLiveKey h id key ⊎ (id ≡ a.id)
    link_back id key y = elim (live_before_link split_order h k p from to rank c.chains m a new id (key_place key) y.live) [
      | inl live ↦ inl (record {
        own = value_before h k m.values id key 1 (rank_linked split_order h id (key_place key) live.has_rank) y.own;
        live = live;
      })
      | inr is ↦ inr is
    ]

    -- it has no key
    link_set : second ≢ 1 → IsSetOf k keys
    link_set ne = set_same h k keys c.set link_chains link_live
        (λ id key y. elim (link_back id key y) [
          | inl old ↦ old
          | inr is ↦ absurd (ne (sym (value_second k a.id key 1 first second (subst (λ (z : ℕ). HasKey k z key) is y.own) new_value)))
        ])
        c.chains

  split_make : (p : Place) (from to : Link) (m : IsMoved h k p from to) (b : MayMakeBucket most h p from to) → IsLinkedIn h k b.links.id b.links.node
      → AreSplit most k keys
  split_make p from to m b new = record {
    chains = link_chains p from to m (dummy_place b.bucket) b.links new b.bucket 0 b.first_is b.second_is;
    buckets = link_buckets p from to m (dummy_place b.bucket) b.links new b.bucket 0 b.first_is b.second_is (omega arith);
    set = link_set p from to m (dummy_place b.bucket) b.links new b.bucket 0 b.first_is b.second_is (λ e. omega (arith, e));
  }

  split_add : (p : Place) (from to : Link) (key : ℕ) (m : IsMoved h k p from to) (a : MayAdd h p from to key) → IsLinkedIn h k a.links.id a.links.node
      → AreSplit most k (keys ++ key ∷ [])
  split_add p from to key m a new =
      let chains = link_chains p from to m (key_place key) a.links new key 1 a.first_is a.second_is in
      record {
        chains = chains;
        buckets = link_buckets p from to m (key_place key) a.links new key 1 a.first_is a.second_is (omega arith);
        set = set_added h k keys c.set chains a.links.id key
            (record {
              own = new_value p from to m (key_place key) a.links new key 1 a.first_is a.second_is;
              live = live_new split_order h k p from to (key_place key) c.chains m a.links new;
            })
            (link_live p from to m (key_place key) a.links new key 1 a.first_is a.second_is)
            (link_back p from to m (key_place key) a.links new key 1 a.first_is a.second_is)
            (λ id x y one two. value_first k id x 1 y 1 one.own two.own)
            c.chains;
      }

  -- and the key was absent
  add_absent : (p : Place) (from to : Link) (key : ℕ) (m : IsMoved h k p from to) (a : MayAdd h p from to key) → IsLinkedIn h k a.links.id a.links.node
      → has key keys ≡ false
  add_absent p from to key m a new = false_from_ne_true (has key keys) (λ is.
      let y = (c.set key).0 is in
      link_absent split_order h k p from to (key_place key) c.chains m a.links new y.id (present_live h key y))

  -- a node is marked

  module _ (x : ℕ) (from to : Link) (key : ℕ) (m : IsMoved h k (Next x) from to) (r : MayRemove h x from to key) where
    mark : MayMark split_order h x from to
    mark = record { rank = key_place key; has_rank = key_rank h x key r.has_key; plain = r.plain; to_is = r.to_is }

    gone : IsLiveKey h x key
    gone = record { own = r.has_key; live = record { has_rank = key_rank h x key r.has_key; link = from; at = m.at; unmarked = r.plain } }

    split_remove : AreSplit most k (filter (λ y. not (y == key)) keys)
    unfolding gone
    split_remove =
        let chains = chains_mark split_order h k x from to c.chains m mark in
        let old : (id : ℕ) → IsLinkedNode k id → IsLinkedNode h id = λ id l. mark_old split_order h k x from to c.chains m mark id l in
        let same_key : (id b : ℕ) → IsLive split_order h id (key_place b) → b ≡ key → id ≡ x
        = λ id b live same.
        one_live split_order h c.chains id x (key_place key) (subst (λ (z : ℕ). IsLive split_order h id (key_place z)) same live) gone.live in
        record {
          chains = chains;
          buckets = buckets_moved most h k (Next x) from to c.buckets m (key_place key, key_rank h x key r.has_key) (λ id l. inl (old id l))
              (inr (x, key, refl, r.has_key));
          set = set_removed h k keys c.set chains x key gone
              (λ id b ne y. record {
                own = value_stays h k m.values id b 1 y.own;
                live = live_mark split_order h k x from to c.chains m mark id (key_place b)
                    (λ same. ne (value_first h x b 1 key 1 (subst (λ (z : ℕ). HasKey h z b) same y.own) r.has_key)) y.live;
              })
              (λ id b y.
              let (apart, live) = live_before_mark split_order h k x from to c.chains m mark id (key_place b) y.live in (
                (λ same. apart (same_key id b live same)),
                record { own = value_before h k m.values id b 1 (old id (value_linked k id b 1 y.own)) y.own; live = live },
              ))
              c.chains;
        }

    remove_present : has key keys ≡ true
    remove_present = (c.set key).1 (live_present h c.chains x key gone.own gone.live)

  -- anchors and sizes

  split_anchor : (root : ℕ) (from to : Link) → IsMoved h k (Root root) from to → MayAnchor most h root from to → AreSplit most k keys
  split_anchor root from to m a =
      let still = anchor_still most h k root from to c.buckets m a in
      record {
        chains = chains_still split_order h k c.chains still;
        buckets = buckets_anchor most h k root from to c.buckets m a;
        set = still_set h k keys c.chains c.set still;
      }

  split_grow : (from to : Link) (m : IsMoved h k (Root most) from to) (g : MayGrow most h from to) → IsLinkedIn h k g.id g.node → AreSplit most k keys
  split_grow from to m g new =
      let still = grow_still most h k from to c.buckets m g new in
      record {
        chains = chains_still split_order h k c.chains still;
        buckets = buckets_grow most h k from to c.buckets m g new;
        set = still_set h k keys c.chains c.set still;
      }

-- what an event leaves of the history and of the heap
record Leaves (n : HeapNumbers) (es : List (Event SplitNote)) (e : Event SplitNote) : Type 0 where
  legal : IsLegalSet (entries_of (es ++ e ∷ []))
  split : AreSplit (greatest n) (heap_after e.agent e.act (run_heap n es)) (set_after (es ++ e ∷ []))

leaves : (n : HeapNumbers) (es : List (Event SplitNote)) (e : Event SplitNote) → SplitHolds n es → SplitMay n es e → Leaves n es e
leaves n es e holds may =
    let h : Heap = run_heap n es in
    let keys : List ℕ = set_after es in
    let most : ℕ = greatest n in
    let c : AreSplit most h keys = record { chains = holds.chains; buckets = holds.buckets; set = holds.set } in
    let after : Act → Heap = λ act. heap_after e.agent act h in
    let links : (p : Place) (from to : Link) (rank : ℕ) (a : MayLink split_order h p from to rank) → Fits e.agent (Move p from to) h
    → IsLinkedIn h (after (Move p from to)) a.id a.node
    = λ p from to rank a fits.
    move_links e.agent p from to h a.id a.node fits (chain_place_linked split_order h p (link_place h c.chains p from to rank a))
    (ap (λ (l : Link). l.to) a.to_is) a.there a.unlinked in
    each_kind most h keys (λ act noted. Fits e.agent act h → Leaves n es (event_by e.agent act noted))
    (λ act plain fits.
    let x : Event SplitNote = event_by e.agent act None in
    record {
      legal = rw (entries_same entries_in es x refl) holds.legal;
      split = rw (entries_same entries_in es x refl) (split_unmoved most h keys e.agent act c fits plain);
    })
    (λ p from to by key a fits.
    let x : Event SplitNote = event_by e.agent (Move p from to) (Some (Entry (Added by key true))) in
    let m = move_moves e.agent p from to h fits in
    let new = links p from to (key_place key) a.links fits in
    record {
      legal = legal_one entries_in es x (Added by key true) refl holds.legal (rw (add_absent most h (after (Move p from to)) keys c p from to key m a new) refl, tt);
      split = rw (set_more entries_in es x (Added by key true) refl) (split_add most h (after (Move p from to)) keys c p from to key m a new);
    })
    (λ d from to by key r fits.
    let x : Event SplitNote = event_by e.agent (Move (Next d) from to) (Some (Entry (Removed by key true))) in
    let m = move_moves e.agent (Next d) from to h fits in
    record {
      legal = legal_one entries_in es x (Removed by key true) refl holds.legal (sym (remove_present most h (after (Move (Next d) from to)) keys c d from to key m r), tt);
      split = rw (set_more entries_in es x (Removed by key true) refl) (split_remove most h (after (Move (Next d) from to)) keys c d from to key m r);
    })
    (λ p from to u fits.
    let x : Event SplitNote = event_by e.agent (Move p from to) (Some Unlink) in
    record {
      legal = rw (entries_same entries_in es x refl) holds.legal;
      split = rw (entries_same entries_in es x refl) (split_unlink most h (after (Move p from to)) keys c p from to (move_moves e.agent p from to h fits) u);
    })
    (λ p from to b fits.
    let x : Event SplitNote = event_by e.agent (Move p from to) (Some Bucket) in
    record {
      legal = rw (entries_same entries_in es x refl) holds.legal;
      split =
          rw (entries_same entries_in es x refl)
          (split_make most h (after (Move p from to)) keys c p from to (move_moves e.agent p from to h fits) b
          (links p from to (dummy_place b.bucket) b.links fits));
    })
    (λ root from to a fits.
    let x : Event SplitNote = event_by e.agent (Move (Root root) from to) (Some Anchor) in
    record {
      legal = rw (entries_same entries_in es x refl) holds.legal;
      split =
          rw (entries_same entries_in es x refl)
          (split_anchor most h (after (Move (Root root) from to)) keys c root from to (move_moves e.agent (Root root) from to h fits) a);
    })
    (λ from to g fits.
    let x : Event SplitNote = event_by e.agent (Move (Root most) from to) (Some Grow) in
    record {
      legal = rw (entries_same entries_in es x refl) holds.legal;
      split =
          rw (entries_same entries_in es x refl)
          (split_grow most h (after (Move (Root most) from to)) keys c from to (move_moves e.agent (Root most) from to h fits) g
          (move_links e.agent (Root most) from to h g.id g.node fits tt (ap (λ (l : Link). l.to) g.to_is) g.there g.unlinked));
    })
    (λ p link entry t fits.
    let x : Event SplitNote = event_by e.agent (Look p link) (Some (Entry entry)) in
    record {
      legal = legal_one entries_in es x entry refl holds.legal (answer_legal keys entry t);
      split = rw (set_more entries_in es x entry refl, answer_keys keys entry t) (split_unmoved most h keys e.agent (Look p link) c fits refl);
    })
    e.act e.note may.may_act may.fits

-- a marked link never changes
pub marked_next : (n : HeapNumbers) → KeepsMarked n (SplitMay n)
marked_next n =
    marked_kept n (SplitMay n) (λ es e may. may.fits)
    (λ es e may. each_kind (greatest n) (run_heap n es) (set_after es) (λ act noted. MovesUnmarked act) no_move_unmarked
    (λ p from to by key a. a.links.plain) (λ d from to by key r. r.plain)
    (λ p from to u. u.plain) (λ p from to b. b.links.plain) (λ root from to a. ap (λ (x : Link). x.mark) a.from_is) (λ from to g. g.plain)
    (λ p link entry t. tt) e.act e.note may.may_act)

-- an event that is allowed keeps what the events of a split-ordered set obey
pub split_keeps : (n : HeapNumbers) (seen : List (Event SplitNote)) (e : Event SplitNote) → SplitHolds n seen → SplitMay n seen e
    → SplitHolds n (seen ++ e ∷ [])
split_keeps n seen e holds may =
    let s = leaves n seen e holds may in
    record {
      lawful = lawful-snoc n seen e holds.lawful may.fits;
      legal = s.legal;
      chains = rw (run_heap-snoc n seen e) s.split.chains;
      buckets = rw (run_heap-snoc n seen e) s.split.buckets;
      set = rw (run_heap-snoc n seen e) s.split.set;
      frozen = marks_stay_more n (SplitMay n) (marked_next n) seen e may holds.frozen;
    }

-- links lead to greater places
pub rank_at : (h : Heap) (id rank : ℕ) → HasRank split_order h id rank → split_place_of (slice_get h.nodes id) ≡ rank
rank_at h id rank r = rw r.there (ap (λ (o : Option ℕ). unwrap_or o 0) r.rank_is)

pub split_rises : (n : HeapNumbers) (seen : List (Event SplitNote)) → SplitHolds n seen → Rises (split_rank n seen) (run_heap n seen)
split_rises n seen holds = λ id node there linked. (
  cases id node there linked node.link.to refl,
  side_rises (split_rank n seen) h id node there (holds.buckets.sides id (record { node = node; there = there; linked = linked })),
)
  where
    h : Heap
    h = run_heap n seen

    cases : (id : ℕ) (node : Node) → slice_get (run_heap n seen).nodes id ≡ Some node → node.linked ≡ true → (to : Option ℕ) → node.link.to ≡ to
        → LeadsUp (split_rank n seen) (run_heap n seen) id node.link
    cases id node there linked None is = inl is
    cases id node there linked (Some next) is =
        let h : Heap = run_heap n seen in
        let l : IsLinkedNode h id = record { node = node; there = there; linked = linked } in
        let ranked : (rank : ℕ) → HasRank split_order h id rank
        → LeadsUp (split_rank n seen) h id node.link = λ rank own.
        let (high, has_high, follows) =
        holds.chains.leads (Next id) next (rank, own) (record { link = node.link; at = shown_node h id node there; to_is = is }) in
        let (low, mine, less, same) = follows in
        inr (next, is, rank_linked split_order h next high has_high, omega (arith, rank_at h id low mine, rank_at h next high has_high, less)) in
        elim (holds.buckets.kinds id l) [
          | inl key ↦ ranked (key_place key.0) (key_rank h id key.0 key.1)
          | inr other ↦ elim other [
            | inl dummy ↦ ranked (dummy_place dummy.0) (dummy_rank h id dummy.0 dummy.1)
            | inr size ↦
                let none : node.link ≡ null = some_same (sym (shown_node h id node there) ∙ holds.buckets.size_links id size.0 size.1) in
                inl (ap (λ (x : Link). x.to) none)
          ]
        ]
