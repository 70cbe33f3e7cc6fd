-- Unlinks number at most the marked nodes that were still on a chain, and the keys that were taken out since.
use Rattle.std.proofs.Common.{Contains, List, Option, Some, [], ap, arith, false, filter, inl, inr, length, not, refl, subst, suc, sym, true, zero, ℕ, ◌%◌, ◌++◌, ◌*◌, ◌+◌, ◌==◌, ◌∙◌, ◌∷◌, ◌≡◌, ◌≤◌}
use Rattle.std.proofs.lemmas.Bool.{eq-eqb, eqb-true, or_cases, or_left, or_right}
use Rattle.orc_heap.proofs.Runs.{run_heap-snoc}
use Rattle.orc_heap.specs.Acts.{Fits, heap_after}
use Rattle.orc_heap.specs.Allowed.{AllAllowed, HasLink}
use Rattle.orc_heap.specs.Heap.{Heap, HeapNumbers, shown}
use Rattle.orc_heap.specs.Journals.{run_heap}
use Rattle.orc_heap.specs.Moves.{move_with, moves_in}
use Rattle.orc_heap.specs.declared.events.Act.TheVariants.{Move}
use Rattle.orc_heap.specs.declared.events.Event.{Event}
use Rattle.orc_heap.specs.declared.events.Link.{Link}
use Rattle.orc_heap.specs.declared.events.Place.{Place}
use Rattle.orc_heap.specs.declared.events.Place.TheVariants.{Next, Root}
use Rattle.orc_history.specs.SetHistory.{has}
use Rattle.orc_history.specs.declared.set.SetEntry.{SetEntry}
use Rattle.orc_history.specs.declared.set.SetEntry.TheVariants.{Added, Asked, Removed}
use Rattle.orc_chain_rule.specs.declared.chain.ChainNote.{ChainNote}
use Rattle.orc_heap.proofs.SingleActs.{has_link, shown_link, some_same}
use Rattle.orc_ordered_chains.specs.Answers.{MayAnswer}
use Rattle.orc_ordered_chains.specs.Chains.{AreChains as AreOrderedChains, IsChainPlace as IsRankedPlace, IsOnChain, LeadsTo}
use Rattle.orc_ordered_chains.proofs.Acts.{IsMoved, act_unmoved, move_moves, place_either}
use Rattle.orc_ordered_chains.proofs.Keys.{filter_less, has_kept}
use Rattle.orc_ordered_chains.proofs.Later.{follows_on_chain}
use Rattle.orc_ordered_chains.proofs.Linking.{link_way}
use Rattle.orc_ordered_chains.proofs.Marking.{chain_before}
use Rattle.orc_ordered_chains.proofs.Paths.{chain_linked}
use Rattle.orc_ordered_chains.proofs.Still.{IsStill, unmoved_still}
use Rattle.orc_chain_rule.specs.ChainDiscipline.{ChainHolds, ChainMay, MayUnlink, chain_order, entries_in, entries_of, set_after}
use Rattle.orc_chain_rule.specs.Counts.{AreLeftOver, IsLeftOver, adds_in, removes_in, unlinks_in, unlinks_with}
use Rattle.orc_chain_rule.specs.Laws.Kinds.{each_kind, key_linked}
use Rattle.orc_chain_rule.specs.Laws.Kept.{add_links, chain_keeps, remove_marks}
use Rattle.orc_chain_rule.proofs.Leaving.{chain_back, chain_step, chains_after, passed_off, path_still_back}

-- numbers in a list

has_among : (x : ℕ) (xs : List ℕ) → Contains xs x → has x xs ≡ true
has_among x [] (i, low, is) = absurd (omega (arith, low))
has_among x (y ∷ ys) (zero, low, is) = or_left (y == x) (has x ys) (eq-eqb y x is)
has_among x (y ∷ ys) (suc i, low, is) = or_right (y == x) (has x ys) (has_among x ys (i, omega (arith, low), is))

-- a node left over was left over before

-- a node on a chain whose marked link was the same before
left_was : (roots : ℕ) (h k : Heap) → AreOrderedChains (chain_order roots) h → (id : ℕ) → (w : IsLeftOver k id) → IsOnChain h w.root id
    → shown h (Next id) ≡ Some w.link → IsLeftOver h id
left_was roots h k c id w on at =
    let (key, own) = chain_linked (chain_order roots) h c w.root id refl on in
    record { root = w.root; on_chain = on; link = w.link; has_link = has_link h id w.link (key_linked h id key own) at; marked = w.marked }

left_still : (roots : ℕ) (h k : Heap) → AreOrderedChains (chain_order roots) h → IsStill (chain_order roots) h k → (id : ℕ) → IsLeftOver k id → IsLeftOver h id
left_still roots h k c s id w =
    let o = chain_order roots in
    let on : IsOnChain h w.root id = record {
      over = w.on_chain.over;
      path = path_still_back o h k c s (Root w.root) w.on_chain.over (Some id) refl w.on_chain.path;
    } in
    left_was roots h k c id w on (sym (s.shows (Next id) (chain_linked o h c w.root id refl on)) ∙ shown_link k id w.link w.has_link)

-- a marked link is no moved one, where the new link is unmarked
not_moved : (h k : Heap) (p : Place) (from to : Link) (id : ℕ) (link : Link) → IsMoved h k p from to → to.mark ≡ false → shown k (Next id) ≡ Some link
    → link.mark ≡ true → shown h (Next id) ≡ Some link
not_moved h k p from to id link m plain at mark = elim (place_either (Next id) p) [
  | inl same ↦
      let is : link ≡ to = some_same (sym at ∙ subst (λ (z : Place). shown k z ≡ Some to) (sym same) m.moved) in
      let bad : true ≡ false = sym mark ∙ (ap (λ (x : Link). x.mark) is ∙ plain) in
      absurd (cc)
  | inr ne ↦ sym (m.others (Next id) ne) ∙ at
]

left_moved : (roots : ℕ) (h k : Heap) (p : Place) (from to : Link) (id : ℕ) → AreOrderedChains (chain_order roots) h → IsMoved h k p from to
    → to.mark ≡ false → (w : IsLeftOver k id) → IsOnChain h w.root id → IsLeftOver h id
left_moved roots h k p from to id c m plain w on =
    left_was roots h k c id w on (not_moved h k p from to id w.link m plain (shown_link k id w.link w.has_link) w.marked)

-- what is left over after an event

record LeftAfter (k : Heap) (noted : Option ChainNote) (ids : List ℕ) : Type 0 where
  now : List ℕ
  all : (id : ℕ) → IsLeftOver k id → has id now ≡ true
  count : length now + unlinks_with noted ≤ length ids + removes_in (entries_in noted)

left_next : (n : HeapNumbers) (es : List (Event ChainNote)) (e : Event ChainNote) (ids : List ℕ) → ChainHolds n es → ChainMay n es e
    → ((id : ℕ) → IsLeftOver (run_heap n es) id → has id ids ≡ true)
    → LeftAfter (heap_after e.agent e.act (run_heap n es)) e.note ids
left_next n es e ids holds may left =
    let h : Heap = run_heap n es in
    let keys : List ℕ = set_after es in
    let c = holds.chains in
    let o = chain_order n.roots in
    each_kind n.roots h keys
    (λ act noted. AreOrderedChains o (heap_after e.agent act h) → Fits e.agent act h → LeftAfter (heap_after e.agent act h) noted ids)
    (λ act plain d fits. record {
      now = ids;
      all = λ id w. left id
          (left_still n.roots h (heap_after e.agent act h) c.ordered (unmoved_still o h (heap_after e.agent act h) (act_unmoved e.agent act h fits plain)) id w);
      count = omega arith;
    })
    (λ p from to by key a d fits.
    let k : Heap = heap_after e.agent (Move p from to) h in
    let m = move_moves e.agent p from to h fits in
    let new = add_links n.roots h keys c e.agent p from to key fits a in
    let way = link_way o h k p from to key c.ordered m a new in
    record {
      now = ids;
      all = λ id w. elim (chain_back h k w.root p from a.over (a.id ∷ []) a.node.link.to m.at a.run way m.others id w.on_chain) [
        | inl is_new ↦ absurd (elim (or_cases (a.id == id) false is_new) [
          | inl same ↦
              let one : a.id ≡ id = eqb-true a.id id same in
              let shows : shown k (Next id) ≡ Some a.node.link = subst (λ (z : ℕ). shown k (Next z) ≡ Some a.node.link) one new.shows in
              let is : w.link ≡ a.node.link = some_same (sym (shown_link k id w.link w.has_link) ∙ shows) in
              let bad : true ≡ false = sym w.marked ∙ (ap (λ (x : Link). x.mark) is ∙ a.own_plain) in
              cc
          | inr bad ↦ cc
        ])
        | inr on ↦ left id (left_moved n.roots h k p from to id c.ordered m (ap (λ (x : Link). x.mark) a.to_is) w on)
      ];
      count = omega arith;
    })
    (λ x from to by key r d fits.
    let k : Heap = heap_after e.agent (Move (Next x) from to) h in
    let m = move_moves e.agent (Next x) from to h fits in
    record {
      now = x ∷ ids;
      all = λ id w. elim (place_either (Next id) (Next x)) [
        | inl same ↦ or_left (x == id) (has id ids) ((eq-eqb x id (cc)))
        | inr ne ↦
            let on = chain_before o h k x from to c.ordered m (remove_marks n.roots h x from to key r) w.root id w.on_chain in
            let was = left_was n.roots h k c.ordered id w on (sym (m.others (Next id) ne) ∙ shown_link k id w.link w.has_link) in
            or_right (x == id) (has id ids) (left id was)
      ];
      count = omega arith;
    })
    (λ p from to u d fits.
    let k : Heap = heap_after e.agent (Move p from to) h in
    let m = move_moves e.agent p from to h fits in
    let (is, next, own_link, mark, run) = u.run in
    let back : (id : ℕ) → (w : IsLeftOver k id) → IsOnChain h w.root id
    = λ id w. elim (chain_back h k w.root p from (u.first ∷ u.others) [] to.to m.at u.run
    (record { link = to; at = m.moved; to_is = refl }) m.others id w.on_chain) [ inl bad ↦ cc | inr on ↦ on ] in
    let first_left : has u.first ids ≡ true = first_was p u.linked m.at u is next own_link mark in
    record {
      now = filter (λ y. not (y == u.first)) ids;
      all = λ id w. has_kept u.first id ids (left id (left_moved n.roots h k p from to id c.ordered m u.plain_after w (back id w)))
          (λ same. passed_off o h k p from to (u.first ∷ u.others) [] to.to c.ordered d m u.linked u.plain_after u.run
          (record { link = to; at = m.moved; to_is = refl }) u.first (zero, omega arith, refl)
          (λ bad. cc) w.root refl (subst (λ (z : ℕ). IsOnChain k w.root z) same w.on_chain));
      count = omega (arith, filter_less u.first ids first_left);
    })
    (λ p link entry t d fits. record { now = ids; all = λ id w. left id w; count = omega arith })
    e.act e.note may.may_act (chains_after n es e holds may).ordered may.fits
  where
    first_was : (p : Place) → IsRankedPlace (chain_order n.roots) (run_heap n es) p → {from to : Link}
        → shown (run_heap n es) p ≡ Some from → (u : MayUnlink n.roots (run_heap n es) p from to)
        → from.to ≡ Some u.first → (next : Link) → HasLink (run_heap n es) u.first next → next.mark ≡ true → has u.first ids ≡ true
    first_was p l {from} {to} at u is next own mark =
        let c = holds.chains.ordered in
        let to_first : LeadsTo (run_heap n es) p (Some u.first) = record { link = from; at = at; to_is = is } in
        let (key, mine, follows) = c.leads p u.first l to_first in
        let (on, below) = follows_on_chain (chain_order n.roots) (run_heap n es) c p from key follows at u.plain in
        left u.first (record {
          root = key % n.roots;
          on_chain = chain_step (run_heap n es) (key % n.roots) p [] u.first on to_first;
          link = next;
          has_link = own;
          marked = mark;
        })

removes_in-append : (es fs : List SetEntry) → removes_in (es ++ fs) ≡ removes_in es + removes_in fs
removes_in-append [] fs = omega arith
removes_in-append (e ∷ es) fs = omega (arith, removes_in-append es fs)

-- Unlinks number at most what was left over and what was taken out since
unlinks_over : (n : HeapNumbers) (seen more : List (Event ChainNote)) (ids : List ℕ) → ChainHolds n seen → AllAllowed (ChainMay n) seen more
    → ((id : ℕ) → IsLeftOver (run_heap n seen) id → has id ids ≡ true)
    → unlinks_in more ≤ removes_in (entries_of more) + length ids
unlinks_over n seen [] ids holds all left = omega arith
unlinks_over n seen (e ∷ more) ids holds all left =
    let r = left_next n seen e ids holds all.0 left in
    let rest = unlinks_over n (seen ++ e ∷ []) more r.now (chain_keeps n seen e holds all.0) all.1 (rw (run_heap-snoc n seen e) r.all) in
    omega (arith, r.count, rest, removes_in-append (entries_in e.note) (entries_of more))

pub unlinks_bounded : (n : HeapNumbers) (seen more : List (Event ChainNote)) (ids : List ℕ) → ChainHolds n seen → AllAllowed (ChainMay n) seen more
    → AreLeftOver (run_heap n seen) ids
    → unlinks_in more ≤ removes_in (entries_of more) + length ids
unlinks_bounded n seen more ids holds all left = unlinks_over n seen more ids holds all (λ id w. has_among id ids (left id w))

-- each Move adds a key, takes one out, or is an Unlink

adds_in-append : (es fs : List SetEntry) → adds_in (es ++ fs) ≡ adds_in es + adds_in fs
adds_in-append [] fs = omega arith
adds_in-append (e ∷ es) fs = omega (arith, adds_in-append es fs)

answer_none : (keys : List ℕ) (entry : SetEntry) → MayAnswer keys entry → adds_in (entry ∷ []) + removes_in (entry ∷ []) ≡ 0
answer_none keys (Added by key answer) (is, there) = rw is refl
answer_none keys (Removed by key answer) (is, none) = rw is refl
answer_none keys (Asked by key answer) is = refl

move_counted : (n : HeapNumbers) (es : List (Event ChainNote)) (e : Event ChainNote) → ChainMay n es e
    → move_with e.act ≡ adds_in (entries_in e.note) + removes_in (entries_in e.note) + unlinks_with e.note
move_counted n es e may =
    each_kind n.roots (run_heap n es) (set_after es)
    (λ act noted. move_with act ≡ adds_in (entries_in noted) + removes_in (entries_in noted) + unlinks_with noted)
    (λ act plain. omega (arith, plain))
    (λ p from to by key a. refl)
    (λ x from to by key r. refl)
    (λ p from to u. refl)
    (λ p link entry t. omega (arith, answer_none (set_after es) entry t))
    e.act e.note may.may_act

pub moves_counted : (n : HeapNumbers) (seen more : List (Event ChainNote)) → AllAllowed (ChainMay n) seen more
    → moves_in more ≡ adds_in (entries_of more) + removes_in (entries_of more) + unlinks_in more
moves_counted n seen [] all = refl
moves_counted n seen (e ∷ more) all =
    omega (
      arith,
      move_counted n seen e all.0,
      moves_counted n (seen ++ e ∷ []) more all.1,
      adds_in-append (entries_in e.note)
          (entries_of more),
      removes_in-append (entries_in e.note) (entries_of more),
    )

-- Moves cost keys that went in and out, and marked nodes that were left over
pub turns_bounded : (n : HeapNumbers) (seen more : List (Event ChainNote)) (ids : List ℕ) (turns : ℕ) → ChainHolds n seen
    → AllAllowed (ChainMay n) seen more → AreLeftOver (run_heap n seen) ids → turns ≤ moves_in more
    → turns ≤ adds_in (entries_of more) + 2 * removes_in (entries_of more) + length ids
turns_bounded n seen more ids turns holds all left some =
    omega (arith, some, moves_counted n seen more all, unlinks_bounded n seen more ids holds all left)
