-- What root 0 shows after an allowed event, and that no link has a mark.
use Rattle.std.proofs.Common.{Bool, List, None, Option, Some, [], ap, arith, false, inl, inr, refl, subst, suc, sym, true, zero, ℕ, ◌++◌, ◌∙◌, ◌∷◌, ◌≡◌, ◌≢◌}
use Rattle.std.specs.List.{slice_get}
use Rattle.std.specs.Prelude.{if◌then◌else◌, ◌==◌}
use Rattle.orc_heap.proofs.Before.{get-changed}
use Rattle.orc_heap.proofs.Fresh.{touched}
use Rattle.orc_heap.proofs.Moved.{target_roots}
use Rattle.orc_heap.proofs.OwnEntries.{noted-snoc}
use Rattle.orc_heap.proofs.Runs.{run_heap-snoc}
use Rattle.orc_heap.proofs.SingleActs.{root_moved, root_other}
use Rattle.orc_heap.specs.Acts.{as_linked, as_named, heap_after, set_link, with_link, with_side, with_value}
use Rattle.orc_heap.specs.Heap.{Heap, HeapNumbers, Node, link_to, shown}
use Rattle.orc_heap.specs.Journals.{event_by, names_node, run_heap}
use Rattle.orc_heap.specs.declared.events.Act.{Act}
use Rattle.orc_heap.specs.declared.events.Act.TheVariants.{Aim, AimSide, Fill, Look, Move}
use Rattle.orc_heap.specs.declared.events.Event.{Event}
use Rattle.orc_heap.specs.declared.events.Link.{Link}
use Rattle.orc_heap.specs.declared.events.Place.TheVariants.{Next, Root, Side}
use Rattle.orc_pairs_rule.specs.declared.entry.CellEntry.TheVariants.{Published, Seen}
use Rattle.orc_pairs_rule.specs.declared.pairs.PairsNote.{PairsNote}
use Rattle.orc_pairs_rule.specs.declared.pairs.PairsNote.TheVariants.{Entry, Stage, Unstage}
use Rattle.orc_pairs_rule.specs.CellHistory.{Parts, no_parts, parts_after}
use Rattle.orc_pairs_rule.specs.PairsDiscipline.{HasNoMark, HasPair, IsNoMove, IsStaging, MayPublish, PairsHolds, PairsMay, ShowsParts, entries_in, entries_of, parts_of}
use Rattle.orc_pairs_rule.specs.Laws.Histories.{legal-right, parts-append}
use Rattle.orc_pairs_rule.specs.Laws.Kinds.{each_kind}
use Rattle.orc_pairs_rule.specs.Laws.NodesBefore.{node_before}
use Rattle.orc_pairs_rule.specs.Laws.Nodes.{MovesRoot, moves_root, pair_next, parts_next, target_after}

pub parts_snoc : (es : List (Event PairsNote)) (e : Event PairsNote) → parts_of (es ++ e ∷ []) ≡ parts_after (parts_of es) (entries_in e.note)
parts_snoc es e = ap (λ z. parts_after no_parts z) (noted-snoc entries_in es e) ∙ parts-append no_parts (entries_of es) (entries_in e.note)

-- an act that is no Move leaves the roots
pub roots_kept : (agent : ℕ) (act : Act) (h : Heap) (root : ℕ) → IsNoMove act → shown (heap_after agent act h) (Root root) ≡ shown h (Root root)
roots_kept agent (Aim id to) h root m = ap (λ (ls : List Link). slice_get ls root) (target_roots as_named to _)
roots_kept agent (AimSide id to) h root m = ap (λ (ls : List Link). slice_get ls root) (target_roots as_named to _)
roots_kept agent (Move place from to) h root m = absurd m
roots_kept agent act h root m = refl

pub not_root_0 : (agent r : ℕ) → IsStaging agent r → 0 ≢ r
not_root_0 agent r (inl e) = λ z. omega (arith, z, e)
not_root_0 agent r (inr e) = λ z. omega (arith, z, e)

-- where root 0 and the parts stay
shows_kept : (n : HeapNumbers) (es : List (Event PairsNote)) (e : Event PairsNote) → PairsMay n es e
    → shown (heap_after e.agent e.act (run_heap n es)) (Root 0) ≡ shown (run_heap n es) (Root 0)
    → parts_after (parts_of es) (entries_in e.note) ≡ parts_of es
    → ShowsParts (run_heap n es) (parts_of es) → ShowsParts (run_heap n (es ++ e ∷ [])) (parts_of (es ++ e ∷ []))
shows_kept n es e may root parts shows = cases shows
  where
    k : Heap
    k = run_heap n (es ++ e ∷ [])

    here : shown k (Root 0) ≡ shown (run_heap n es) (Root 0)
    here = ap (λ g. shown g (Root 0)) (run_heap-snoc n es e) ∙ root

    parts_are : parts_of (es ++ e ∷ []) ≡ parts_of es
    parts_are = parts_snoc es e ∙ parts

    cases : ShowsParts (run_heap n es) (parts_of es) → ShowsParts k (parts_of (es ++ e ∷ []))
    cases (inl c) = inl (here ∙ c.0, parts_are ∙ c.1)
    cases (inr p) = inr (record {
      id = p.id;
      left = p.left;
      right = p.right;
      root_is = here ∙ p.root_is;
      has = subst (λ (x : Parts). HasPair k p.id p.left p.right x) (sym parts_are) (pair_next n es e may p.id p.left p.right (parts_of es) p.has);
    })

shows_published : (n : HeapNumbers) (es : List (Event PairsNote)) (agent r by : ℕ) (from to : Link) (left right : Option ℕ) (x y : ℕ)
    → MayPublish (run_heap n es) r left right (record { left = x; right = y }) from to
    → PairsMay n es (event_by agent (Move (Root r) from to) (Some (Entry (Published by left right x y))))
    → let e = event_by agent (Move (Root r) from to) (Some (Entry (Published by left right x y))) in
    ShowsParts (run_heap n (es ++ e ∷ [])) (parts_of (es ++ e ∷ []))
shows_published n es agent r by from to left right x y m may =
    let e : Event PairsNote = event_by agent (Move (Root r) from to) (Some (Entry (Published by left right x y))) in
    let h = run_heap n es in
    let k = run_heap n (es ++ e ∷ []) in
    let legal = legal-right no_parts (entries_of es) (Published by left right x y ∷ []) may.may_enter.1 in
    let parts_are : parts_of (es ++ e ∷ []) ≡ record { left = x; right = y } = parts_snoc es e ∙ legal.0 in
    let at : shown (heap_after agent (Move (Root r) from to) h) (Root 0) ≡ Some (link_to m.id) =
    subst (λ (q : ℕ). shown (heap_after agent (Move (Root r) from to) h) (Root q) ≡ Some (link_to m.id)) m.root_is
    (root_moved agent r from to h may.fits.0 ∙ ap (λ (l : Link). Some l) m.to_is) in
    let has : HasPair k m.id m.left m.right (record { left = x; right = y }) = record {
      node = as_linked m.node;
      there = ap (λ g. slice_get g.nodes m.id) (run_heap-snoc n es e) ∙ target_after agent r m.id from to h m.node m.to_is m.there;
      linked = refl;
      pair = parts_next n es e may m.node (as_linked m.node) m.left m.right (record { left = x; right = y }) refl refl m.pair;
    } in
    inr (record {
      id = m.id;
      left = m.left;
      right = m.right;
      root_is = ap (λ g. shown g (Root 0)) (run_heap-snoc n es e) ∙ at;
      has = subst (λ (p : Parts). HasPair k m.id m.left m.right p) (sym parts_are) has;
    })

pub shows_next : (n : HeapNumbers) (es : List (Event PairsNote)) (e : Event PairsNote) → PairsHolds n es → PairsMay n es e
    → ShowsParts (run_heap n (es ++ e ∷ [])) (parts_of (es ++ e ∷ []))
shows_next n es e holds may =
    let h = run_heap n es in
    each_kind h e.agent (λ act noted. let x : Event PairsNote = event_by e.agent act noted in PairsMay n es x
    → ShowsParts (run_heap n (es ++ x ∷ [])) (parts_of (es ++ x ∷ [])))
    (λ act m k. shows_kept n es (event_by e.agent act None) k (roots_kept e.agent act h 0 m) refl holds.shows)
    (λ r from to m k. shows_kept n es (event_by e.agent (Move (Root r) from to) (Some Stage)) k
    (root_other e.agent r 0 from to h (not_root_0 e.agent r m.own)) refl holds.shows)
    (λ r from to m k. shows_kept n es (event_by e.agent (Move (Root r) from to) (Some Unstage)) k
    (root_other e.agent r 0 from to h (not_root_0 e.agent r m.own)) refl holds.shows)
    (λ r from to by left right x y m k. shows_published n es e.agent r by from to left right x y m k)
    (λ place link by x y k. shows_kept n es (event_by e.agent (Look place link) (Some (Entry (Seen by x y)))) k refl refl holds.shows)
    e.act e.note may.may_act may

-- marks

either : {A : Type 0} (P : A → Type 0) (b : Bool) (x y : A) → P x → P y → P (if b then x else y)
either P true x y p q = p
either P false x y p q = q

abbrev Clear : Node → Type 0
Clear x = (x.link.mark ≡ false) × (x.side.mark ≡ false)

clear_value : (which value : ℕ) (x : Node) → Clear x → Clear (with_value which value x)
clear_value zero value x c = c
clear_value (suc which) value x c = c

clear_touched : (act : Act) (id : ℕ) (x : Node) → MovesRoot act → Clear x → Clear (touched act id x)
clear_touched (Fill i which value) id x m c = either Clear (i == id) _ _ (clear_value which value x c) c
clear_touched (Aim i to) id x m c =
    let k : Clear (if i == id then with_link (record { to = to; mark = false }) x else x) = either Clear (i == id) _ _ (refl, c.1) c in
    either Clear (names_node to id) _ _ (k.0, k.1) k
clear_touched (AimSide i to) id x m c =
    let k : Clear (if i == id then with_side (record { to = to; mark = false }) x else x) = either Clear (i == id) _ _ (c.0, refl) c in
    either Clear (names_node to id) _ _ (k.0, k.1) k
clear_touched (Move (Root r) from to) id x m c = either Clear (names_node to.to id) _ _ (c.0, c.1) c
clear_touched (Move (Next i) from to) id x m c = absurd m
clear_touched (Move (Side i) from to) id x m c = absurd m
clear_touched act id x m c = c

clear_next : (n : HeapNumbers) (es : List (Event PairsNote)) (e : Event PairsNote) (id : ℕ) (node : Node) → HasNoMark (run_heap n es) → PairsMay n es e
    → slice_get (run_heap n (es ++ e ∷ [])).nodes id ≡ Some node → Clear node
clear_next n es e id node marks may there =
    let h = run_heap n es in
    elim (node_before e.agent e.act h id node (ap (λ g. slice_get g.nodes id) (sym (run_heap-snoc n es e)) ∙ there)) [
      | inl new ↦ subst Clear (sym new) (refl, refl)
      | inr old ↦
          let c = clear_touched e.act id old.0 (moves_root h e.agent e.act e.note may.may_act) (marks.links id old.0 old.1, marks.sides id old.0 old.1) in
          subst Clear (sym old.2) c
    ]

root_clear : (agent r : ℕ) (from to : Link) (h : Heap) → to.mark ≡ false → HasNoMark h → (q : ℕ) (link : Link)
    → shown (heap_after agent (Move (Root r) from to) h) (Root q) ≡ Some link → link.mark ≡ false
root_clear agent r from to h clear marks q link e =
    let at = ap (λ (ls : List Link). slice_get ls q) (sym (target_roots as_linked to.to (set_link (Root r) to h))) ∙ e in
    let (x, there, which) = get-changed (λ (l : Link). to) r q h.roots link at in
    elim which [
      | inl c ↦ ap (λ (l : Link). l.mark) (sym c.1) ∙ clear
      | inr c ↦ ap (λ (l : Link). l.mark) (sym c.1) ∙ marks.roots q x there
    ]

roots_clear : (n : HeapNumbers) (es : List (Event PairsNote)) (e : Event PairsNote) → HasNoMark (run_heap n es) → PairsMay n es e
    → (q : ℕ) (link : Link) → shown (heap_after e.agent e.act (run_heap n es)) (Root q) ≡ Some link → link.mark ≡ false
roots_clear n es e marks may =
    let h = run_heap n es in
    each_kind h e.agent (λ act noted. (q : ℕ) (link : Link) → shown (heap_after e.agent act h) (Root q) ≡ Some link → link.mark ≡ false)
    (λ act m q link at. marks.roots q link (sym (roots_kept e.agent act h q m) ∙ at))
    (λ r from to m q link at. root_clear e.agent r from to h (ap (λ (l : Link). l.mark) m.to_is) marks q link at)
    (λ r from to m q link at. root_clear e.agent r from to h (ap (λ (l : Link). l.mark) m.to_is) marks q link at)
    (λ r from to by left right x y m q link at. root_clear e.agent r from to h (ap (λ (l : Link). l.mark) m.to_is) marks q link at)
    (λ place seen by x y q link at. marks.roots q link at)
    e.act e.note may.may_act

pub marks_next : (n : HeapNumbers) (es : List (Event PairsNote)) (e : Event PairsNote) → HasNoMark (run_heap n es) → PairsMay n es e
    → HasNoMark (run_heap n (es ++ e ∷ []))
marks_next n es e marks may = record {
  roots = λ q link at. roots_clear n es e marks may q link (ap (λ g. shown g (Root q)) (sym (run_heap-snoc n es e)) ∙ at);
  links = λ id node there. (clear_next n es e id node marks may there).0;
  sides = λ id node there. (clear_next n es e id node marks may there).1;
}
