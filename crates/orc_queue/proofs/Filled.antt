-- Each once linked node has its second value, from the opening on.
use Rattle.std.proofs.Common.{Bool, List, None, Option, Some, [], ap, append-nil, append_assoc, false, inl, inr, refl, subst, sym, true, ℕ, ◌++◌, ◌+◌, ◌∙◌, ◌∷◌, ◌≡◌}
use Rattle.std.proofs.lemmas.Bool.{eqb-true}
use Rattle.std.specs.List.{slice_get}
use Rattle.std.specs.Prelude.{if◌then◌else◌, is_some, ◌==◌}
use mathlib.Core.List.{IsPrefix}
use Rattle.orc_heap.proofs.Before.{linked_before}
use Rattle.orc_heap.proofs.Fresh.{link_touched, node-after, touched}
use Rattle.orc_heap.proofs.Linked.{linked_after}
use Rattle.orc_heap.proofs.SingleActs.{plain_moves}
use Rattle.orc_heap.proofs.Runs.{run_heap-snoc}
use Rattle.orc_heap.proofs.Stays.{allowed-left, allowed-right}
use Rattle.orc_heap.specs.Acts.{as_linked, heap_after, with_link, with_side}
use Rattle.orc_heap.specs.Allowed.{AllAllowed, IsLinkedNode}
use Rattle.orc_heap.specs.Heap.{Heap, HeapNumbers, Node, link_to}
use Rattle.orc_heap.specs.Journals.{IsPlainAct, moves_to, names_node, run_heap, event_by}
use Rattle.orc_heap.specs.declared.events.Act.{Act}
use Rattle.orc_heap.specs.declared.events.Act.TheVariants.{Look, Move}
use Rattle.orc_heap.specs.declared.events.Event.{Event}
use Rattle.orc_heap.specs.declared.events.Link.{Link}
use Rattle.orc_heap.specs.declared.events.Place.TheVariants.{Next, Root, Side}
use Rattle.orc_fifo_rule.proofs.Later.{holds_later, nothing_yet}
use Rattle.orc_fifo_rule.specs.declared.fifo.FifoNote.{FifoNote}
use Rattle.orc_fifo_rule.specs.QueueDiscipline.{FifoHolds, FifoMay, has_begun}
use Rattle.orc_fifo_rule.specs.Laws.Events.{begun_more}
use Rattle.orc_fifo_rule.specs.Laws.Kinds.{each_kind}
use Rattle.orc_fifo_rule.specs.Laws.Kept.{fifo_keeps}
use Rattle.orc_fifo_rule.specs.Laws.Paths.{head_steps, successor_linked, tail_steps}
use Rattle.orc_fifo_rule.specs.Laws.Running.{begin_late}
use Rattle.orc_queue.specs.Looking.{Known}
use Rattle.orc_queue.specs.Turns.{HasDummy}

no_plain_link : (act : Act) (id : ℕ) → IsPlainAct act → moves_to act id ≡ true → ⊥
no_plain_link act id plain m = let bad : true ≡ false = sym m ∙ plain_moves act id plain in cc

-- a node to which the event makes the first link is the node of a Put
module _ (n : HeapNumbers) (es : List (Event FifoNote)) (holds : FifoHolds n es) (begun : has_begun es ≡ true) (id : ℕ) where
  abbrev h : Heap
  h = run_heap n es

  abbrev Filled : Node → Type 0
  Filled node = (value : ℕ) × (node.second ≡ Some value)

  same_node : (i : ℕ) (x y : Node) → i ≡ id → slice_get h.nodes i ≡ Some x → slice_get h.nodes id ≡ Some y → x ≡ y
  same_node i x y same at there = let both : Some x ≡ Some y = sym at ∙ (ap (λ (k : ℕ). slice_get h.nodes k) same ∙ there) in cc

  linked_twice : (i : ℕ) (old : Node) → i ≡ id → IsLinkedNode h i → slice_get h.nodes id ≡ Some old → old.linked ≡ false → ⊥
  linked_twice i old same l there unlinked =
      let k = same_node i l.node old same l.there there in
      let bad : true ≡ false = sym l.linked ∙ (ap (λ (x : Node). x.linked) k ∙ unlinked) in
      cc

  named_is : (to : Link) (i : ℕ) (place : _) (from : Link) → to ≡ link_to i → moves_to (Move place from to) id ≡ true → i ≡ id
  named_is to i place from is m = eqb-true i id (subst (λ (l : Link). moves_to (Move place from l) id ≡ true) is m)

  first_link : (e : Event FifoNote) (old : Node) → FifoMay n es e → slice_get h.nodes id ≡ Some old → old.linked ≡ false → moves_to e.act id ≡ true → Filled old
  first_link e old may there unlinked m =
      let run = holds.running begun in
      each_kind h (λ act noted. FifoMay n es (event_by e.agent act noted) → moves_to act id ≡ true → Filled old)
      (λ act plain x k. absurd (no_plain_link act id plain k))
      (λ r from to b x k. absurd (begin_late h es r run b.root_is (x.fits.0 ∙ ap (λ (l : Link). Some l) b.from_is)))
      (λ r from to b x k. absurd (linked_twice b.steps.next old (named_is to b.steps.next (Root r) from b.steps.to_is k)
      (successor_linked n es b.steps.id b.steps.next holds (tail_steps h es run r from to b.steps b.root_is x.fits.0).1) there unlinked))
      (λ r from to by job at b x k. absurd (linked_twice b.steps.next old (named_is to b.steps.next (Root r) from b.steps.to_is k)
      (successor_linked n es b.steps.id b.steps.next holds (head_steps h es run r from to b.steps b.root_is x.fits.0).1) there unlinked))
      (λ t from to by job at b x k.
      let same = same_node b.id b.node old (named_is to b.id (Next t) from b.to_is k) b.there there in
      (at + 1, ap (λ (y : Node). y.second) (sym same) ∙ b.holds.position_is))
      (λ d link by b x k. absurd (no_plain_link (Look (Next d) link) id tt k))
      e.act e.note may.may_act may m

either : (P : Node → Type 0) (b : Bool) (x y : Node) → P x → P y → P (if b then x else y)
either P true x y p q = p
either P false x y p q = q

second_kept : (act : Act) (id : ℕ) (x : Node) → moves_to act id ≡ true → (touched act id x).second ≡ x.second
second_kept (Move (Root r) from to) id x m = either (λ y. y.second ≡ x.second) (names_node to.to id) _ _ refl refl
second_kept (Move (Side i) from to) id x m =
    let k : (link_touched (Side i) to id x).second ≡ x.second = either (λ y. y.second ≡ x.second) (i == id) (with_side to x) x refl refl in
    either (λ y. y.second ≡ x.second) (names_node to.to id) (as_linked (link_touched (Side i) to id x)) (link_touched (Side i) to id x) k k
second_kept (Move (Next i) from to) id x m =
    let k : (link_touched (Next i) to id x).second ≡ x.second = either (λ y. y.second ≡ x.second) (i == id) (with_link to x) x refl refl in
    either (λ y. y.second ≡ x.second) (names_node to.to id) (as_linked (link_touched (Next i) to id x)) (link_touched (Next i) to id x) k k
second_kept act id x m = cc

filled_next : (n : HeapNumbers) (es : List (Event FifoNote)) (e : Event FifoNote) → FifoHolds n es → HasDummy n es → FifoMay n es e → HasDummy n (es ++ e ∷ [])
filled_next n es e holds d may = record {
  begun = begun_more es (e ∷ []) d.begun;
  filled = λ id node there linked.
      let at : slice_get (heap_after e.agent e.act (run_heap n es)).nodes id ≡ Some node =
      subst (λ (g : Heap). slice_get g.nodes id ≡ Some node) (run_heap-snoc n es e) there in
      elim (linked_before e.agent e.act (run_heap n es) id node at linked) [
        | inl l ↦
            let s = linked_after e.agent e.act (run_heap n es) id l.node may.fits l.there l.linked in
            let both : Some s.node ≡ Some node = sym s.there ∙ at in
            let same : s.node ≡ node = cc in
            ap (λ (x : Node). is_some x.second) (sym same) ∙ (ap (λ (o : Option ℕ). is_some o) s.second ∙ d.filled id l.node l.there l.linked)
        | inr new ↦
            let after : slice_get (heap_after e.agent e.act (run_heap n es)).nodes id ≡ Some (touched e.act id new.old) =
            node-after e.agent e.act (run_heap n es) id new.old new.there in
            let both : Some (touched e.act id new.old) ≡ Some node = sym after ∙ at in
            let same : touched e.act id new.old ≡ node = cc in
            let (value, is) = first_link n es holds d.begun id e new.old may new.there new.unlinked new.moves in
            ap (λ (x : Node). is_some x.second) (sym same) ∙ ap (λ (o : Option ℕ). is_some o) (second_kept e.act id new.old new.moves ∙ is)
      ];
}

pub dummy_later : (n : HeapNumbers) (seen more : List (Event FifoNote)) → FifoHolds n seen → HasDummy n seen → AllAllowed (FifoMay n) seen more
    → HasDummy n (seen ++ more)
dummy_later n seen [] holds d all = subst (λ es. HasDummy n es) (sym (append-nil seen)) d
dummy_later n seen (e ∷ more) holds d all =
    subst (λ es. HasDummy n es) (append_assoc seen (e ∷ []) more)
    (dummy_later n (seen ++ e ∷ []) more (fifo_keeps n seen e holds all.0) (filled_next n seen e holds d all.0) all.1)

pub known : (n : HeapNumbers) (opening es : List (Event FifoNote)) → HasDummy n opening → IsPrefix opening es → AllAllowed (FifoMay n) [] es
    → FifoHolds n es → Known n es
known n opening es made (more, is) all holds =
    let whole : AllAllowed (FifoMay n) [] (opening ++ more) = subst (λ z. AllAllowed (FifoMay n) [] z) (sym is) all in
    let begin = holds_later n [] opening (nothing_yet n) (allowed-left (FifoMay n) [] opening more whole) in
    record {
      holds = holds;
      all = all;
      dummy = subst (λ z. HasDummy n z) is (dummy_later n opening more begin made (allowed-right (FifoMay n) [] opening more whole));
    }

-- what is there has a value
pub some_value : (o : Option ℕ) → is_some o ≡ true → (value : ℕ) × (o ≡ Some value)
some_value None e = cc
some_value (Some value) e = (value, refl)
