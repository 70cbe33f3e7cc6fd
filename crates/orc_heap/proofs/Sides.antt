-- Second links: where they show, and acts that leave them null.
use Rattle.std.proofs.Common.{Bool, None, Some, ap, cond, false, inl, inr, nat_lt, refl, sym, true, ℕ, ◌<◌, ◌==◌, ◌∙◌, ◌≡◌, ◌⊎◌}
use Rattle.std.proofs.lemmas.Bool.{lt-ltb}
use Rattle.std.specs.List.{slice_get}
use Rattle.std.specs.Prelude.{if◌then◌else◌}
use Rattle.orc_heap.proofs.Before.{linked_before}
use Rattle.orc_heap.proofs.Fresh.{node-after, touched}
use Rattle.orc_heap.proofs.Linked.{either_side}
use Rattle.orc_heap.proofs.Moved.{same_links, shown_side, side_shown}
use Rattle.orc_heap.proofs.SingleActs.{some_same}
use Rattle.orc_heap.specs.Acts.{Fits, as_linked, heap_after, moved_side, with_link}
use Rattle.orc_heap.specs.Allowed.{AreSidesNull, HasNullSide, IsLinkedNode, LeadsUp}
use Rattle.orc_heap.specs.Heap.{Heap, Node, null, shown}
use Rattle.orc_heap.specs.Journals.{IsPlainAct, moves_to, names_node}
use Rattle.orc_heap.specs.declared.events.Act.{Act}
use Rattle.orc_heap.specs.declared.events.Act.TheVariants.{Aim, AimSide, Fill, Give, Look, Miss, Move}
use Rattle.orc_heap.specs.declared.events.Link.{Link}
use Rattle.orc_heap.specs.declared.events.Place.TheVariants.{Next, Root, Side}

-- where nodes have two links, that of a node that is there shows
pub side_there : (h : Heap) (id : ℕ) (node : Node) → 1 < h.links → slice_get h.nodes id ≡ Some node → shown h (Side id) ≡ Some node.side
side_there h id node two there = shown_side h id node there ∙ ap (λ (b : Bool). cond b (Some node.side) None) (lt-ltb 1 h.links two)

-- a null second link leads up by any rank
pub side_rises : (rank : ℕ → ℕ) (h : Heap) (id : ℕ) (node : Node) → slice_get h.nodes id ≡ Some node → HasNullSide h id → 1 < h.links
    → LeadsUp rank h id node.side
side_rises rank h id node there null two = inl (ap (λ (l : Link). l.to) (null node.side (side_there h id node two there)))

-- a node with a null second link shows no other
pub null_side : (h : Heap) (id : ℕ) (node : Node) → slice_get h.nodes id ≡ Some node → node.side ≡ null → HasNullSide h id
null_side h id node there is = λ link at. given (nat_lt 1 h.links) link (sym (shown_side h id node there) ∙ at)
  where
    given : (b : Bool) (link : Link) → cond b (Some node.side) None ≡ Some link → link ≡ null
    given true link at = sym (some_same at) ∙ is
    given false link at = cc

-- the act moves no second link
abbrev pub MovesNoSide : Act → Type 0
MovesNoSide (Move (Side id) from to) = ⊥
MovesNoSide act = Unit {0}

pub plain_moves_no_side : (act : Act) → IsPlainAct act → MovesNoSide act
plain_moves_no_side Give plain = tt
plain_moves_no_side (Fill id which value) plain = tt
plain_moves_no_side (Aim id to) plain = tt
plain_moves_no_side (AimSide id to) plain = tt
plain_moves_no_side (Look place link) plain = tt
plain_moves_no_side (Move place from to) plain = absurd plain
plain_moves_no_side (Miss place wanted found) plain = tt

same_side : (act : Act) (id : ℕ) (side : Link) → MovesNoSide act → moved_side act id side ≡ side
same_side Give id side none = refl
same_side (Fill i which value) id side none = refl
same_side (Aim i to) id side none = refl
same_side (AimSide i to) id side none = refl
same_side (Look place link) id side none = refl
same_side (Move (Root r) from to) id side none = refl
same_side (Move (Next i) from to) id side none = refl
same_side (Move (Side i) from to) id side none = absurd none
same_side (Miss place wanted found) id side none = refl

-- such a Move that makes a link to the node leaves its second link
touched_side : (act : Act) (id : ℕ) (x : Node) → MovesNoSide act → moves_to act id ≡ true → (touched act id x).side ≡ x.side
touched_side Give id x none moves = cc
touched_side (Fill i which value) id x none moves = cc
touched_side (Aim i to) id x none moves = cc
touched_side (AimSide i to) id x none moves = cc
touched_side (Look place link) id x none moves = cc
touched_side (Move (Root r) from to) id x none moves = either_side (names_node to.to id) (as_linked x) x x.side refl refl
touched_side (Move (Next i) from to) id x none moves =
    let y : Node = if i == id then with_link to x else x in
    let k : y.side ≡ x.side = either_side (i == id) (with_link to x) x x.side refl refl in
    either_side (names_node to.to id) (as_linked y) y x.side k k
touched_side (Move (Side i) from to) id x none moves = absurd none
touched_side (Miss place wanted found) id x none moves = cc

-- so what a node shows that it links is what it showed before
shown_as_before : (agent : ℕ) (act : Act) (h : Heap) (id : ℕ) (old : Node) → MovesNoSide act → moves_to act id ≡ true → slice_get h.nodes id ≡ Some old
    → shown (heap_after agent act h) (Side id) ≡ shown h (Side id)
shown_as_before agent act h id old none moves there =
    shown_side (heap_after agent act h) id (touched act id old) (node-after agent act h id old there)
    ∙ (ap (λ k. cond (nat_lt 1 k) (Some (touched act id old).side) None) (same_links agent act h)
    ∙ (ap (λ l. cond (nat_lt 1 h.links) (Some l) None) (touched_side act id old none moves) ∙ sym (shown_side h id old there)))

-- an act that moves no second link leaves those of once linked nodes null, where each node that it links had been linked, or has a null
-- second link
pub sides_after : (agent : ℕ) (act : Act) (h : Heap) → Fits agent act h → MovesNoSide act
    → ((id : ℕ) → moves_to act id ≡ true → IsLinkedNode h id ⊎ HasNullSide h id) → AreSidesNull h → AreSidesNull (heap_after agent act h)
sides_after agent act h fits none news null = λ id l link at.
    elim (linked_before agent act h id l.node l.there l.linked) [
      | inl was ↦
          let same = side_shown agent act h id was.node was.node.side fits was.there was.linked (same_side act id was.node.side none) in
          null id was link (shown_side h id was.node was.there ∙ (sym same ∙ at))
      | inr by ↦
          let before : shown h (Side id) ≡ Some link = sym (shown_as_before agent act h id by.old none by.moves by.there) ∙ at in
          elim (news id by.moves) [ inl old ↦ null id old link before | inr side ↦ side link before ]
    ]
