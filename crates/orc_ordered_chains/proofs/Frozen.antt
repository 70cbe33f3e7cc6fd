-- A marked link never changes, where each Move is one of an unmarked link.
use Rattle.std.proofs.Common.{List, Some, [], ap, false, inl, inr, refl, subst, sym, true, ℕ, ◌++◌, ◌∙◌, ◌∷◌, ◌≡◌}
use Rattle.orc_heap.proofs.Linked.{linked_after}
use Rattle.orc_heap.proofs.Runs.{run_heap-snoc}
use Rattle.orc_heap.proofs.SingleActs.{has_link, linked_node, shown_link, some_same}
use Rattle.orc_heap.specs.Acts.{Fits, heap_after}
use Rattle.orc_heap.specs.Allowed.{HasLink}
use Rattle.orc_heap.specs.Heap.{Heap, HeapNumbers, shown}
use Rattle.orc_heap.specs.Journals.{FitsAfter, run_heap}
use Rattle.orc_heap.specs.Moves.{move_with}
use Rattle.orc_heap.specs.declared.events.Act.{Act}
use Rattle.orc_heap.specs.declared.events.Act.TheVariants.{Move}
use Rattle.orc_heap.specs.declared.events.Event.{Event}
use Rattle.orc_heap.specs.declared.events.Link.{Link}
use Rattle.orc_heap.specs.declared.events.Place.{Place}
use Rattle.orc_heap.specs.declared.events.Place.TheVariants.{Next}
use Rattle.orc_ordered_chains.specs.Chains.{MarksStay}
use Rattle.orc_ordered_chains.proofs.Acts.{act_unmoved, move_moves, place_either}
use Rattle.orc_ordered_chains.proofs.Keys.{split_snoc}

-- if the act is a Move, it is one of an unmarked link
abbrev pub MovesUnmarked : Act → Type 0
MovesUnmarked (Move place from to) = from.mark ≡ false
MovesUnmarked act = Unit {0}

pub no_move_unmarked : (act : Act) → move_with act ≡ 0 → MovesUnmarked act
no_move_unmarked (Move place from to) p = cc
no_move_unmarked act p = tt

-- such an act leaves a marked link
act_marked : (agent : ℕ) (act : Act) (h : Heap) (id : ℕ) (link : Link) → Fits agent act h → MovesUnmarked act → HasLink h id link → link.mark ≡ true
    → shown (heap_after agent act h) (Next id) ≡ Some link
act_marked agent (Move place from to) h id link fits plain l mark = elim (place_either (Next id) place) [
  | inl same ↦
      let is : link ≡ from = some_same (sym (shown_link h id link l) ∙ subst (λ (z : Place). shown h z ≡ Some from) (sym same) fits.0) in
      let bad : true ≡ false = sym mark ∙ (ap (λ (x : Link). x.mark) is ∙ plain) in
      absurd (cc)
  | inr ne ↦ (move_moves agent place from to h fits).others (Next id) ne ∙ shown_link h id link l
]
act_marked agent act h id link fits plain l mark = (act_unmoved agent act h fits refl).shows (Next id) (linked_node h id link l) ∙ shown_link h id link l

-- before all events
pub nothing_marked : {N : Type 0} (n : HeapNumbers) → MarksStay {N = N} n []
nothing_marked n [] after id link split l mark = l
nothing_marked n (e ∷ before) after id link split l mark = let bad : ⊥ = cc in absurd bad

-- each event that is allowed leaves a marked link
abbrev pub KeepsMarked : {N : Type 0} → HeapNumbers → (List (Event N) → Event N → Type 0) → Type 0
KeepsMarked {N} n may = (es : List (Event N)) (e : Event N) (id : ℕ) (link : Link) → may es e
    → HasLink (run_heap n es) id link → link.mark ≡ true → HasLink (run_heap n (es ++ e ∷ [])) id link

module _ {N : Type 0} (n : HeapNumbers) (may : List (Event N) → Event N → Type 0) where
  pub marked_kept : ((es : List (Event N)) (e : Event N) → may es e → FitsAfter n es e)
      → ((es : List (Event N)) (e : Event N) → may es e → MovesUnmarked e.act) → KeepsMarked n may
  marked_kept fits unmarked es e id link allowed l mark =
      let h : Heap = run_heap n es in
      let s = linked_after e.agent e.act h id l.node (fits es e allowed) l.there l.linked in
      rw (run_heap-snoc n es e)
      (has_link (heap_after e.agent e.act h) id link (record { node = s.node; there = s.there; linked = s.linked })
      (act_marked e.agent e.act h id link (fits es e allowed) (unmarked es e allowed) l mark))

  pub marks_stay_more : KeepsMarked n may → (es : List (Event N)) (e : Event N) → may es e → MarksStay n es → MarksStay n (es ++ e ∷ [])
  marks_stay_more marked es e allowed stay before after id link split l mark =
      elim (split_snoc es e before after split) [
        | inl s ↦ marked es e id link allowed (stay before s.0 id link s.1 l mark) mark
        | inr all ↦ subst (λ (x : List (Event N)). HasLink (run_heap n x) id link) all l
      ]
