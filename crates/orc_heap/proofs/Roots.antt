-- A node to which a root leads was linked by a Move.
use Rattle.std.proofs.Common.{Bool, List, Option, Some, None, [], ap, inl, inr, refl, suc, sym, true, false, zero, ℕ, ◌∙◌, ◌∷◌, ◌≡◌, ◌⊎◌}
use Rattle.std.proofs.lemmas.Bool.{eq-eqb}
use Rattle.std.specs.List.{slice_get}
use Rattle.std.specs.Prelude.{replicate, ◌||◌}
use Rattle.orc_heap.proofs.Moved.{target_roots}
use Rattle.orc_heap.specs.Acts.{as_linked, as_named, heap_after, set_link}
use Rattle.orc_heap.specs.Heap.{Heap, HeapNumbers, change, new_heap, null, shown}
use Rattle.orc_heap.specs.Journals.{is_once_linked, moves_to, names_node, run_from, run_heap}
use Rattle.orc_heap.specs.declared.events.Act.{Act}
use Rattle.orc_heap.specs.declared.events.Act.TheVariants.{Aim, Fill, Give, Look, Miss, Move, AimSide}
use Rattle.orc_heap.specs.declared.events.Event.{Event}
use Rattle.orc_heap.specs.declared.events.Link.{Link}
use Rattle.orc_heap.specs.declared.events.Place.TheVariants.{Next, Root, Side}

changed : (to link : Link) (root r : ℕ) (links : List Link) → slice_get (change (λ (l : Link). to) r links) root ≡ Some link
    → (slice_get links root ≡ Some link) ⊎ (link ≡ to)
changed to link root r [] e = inl e
changed to link zero zero (x ∷ xs) e = inr (cc)
changed to link (suc root) zero (x ∷ xs) e = inl e
changed to link zero (suc r) (x ∷ xs) e = inl e
changed to link (suc root) (suc r) (x ∷ xs) e = changed to link root r xs e

-- a root shows what it showed, or the link of the act, a Move
root_after : (agent : ℕ) (act : Act) (h : Heap) (root id : ℕ) (link : Link) → link.to ≡ Some id → shown (heap_after agent act h) (Root root) ≡ Some link
    → (shown h (Root root) ≡ Some link) ⊎ (moves_to act id ≡ true)
root_after agent Give h root id link to at = inl at
root_after agent (Fill i which value) h root id link to at = inl at
root_after agent (Aim i target) h root id link to at = inl (ap (λ (ls : List Link). slice_get ls root) (sym (target_roots as_named target _)) ∙ at)
root_after agent (AimSide i target) h root id link to at = inl (ap (λ (ls : List Link). slice_get ls root) (sym (target_roots as_named target _)) ∙ at)
root_after agent (Look place seen) h root id link to at = inl at
root_after agent (Miss place wanted found) h root id link to at = inl at
root_after agent (Move (Next i) from target) h root id link to at =
    inl (ap (λ (ls : List Link). slice_get ls root) (sym (target_roots as_linked target.to _)) ∙ at)
root_after agent (Move (Side i) from target) h root id link to at =
    inl (ap (λ (ls : List Link). slice_get ls root) (sym (target_roots as_linked target.to _)) ∙ at)
root_after agent (Move (Root r) from target) h root id link to at =
    elim (changed target link root r h.roots
    (ap (λ (ls : List Link). slice_get ls root) (sym (target_roots as_linked target.to (set_link (Root r) target h))) ∙ at)) [
      | inl before ↦ inl before
      | inr is ↦ inr (ap (λ (t : Option ℕ). names_node t id) (ap (λ (l : Link). l.to) (sym is) ∙ to) ∙ eq-eqb id id refl)
    ]

-- what a root shows, it showed before, or a Move made a link to it
root_run : {N : Type 0} (h : Heap) (es : List (Event N)) (root id : ℕ) (link : Link) → link.to ≡ Some id → shown (run_from h es) (Root root) ≡ Some link
    → (shown h (Root root) ≡ Some link) ⊎ (is_once_linked es id ≡ true)
root_run h [] root id link to at = inl at
root_run h (e ∷ es) root id link to at =
    elim (root_run (heap_after e.agent e.act h) es root id link to at) [
      | inr later ↦ inr (or_true (moves_to e.act id) (is_once_linked es id) (inr later))
      | inl now ↦ elim (root_after e.agent e.act h root id link to now) [
        | inl before ↦ inl before
        | inr moved ↦
            inr (or_true (moves_to e.act id) (is_once_linked es id) (inl moved))
      ]
    ]
  where
    or_true : (a b : Bool) → (a ≡ true) ⊎ (b ≡ true) → (a || b) ≡ true
    or_true true b e = refl
    or_true false b (inl e) = cc
    or_true false b (inr e) = e

null_root : (roots root : ℕ) (link : Link) → slice_get (replicate roots null) root ≡ Some link → link ≡ null
null_root zero root link e = cc
null_root (suc roots) zero link e = cc
null_root (suc roots) (suc root) link e = null_root roots root link e

-- a node to which a root leads was linked
pub root_linked : {N : Type 0} (n : HeapNumbers) (es : List (Event N)) (root id : ℕ) (link : Link) → link.to ≡ Some id
    → shown (run_heap n es) (Root root) ≡ Some link → is_once_linked es id ≡ true
root_linked n es root id link to at =
    elim (root_run (new_heap n) es root id link to at) [
      | inl new ↦ absurd (let none : None ≡ Some id = ap (λ (l : Link). l.to) (sym (null_root n.roots root link new)) ∙ to in cc)
      | inr linked ↦ linked
    ]
