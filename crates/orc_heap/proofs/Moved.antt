-- A place that showed one link and later shows another was moved in between.
use Rattle.std.proofs.Common.{length, Bool, List, Option, false, None, Some, [], append-nil, append_assoc, ap, arith, inl, inr, refl, subst, suc, sym, true, zero, ℕ, ◌++◌, ◌+◌, ◌∙◌, ◌∷◌, ◌≡◌, ◌≢◌, ◌≤◌, ◌⊎◌}
use Rattle.std.proofs.lemmas.Bool.{eq-eqb}
use Rattle.std.specs.List.{list_any, slice_get}
use Rattle.std.specs.Prelude.{cond, if◌then◌else◌, nat_lt, ◌||◌}
use Rattle.std.specs.Option.{option_map}
use Rattle.orc_heap.proofs.Changes.{get-change_other, length-change}
use Rattle.orc_heap.proofs.Linked.{linked_after, side_after}
use Rattle.orc_heap.proofs.Fresh.{node-after, touched}
use Rattle.orc_heap.proofs.Runs.{run_heap-snoc}
use Rattle.orc_heap.specs.Acts.{Fits, as_linked, as_named, change_target, heap_after, moved_link, moved_side}
use Rattle.orc_heap.specs.Allowed.{AllAllowed}
use Rattle.orc_heap.specs.Heap.{Heap, HeapNumbers, Node, shown}
use Rattle.orc_heap.specs.Journals.{FitsAfter, IsLawfulFrom, run_from, run_heap}
use Rattle.orc_heap.specs.Moves.{IsLinkedPlace, gives_in, move_with, moves_in, moves_place}
use Rattle.orc_heap.specs.declared.events.Act.{Act}
use Rattle.orc_heap.specs.declared.events.Act.TheVariants.{Aim, Fill, Give, Look, Miss, Move, AimSide}
use Rattle.orc_heap.specs.declared.events.Event.{Event}
use Rattle.orc_heap.specs.declared.events.Link.{Link}
use Rattle.orc_heap.specs.declared.events.Place.{Place}
use Rattle.orc_heap.specs.declared.events.Place.TheVariants.{Next, Root, Side}

pub moves_in-append : {N : Type 0} (es fs : List (Event N)) → moves_in (es ++ fs) ≡ moves_in es + moves_in fs
moves_in-append [] fs = omega arith
moves_in-append (e ∷ es) fs = omega (arith, moves_in-append es fs)

pub gives_in-append : {N : Type 0} (es fs : List (Event N)) → gives_in (es ++ fs) ≡ gives_in es + gives_in fs
gives_in-append [] fs = omega arith
gives_in-append (e ∷ es) fs = omega (arith, gives_in-append es fs)

-- a change of a target changes no root
pub target_roots : (f : Node → Node) (to : Option ℕ) (h : Heap) → (change_target f to h).roots ≡ h.roots
target_roots f None h = refl
target_roots f (Some id) h = refl

pub target_length : (f : Node → Node) (to : Option ℕ) (h : Heap) → length (change_target f to h).nodes ≡ length h.nodes
target_length f None h = refl
target_length f (Some id) h = length-change f id h.nodes

roots_stay : (agent : ℕ) (act : Act) (h : Heap) → move_with act ≡ 0 → (heap_after agent act h).roots ≡ h.roots
roots_stay agent Give h none = refl
roots_stay agent (Fill id which value) h none = refl
roots_stay agent (Aim id to) h none = target_roots as_named to _
roots_stay agent (AimSide id to) h none = target_roots as_named to _
roots_stay agent (Look place link) h none = refl
roots_stay agent (Move place from to) h none = cc
roots_stay agent (Miss place wanted found) h none = refl

links_stay : (act : Act) (id : ℕ) (link : Link) → move_with act ≡ 0 → moved_link act id link ≡ link
links_stay Give id link none = refl
links_stay (Fill i which value) id link none = refl
links_stay (Aim i to) id link none = refl
links_stay (AimSide i to) id link none = refl
links_stay (Look place seen) id link none = refl
links_stay (Move place from to) id link none = cc
links_stay (Miss place wanted found) id link none = refl

sides_stay : (act : Act) (id : ℕ) (link : Link) → move_with act ≡ 0 → moved_side act id link ≡ link
sides_stay Give id link none = refl
sides_stay (Fill i which value) id link none = refl
sides_stay (Aim i to) id link none = refl
sides_stay (AimSide i to) id link none = refl
sides_stay (Look place seen) id link none = refl
sides_stay (Move place from to) id link none = cc
sides_stay (Miss place wanted found) id link none = refl

pub target_links : (f : Node → Node) (to : Option ℕ) (h : Heap) → (change_target f to h).links ≡ h.links
target_links f None h = refl
target_links f (Some id) h = refl

-- an act leaves the number of links
pub same_links : (agent : ℕ) (act : Act) (h : Heap) → (heap_after agent act h).links ≡ h.links
same_links agent Give h = refl
same_links agent (Fill id which value) h = refl
same_links agent (Aim id to) h = target_links as_named to _
same_links agent (AimSide id to) h = target_links as_named to _
same_links agent (Look place link) h = refl
same_links agent (Move (Root r) from to) h = target_links as_linked to.to _
same_links agent (Move (Next i) from to) h = target_links as_linked to.to _
same_links agent (Move (Side i) from to) h = target_links as_linked to.to _
same_links agent (Miss place wanted found) h = refl

-- the second link of a node that is there
pub shown_side : (h : Heap) (id : ℕ) (node : Node) → slice_get h.nodes id ≡ Some node → shown h (Side id) ≡ cond (nat_lt 1 h.links) (Some node.side) None
shown_side h id node there = ap (λ o. cond (nat_lt 1 h.links) (option_map (λ (x : Node). x.side) o) None) there

-- a once linked node's second link after an act
pub side_shown : (agent : ℕ) (act : Act) (h : Heap) (id : ℕ) (old : Node) (link : Link) → Fits agent act h → slice_get h.nodes id ≡ Some old → old.linked ≡ true
    → moved_side act id old.side ≡ link → shown (heap_after agent act h) (Side id) ≡ cond (nat_lt 1 h.links) (Some link) None
side_shown agent act h id old link fits there linked same =
    shown_side (heap_after agent act h) id (touched act id old) (node-after agent act h id old there)
    ∙ (ap (λ k. cond (nat_lt 1 k) (Some (touched act id old).side) None) (same_links agent act h)
    ∙ ap (λ l. cond (nat_lt 1 h.links) (Some l) None) (side_after agent act h id old fits there linked ∙ same))

-- the link of a node that is there
pub shown_node : (h : Heap) (id : ℕ) (node : Node) → slice_get h.nodes id ≡ Some node → shown h (Next id) ≡ Some node.link
shown_node h id node there = ap (option_map (λ (x : Node). x.link)) there

-- a root, or the link of a once linked node, stays one
pub linked_place_after : (agent : ℕ) (act : Act) (h : Heap) (place : Place) → Fits agent act h → IsLinkedPlace place h
    → IsLinkedPlace place (heap_after agent act h)
linked_place_after agent act h (Root r) fits l = tt
linked_place_after agent act h (Next id) fits l =
    let s = linked_after agent act h id l.node fits l.there l.linked in
    record { node = s.node; there = s.there; linked = s.linked }
linked_place_after agent act h (Side id) fits l =
    let s = linked_after agent act h id l.node fits l.there l.linked in
    record { node = s.node; there = s.there; linked = s.linked }

-- an act that is no Move leaves what such a place shows
pub shown_after : (agent : ℕ) (act : Act) (h : Heap) (place : Place) → Fits agent act h → IsLinkedPlace place h → move_with act ≡ 0
    → shown (heap_after agent act h) place ≡ shown h place
shown_after agent act h (Root r) fits l none = ap (λ (ls : List Link). slice_get ls r) (roots_stay agent act h none)
shown_after agent act h (Next id) fits l none =
    let s = linked_after agent act h id l.node fits l.there l.linked in
    shown_node (heap_after agent act h) id s.node s.there
    ∙ (ap (λ (x : Link). Some x) (s.link_is ∙ links_stay act id l.node.link none) ∙ sym (shown_node h id l.node l.there))
shown_after agent act h (Side id) fits l none =
    side_shown agent act h id l.node l.node.side fits l.there l.linked (sides_stay act id l.node.side none) ∙ sym (shown_side h id l.node l.there)

none_or_some : (k : ℕ) → (k ≡ 0) ⊎ (1 ≤ k)
none_or_some zero = inl refl
none_or_some (suc k) = inr (omega arith)

module _ {N : Type 0} (n : HeapNumbers) (may : List (Event N) → Event N → Type 0) (fits : (es : List (Event N)) (e : Event N) → may es e
    → FitsAfter n es e) where
  -- over allowed events without a Move it shows what it showed
  pub shown_still : (place : Place) (seen more : List (Event N)) → IsLinkedPlace place (run_heap n seen) → AllAllowed may seen more → moves_in more ≡ 0
      → shown (run_heap n (seen ++ more)) place ≡ shown (run_heap n seen) place
  shown_still place seen [] l all none = ap (λ es. shown (run_heap n es) place) (append-nil seen)
  shown_still place seen (e ∷ more) l all none =
      let f = fits seen e all.0 in
      let h = run_heap n seen in
      let here : shown (run_heap n (seen ++ e ∷ [])) place ≡ shown h place =
      rw (run_heap-snoc n seen e) (shown_after e.agent e.act h place f l (omega (arith, none))) in
      let still : IsLinkedPlace place (run_heap n (seen ++ e ∷ [])) = rw (run_heap-snoc n seen e) (linked_place_after e.agent e.act h place f l) in
      ap (λ es. shown (run_heap n es) place) (sym (append_assoc seen (e ∷ []) more))
      ∙ (shown_still place (seen ++ e ∷ []) more still all.1 (omega (arith, none)) ∙ here)

  pub linked_place_later : (place : Place) (seen more : List (Event N)) → IsLinkedPlace place (run_heap n seen) → AllAllowed may seen more
      → IsLinkedPlace place (run_heap n (seen ++ more))
  linked_place_later place seen [] l all = rw (append-nil seen) l
  linked_place_later place seen (e ∷ more) l all =
      let still : IsLinkedPlace place (run_heap n (seen ++ e ∷ [])) =
      rw (run_heap-snoc n seen e) (linked_place_after e.agent e.act (run_heap n seen) place (fits seen e all.0) l) in
      subst (λ es. IsLinkedPlace place (run_heap n es)) (append_assoc seen (e ∷ []) more) (linked_place_later place (seen ++ e ∷ []) more still all.1)

  -- it still shows the link, or a Move stands in between
  pub shown_or_moved : (place : Place) (link : Link) (seen more : List (Event N)) → IsLinkedPlace place (run_heap n seen) → AllAllowed may seen more
      → shown (run_heap n seen) place ≡ Some link
      → (shown (run_heap n (seen ++ more)) place ≡ Some link) ⊎ (1 ≤ moves_in more)
  shown_or_moved place link seen more l all at =
      elim (none_or_some (moves_in more)) [ inl none ↦ inl (shown_still place seen more l all none ∙ at) | inr some ↦ inr some ]

  -- if it shows another link, then a Move does
  pub moved_between : (place : Place) (one two : Link) (seen more : List (Event N)) → IsLinkedPlace place (run_heap n seen) → AllAllowed may seen more
      → shown (run_heap n seen) place ≡ Some one
      → shown (run_heap n (seen ++ more)) place ≡ Some two → one ≢ two → 1 ≤ moves_in more
  moved_between place one two seen more l all at later other =
      elim (shown_or_moved place one seen more l all at) [
        | inl still ↦ let both : Some one ≡ Some two = sym still ∙ later in absurd (other (cc))
        | inr some ↦ some
      ]

-- an act that is no Move of such a place leaves what it shows
shown_elsewhere : (agent : ℕ) (act : Act) (h : Heap) (place : Place) → Fits agent act h → IsLinkedPlace place h → moves_place place act ≡ false
    → shown (heap_after agent act h) place ≡ shown h place
shown_elsewhere agent Give h place fits l away = shown_after agent Give h place fits l refl
shown_elsewhere agent (Fill i which value) h place fits l away = shown_after agent (Fill i which value) h place fits l refl
shown_elsewhere agent (Aim i to) h place fits l away = shown_after agent (Aim i to) h place fits l refl
shown_elsewhere agent (AimSide i to) h place fits l away = shown_after agent (AimSide i to) h place fits l refl
shown_elsewhere agent (Look at link) h place fits l away = refl
shown_elsewhere agent (Miss at wanted found) h place fits l away = refl
shown_elsewhere agent (Move (Root r) from to) h (Root q) fits l away =
    ap (λ (ls : List Link). slice_get ls q) (target_roots as_linked to.to _)
    ∙ get-change_other (λ (x : Link). to) r q h.roots (λ e. let t : true ≡ false = sym (eq-eqb r q (sym e)) ∙ away in cc)
shown_elsewhere agent (Move (Next i) from to) h (Root q) fits l away = ap (λ (ls : List Link). slice_get ls q) (target_roots as_linked to.to _)
shown_elsewhere agent (Move (Side i) from to) h (Root q) fits l away = ap (λ (ls : List Link). slice_get ls q) (target_roots as_linked to.to _)
shown_elsewhere agent (Move (Side i) from to) h (Next id) fits l away =
    let s = linked_after agent (Move (Side i) from to) h id l.node fits l.there l.linked in
    shown_node (heap_after agent (Move (Side i) from to) h) id s.node s.there ∙ (ap (λ (x : Link). Some x) s.link_is ∙ sym (shown_node h id l.node l.there))
shown_elsewhere agent (Move (Root r) from to) h (Side id) fits l away =
    side_shown agent (Move (Root r) from to) h id l.node l.node.side fits l.there l.linked refl ∙ sym (shown_side h id l.node l.there)
shown_elsewhere agent (Move (Next i) from to) h (Side id) fits l away =
    side_shown agent (Move (Next i) from to) h id l.node l.node.side fits l.there l.linked refl ∙ sym (shown_side h id l.node l.there)
shown_elsewhere agent (Move (Side i) from to) h (Side id) fits l away =
    side_shown agent (Move (Side i) from to) h id l.node l.node.side fits l.there l.linked (ap (λ b. if b then to else l.node.side) away)
    ∙ sym (shown_side h id l.node l.there)
shown_elsewhere agent (Move (Root r) from to) h (Next id) fits l away =
    let s = linked_after agent (Move (Root r) from to) h id l.node fits l.there l.linked in
    shown_node (heap_after agent (Move (Root r) from to) h) id s.node s.there ∙ (ap (λ (x : Link). Some x) s.link_is ∙ sym (shown_node h id l.node l.there))
shown_elsewhere agent (Move (Next i) from to) h (Next id) fits l away =
    let s = linked_after agent (Move (Next i) from to) h id l.node fits l.there l.linked in
    let same : moved_link (Move (Next i) from to) id l.node.link ≡ l.node.link = ap (λ b. if b then to else l.node.link) away in
    shown_node (heap_after agent (Move (Next i) from to) h) id s.node s.there
    ∙ (ap (λ (x : Link). Some x) (s.link_is ∙ same) ∙ sym (shown_node h id l.node l.there))

-- over a lawful list it shows the same link, or some event is a Move of it
pub shown_or_moved_there : {N : Type 0} (h : Heap) (place : Place) (es : List (Event N)) → IsLawfulFrom h es → IsLinkedPlace place h
    → (shown (run_from h es) place ≡ shown h place) ⊎ (list_any (λ e. moves_place place e.act) es ≡ true)
shown_or_moved_there h place [] lawful l = inl refl
shown_or_moved_there {N} h place (e ∷ es) lawful l =
    by_case (moves_place place e.act) refl
    (shown_or_moved_there (heap_after e.agent e.act h) place es lawful.1 (linked_place_after e.agent e.act h place lawful.0 l))
  where
    by_case : (b : Bool) → moves_place place e.act ≡ b
        → (shown (run_from (heap_after e.agent e.act h) es) place ≡ shown (heap_after e.agent e.act h) place)
        ⊎ (list_any (λ x. moves_place place x.act) es ≡ true)
        → (shown (run_from (heap_after e.agent e.act h) es) place ≡ shown h place) ⊎ ((b || list_any (λ x. moves_place place x.act) es) ≡ true)
    by_case true is rest = inr refl
    by_case false is (inl same) = inl (same ∙ shown_elsewhere e.agent e.act h place lawful.0 l is)
    by_case false is (inr moved) = inr moved
