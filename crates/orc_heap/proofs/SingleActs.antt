-- What single acts do to roots and links; links to nodes.
use Rattle.std.proofs.Common.{Bool, List, None, Option, Some, ap, false, inl, inr, refl, sym, ℕ, ◌==◌, ◌∙◌, ◌≡◌, ◌≢◌, ◌⊎◌, true, option_map}
use Rattle.std.proofs.lemmas.Bool.{eqb-false, eqb-true}
use Rattle.std.specs.List.{slice_get}
use Rattle.std.specs.Prelude.{if◌then◌else◌}
use Rattle.orc_heap.proofs.Changes.{get-change, get-change_other, get-change_same}
use Rattle.orc_heap.proofs.Moved.{shown_node, target_roots}
use Rattle.orc_heap.specs.Acts.{as_linked, heap_after, moved_link, set_link}
use Rattle.orc_heap.specs.Allowed.{HasLink, IsLinkedNode}
use Rattle.orc_heap.specs.Heap.{Heap, Node, link_to, null, shown}
use Rattle.orc_heap.specs.Journals.{IsPlainAct, moves_to, points_to}
use Rattle.orc_heap.specs.declared.events.Act.{Act}
use Rattle.orc_heap.specs.declared.events.Act.TheVariants.{Aim, Fill, Give, Look, Miss, Move, AimSide}
use Rattle.orc_heap.specs.declared.events.Link.{Link}
use Rattle.orc_heap.specs.declared.events.Place.TheVariants.{Next, Root}

pub null_to : (n : ℕ) → null ≡ link_to n → ⊥
null_to n e = let o : None ≡ Some n = ap (λ (x : Link). x.to) e in cc

pub some_same : {A : Type 0} {x y : A} → Some x ≡ Some y → x ≡ y
some_same e = cc

pub link_same : (m n : ℕ) → link_to m ≡ link_to n → m ≡ n
link_same m n e = let o : Some m ≡ Some n = ap (λ (x : Link). x.to) e in some_same o

-- the link that a place shows is that of its node
pub shown_link : (h : Heap) (d : ℕ) (link : Link) → HasLink h d link → shown h (Next d) ≡ Some link
shown_link h d link l = shown_node h d l.node l.there ∙ ap (λ (x : Link). Some x) l.link_is

pub link_shown : (h : Heap) (d : ℕ) (link : Link) (n : Node) → slice_get h.nodes d ≡ Some n → shown h (Next d) ≡ Some link → n.link ≡ link
link_shown h d link n there at = some_same (sym (shown_node h d n there) ∙ at)

node_in : (o : Option Node) (link : Link) → option_map (λ (n : Node). n.link) o ≡ Some link → (n : Node) × (o ≡ Some n) × (n.link ≡ link)
node_in None link e = cc
node_in (Some n) link e = (n, refl, some_same e)

-- a node whose link shows is there
pub node_shown : (h : Heap) (id : ℕ) (link : Link) → shown h (Next id) ≡ Some link → (n : Node) × (slice_get h.nodes id ≡ Some n) × (n.link ≡ link)
node_shown h id link e = node_in (slice_get h.nodes id) link e

pub linked_node : (h : Heap) (d : ℕ) (link : Link) → HasLink h d link → IsLinkedNode h d
linked_node h d link l = record { node = l.node; there = l.there; linked = l.linked }

pub has_link : (h : Heap) (id : ℕ) (link : Link) → IsLinkedNode h id → shown h (Next id) ≡ Some link → HasLink h id link
has_link h id link l at = record { node = l.node; there = l.there; linked = l.linked; link_is = link_shown h id link l.node l.there at }

-- roots and links after a plain act are those before it
pub plain_roots : (agent : ℕ) (act : Act) (h : Heap) → IsPlainAct act → (heap_after agent act h).roots ≡ h.roots
plain_roots agent Give h p = refl
plain_roots agent (Fill id which value) h p = refl
plain_roots agent (Aim id None) h p = refl
plain_roots agent (Aim id (Some to)) h p = absurd p
plain_roots agent (AimSide id None) h p = refl
plain_roots agent (AimSide id (Some to)) h p = absurd p
plain_roots agent (Look place link) h p = refl
plain_roots agent (Move place from to) h p = absurd p
plain_roots agent (Miss place wanted found) h p = refl

pub plain_link : (act : Act) (d : ℕ) (link : Link) → IsPlainAct act → moved_link act d link ≡ link
plain_link Give d link p = refl
plain_link (Fill id which value) d link p = refl
plain_link (Aim id to) d link p = refl
plain_link (AimSide id to) d link p = refl
plain_link (Look place l) d link p = refl
plain_link (Move place from to) d link p = absurd p
plain_link (Miss place wanted found) d link p = refl

pub plain_points : (act : Act) (d : ℕ) → IsPlainAct act → points_to act d ≡ false
plain_points Give d p = refl
plain_points (Fill id which value) d p = refl
plain_points (Aim id None) d p = refl
plain_points (Aim id (Some to)) d p = absurd p
plain_points (AimSide id None) d p = refl
plain_points (AimSide id (Some to)) d p = absurd p
plain_points (Look place l) d p = refl
plain_points (Move place from to) d p = absurd p
plain_points (Miss place wanted found) d p = refl

pub plain_moves : (act : Act) (d : ℕ) → IsPlainAct act → moves_to act d ≡ false
plain_moves Give d p = refl
plain_moves (Fill id which value) d p = refl
plain_moves (Aim id to) d p = refl
plain_moves (AimSide id to) d p = refl
plain_moves (Look place l) d p = refl
plain_moves (Move place from to) d p = absurd p
plain_moves (Miss place wanted found) d p = refl

-- the moved root, and another
pub root_moved : (agent r : ℕ) (from to : Link) (h : Heap) → shown h (Root r) ≡ Some from
    → shown (heap_after agent (Move (Root r) from to) h) (Root r) ≡ Some to
root_moved agent r from to h at =
    ap (λ (l : List Link). slice_get l r) (target_roots as_linked to.to (set_link (Root r) to h)) ∙ get-change_same (λ (l : Link). to) r h.roots from at

pub root_other : (agent r q : ℕ) (from to : Link) (h : Heap) → q ≢ r → shown (heap_after agent (Move (Root r) from to) h) (Root q) ≡ shown h (Root q)
root_other agent r q from to h ne =
    ap (λ (l : List Link). slice_get l q) (target_roots as_linked to.to (set_link (Root r) to h)) ∙ get-change_other (λ (l : Link). to) r q h.roots ne

pub root_next : (agent t q : ℕ) (from to : Link) (h : Heap) → shown (heap_after agent (Move (Next t) from to) h) (Root q) ≡ shown h (Root q)
root_next agent t q from to h = ap (λ (l : List Link). slice_get l q) (target_roots as_linked to.to (set_link (Next t) to h))

-- what a root shows after a Move of a root: it was moved, or it is as it was
pub root_either : (agent r q : ℕ) (from to : Link) (h : Heap) (link : Link) → shown h (Root q) ≡ Some link
    → ((r ≡ q) × (shown (heap_after agent (Move (Root r) from to) h) (Root q) ≡ Some to))
    ⊎ ((r ≢ q) × (shown (heap_after agent (Move (Root r) from to) h) (Root q) ≡ Some link))
root_either agent r q from to h link at =
    let kept = ap (λ (l : List Link). slice_get l q) (target_roots as_linked to.to (set_link (Root r) to h)) in
    elim (get-change (λ (l : Link). to) r q h.roots link at) [ inl c ↦ inl (c.0, kept ∙ c.1) | inr c ↦ inr (c.0, kept ∙ c.1) ]

-- the link of a node that is moved, and of another
pub link_moved : (t d : ℕ) (from to link : Link)
    → ((t ≡ d) × (moved_link (Move (Next t) from to) d link ≡ to)) ⊎ ((t ≢ d) × (moved_link (Move (Next t) from to) d link ≡ link))
link_moved t d from to link = cases (t == d) refl
  where
    cases : (b : Bool) → (t == d) ≡ b → ((t ≡ d) × ((if b then to else link) ≡ to)) ⊎ ((t ≢ d) × ((if b then to else link) ≡ link))
    cases true e = inl (eqb-true t d e, refl)
    cases false e = inr (eqb-false t d e, refl)
