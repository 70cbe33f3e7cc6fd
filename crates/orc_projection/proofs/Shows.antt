-- What every lawful list of steps keeps between the state as functions, the present ids and the heap.
use Rattle.std.proofs.Common.{Bool, arith, false, length, refl, true, ℕ, ⊎_elim, ◌+◌, ◌-◌, ◌/◌, ◌<◌, ◌≡◌, ◌≢◌, ◌≤◌, ◌⊎◌}
use Rattle.std.proofs.lemmas.Bool.{eqb-true, eqb-false, false≢true}
use Rattle.std.specs.Option.{option_map}
use Rattle.std.specs.Prelude.{None, Option, Some, nat_lt, slice_get, ◌==◌}
use Rattle.orc_core.specs.RecordParts.{any_holds, holds, is_empty, names, slot_of}
use Rattle.orc_core.specs.declared.records.SlotUse.{SlotUse}
use Rattle.orc_core.specs.declared.records.SlotUse.TheVariants.{Empty, Held, Published}
use Rattle.orc_heap.specs.Acts.{Fits, IsTarget, heap_after}
use Rattle.orc_heap.specs.Heap.{Heap, Node, shown}
use Rattle.orc_heap.specs.declared.events.Act.{Act}
use Rattle.orc_heap.specs.declared.events.Place.TheVariants.{Next as NodePlace, Side as SidePlace}
use Rattle.orc_projection.proofs.Nodes.{HasNode, Known, Named, Owned, is_known}
use Rattle.orc_projection.proofs.Still.{IsCut}
use Rattle.orc_projection.specs.PresentIds.{PresentIds, node_link}
use Rattle.orc_sound.proofs.Balances.{OutPlace}
use Rattle.orc_sound.proofs.DoomedStep.{out_below, past_dooms}
use Rattle.orc_sound.proofs.Facts.{Counted, Doomed, out, to_row}
use Rattle.orc_sound.proofs.Outs.{target_out}
use Rattle.orc_sound.proofs.Quiet.{held_at}
use Rattle.orc_sound.proofs.Seats.{both_ways}
use Rattle.orc_sound.proofs.World.{World}
use Rattle.orc_sound.specs.Linked.{uses}
use Rattle.orc_words.specs.Bounds.{Bounds, IsShape}
use Rattle.orc_words.specs.Packed.{link_of}
use Rattle.orc_words.specs.declared.place.Word.{Word}
use Rattle.orc_words.specs.declared.place.Word.TheVariants.{First, Gate, Next, Root, Second, Side}

-- the words of a row that is out show this node
pub record RowShows (b : Bounds) (z : World) (p : PresentIds) (j : ℕ) (n : Node) : Type 0 where
  pub link : IsCut b z j 0 ⊎ (n.link ≡ node_link p (link_of (z.memory (Next j))))
  pub side : IsCut b z j 1 ⊎ (n.side ≡ node_link p (link_of (z.memory (Side j))))
  pub first : (v : ℕ) → n.first ≡ Some v → z.memory (First j) ≡ v
  pub second : (v : ℕ) → n.second ≡ Some v → z.memory (Second j) ≡ v

pub record Shows (b : Bounds) (z : World) (p : PresentIds) (h : Heap) : Type 0 where
  pub links : h.links ≡ b.links
  pub given : length h.nodes ≡ p.given
  pub there : (j : ℕ) → out (z.memory (Gate j)) ≡ 1 → p.node j < p.given
  pub apart : (i j : ℕ) → out (z.memory (Gate i)) ≡ 1 → out (z.memory (Gate j)) ≡ 1 → p.node i ≡ p.node j → i ≡ j
  pub roots : (i : ℕ) → i < b.roots → slice_get h.roots i ≡ Some (node_link p (link_of (z.memory (Root i))))
  pub rows : (j : ℕ) → out (z.memory (Gate j)) ≡ 1 → HasNode h.nodes (p.node j) (RowShows b z p j)
  -- an agent's fresh row is a node that was given to it and never linked
  pub fresh : (a j : ℕ) → names (z.seats a).fresh j ≡ true → HasNode h.nodes (p.node j) (Owned a)
  -- what an agent holds in a slot from 1 on is known to it
  pub held : (a k j : ℕ) → 0 < k → holds (slot_of (z.seats a) k) j ≡ true → HasNode h.nodes (p.node j) (Known a)
  -- an Aim, an AimSide or a Move made a link to each target
  pub root_named : (i j : ℕ) → to_row (z.memory (Root i)) j ≡ 1 → HasNode h.nodes (p.node j) Named
  pub next_named : (i j : ℕ) → out (z.memory (Gate i)) ≡ 1 → to_row (z.memory (Next i)) j ≡ 1 → HasNode h.nodes (p.node j) Named
  pub side_named : (i j : ℕ) → out (z.memory (Gate i)) ≡ 1 → to_row (z.memory (Side i)) j ≡ 1 → HasNode h.nodes (p.node j) Named

-- the act, if there is one, fits the heap; and the heap after it
abbrev pub Fitting : ℕ → Option Act → Heap → Type 0
Fitting a None h = Unit {0}
Fitting a (Some act) h = Fits a act h

abbrev pub heap_then : ℕ → Option Act → Heap → Heap
heap_then a None h = h
heap_then a (Some act) h = heap_after a act h

small_target : (b : Bounds) (z : World) (w : Word) (n : ℕ) → IsShape b → Counted b z → OutPlace z.memory w → z.memory w / 2 ≡ n → n ≤ 65535
small_target b z w n shape s o e = cases (n == 0) refl
  where
    cases : (t : Bool) → (n == 0) ≡ t → n ≤ 65535
    cases true f = let k = eqb-true n 0 f in omega arith
    cases false f =
        let k = eqb-false n 0 f in
        let ne : n ≢ 0 = k in
        let r : (m : ℕ) × (n ≡ m + 1) = (n - 1, omega arith) in
        let t : to_row (z.memory w) r.0 ≡ 1 = rw (e, r.1) (grind arith) in
        let l = out_below b z r.0 s (target_out b z w r.0 s o t) in
        let c = shape.rows.1 in
        let q = r.1 in
        omega arith

pub small_word : (b : Bounds) (z : World) (w : Word) → IsShape b → Counted b z → OutPlace z.memory w → z.memory w / 2 ≤ 65535
small_word b z w shape s o = small_target b z w (z.memory w / 2) shape s o refl

-- a row that is used isn't cut
pub uncut : (b : Bounds) (z : World) (a j n : ℕ) → Doomed b z → uses (z.seats a) j ≡ true → IsCut b z j n → ⊥
uncut b z a j n d u c = both_ways (uses (z.seats a) j) u ((d.gone c.agent j (past_dooms (z.seats c.agent).doom j n c.cut)).unused a)

-- the heap shows the link at a place in use
pub next_shown : (b : Bounds) (z : World) (p : PresentIds) (h : Heap) (a j : ℕ) → Counted b z → Doomed b z → Shows b z p h → uses (z.seats a) j ≡ true
    → shown h (NodePlace (p.node j)) ≡ Some (node_link p (link_of (z.memory (Next j))))
next_shown b z p h a j s d k u =
    let n = k.rows j (s.used_out a j u) in
    let e : n.node.link ≡ node_link p (link_of (z.memory (Next j))) = ⊎_elim (λ c. absurd (uncut b z a j 0 d u c)) (λ e. e) n.so.link in
    rw (n.there, e)

pub side_shown : (b : Bounds) (z : World) (p : PresentIds) (h : Heap) (a j : ℕ) → Counted b z → Doomed b z → Shows b z p h → uses (z.seats a) j ≡ true
    → nat_lt 1 b.links ≡ true → shown h (SidePlace (p.node j)) ≡ Some (node_link p (link_of (z.memory (Side j))))
side_shown b z p h a j s d k u two =
    let n = k.rows j (s.used_out a j u) in
    let e : n.node.side ≡ node_link p (link_of (z.memory (Side j))) = ⊎_elim (λ c. absurd (uncut b z a j 1 d u c)) (λ e. e) n.so.side in
    rw (n.there, e, k.links, two) refl

pub empty_holds : (s : SlotUse) (r : ℕ) → is_empty s ≡ true → holds s r ≡ true → ⊥
empty_holds Empty r h k = false≢true k
empty_holds (Published q) r h k = false≢true k
empty_holds (Held q) r h k = false≢true h

-- what is held while slot 0 is empty is known
pub holder_knows : (b : Bounds) (z : World) (p : PresentIds) (h : Heap) (a r : ℕ) → Shows b z p h → is_empty (slot_of (z.seats a) 0) ≡ true
    → any_holds (z.seats a).slots r ≡ true → HasNode h.nodes (p.node r) (Known a)
holder_knows b z p h a r s e k = let w = held_at (z.seats a).slots r k in cases w.at (w.at == 0) refl w.hold
  where
    cases : (j : ℕ) (t : Bool) → (j == 0) ≡ t → holds (slot_of (z.seats a) j) r ≡ true → HasNode h.nodes (p.node r) (Known a)
    cases j true f g = absurd (empty_holds (slot_of (z.seats a) 0) r e (rw (eqb-true j 0 f) at g))
    cases j false f g = let n = eqb-false j 0 f in let ne : j ≢ 0 = n in s.held a j r (omega arith) g

pub is_target : (a : ℕ) (p : PresentIds) (h : Heap) (to : Option ℕ) → ((r : ℕ) → to ≡ Some r → HasNode h.nodes (p.node r) (Known a))
    → IsTarget a h (option_map p.node to)
is_target a p h None k = tt
is_target a p h (Some r) k = is_known a (p.node r) h (k r refl)
