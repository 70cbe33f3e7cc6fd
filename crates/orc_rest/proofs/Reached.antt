-- At rest, a row is out exactly where the roots lead to its present node.
use Rattle.std.proofs.Common.{Bool, List, [], ap, arith, false, inl, inr, refl, subst, suc, sym}
use Rattle.std.proofs.Common.{true, zero, ℕ, ⊎_elim, ◌*◌, ◌+◌, ◌/◌, ◌<◌, ◌∙◌, ◌∷◌, ◌≡◌, ◌≤◌, ◌⊎◌}
use Rattle.std.proofs.lemmas.Bool.{eq-eqb, false≢true, lt-ltb, ltb-true}
use Rattle.std.specs.Option.{option_map}
use Rattle.std.specs.Prelude.{None, Option, Some, nat_lt, not, slice_get, ◌&&◌, ◌==◌}
use Rattle.orc_core.specs.RecordParts.{names}
use Rattle.orc_core.specs.Sums.{sum_below}
use Rattle.orc_core.specs.declared.records.Doom.{Doom}
use Rattle.orc_heap.specs.Allowed.{IsLinkedNode, Rises}
use Rattle.orc_heap.specs.Heap.{Heap, Node, shown}
use Rattle.orc_heap.specs.declared.events.Link.{Link}
use Rattle.orc_heap.specs.declared.events.Place.TheVariants.{Root as RootPlace}
use Rattle.orc_projection.proofs.Links.{named_row, names-some}
use Rattle.orc_projection.proofs.Nodes.{HasNode}
use Rattle.orc_projection.proofs.Shows.{RowShows, Shows}
use Rattle.orc_projection.specs.Mirror.{numbers_of}
use Rattle.orc_projection.specs.PresentIds.{PresentIds, node_link}
use Rattle.orc_sound.proofs.AllFits.{AllFits}
use Rattle.orc_sound.proofs.Balances.{to_row-named}
use Rattle.orc_sound.proofs.DoomedStep.{out_below}
use Rattle.orc_sound.proofs.Facts.{Counted, decs, incs, linked_in, out, to_row}
use Rattle.orc_sound.proofs.Outs.{null_row, zero_one}
use Rattle.orc_sound.proofs.Reasons.{reasons}
use Rattle.orc_sound.proofs.Sums.{sum_member, sum_zero}
use Rattle.orc_sound.proofs.World.{World}
use Rattle.orc_sound.specs.Doomed.{cuts_past}
use Rattle.orc_words.specs.Bounds.{Bounds, IsShape}
use Rattle.orc_words.specs.Packed.{bit, count_bits, link_of, named, retired_bit}
use Rattle.orc_words.specs.Places.{link_at}
use Rattle.orc_words.specs.declared.place.Word.TheVariants.{Counter, Gate, Next, Root, Side}
use Rattle.orc_rest.proofs.RowRank.{RanksRows, IsUnlinked}
use Rattle.orc_rest.specs.Reached.{IsPath, IsReached, IsRootTarget}

-- no agent has a fresh row, a change pending or a doom, and no row has its bit
pub record Resting (b : Bounds) (z : World) : Type 0 where
  pub fresh : (x : ℕ) → (z.seats x).fresh ≡ None
  pub inc : (x : ℕ) → (z.seats x).inc ≡ None
  pub dec : (x : ℕ) → (z.seats x).dec ≡ None
  pub due : (x : ℕ) → (z.seats x).due ≡ None
  pub doom : (x : ℕ) → (z.seats x).doom ≡ None
  pub clear : (r : ℕ) → r < b.rows → retired_bit (z.memory (Counter r)) ≡ 0

-- what the theorem needs of the state, the present ids and the heap
pub record AtRest (b : Bounds) (z : World) (p : PresentIds) (h : Heap) (rank : ℕ → ℕ) : Type 0 where
  pub shape : IsShape b
  pub all : AllFits b z
  pub shows : Shows b z p h
  pub ranked : RanksRows z p h
  pub rises : Rises rank h
  pub roots : (i r : ℕ) → i < b.roots → to_row (z.memory (Root i)) r ≡ 1 → IsLinkedNode h (p.node r)
  pub resting : Resting b z

no_reasons : (b : Bounds) (z : World) (r w : ℕ) → Resting b z → sum_below b.agents (λ a. reasons (z.seats a) w r) ≡ 0
no_reasons b z r w q = sum_zero b.agents (λ a. reasons (z.seats a) w r) (λ a. rw (q.fresh a, q.inc a, q.due a, q.doom a) refl)

no_pending : (b : Bounds) (z : World) (r : ℕ) → Resting b z → (incs b z.seats r ≡ 0) × (decs b z.seats r ≡ 0)
no_pending b z r q = (
  sum_zero b.agents (λ a. bit (names (z.seats a).inc r)) (λ a. rw (q.inc a) refl),
  sum_zero b.agents (λ a. bit (names (z.seats a).dec r))
      (λ a. rw (q.dec a) refl),
)

linked_at_rest : (b : Bounds) (z : World) (p : PresentIds) (h : Heap) (rank : ℕ → ℕ) (r : ℕ) → AtRest b z p h rank → out (z.memory (Gate r)) ≡ 1
    → 0 < linked_in b z.memory r
linked_at_rest b z p h rank r q o =
    let l = out_below b z r q.all.counted o in
    let k = q.all.reason r l in
    let n = no_reasons b z r (z.memory (Counter r)) q.resting in
    let c = q.resting.clear r l in
    let i = no_pending b z r q.resting in
    let i0 = i.0 in
    let i1 = i.1 in
    let e = q.all.counted.balance r l in
    counted (count_bits (z.memory (Counter r)) == 4194304) refl (omega arith) e i0 i1
  where
    counted : (t : Bool) → (count_bits (z.memory (Counter r)) == 4194304) ≡ t → 1 ≤ bit (not (count_bits (z.memory (Counter r)) == 4194304))
        → count_bits (z.memory (Counter r)) + incs b z.seats r ≡ 4194304 + linked_in b z.memory r + decs b z.seats r
        → incs b z.seats r ≡ 0 → decs b z.seats r ≡ 0 → 0 < linked_in b z.memory r
    counted true g u e i d = absurd (none (rw g at u))
      where
        none : 1 ≤ 0 → ⊥
        none y = omega arith
    counted false g u e i d =
        let y : (count_bits (z.memory (Counter r)) ≡ 4194304 → ⊥) = λ k. false≢true (sym g ∙ eq-eqb (count_bits (z.memory (Counter r))) 4194304 k) in
        positive (linked_in b z.memory r) y (omega arith)
      where
        positive : (n : ℕ) → (count_bits (z.memory (Counter r)) ≡ 4194304 → ⊥) → count_bits (z.memory (Counter r)) ≡ 4194304 + n → 0 < n
        positive zero y e = absurd (y (omega arith))
        positive (suc n) y e = omega arith

-- a positive sum has a positive part
positive_below : (n : ℕ) (f : ℕ → ℕ) → 0 < sum_below n f → (i : ℕ) × (i < n) × (0 < f i)
positive_below zero f h = absurd (omega arith)
positive_below (suc n) f h = cases (nat_lt 0 (f n)) refl (positive_below n f)
  where
    cases : (t : Bool) → nat_lt 0 (f n) ≡ t → (0 < sum_below n f → (i : ℕ) × (i < n) × (0 < f i)) → (i : ℕ) × (i < suc n) × (0 < f i)
    cases true e before = (n, omega arith, ltb-true 0 (f n) e)
    cases false e before = let z : f n ≤ 0 = grind arith in let w = before (omega arith) in let l = w.1 in (w.0, omega arith, w.2)

one_of : (w r : ℕ) → 0 < to_row w r → to_row w r ≡ 1
one_of w r h = cases (w / 2 == r + 1) h
  where
    cases : (t : Bool) → 0 < bit t → bit t ≡ 1
    cases true k = refl
    cases false k = absurd (omega arith)

both_one : (g l : ℕ) → g ≤ 1 → 0 < g * l → (g ≡ 1) × (0 < l)
both_one zero l k h = absurd (omega arith)
both_one (suc zero) l k h = (refl, omega arith)
both_one (suc (suc g)) l k h = absurd (omega arith)

-- what links the row: a root, or a row that is out
record FromRoot (b : Bounds) (z : World) (r : ℕ) : Type 0 where
  root : ℕ
  below : root < b.roots
  link : to_row (z.memory (Root root)) r ≡ 1

record FromRow (b : Bounds) (z : World) (r : ℕ) : Type 0 where
  number : ℕ
  low : number < 2
  row : ℕ
  is_out : out (z.memory (Gate row)) ≡ 1
  link : to_row (z.memory (link_at number row)) r ≡ 1

link_of_row : (b : Bounds) (z : World) (r : ℕ) → 0 < linked_in b z.memory r → FromRoot b z r ⊎ FromRow b z r
link_of_row b z r h = at_roots (nat_lt 0 (sum_below b.roots (λ i. to_row (z.memory (Root i)) r))) refl
  where
    small : (w : ℕ) → out w ≤ 1
    small w = omega arith

    -- a row that is out has such a link with this number
    some_row : (n : ℕ) → n < 2 → 0 < sum_below b.rows (λ j. out (z.memory (Gate j)) * to_row (z.memory (link_at n j)) r) → FromRoot b z r ⊎ FromRow b z r
    some_row n low k =
        let w = positive_below b.rows (λ j. out (z.memory (Gate j)) * to_row (z.memory (link_at n j)) r) k in
        let one = both_one (out (z.memory (Gate w.0))) (to_row (z.memory (link_at n w.0)) r) (small (z.memory (Gate w.0))) w.2 in
        inr (record { number = n; low = low; row = w.0; is_out = one.0; link = one_of (z.memory (link_at n w.0)) r one.1 })

    at_rows : (t : Bool) → nat_lt 0 (sum_below b.rows (λ j. out (z.memory (Gate j)) * to_row (z.memory (Next j)) r)) ≡ t
        → sum_below b.roots (λ i. to_row (z.memory (Root i)) r) ≤ 0 → FromRoot b z r ⊎ FromRow b z r
    at_rows true e none = some_row 0 (omega arith) (ltb-true 0 _ e)
    at_rows false e none =
        let y : sum_below b.rows (λ j. out (z.memory (Gate j)) * to_row (z.memory (Next j)) r) ≤ 0 = grind arith in
        some_row 1 (omega arith) (omega arith)

    at_roots : (t : Bool) → nat_lt 0 (sum_below b.roots (λ i. to_row (z.memory (Root i)) r)) ≡ t → FromRoot b z r ⊎ FromRow b z r
    at_roots true e =
        let w = positive_below b.roots (λ i. to_row (z.memory (Root i)) r) (ltb-true 0 _ e) in
        inl (record { root = w.0; below = w.1; link = one_of (z.memory (Root w.0)) r w.2 })
    at_roots false e =
        let y : sum_below b.roots (λ i. to_row (z.memory (Root i)) r) ≤ 0 = grind arith in
        at_rows (nat_lt 0 (sum_below b.rows (λ j. out (z.memory (Gate j)) * to_row (z.memory (Next j)) r))) refl y

-- the node to which a link word leads
pub target_node : (p : PresentIds) (w r : ℕ) → r < 65535 → to_row w r ≡ 1 → (node_link p (link_of w)).to ≡ Some (p.node r)
target_node p w r l e = ap (option_map p.node) (names-some (named (w / 2)) r (bit_true (names (named (w / 2)) r) (sym (to_row-named w r l) ∙ e)))
  where
    bit_true : (c : Bool) → bit c ≡ 1 → c ≡ true
    bit_true true y = refl
    bit_true false y = absurd (omega arith)

no_doom : (d : Option Doom) (j i : ℕ) → d ≡ None → cuts_past d j i ≡ true → ⊥
no_doom None j i e k = false≢true k
no_doom (Some x) j i e k = cc

-- a node's link by its number
abbrev node_at : ℕ → Node → Link
node_at zero n = n.link
node_at (suc i) n = n.side

-- at rest no row's link is taken out
row_link : (b : Bounds) (z : World) (p : PresentIds) (h : Heap) (rank : ℕ → ℕ) (i j : ℕ) → AtRest b z p h rank → (o : out (z.memory (Gate j)) ≡ 1)
    → (q : HasNode h.nodes (p.node j) (RowShows b z p j)) → node_at i q.node ≡ node_link p (link_of (z.memory (link_at i j)))
row_link b z p h rank zero j q o n = ⊎_elim (λ c. absurd (no_doom (z.seats c.agent).doom j 0 (q.resting.doom c.agent) c.cut)) (λ e. e) n.so.link
row_link b z p h rank (suc i) j q o n = ⊎_elim (λ c. absurd (no_doom (z.seats c.agent).doom j 1 (q.resting.doom c.agent) c.cut)) (λ e. e) n.so.side

pub small_row : (b : Bounds) (z : World) (r : ℕ) → IsShape b → AllFits b z → out (z.memory (Gate r)) ≡ 1 → r < 65535
small_row b z r shape s o = let l = out_below b z r s.counted o in let k = shape.rows.1 in omega arith

one_value : {A : Type 0} {x y : A} (o : Option A) → o ≡ Some x → o ≡ Some y → x ≡ y
one_value o e f = cc

-- a second link that the shape doesn't have is null
no_side : (b : Bounds) (z : World) (j r : ℕ) → Counted b z → (1 < b.links → ⊥) → to_row (z.memory (Side j)) r ≡ 1 → ⊥
no_side b z j r s few e = zero_one (null_row (z.memory (Side j)) r (s.outside (Side j) (hidden (nat_lt j b.rows) (nat_lt 1 b.links) refl))) e
  where
    hidden : (t u : Bool) → nat_lt 1 b.links ≡ u → (t && u) ≡ false
    hidden true true k = absurd (few (ltb-true 1 b.links k))
    hidden true false k = refl
    hidden false u k = refl

-- where a link leads to a node
abbrev LeadsOn : (ℕ → ℕ) → Heap → ℕ → Option ℕ → Type 0
LeadsOn rank h id o = (o ≡ None) ⊎ ((next : ℕ) × (o ≡ Some next) × IsLinkedNode h next × (rank id < rank next))

-- each link of a once linked node leads to a once linked node of greater rank
next_linked : (b : Bounds) (z : World) (p : PresentIds) (h : Heap) (rank : ℕ → ℕ) (i j r : ℕ) → AtRest b z p h rank → out (z.memory (Gate j)) ≡ 1
    → out (z.memory (Gate r)) ≡ 1 → to_row (z.memory (link_at i j)) r ≡ 1 → IsLinkedNode h (p.node j)
    → IsLinkedNode h (p.node r) × (rank (p.node j) < rank (p.node r))
next_linked b z p h rank i j r q oj or e k =
    let n = q.shows.rows j oj in
    let to = ap (λ (l : Link). l.to) (row_link b z p h rank i j q oj n) ∙ target_node p (z.memory (link_at i j)) r (small_row b z r q.shape q.all or) e in
    let same : k.node ≡ n.node = one_value _ k.there n.there in
    rises_to (leads_on i e) (ap (λ (x : Node). (node_at i x).to) same ∙ to)
  where
    rises_to : {o : Option ℕ} → LeadsOn rank h (p.node j) o → o ≡ Some (p.node r)
        → IsLinkedNode h (p.node r) × (rank (p.node j) < rank (p.node r))
    rises_to (inl n) t = cc
    rises_to (inr w) t = let same : w.0 ≡ p.node r = cc in subst (λ id. IsLinkedNode h id × (rank (p.node j) < rank id)) same (w.2, w.3)

    leads_on : (i : ℕ) → to_row (z.memory (link_at i j)) r ≡ 1 → LeadsOn rank h (p.node j) (node_at i k.node).to
    leads_on zero f = (q.rises (p.node j) k.node k.there k.linked).0
    leads_on (suc c) f = with_sides (nat_lt 1 b.links) refl
      where
        with_sides : (t : Bool) → nat_lt 1 b.links ≡ t → LeadsOn rank h (p.node j) k.node.side.to
        with_sides true g = (q.rises (p.node j) k.node k.there k.linked).1 (rw q.shows.links (ltb-true 1 b.links g))
        with_sides false g = absurd (no_side b z j r q.all.counted (λ more. false≢true (sym g ∙ lt-ltb 1 b.links more)) f)

-- whether a Move linked the row's node
linked_or_not : (b : Bounds) (z : World) (p : PresentIds) (h : Heap) (r : ℕ) → Shows b z p h → out (z.memory (Gate r)) ≡ 1
    → IsLinkedNode h (p.node r) ⊎ IsUnlinked p h r
linked_or_not b z p h r s o = let n = s.rows r o in cases n.node n.there n.node.linked refl
  where
    cases : (n : Node) → slice_get h.nodes (p.node r) ≡ Some n → (t : Bool) → n.linked ≡ t → IsLinkedNode h (p.node r) ⊎ IsUnlinked p h r
    cases n there true e = inl (record { node = n; there = there; linked = e })
    cases n there false e = inr (λ k. other (let same : k.node ≡ n = cc in ap (λ (x : Node). x.linked) (sym same) ∙ k.linked))
      where
        other : n.linked ≡ true → ⊥
        other y = false≢true (sym e ∙ y)

-- from an unlinked node there would be a chain of unlinked nodes without end
no_unlinked : (b : Bounds) (z : World) (p : PresentIds) (h : Heap) (rank : ℕ → ℕ) → (q : AtRest b z p h rank) → (k r : ℕ) → out (z.memory (Gate r)) ≡ 1
    → IsUnlinked p h r → sum_below b.rows q.ranked.rank < q.ranked.rank r + k → ⊥
no_unlinked b z p h rank q zero r o u e = let m = sum_member b.rows r q.ranked.rank (out_below b z r q.all.counted o) in omega arith
no_unlinked b z p h rank q (suc k) r o u e =
    ⊎_elim
    (λ (f : FromRoot b z r). u (q.roots f.root r f.below f.link))
    (λ (f : FromRow b z r). ⊎_elim
    (λ l. u (next_linked b z p h rank f.number f.row r q f.is_out o f.link l).0)
    (λ n. let m = q.ranked.falls f.number f.row r f.is_out (λ x. rw (q.resting.fresh x) refl) n f.link u in no_unlinked b z p h rank q k f.row f.is_out n (omega arith))
    (linked_or_not b z p h f.row q.shows f.is_out))
    (link_of_row b z r (linked_at_rest b z p h rank r q o))

all_linked : (b : Bounds) (z : World) (p : PresentIds) (h : Heap) (rank : ℕ → ℕ) (r : ℕ) → AtRest b z p h rank → out (z.memory (Gate r)) ≡ 1
    → IsLinkedNode h (p.node r)
all_linked b z p h rank r q o =
    ⊎_elim (λ l. l) (λ u. absurd (no_unlinked b z p h rank q (sum_below b.rows q.ranked.rank + 1) r o u (omega arith))) (linked_or_not b z p h r q.shows o)

reach_below : (b : Bounds) (z : World) (p : PresentIds) (h : Heap) (rank : ℕ → ℕ) → AtRest b z p h rank → (n r : ℕ) → out (z.memory (Gate r)) ≡ 1
    → rank (p.node r) < n → IsReached (numbers_of b) h (p.node r)
reach_below b z p h rank q zero r o e = absurd (omega arith)
reach_below b z p h rank q (suc n) r o e =
    ⊎_elim (λ f. record { path = []; leads = from_root f })
    (λ f. let m = next_linked b z p h rank f.number f.row r q f.is_out o f.link (all_linked b z p h rank f.row q f.is_out) in
    let less = m.1 in
    from_row f (reach_below b z p h rank q n f.row f.is_out (omega arith)))
    (link_of_row b z r (linked_at_rest b z p h rank r q o))
  where
    target : (w : ℕ) → to_row w r ≡ 1 → (node_link p (link_of w)).to ≡ Some (p.node r)
    target w l = target_node p w r (small_row b z r q.shape q.all o) l

    from_root : FromRoot b z r → IsRootTarget (numbers_of b) h (p.node r)
    from_root f = record {
      root = f.root;
      link = node_link p (link_of (z.memory (Root f.root)));
      below = f.below;
      shown = q.shows.roots f.root f.below;
      to = target (z.memory (Root f.root)) f.link;
    }

    -- by its first link, or by its second where it has one
    either : (i j : ℕ) → to_row (z.memory (link_at i j)) r ≡ 1 → (n : Node) → (node_at i n).to ≡ Some (p.node r)
        → (n.link.to ≡ Some (p.node r)) ⊎ ((1 < h.links) × (n.side.to ≡ Some (p.node r)))
    either zero j f n e = inl e
    either (suc c) j f n e = with_sides (nat_lt 1 b.links) refl
      where
        with_sides : (t : Bool) → nat_lt 1 b.links ≡ t → (n.link.to ≡ Some (p.node r)) ⊎ ((1 < h.links) × (n.side.to ≡ Some (p.node r)))
        with_sides true g = inr (rw q.shows.links (ltb-true 1 b.links g), e)
        with_sides false g = absurd (no_side b z j r q.all.counted (λ more. false≢true (sym g ∙ lt-ltb 1 b.links more)) f)

    from_row : (f : FromRow b z r) → IsReached (numbers_of b) h (p.node f.row) → IsReached (numbers_of b) h (p.node r)
    from_row f w =
        let k = q.shows.rows f.row f.is_out in
        let to = ap (λ (l : Link). l.to) (row_link b z p h rank f.number f.row q f.is_out k) ∙ target (z.memory (link_at f.number f.row)) f.link in
        record { path = p.node f.row ∷ w.path; leads = (w.leads, record { node = k.node; there = k.there; to = either f.number f.row f.link k.node to }) }

pub out_reached : (b : Bounds) (z : World) (p : PresentIds) (h : Heap) (rank : ℕ → ℕ) (r : ℕ) → AtRest b z p h rank → out (z.memory (Gate r)) ≡ 1
    → IsReached (numbers_of b) h (p.node r)
out_reached b z p h rank r q o = reach_below b z p h rank q (rank (p.node r) + 1) r o (omega arith)

-- a row that is out, with this present node
pub record OutAs (z : World) (p : PresentIds) (id : ℕ) : Type 0 where
  pub row : ℕ
  pub is_out : out (z.memory (Gate row)) ≡ 1
  pub is : p.node row ≡ id

mapped : (f : ℕ → ℕ) (o : Option ℕ) (id : ℕ) → option_map f o ≡ Some id → (r : ℕ) × (o ≡ Some r) × (f r ≡ id)
mapped f None id e = cc
mapped f (Some r) id e = (r, refl, cc)

path_out : (b : Bounds) (z : World) (p : PresentIds) (h : Heap) (rank : ℕ → ℕ) → AtRest b z p h rank → (path : List ℕ) (id : ℕ)
    → IsPath (numbers_of b) h path id → OutAs z p id
path_out b z p h rank q [] id w =
    let word = z.memory (Root w.root) in
    let same : w.link ≡ node_link p (link_of word) = one_value (shown h (RootPlace w.root)) w.shown (q.shows.roots w.root w.below) in
    let t = mapped p.node (named (word / 2)) id (ap (λ (l : Link). l.to) (sym same) ∙ w.to) in
    record { row = t.0; is_out = q.all.counted.roots_out w.root t.0 (named_row word t.0 t.1); is = t.2 }
path_out b z p h rank q (j ∷ js) id w =
    let from = path_out b z p h rank q js j w.0 in
    let there : slice_get h.nodes (p.node from.row) ≡ Some w.1.node = rw from.is w.1.there in
    ⊎_elim (λ e. led from 0 w.1.node there e) (λ e. led from 1 w.1.node there e.1) w.1.to
  where
    led : (from : OutAs z p j) (i : ℕ) (n : Node) → slice_get h.nodes (p.node from.row) ≡ Some n → (node_at i n).to ≡ Some id → OutAs z p id
    led from i n there to =
        let k = q.shows.rows from.row from.is_out in
        let word = z.memory (link_at i from.row) in
        let same : n ≡ k.node = one_value _ there k.there in
        let link = ap (λ (l : Link). l.to) (sym (row_link b z p h rank i from.row q from.is_out k)) ∙ (ap (λ (x : Node). (node_at i x).to) (sym same) ∙ to) in
        let t = mapped p.node (named (word / 2)) id link in
        record { row = t.0; is_out = q.all.counted.links_out i from.row t.0 from.is_out (named_row word t.0 t.1); is = t.2 }

pub reached_out : (b : Bounds) (z : World) (p : PresentIds) (h : Heap) (rank : ℕ → ℕ) (id : ℕ) → AtRest b z p h rank → IsReached (numbers_of b) h id
    → OutAs z p id
reached_out b z p h rank id q w = path_out b z p h rank q w.path id w.leads
