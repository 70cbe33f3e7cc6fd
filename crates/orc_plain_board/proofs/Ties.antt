-- The words show the heap, with rows read as ids.
use Rattle.std.proofs.Common.{◌≡◌, ◌≢◌, ℕ, zero, suc, ◌+◌, ◌*◌, ◌<◌, List, [], ◌∷◌, ◌++◌, length, replicate, Bool, true, false, cond, nat_lt, Option, Some, None, slice_get, slice_index, slice_set, length-set, length-append, refl, sym, ap, ◌∙◌, subst, ◌⊎◌, inl, inr, arith}
use Rattle.std.proofs.lemmas.Bool.{lt-ltb}
use Rattle.std.proofs.lemmas.List.{length-replicate}
use Rattle.std.specs.Option.{option_map}
use Rattle.orc_words.specs.Bounds.{Bounds}
use Rattle.orc_words.specs.Packed.{bit, name_word}
use Rattle.orc_words.specs.NewWords.{new_words}
use Rattle.orc_words.specs.Places.{places, words_of_rows}
use Rattle.orc_words.specs.declared.place.Word.TheVariants as word
use Rattle.orc_words.proofs.NewWords.{new_words_each, new_words_long}
use Rattle.orc_heap.specs.Acts.{IsTarget, with_numbered, with_value}
use Rattle.orc_heap.specs.Heap.{Heap, Node, change, new_heap, new_node, null, shown}
use Rattle.orc_heap.specs.declared.events.Link.{Link}
use Rattle.orc_heap.specs.declared.events.Place.{Place}
use Rattle.orc_heap.specs.declared.events.Place.TheVariants.{Root as AtRoot, Next, Side}
use Rattle.orc_heap.proofs.Changes.{get-change, get-grown, get_lt, length-change}
use Rattle.orc_any_domain.specs.Rows.{Once, index_of}
use Rattle.orc_plain_board.specs.Machine.{id_by, numbers}
use Rattle.orc_plain_board.specs.Words.{Block, IsFreeRow, IsWord, Named, Tie}
use Rattle.orc_any_domain.proofs.Rows.{at_index, index_at, some_one}
use Rattle.orc_plain_board.proofs.Lists.{lt_get, get_end, get_last, change_back, new_word, same_word}

-- the place of a row's gate; its values stand two and three after it, its first link four, and its second, if there is one, five
abbrev pub row_place : Bounds → ℕ → ℕ
row_place k row = 1 + k.roots + words_of_rows k row

-- one of the row's words stands so far after its gate
abbrev IsOffset : Bounds → ℕ → Type 0
IsOffset k i = i < cond (nat_lt 1 k.links) 6 5

first_five : (k : Bounds) (i : ℕ) → i < 5 → IsOffset k i
first_five k i low = go (nat_lt 1 k.links)
  where
    go : (two : Bool) → i < cond two 6 5
    go true = omega (arith, low)
    go false = low

side_offset : (k : Bounds) → 1 < k.links → IsOffset k 5
side_offset k two = subst (λ (b : Bool). 5 < cond b 6 5) (sym (lt-ltb 1 k.links two)) (omega arith)

words_apart : (two : Bool) (r s i j : ℕ) → i < cond two 6 5 → j < cond two 6 5 → cond two (6 * r) (5 * r) + i ≡ cond two (6 * s) (5 * s) + j → r ≡ s
words_apart true r s i j low less e = omega (arith, low, less, e)
words_apart false r s i j low less e = omega (arith, low, less, e)

-- two words of rows that stand at one place are of one row
rows_apart : (k : Bounds) (r s i j : ℕ) → IsOffset k i → IsOffset k j → row_place k r + i ≡ row_place k s + j → r ≡ s
rows_apart k r s i j low less e = words_apart (nat_lt 1 k.links) r s i j low less (omega (arith, e))

words_below : (two : Bool) (r n i : ℕ) → r < n → i < cond two 6 5 → cond two (6 * r) (5 * r) + i < cond two (6 * n) (5 * n)
words_below true r n i lt low = omega (arith, lt, low)
words_below false r n i lt low = omega (arith, lt, low)

-- the words of a row of the table are in it
row_below : (k : Bounds) (r i : ℕ) → r < k.rows → IsOffset k i → row_place k r + i < places k
row_below k r i lt low = let below = words_below (nat_lt 1 k.links) r k.rows i lt low in omega (arith, below)

abbrev pub link_in : Option Node → Option Link
link_in o = option_map (λ n. n.link) o

-- the row was given, if one is named
abbrev pub Given : List ℕ → Option ℕ → Type 0
Given g None = Unit {0}
Given g (Some row) = index_of row g < length g

-- the nodes with the target changed, if there is one
abbrev pub target_nodes : (Node → Node) → Option ℕ → List Node → List Node
target_nodes f None nodes = nodes
target_nodes f (Some i) nodes = change f i nodes

bits : (a b : Bool) → bit a ≡ bit b → a ≡ b
bits true true e = refl
bits false false e = refl
bits true false e = absurd (omega (arith, e))
bits false true e = absurd (omega (arith, e))

bit_low : (b : Bool) → bit b < 2
bit_low true = omega arith
bit_low false = omega arith

-- a word is the word of one link
pub one_link : (g : List ℕ) (once : Once g) (t u : Option ℕ) (a b : Bool) (n : ℕ) → IsWord g t a n → IsWord g u b n → (t ≡ u) × (a ≡ b)
one_link g once None None a b n x y = (refl, bits a b (sym x ∙ y))
one_link g once None (Some j) a b n x y = let l = bit_low a in let e = sym x ∙ y.2 in absurd (omega (arith, l, e))
one_link g once (Some i) None a b n x y = let l = bit_low b in let e = sym x.2 ∙ y in absurd (omega (arith, l, e))
one_link g once (Some i) (Some j) a b n x y =
    let l = bit_low a in
    let m = bit_low b in
    let e : 2 * (x.0 + 1) + bit a ≡ 2 * (y.0 + 1) + bit b = sym x.2 ∙ y.2 in
    let same : x.0 ≡ y.0 = omega (arith, l, m, e) in
    (ap Some (once i j y.0 (x.1 ∙ ap Some same) y.1), bits a b (omega (arith, l, m, e, same)))

pub word_grown : (g more : List ℕ) (t : Option ℕ) (a : Bool) (n : ℕ) → IsWord g t a n → IsWord (g ++ more) t a n
word_grown g more None a n x = x
word_grown g more (Some i) a n x = (x.0, get-grown i g more x.0 x.1, x.2)

pub word_by : (g : List ℕ) (t : Option ℕ) (a : Bool) → Given g t → IsWord g (id_by g t) a (2 * name_word t + bit a)
word_by g None a x = omega arith
word_by g (Some row) a x = (row, at_index row g x, refl)

named_change : (f : Node → Node) → ((n : Node) → n.named ≡ true → (f n).named ≡ true) → (i : ℕ) (nodes : List Node) (t : Option ℕ) → Named nodes t
    → Named (change f i nodes) t
named_change f keeps i nodes None x = x
named_change f keeps i nodes (Some id) x = elim (get-change f i id nodes x.0 x.1) [ inl r ↦ (f x.0, r.1, keeps x.0 x.2) | inr r ↦ (x.0, r.1, x.2) ]

named_target : (f : Node → Node) → ((n : Node) → (f n).named ≡ true) → (to : Option ℕ) (nodes : List Node) (t : Option ℕ) → Named nodes t
    → Named (target_nodes f to nodes) t
named_target f sets None nodes t x = x
named_target f sets (Some i) nodes t x = named_change f (λ n e. sets n) i nodes t x

-- the target itself
now_named : (f : Node → Node) → ((n : Node) → (f n).named ≡ true) → (to : Option ℕ) (nodes : List Node)
    → ((id : ℕ) → to ≡ Some id → (n : Node) × (slice_get nodes id ≡ Some n)) → Named (target_nodes f to nodes) to
now_named f sets None nodes there = tt
now_named f sets (Some i) nodes there = let t = there i refl in
    elim (get-change f i i nodes t.0 t.1) [ inl r ↦ (f t.0, r.1, sets t.0) | inr r ↦ absurd (r.0 refl) ]

-- a part of a node of the changed list is as it was, or new
part_back : (part : Node → Link) (P : Link → Type 0) (f : Node → Node) → ((n : Node) → P (part (f n)) ⊎ (part (f n) ≡ part n)) → (i id : ℕ)
    (nodes : List Node) (l : Link) → option_map part (slice_get (change f i nodes) id) ≡ Some l → P l ⊎ (option_map part (slice_get nodes id) ≡ Some l)
part_back part P f either i id nodes l e = went (slice_get (change f i nodes) id) refl e
  where
    went : (o : Option Node) → slice_get (change f i nodes) id ≡ o → option_map part o ≡ Some l → P l ⊎ (option_map part (slice_get nodes id) ≡ Some l)
    went None q x = cc
    went (Some n) q x = elim (change_back f i id nodes n q) [
      | inl t ↦
          let is : part (f t.1) ≡ l = ap part (sym t.3) ∙ some_one (part n) l x in
          elim (either t.1) [ inl new ↦ inl (subst P is new) | inr same ↦ inr (ap (option_map part) t.2 ∙ ap Some (sym same ∙ is)) ]
      | inr t ↦ inr (ap (option_map part) t.1 ∙ x)
    ]

part_end : (part : Node → Link) (nodes : List Node) (new : Node) (id : ℕ) (l : Link) → option_map part (slice_get (nodes ++ new ∷ []) id) ≡ Some l
    → (option_map part (slice_get nodes id) ≡ Some l) ⊎ (l ≡ part new)
part_end part nodes new id l e = went (slice_get (nodes ++ new ∷ []) id) refl e
  where
    went : (o : Option Node) → slice_get (nodes ++ new ∷ []) id ≡ o → option_map part o ≡ Some l → (option_map part (slice_get nodes id) ≡ Some l) ⊎ (l ≡ part new)
    went None q x = cc
    went (Some n) q x = elim (get_end nodes new id n q) [
      | inl t ↦ inl (ap (option_map part) t ∙ x)
      | inr t ↦ inr (sym (some_one (part n) l x) ∙ ap part t.1)
    ]

-- where nodes have two links
when_two : (two : Bool) (o q : Option Link) (l : Link) (P : Type 0) → (o ≡ Some l → P ⊎ (q ≡ Some l)) → cond two o None ≡ Some l → P ⊎ (cond two q None ≡ Some l)
when_two true o q l P f e = f e
when_two false o q l P f e = cc

-- a change of nodes that keeps their links, or makes them such ones
pub record ChangesLinks (P : Link → Type 0) (f : Node → Node) : Type 0 where
  pub first : (n : Node) → P (f n).link ⊎ ((f n).link ≡ n.link)
  pub side : (n : Node) → P (f n).side ⊎ ((f n).side ≡ n.side)

-- what a place shows after it, it showed before, or it is such a link
shown_back : (P : Link → Type 0) (f : Node → Node) → ChangesLinks P f → (i : ℕ) (h : Heap) (at : Place) (l : Link)
    → shown record { nodes = change f i h.nodes; roots = h.roots; links = h.links } at ≡ Some l → P l ⊎ (shown h at ≡ Some l)
shown_back P f c i h (AtRoot r) l e = inr e
shown_back P f c i h (Next id) l e = part_back (λ n. n.link) P f c.first i id h.nodes l e
shown_back P f c i h (Side id) l e =
    when_two (nat_lt 1 h.links) (option_map (λ n. n.side) (slice_get (change f i h.nodes) id)) (option_map (λ n. n.side) (slice_get h.nodes id)) l (P l)
    (part_back (λ n. n.side) P f c.side i id h.nodes l) e

no_link : Link → Type 0
no_link l = ⊥

-- a change that keeps them
shown_kept : (f : Node → Node) → ((n : Node) → (f n).link ≡ n.link) → ((n : Node) → (f n).side ≡ n.side) → (i : ℕ) (h : Heap) (at : Place) (l : Link)
    → shown record { nodes = change f i h.nodes; roots = h.roots; links = h.links } at ≡ Some l → shown h at ≡ Some l
unfolding no_link
shown_kept f first side i h at l e = elim (shown_back no_link f record { first = λ n. inr (first n); side = λ n. inr (side n) } i h at l e) [
  | inl none ↦ absurd none
  | inr same ↦ same
]

-- a node shows the same words as the other
pub record Alike (n m : Node) : Type 0 where
  pub link : n.link ≡ m.link
  pub side : n.side ≡ m.side
  pub first : n.first ≡ m.first
  pub second : n.second ≡ m.second

alike : (n : Node) → Alike n n
alike n = record { link = refl; side = refl; first = refl; second = refl }

alike_by : (n m o : Node) → n ≡ m → Alike m o → Alike n o
alike_by n m o e a = subst (λ (x : Node). Alike x o) (sym e) a

target_back : (f : Node → Node) → ((n : Node) → Alike (f n) n) → (to : Option ℕ) (nodes : List Node) (id : ℕ) (n : Node)
    → slice_get (target_nodes f to nodes) id ≡ Some n
    → (m : Node) × (slice_get nodes id ≡ Some m) × Alike n m
target_back f same None nodes id n e = (n, e, alike n)
target_back f same (Some i) nodes id n e =
    elim (change_back f i id nodes n e) [ inl r ↦ (r.1, r.2, alike_by n (f r.1) r.1 r.3 (same r.1)) | inr r ↦ (n, r.1, alike n) ]

pub length_target : (f : Node → Node) (to : Option ℕ) (nodes : List Node) → length (target_nodes f to nodes) ≡ length nodes
length_target f None nodes = refl
length_target f (Some i) nodes = length-change f i nodes

block_alike : (k : Bounds) (w g : List ℕ) (row : ℕ) (n m : Node) → Alike n m → Block k w g row m → Block k w g row n
block_alike k w g row n m a b = record {
  gate = b.gate;
  link = subst (λ (l : Link). IsWord g l.to l.mark (slice_index w (row_place k row + 4))) (sym a.link) b.link;
  side = λ two. subst (λ (l : Link). IsWord g l.to l.mark (slice_index w (row_place k row + 5))) (sym a.side) (b.side two);
  first = λ v e. b.first v (sym a.first ∙ e);
  second = λ v e. b.second v (sym a.second ∙ e);
}

-- a word that is none of the row's
block_else : (k : Bounds) (w g : List ℕ) (row : ℕ) (n : Node) (p v : ℕ) → ((i : ℕ) → IsOffset k i → row_place k row + i ≢ p)
    → Block k w g row n → Block k (slice_set w p v) g row n
block_else k w g row n p v other x = record {
  gate = same_word w p v (row_place k row) (λ z. other 0 (first_five k 0 (omega arith)) (omega (arith, z))) ∙ x.gate;
  link = subst (IsWord g n.link.to n.link.mark) (sym (same_word w p v (row_place k row + 4) (other 4 (first_five k 4 (omega arith))))) x.link;
  side = λ two. subst (IsWord g n.side.to n.side.mark) (sym (same_word w p v (row_place k row + 5) (other 5 (side_offset k two)))) (x.side two);
  first = λ u e. same_word w p v (row_place k row + 2) (other 2 (first_five k 2 (omega arith))) ∙ x.first u e;
  second = λ u e. same_word w p v (row_place k row + 3) (other 3 (first_five k 3 (omega arith))) ∙ x.second u e;
}

free_else : (k : Bounds) (w : List ℕ) (r p v : ℕ) → ((i : ℕ) → IsOffset k i → row_place k r + i ≢ p) → IsFreeRow k w r → IsFreeRow k (slice_set w p v) r
free_else k w r p v other x = record {
  gate = same_word w p v (row_place k r) (λ z. other 0 (first_five k 0 (omega arith)) (omega (arith, z))) ∙ x.gate;
  link = same_word w p v (row_place k r + 4) (other 4 (first_five k 4 (omega arith))) ∙ x.link;
  side = λ two. same_word w p v (row_place k r + 5) (other 5 (side_offset k two)) ∙ x.side two;
}

-- a word of another row
of_other : (k : Bounds) (r row i p : ℕ) → IsOffset k i → p ≡ row_place k row + i → r ≢ row → (j : ℕ) → IsOffset k j → row_place k r + j ≢ p
of_other k r row i p low at ne j less = λ z. ne (rows_apart k r row j i less low (z ∙ at))

block_other : (k : Bounds) (w g : List ℕ) (r row i p v : ℕ) (n : Node) → IsOffset k i → p ≡ row_place k row + i → r ≢ row
    → Block k w g r n → Block k (slice_set w p v) g r n
block_other k w g r row i p v n low at ne x = block_else k w g r n p v (of_other k r row i p low at ne) x

free_other : (k : Bounds) (w : List ℕ) (r row i p v : ℕ) → IsOffset k i → p ≡ row_place k row + i → r ≢ row → IsFreeRow k w r → IsFreeRow k (slice_set w p v) r
free_other k w r row i p v low at ne x = free_else k w r p v (of_other k r row i p low at ne) x

-- a root's word is no row's
of_root : (k : Bounds) (row r : ℕ) → r < k.roots → (i : ℕ) → IsOffset k i → row_place k row + i ≢ 1 + r
of_root k row r lt i low = λ z. omega (arith, z, lt)

-- nodes that were changed where no word shows
tie_target : (k : Bounds) (w g : List ℕ) (h : Heap) (f : Node → Node) → ((n : Node) → Alike (f n) n) → ((n : Node) → (f n).named ≡ true) → (to : Option ℕ)
    → ((at : Place) (l : Link) → shown h at ≡ Some l → Named h.nodes l.to ⊎ (l.to ≡ to))
    → ((id : ℕ) → to ≡ Some id → (n : Node) × (slice_get h.nodes id ≡ Some n))
    → (long : length w ≡ places k) (rooted : length h.roots ≡ k.roots) (linked : h.links ≡ k.links) (even : length g ≡ length h.nodes) (once : Once g)
    (inside : (i row : ℕ) → slice_get g i ≡ Some row → row < k.rows)
    → ((r : ℕ) (l : Link) → slice_get h.roots r ≡ Some l → IsWord g l.to l.mark (slice_index w (1 + r)))
    → ((id row : ℕ) (n : Node) → slice_get g id ≡ Some row → slice_get h.nodes id ≡ Some n → Block k w g row n)
    → ((row : ℕ) → row < k.rows → ((id : ℕ) → slice_get g id ≢ Some row) → IsFreeRow k w row)
    → Tie k w g record { nodes = target_nodes f to h.nodes; roots = h.roots; links = h.links }
tie_target k w g h f same sets to named there long rooted linked even once inside root node free = record {
  long = long;
  rooted = rooted;
  linked = linked;
  even = even ∙ sym (length_target f to h.nodes);
  once = once;
  inside = inside;
  root = root;
  node = λ id row n e q. let b = target_back f same to h.nodes id n q in block_alike k w g row n b.0 b.2 (node id row b.0 e b.1);
  free = free;
  targets = λ at l e. let old = before at l e in elim (named at l old) [
    | inl x ↦ named_target f sets to h.nodes l.to x
    | inr x ↦ subst (Named (target_nodes f to h.nodes)) (sym x) (now_named f sets to h.nodes there)
  ];
}
  where
    before : (at : Place) (l : Link) → shown record { nodes = target_nodes f to h.nodes; roots = h.roots; links = h.links } at ≡ Some l → shown h at ≡ Some l
    before at l e = by_target to e
      where
        by_target : (to : Option ℕ) → shown record { nodes = target_nodes f to h.nodes; roots = h.roots; links = h.links } at ≡ Some l → shown h at ≡ Some l
        by_target None e = e
        by_target (Some i) e = shown_kept f (λ n. (same n).link) (λ n. (same n).side) i h at l e

-- a target that was given is there
there_by : (k : Bounds) (w g : List ℕ) (h : Heap) → Tie k w g h → (t : Option ℕ) → Given g t → (id : ℕ) → id_by g t ≡ Some id
    → (n : Node) × (slice_get h.nodes id ≡ Some n)
there_by k w g h x None l id e = cc
there_by k w g h x (Some row) l id e = let q = some_one (index_of row g) id e in let v = x.even in lt_get h.nodes id (omega (arith, l, q, v))

-- a target that is there was given
pub given_by : (k : Bounds) (w g : List ℕ) (h : Heap) → Tie k w g h → (a : ℕ) (t : Option ℕ) → IsTarget a h (id_by g t) → Given g t
given_by k w g h x a None r = tt
given_by k w g h x a (Some row) r = let l = get_lt h.nodes (index_of row g) r.node r.there in let v = x.even in omega (arith, l, v)

-- a row that is linked from somewhere else keeps its words
apart_rows : (k : Bounds) (g : List ℕ) (once : Once g) (id row other : ℕ) → slice_get g id ≡ Some other → index_of row g < length g
    → index_of row g ≢ id → other ≢ row
apart_rows k g once id row other e l ne q = ne (index_at row g id once (e ∙ ap Some q))

-- a row's gate is taken, and its node is new
pub tie_take : (k : Bounds) (w g : List ℕ) (h : Heap) (a row : ℕ) → Tie k w g h → row < k.rows → slice_index w (row_place k row) ≡ 0
    → Tie k (slice_set w (row_place k row) 3) (g ++ row ∷ []) record { nodes = h.nodes ++ new_node a ∷ []; roots = h.roots; links = h.links }
tie_take k w g h a row x lt zero_gate =
    let long = x.long in
    let below = row_below k row 0 lt (first_five k 0 (omega arith)) in
    let new : (id : ℕ) → slice_get g id ≢ Some row = λ id e.
    let n = lt_get h.nodes id (let l = get_lt g id row e in let v = x.even in omega (arith, l, v)) in
    let b = (x.node id row n.0 e n.1).gate in omega (arith, b, zero_gate) in
    let more : List ℕ = row ∷ [] in
    let set_length = length-set w (row_place k row) 3 in
    record {
      long = set_length ∙ long;
      rooted = x.rooted;
      linked = x.linked;
      even = length-append g (row ∷ []) ∙ (ap (λ n. n + 1) x.even ∙ sym (length-append h.nodes (new_node a ∷ [])));
      once = λ i j r e q. elim (get_end g row i r e) [
        | inl s ↦ elim (get_end g row j r q) [ inl t ↦ x.once i j r s t | inr t ↦ absurd (new i (s ∙ ap Some t.1)) ]
        | inr s ↦ elim (get_end g row j r q) [ inl t ↦ absurd (new j (t ∙ ap Some s.1)) | inr t ↦ s.0 ∙ sym t.0 ]
      ];
      inside = λ i r e. elim (get_end g row i r e) [ inl s ↦ x.inside i r s | inr s ↦ subst (λ z. z < k.rows) (sym s.1) lt ];
      root = λ r l e.
          let below = get_lt h.roots r l e in
          let rooted = x.rooted in
          subst (IsWord (g ++ more) l.to l.mark) (sym (same_word w (row_place k row) 3 (1 + r) (λ q. omega (arith, q, below, rooted))))
          (word_grown g more l.to l.mark (slice_index w (1 + r)) (x.root r l e));
      node = λ id r n e q. elim (get_end g row id r e) [
        | inl s ↦
            let in_old = get_lt g id r s in
            let even = x.even in
            elim (get_end h.nodes (new_node a) id n q) [
              | inl t ↦
                  let b = x.node id r n s t in
                  let ne : r ≢ row = λ z. new id (s ∙ ap Some z) in
                  let old = block_other k w g r row 0 (row_place k row) 3 n (first_five k 0 (omega arith)) (omega arith) ne b in
                  record {
                    gate = old.gate;
                    link = word_grown g more n.link.to n.link.mark _ old.link;
                    side = λ two. word_grown g more n.side.to n.side.mark _ (old.side two);
                    first = old.first;
                    second = old.second;
                  }
              | inr t ↦ let z = t.0 in absurd (omega (arith, z, in_old, even))
            ]
        | inr s ↦
            let z = s.0 in
            let even = x.even in
            elim (get_end h.nodes (new_node a) id n q) [
              | inl t ↦ let l = get_lt h.nodes id n t in absurd (omega (arith, z, l, even))
              | inr t ↦ subst (λ (m : Node). Block k (slice_set w (row_place k row) 3) (g ++ more) r m) (sym t.1)
                  (subst (λ (i : ℕ). Block k (slice_set w (row_place k row) 3) (g ++ more) i (new_node a)) (sym s.1) record {
                    gate = new_word w (row_place k row) 3 (omega (arith, long, below));
                    link = same_word w (row_place k row) 3 (row_place k row + 4) (λ z. omega (arith, z)) ∙ (x.free row lt new).link;
                    side = λ two. same_word w (row_place k row) 3 (row_place k row + 5) (λ z. omega (arith, z)) ∙ (x.free row lt new).side two;
                    first = λ v e. cc;
                    second = λ v e. cc;
                  })
            ]
      ];
      free = λ r l none. free_other k w r row 0 (row_place k row) 3 (first_five k 0 (omega arith)) (omega arith)
          (λ q. none (length g) (subst (λ s. slice_get (g ++ row ∷ []) (length g) ≡ Some s) (sym q) (get_last g row)))
          (x.free r l (λ id e. none id (get-grown id g more r e)));
      targets = λ at l e. targets at l e;
    }
  where
    old_named : (t : Option ℕ) → Named h.nodes t → Named (h.nodes ++ new_node a ∷ []) t
    old_named None x = tt
    old_named (Some id) x = (x.0, get-grown id h.nodes (new_node a ∷ []) x.0 x.1, x.2)

    null_named : (l : Link) → l ≡ null → Named (h.nodes ++ new_node a ∷ []) l.to
    null_named l e = subst (λ (z : Link). Named (h.nodes ++ new_node a ∷ []) z.to) (sym e) tt

    targets : (at : Place) (l : Link) → shown record { nodes = h.nodes ++ new_node a ∷ []; roots = h.roots; links = h.links } at ≡ Some l
        → Named (h.nodes ++ new_node a ∷ []) l.to
    targets (AtRoot r) l e = old_named l.to (x.targets (AtRoot r) l e)
    targets (Next id) l e = elim (part_end (λ n. n.link) h.nodes (new_node a) id l e) [
      | inl old ↦ old_named l.to (x.targets (Next id) l old)
      | inr new ↦ null_named l new
    ]
    targets (Side id) l e = by_links (nat_lt 1 h.links) (λ old. old_named l.to (x.targets (Side id) l old)) e
      where
        by_links : (two : Bool) → (cond two (option_map (λ n. n.side) (slice_get h.nodes id)) None ≡ Some l → Named (h.nodes ++ new_node a ∷ []) l.to)
            → cond two (option_map (λ n. n.side) (slice_get (h.nodes ++ new_node a ∷ []) id)) None ≡ Some l → Named (h.nodes ++ new_node a ∷ []) l.to
        by_links true f e = elim (part_end (λ n. n.side) h.nodes (new_node a) id l e) [ inl old ↦ f old | inr new ↦ null_named l new ]
        by_links false f e = cc

-- a value is filled
pub tie_fill : (k : Bounds) (w g : List ℕ) (h : Heap) (row which value : ℕ) → Tie k w g h → row < k.rows → index_of row g < length g → which < 2
    → Tie k (slice_set w (row_place k row + 2 + which) value) g record { nodes = change (with_value which value) (index_of row g) h.nodes; roots = h.roots; links = h.links }
tie_fill k w g h row which value x lt given low =
    let long = x.long in
    record {
      long = length-set w (row_place k row + 2 + which) value ∙ long;
      rooted = x.rooted;
      linked = x.linked;
      even = x.even ∙ sym (length-change (with_value which value) (index_of row g) h.nodes);
      once = x.once;
      inside = x.inside;
      root = λ r l e.
          let below = get_lt h.roots r l e in
          let rooted = x.rooted in
          subst (IsWord g l.to l.mark) (sym (same_word w (row_place k row + 2 + which) value (1 + r) (λ q. omega (arith, q, below, rooted)))) (x.root r l e);
      node = λ id r n e q. elim (change_back (with_value which value) (index_of row g) id h.nodes n q) [
        | inl t ↦
            let same : r ≡ row = some_one r row (sym e ∙ (ap (slice_get g) (sym t.0) ∙ at_index row g given)) in
            subst (λ (m : Node). Block k (slice_set w (row_place k row + 2 + which) value) g r m) (sym t.3)
            (subst (λ i. Block k (slice_set w (row_place k row + 2 + which) value) g i (with_value which value t.1)) (sym same)
            (filled_block which low t.1 long (x.node id row t.1 (e ∙ ap Some same) t.2)))
        | inr t ↦
            let ne = apart_rows k g x.once id row r e given t.0 in
            block_other k w g r row (2 + which) (row_place k row + 2 + which) value n (first_five k (2 + which) (omega (arith, low))) (omega arith) ne (x.node id r n e t.1)
      ];
      free = λ r l none. free_other k w r row (2 + which) (row_place k row + 2 + which) value (first_five k (2 + which) (omega (arith, low))) (omega arith)
          (λ q. none (index_of row g) (at_index row g given ∙ ap Some (sym q))) (x.free r l none);
      targets = targets;
    }
  where
    below : row_place k row + 4 < places k
    below = row_below k row 4 lt (first_five k 4 (omega arith))

    filled_block : (i : ℕ) → i < 2 → (m : Node) → length w ≡ places k → Block k w g row m
        → Block k (slice_set w (row_place k row + 2 + i) value) g row (with_value i value m)
    filled_block zero low m long b = record {
      gate = same_word w (row_place k row + 2 + 0) value (row_place k row) (λ z. omega (arith, z)) ∙ b.gate;
      link = subst (IsWord g m.link.to m.link.mark) (sym (same_word w (row_place k row + 2 + 0) value (row_place k row + 4) (λ z. omega (arith, z)))) b.link;
      side = λ two. subst (IsWord g m.side.to m.side.mark)
          (sym (same_word w (row_place k row + 2 + 0) value (row_place k row + 5) (λ z. omega (arith, z)))) (b.side two);
      first = λ v e. subst (λ z. slice_index (slice_set w z value) (row_place k row + 2) ≡ v) (let p : row_place k row + 2 ≡ row_place k row + 2 + 0 =
          omega arith in p) (new_word w (row_place k row + 2) value (omega (arith, long, below)) ∙ some_one value v e);
      second = λ v e. same_word w (row_place k row + 2 + 0) value (row_place k row + 3) (λ z. omega (arith, z)) ∙ b.second v e;
    }
    filled_block (suc i) low m long b = let none : i ≡ 0 = omega (arith, low) in record {
      gate = same_word w (row_place k row + 2 + suc i) value (row_place k row) (λ z. omega (arith, z)) ∙ b.gate;
      link = subst (IsWord g m.link.to m.link.mark)
          (sym (same_word w (row_place k row + 2 + suc i) value (row_place k row + 4) (λ z. omega (arith, z, none)))) b.link;
      side = λ two. subst (IsWord g m.side.to m.side.mark)
          (sym (same_word w (row_place k row + 2 + suc i) value (row_place k row + 5) (λ z. omega (arith, z, none)))) (b.side two);
      first = λ v e. same_word w (row_place k row + 2 + suc i) value (row_place k row + 2) (λ z. omega (arith, z)) ∙ b.first v e;
      second = λ v e. subst (λ z. slice_index (slice_set w z value) (row_place k row + 3) ≡ v)
          (let p : row_place k row + 3 ≡ row_place k row + 2 + suc i = omega (arith, none) in p)
          (new_word w (row_place k row + 3) value (omega (arith, long, below)) ∙ some_one value v e);
    }

    targets : (at : Place) (l : Link) → shown record { nodes = change (with_value which value) (index_of row g) h.nodes; roots = h.roots; links = h.links } at ≡ Some l
        → Named (change (with_value which value) (index_of row g) h.nodes) l.to
    targets at l e = named_change (with_value which value) (keeps_named which) (index_of row g) h.nodes l.to (x.targets at l (before at e))
      where
        keeps_named : (i : ℕ) (n : Node) → n.named ≡ true → (with_value i value n).named ≡ true
        keeps_named zero n e = e
        keeps_named (suc i) n e = e

        keeps_link : (i : ℕ) (n : Node) → (with_value i value n).link ≡ n.link
        keeps_link zero n = refl
        keeps_link (suc i) n = refl

        keeps_side : (i : ℕ) (n : Node) → (with_value i value n).side ≡ n.side
        keeps_side zero n = refl
        keeps_side (suc i) n = refl

        before : (at : Place) → shown record { nodes = change (with_value which value) (index_of row g) h.nodes; roots = h.roots; links = h.links } at ≡ Some l
            → shown h at ≡ Some l
        before at e = shown_kept (with_value which value) (keeps_link which) (keeps_side which) (index_of row g) h at l e

-- where a row's link of this number stands after its gate
abbrev pub link_offset : ℕ → ℕ
link_offset zero = 4
link_offset (suc number) = 5

-- rows have a link of this number
abbrev pub HasNumber : Bounds → ℕ → Type 0
HasNumber k zero = Unit {0}
HasNumber k (suc number) = 1 < k.links

number_offset : (k : Bounds) (number : ℕ) → HasNumber k number → IsOffset k (link_offset number)
number_offset k zero has = first_five k 4 (omega arith)
number_offset k (suc number) has = side_offset k has

-- a row's words after its link of this number was set
block_link : (k : Bounds) (w g : List ℕ) (row number v : ℕ) (l : Link) (m : Node) → row_place k row + link_offset number < length w → IsWord g l.to l.mark v
    → Block k w g row m → Block k (slice_set w (row_place k row + link_offset number) v) g row (with_numbered number l m)
block_link k w g row zero v l m below is b = record {
  gate = same_word w (row_place k row + 4) v (row_place k row) (λ z. omega (arith, z)) ∙ b.gate;
  link = subst (IsWord g l.to l.mark) (sym (new_word w (row_place k row + 4) v below)) is;
  side = λ two. subst (IsWord g m.side.to m.side.mark) (sym (same_word w (row_place k row + 4) v (row_place k row + 5) (λ z. omega (arith, z)))) (b.side two);
  first = λ u e. same_word w (row_place k row + 4) v (row_place k row + 2) (λ z. omega (arith, z)) ∙ b.first u e;
  second = λ u e. same_word w (row_place k row + 4) v (row_place k row + 3) (λ z. omega (arith, z)) ∙ b.second u e;
}
block_link k w g row (suc number) v l m below is b = record {
  gate = same_word w (row_place k row + 5) v (row_place k row) (λ z. omega (arith, z)) ∙ b.gate;
  link = subst (IsWord g m.link.to m.link.mark) (sym (same_word w (row_place k row + 5) v (row_place k row + 4) (λ z. omega (arith, z)))) b.link;
  side = λ two. subst (IsWord g l.to l.mark) (sym (new_word w (row_place k row + 5) v below)) is;
  first = λ u e. same_word w (row_place k row + 5) v (row_place k row + 2) (λ z. omega (arith, z)) ∙ b.first u e;
  second = λ u e. same_word w (row_place k row + 5) v (row_place k row + 3) (λ z. omega (arith, z)) ∙ b.second u e;
}

links_set : (number : ℕ) (l : Link) → ChangesLinks (λ x. x.to ≡ l.to) (with_numbered number l)
links_set zero l = record { first = λ n. inl refl; side = λ n. inr refl }
links_set (suc number) l = record { first = λ n. inr refl; side = λ n. inl refl }

keeps_named : (number : ℕ) (l : Link) (n : Node) → n.named ≡ true → (with_numbered number l n).named ≡ true
keeps_named zero l n e = e
keeps_named (suc number) l n e = e

-- a node's link is set, and its target is noted
pub tie_link : (k : Bounds) (w g : List ℕ) (h : Heap) (f : Node → Node) → ((n : Node) → Alike (f n) n) → ((n : Node) → (f n).named ≡ true)
    → (number row : ℕ) (to : Option ℕ) (mark : Bool)
    → Tie k w g h → HasNumber k number → row < k.rows → index_of row g < length g → Given g to
    → Tie k (slice_set w (row_place k row + link_offset number) (2 * name_word to + bit mark)) g
    record {
      nodes = target_nodes f (id_by g to) (change (with_numbered number (record { to = id_by g to; mark = mark })) (index_of row g) h.nodes);
      roots = h.roots;
      links = h.links;
    }
tie_link k w g h f same sets number row to mark x has lt given target =
    let long = x.long in
    let low = number_offset k number has in
    tie_target k (slice_set w (row_place k row + link_offset number) v) g h1 f same sets (id_by g to) named there
    (length-set w (row_place k row + link_offset number) v ∙ long)
    x.rooted
    x.linked
    (x.even ∙ sym (length-change linked_to (index_of row g) h.nodes))
    x.once
    x.inside
    (λ r l e.
    let below = get_lt h.roots r l e in
    let rooted = x.rooted in
    subst (IsWord g l.to l.mark) (sym (same_word w (row_place k row + link_offset number) v (1 + r) (λ q. omega (arith, q, below, rooted)))) (x.root r l e))
    (λ id r n e q. elim (change_back linked_to (index_of row g) id h.nodes n q) [
      | inl t ↦
          let same : r ≡ row = some_one r row (sym e ∙ (ap (slice_get g) (sym t.0) ∙ at_index row g given)) in
          let below = row_below k row (link_offset number) lt low in
          subst (λ (m : Node). Block k (slice_set w (row_place k row + link_offset number) v) g r m) (sym t.3)
          (subst (λ i. Block k (slice_set w (row_place k row + link_offset number) v) g i (linked_to t.1)) (sym same)
          (block_link k w g row number v new t.1 (omega (arith, long, below)) (word_by g to mark target) (x.node id row t.1 (e ∙ ap Some same) t.2)))
      | inr t ↦
          let ne = apart_rows k g x.once id row r e given t.0 in
          block_other k w g r row (link_offset number) (row_place k row + link_offset number) v n low refl ne (x.node id r n e t.1)
    ])
    (λ r l none. free_other k w r row (link_offset number) (row_place k row + link_offset number) v low refl
    (λ q. none (index_of row g) (at_index row g given ∙ ap Some (sym q))) (x.free r l none))
  where
    v : ℕ
    v = 2 * name_word to + bit mark

    new : Link
    new = record { to = id_by g to; mark = mark }

    linked_to : Node → Node
    linked_to n = with_numbered number (record { to = id_by g to; mark = mark }) n

    h1 : Heap
    h1 = record { nodes = change linked_to (index_of row g) h.nodes; roots = h.roots; links = h.links }

    there : (id : ℕ) → id_by g to ≡ Some id → (n : Node) × (slice_get (change linked_to (index_of row g) h.nodes) id ≡ Some n)
    there id e = let t = there_by k w g h x to target id e in
        elim (get-change linked_to (index_of row g) id h.nodes t.0 t.1) [ inl r ↦ (linked_to t.0, r.1) | inr r ↦ (t.0, r.1) ]

    named : (at : Place) (l : Link) → shown h1 at ≡ Some l → Named h1.nodes l.to ⊎ (l.to ≡ id_by g to)
    named at l e = elim (shown_back (λ y. y.to ≡ id_by g to) linked_to (links_set number new) (index_of row g) h at l e) [
      | inl is ↦ inr is
      | inr old ↦ inl (named_change linked_to (λ n q. keeps_named number new n q) (index_of row g) h.nodes l.to (x.targets at l old))
    ]

-- a root is set, and its target is noted
pub tie_root : (k : Bounds) (w g : List ℕ) (h : Heap) (f : Node → Node) → ((n : Node) → Alike (f n) n) → ((n : Node) → (f n).named ≡ true)
    → (r : ℕ) (to : Option ℕ) (mark : Bool)
    → Tie k w g h → r < k.roots → Given g to
    → Tie k (slice_set w (1 + r) (2 * name_word to + bit mark)) g
    record { nodes = target_nodes f (id_by g to) h.nodes; roots = change (λ l. record { to = id_by g to; mark = mark }) r h.roots; links = h.links }
tie_root k w g h f same sets r to mark x lt target =
    let long = x.long in
    tie_target k (slice_set w (1 + r) v) g h1 f same sets (id_by g to) named (λ id e. there_by k w g h x to target id e)
    (length-set w (1 + r) v ∙ long)
    (length-change (λ l. new) r h.roots ∙ x.rooted)
    x.linked
    x.even
    x.once
    x.inside
    (λ i l e. elim (change_back (λ l. new) r i h.roots l e) [
      | inl t ↦ subst (λ (z : Link). IsWord g z.to z.mark (slice_index (slice_set w (1 + r) v) (1 + i))) (sym t.3)
          (subst (λ z. IsWord g (id_by g to) mark (slice_index (slice_set w (1 + r) v) (1 + z))) t.0
          (subst (IsWord g (id_by g to) mark) (sym (new_word w (1 + r) v (omega (arith, long, lt)))) (word_by g to mark target)))
      | inr t ↦ subst (IsWord g l.to l.mark) (sym (same_word w (1 + r) v (1 + i) (λ z. t.0 (omega (arith, z))))) (x.root i l t.1)
    ])
    (λ id i n e q. block_else k w g i n (1 + r) v (of_root k i r lt) (x.node id i n e q))
    (λ i l none. free_else k w i (1 + r) v (of_root k i r lt) (x.free i l none))
  where
    v : ℕ
    v = 2 * name_word to + bit mark

    new : Link
    new = record { to = id_by g to; mark = mark }

    h1 : Heap
    h1 = record { nodes = h.nodes; roots = change (λ l. new) r h.roots; links = h.links }

    named : (at : Place) (l : Link) → shown h1 at ≡ Some l → Named h1.nodes l.to ⊎ (l.to ≡ id_by g to)
    named (AtRoot i) l e = elim (change_back (λ l. new) r i h.roots l e) [
      | inl t ↦ inr (ap (λ (z : Link). z.to) t.3)
      | inr t ↦ inl (x.targets (AtRoot i) l t.1)
    ]
    named (Next id) l e = inl (x.targets (Next id) l e)
    named (Side id) l e = inl (x.targets (Side id) l e)

-- a new table's words show the new heap
pub tie_start : (k : Bounds) → Tie k (new_words k) [] (new_heap (numbers k))
tie_start k = record {
  long = new_words_long k;
  rooted = length-replicate k.roots null;
  linked = refl;
  even = refl;
  once = λ i j r e q. cc;
  inside = λ i r e. cc;
  root = λ r l e. let low = get_lt (replicate k.roots null) r l e in let long = length-replicate k.roots null in
      subst (λ (z : Link). IsWord [] z.to z.mark (slice_index (new_words k) (1 + r))) (sym (all_null k.roots r l e))
      (new_words_each k (word.Root r) (omega (arith, low, long)));
  node = λ id r n e q. cc;
  free = λ r l none. record {
    gate = new_words_each k (word.Gate r) l;
    link = new_words_each k (word.Next r) l;
    side = λ two. new_words_each k (word.Side r) (l, two);
  };
  targets = targets;
}
  where
    all_null : (n r : ℕ) (l : Link) → slice_get (replicate n null) r ≡ Some l → l ≡ null
    all_null zero r l e = cc
    all_null (suc n) zero l e = cc
    all_null (suc n) (suc r) l e = all_null n r l e

    targets : (at : Place) (l : Link) → shown (new_heap (numbers k)) at ≡ Some l → Named [] l.to
    targets (AtRoot r) l e = subst (λ (z : Link). Named [] z.to) (sym (all_null k.roots r l e)) tt
    targets (Next id) l e = cc
    targets (Side id) l e = no_link_at (nat_lt 1 k.links) e
      where
        no_link_at : (two : Bool) → cond two None None ≡ Some l → Named [] l.to
        no_link_at true e = cc
        no_link_at false e = cc
