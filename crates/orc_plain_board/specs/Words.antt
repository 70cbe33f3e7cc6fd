-- How words show links, gates and values.
use Rattle.std.specs.Prelude.{◌≡◌, ◌≢◌, ℕ, ◌+◌, ◌*◌, ◌<◌, List, length, Bool, true, Option, Some, None, slice_get, slice_index}
use Rattle.orc_any_domain.specs.Rows.{Once}
use Rattle.orc_words.specs.Bounds.{Bounds}
use Rattle.orc_words.specs.Packed.{bit}
use Rattle.orc_words.specs.Places.{place, places}
use Rattle.orc_words.specs.declared.place.Word.TheVariants.{Root, Gate, First, Second, Next, Side}
use Rattle.orc_heap.specs.Heap.{Heap, Node, shown}
use Rattle.orc_heap.specs.declared.events.Link.{Link}
use Rattle.orc_heap.specs.declared.events.Place.{Place}

-- the number is the word of the link to this node, or to none, with this mark
abbrev pub IsWord : List ℕ → Option ℕ → Bool → ℕ → Type 0
IsWord g None mark n = n ≡ bit mark
IsWord g (Some id) mark n = (row : ℕ) × (slice_get g id ≡ Some row) × (n ≡ 2 * (row + 1) + bit mark)

-- the words of a row show its node: the gate word of a first life, the links, and each value that was filled
pub record Block (b : Bounds) (w g : List ℕ) (row : ℕ) (n : Node) : Type 0 where
  pub gate : slice_index w (place b (Gate row)) ≡ 3
  pub link : IsWord g n.link.to n.link.mark (slice_index w (place b (Next row)))
  pub side : 1 < b.links → IsWord g n.side.to n.side.mark (slice_index w (place b (Side row)))
  pub first : (v : ℕ) → n.first ≡ Some v → slice_index w (place b (First row)) ≡ v
  pub second : (v : ℕ) → n.second ≡ Some v → slice_index w (place b (Second row)) ≡ v

-- the words of a row that was never given
pub record IsFreeRow (b : Bounds) (w : List ℕ) (row : ℕ) : Type 0 where
  pub gate : slice_index w (place b (Gate row)) ≡ 0
  pub link : slice_index w (place b (Next row)) ≡ 0
  pub side : 1 < b.links → slice_index w (place b (Side row)) ≡ 0

-- the node that a link names is there, and an Aim, an AimSide or a Move made a link to it
abbrev pub Named : List Node → Option ℕ → Type 0
Named nodes None = Unit {0}
Named nodes (Some id) = (n : Node) × (slice_get nodes id ≡ Some n) × (n.named ≡ true)

-- the words show the heap, where row i of the list is node i, and no other row is out
pub record Tie (b : Bounds) (w g : List ℕ) (h : Heap) : Type 0 where
  pub long : length w ≡ places b
  pub rooted : length h.roots ≡ b.roots
  pub linked : h.links ≡ b.links
  pub even : length g ≡ length h.nodes
  pub once : Once g
  pub inside : (i row : ℕ) → slice_get g i ≡ Some row → row < b.rows
  pub root : (r : ℕ) (l : Link) → slice_get h.roots r ≡ Some l → IsWord g l.to l.mark (slice_index w (place b (Root r)))
  pub node : (id row : ℕ) (n : Node) → slice_get g id ≡ Some row → slice_get h.nodes id ≡ Some n → Block b w g row n
  pub free : (row : ℕ) → row < b.rows → ((id : ℕ) → slice_get g id ≢ Some row) → IsFreeRow b w row
  pub targets : (at : Place) (l : Link) → shown h at ≡ Some l → Named h.nodes l.to
