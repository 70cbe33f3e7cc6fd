-- What the turns of a call do.
use Rattle.std.specs.List.{AllByRecursion}
use Rattle.std.specs.Prelude.{Bool, List, MatchBool, None, Option, Some, [], if◌then◌else◌, not, ℕ, ◌&&◌, ◌*◌, ◌+◌, ◌<◌, ◌==◌, ◌^◌, ◌∷◌, ◌≡◌, ◌≤◌, ◌⊎◌}
use Rattle.orc_heap.proofs.Pieces.{InSlot}
use Rattle.orc_heap.specs.Allowed.{AllowedLater, IsLinkedNode}
use Rattle.orc_heap.specs.Calls.{Misses, event_of}
use Rattle.orc_heap.specs.Heap.{Heap, HeapNumbers, link_to, shown}
use Rattle.orc_heap.specs.Moves.{from_own, moves_place}
use Rattle.orc_heap.specs.OwnEvents.{Puts}
use Rattle.orc_heap.specs.Seats.{Seat, heap_of}
use Rattle.orc_heap.specs.Slots.{Hold}
use Rattle.orc_heap.specs.declared.events.Act.{Act}
use Rattle.orc_heap.specs.declared.events.Act.TheVariants.{Look, Miss}
use Rattle.orc_heap.specs.declared.events.Event.{Event}
use Rattle.orc_heap.specs.declared.events.Link.{Link}
use Rattle.orc_heap.specs.declared.events.Place.{Place}
use Rattle.orc_heap.specs.declared.events.Place.TheVariants.{Next, Root, Side}
use Rattle.orc_pairs_rule.specs.declared.entry.CellEntry.{CellEntry}
use Rattle.orc_pairs_rule.specs.declared.entry.CellEntry.TheVariants.{Seen}
use Rattle.orc_pairs_rule.specs.declared.pairs.PairsNote.{PairsNote}
use Rattle.orc_pairs_rule.specs.declared.pairs.PairsNote.TheVariants.{Entry}
use Rattle.orc_pairs_rule.specs.CellHistory.{Parts}
use Rattle.orc_pairs_rule.specs.PairsDiscipline.{HasPair, HasPart, PairsMay, entries_of}

-- a domain for a cell: nodes have two links, there is a root for the pair and two for new parts of each agent, each has a number of 32
-- bits, and it begins with no node
pub record IsCellDomain (n : HeapNumbers) (agents : ℕ) (opening : List (Event PairsNote)) : Type 0 where
  pub two : n.links ≡ 2
  pub roots : n.roots ≡ 1 + 2 * agents
  pub few : n.roots < 2 ^ 32
  pub empty : opening ≡ []

-- how many Moves of root 0 by other agents than this one stand in the events
abbrev pub others_moves : ℕ → List (Event PairsNote) → ℕ
others_moves agent [] = 0
others_moves agent (e ∷ es) = (if not (e.agent == agent) && moves_place (Root 0) e.act then 1 else 0) + others_moves agent es

-- the act finds a link
abbrev pub IsFinding : Act → Type 0
IsFinding (Look place link) = Unit {0}
IsFinding (Miss place wanted found) = Unit {0}
IsFinding act = ⊥

-- a piece of a call that only looks: its own events find links, and enter these entries
pub record OnlyLooks (s : Seat PairsNote) (entries : List CellEntry) (t : Seat PairsNote) : Type 0 where
  pub own : List (Event PairsNote)
  pub puts : Puts s own t
  pub finding : AllByRecursion (λ (e : Event PairsNote). IsFinding e.act) own
  pub entries_are : entries_of own ≡ entries
  pub fresh : t.fresh ≡ s.fresh

-- and the pass holds what it held
pub record FindsOnly (s : Seat PairsNote) (entries : List CellEntry) (t : Seat PairsNote) : Type 0 where
  pub finds : OnlyLooks s entries t
  pub slots : t.slots ≡ s.slots

-- the place is a link of a once linked node, and leads to a once linked part
pub record LeadsToPart (h : Heap) (place : Place) : Type 0 where
  pub id : ℕ
  pub linked : IsLinkedNode h id
  pub fixed : (place ≡ Next id) ⊎ (place ≡ Side id)
  pub part : ℕ
  pub leads : shown h place ≡ Some (link_to part)
  pub value : ℕ
  pub has : HasPart h part value

-- the part to which the place leads is held in this slot
pub record HoldsPart (n : HeapNumbers) (place : Place) (slot : ℕ) (s : Seat PairsNote) (h : Hold) (t : Seat PairsNote) : Type 0 where
  pub id : ℕ
  pub in_slot : InSlot s slot id h t
  pub leads : shown (heap_of n s) place ≡ Some (link_to id)
  pub finds : OnlyLooks s [] t

-- the value of the part to which the place leads was read
pub record ReadsPart (n : HeapNumbers) (place : Place) (s : Seat PairsNote) (value : ℕ) (t : Seat PairsNote) : Type 0 where
  pub only : FindsOnly s [] t
  pub id : ℕ
  pub leads : shown (heap_of n s) place ≡ Some (link_to id)
  pub has : HasPart (heap_of n t) id value

-- a Seen of these parts, wherever root 0 shows the link
abbrev pub MaySee : HeapNumbers → Seat PairsNote → Link → ℕ → ℕ → Type 0
MaySee n s link left right =
    AllowedLater (PairsMay n) n s.agent s.seen (Root 0) link (event_of s (Look (Root 0) link) (Some (Entry (Seen s.agent left right))))

-- the confirming load: a Seen of these parts, or root 0 shows another link
pub record Confirms (link : Link) (left right : ℕ) (s : Seat PairsNote) (done : Bool) (t : Seat PairsNote) : Type 0 where
  pub slots : t.slots ≡ s.slots
  pub fresh : t.fresh ≡ s.fresh
  pub puts : MatchBool done (Puts s (event_of s (Look (Root 0) link) (Some (Entry (Seen s.agent left right))) ∷ []) t) (Misses (Root 0) link s t)

-- root 0, if it showed this link before, has been moved by others since
pub record IsMovedSince (n : HeapNumbers) (link : Link) (s t : Seat PairsNote) : Type 0 where
  pub only : FindsOnly s [] t
  pub moved : shown (heap_of n s) (Root 0) ≡ Some link → 1 ≤ others_moves s.agent only.finds.puts.part

-- so many turns of a read that are over: as many Moves of root 0 by others stand in them
pub record ReadsOver (turns : ℕ) (s t : Seat PairsNote) : Type 0 where
  pub only : FindsOnly s [] t
  pub moved : turns ≤ others_moves s.agent (from_own s.agent only.finds.puts.part)

-- a read's turn, or some, by the answer
abbrev pub ReadsTurns : ℕ → Seat PairsNote → Option (ℕ × ℕ) → Seat PairsNote → Type 0
ReadsTurns turns s None t = ReadsOver turns s t
ReadsTurns turns s (Some got) t = FindsOnly s (Seen s.agent got.0 got.1 ∷ []) t

-- a once linked pair node
abbrev pub IsPairOf : Heap → ℕ → Type 0
IsPairOf h id = (left : ℕ) × (right : ℕ) × (parts : Parts) × HasPair h id left right parts

-- the parts of a pair were read, and confirmed; or root 0, if it named the pair before, has been moved by others since
abbrev pub ReadsPair : HeapNumbers → ℕ → Seat PairsNote → Option (ℕ × ℕ) → Seat PairsNote → Type 0
ReadsPair n id s None t = IsMovedSince n (link_to id) s t
ReadsPair n id s (Some got) t = FindsOnly s (Seen s.agent got.0 got.1 ∷ []) t
