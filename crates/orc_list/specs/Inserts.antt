-- What the turns of an insert do. After Harris 2001.
use Rattle.std.specs.List.{Contains}
use Rattle.std.specs.Prelude.{List, Option, Some, [], false, true, ℕ, ◌∷◌, ◌≡◌, ◌⊎◌}
use Rattle.orc_heap.specs.Heap.{Heap, HeapNumbers}
use Rattle.orc_heap.specs.Seats.{Seat}
use Rattle.orc_heap.specs.declared.events.Act.TheVariants.{Move}
use Rattle.orc_heap.specs.declared.events.Event.{Event}
use Rattle.orc_heap.specs.declared.events.Link.{Link}
use Rattle.orc_heap.specs.declared.events.Place.{Place}
use Rattle.orc_history.specs.declared.set.SetEntry.TheVariants.{Added}
use Rattle.orc_ordered_chains.specs.Chains.{IsRun}
use Rattle.orc_chain_rule.specs.ChainDiscipline.{IsOnNoChain}
use Rattle.orc_chain_rule.specs.declared.chain.ChainNote.{ChainNote}
use Rattle.orc_chain_rule.specs.declared.chain.ChainNote.TheVariants.{Entry}
use Rattle.orc_ordered_search.specs.Ways.{EndsRun, Sees}
use Rattle.orc_ordered_search.specs.Inserts.{SeesAbsent as SeesRankAbsent}
use Rattle.orc_list.specs.Searches.{list_reading}

-- Looks among these events found the key absent: an unmarked link of a place below it, and a run of marked nodes from there to null
-- or to a node above it
abbrev pub SeesAbsent : HeapNumbers → ℕ → List (Event ChainNote) → Seat ChainNote → Type 0
SeesAbsent n key es t = SeesRankAbsent (list_reading n) key es t

-- one of these events adds the key: it leads the place from this link to a node
abbrev pub AddsKey : List (Event ChainNote) → ℕ → Place → Link → Type 0
AddsKey [] key place from = ⊥
AddsKey (e ∷ es) key place from =
    ((to : Link) × (e.act ≡ Move place from to) × (e.note ≡ Some (Entry (Added e.agent key true)))) ⊎ AddsKey es key place from

-- these events added the key at a place whose link one of them had found unmarked, over these nodes, which stand before null, or before a
-- node whose link they found unmarked
pub record AddsOverRun (key : ℕ) (es : List (Event ChainNote)) : Type 0 where
  pub place : Place
  pub from : Link
  pub plain : from.mark ≡ false
  pub sees : Sees es place from
  pub adds : AddsKey es key place from
  pub over : List ℕ
  pub to : Option ℕ
  pub ends : EndsRun es to

-- so they did, and those nodes are a run of marked ones, of which none is on a chain. After Harris 2001
pub record LeavesRunOff (key : ℕ) (es : List (Event ChainNote)) (h : Heap) : Type 0 where
  pub added : AddsOverRun key es
  pub open added use *
  pub run : IsRun h from over to
  pub off : (id : ℕ) → Contains over id → IsOnNoChain h id
