-- What a call leaves that stops between the dummy of a bucket and the bucket's root. After Shalev and Shavit 2006.
use Rattle.std.specs.Prelude.{Bool, List, Some, [], false, length, true, ℕ, ◌∷◌, ◌≡◌, ◌≤◌, ◌⊎◌}
use Rattle.orc_heap.specs.Allowed.{IsLinkedNode, events_by}
use Rattle.orc_heap.specs.Heap.{Heap, HeapNumbers, link_to}
use Rattle.orc_heap.specs.Moves.{AllOwn, from_own}
use Rattle.orc_heap.specs.Seats.{Seat, heap_of}
use Rattle.orc_heap.specs.declared.events.Act.TheVariants.{Move}
use Rattle.orc_heap.specs.declared.events.Event.{Event}
use Rattle.orc_heap.specs.declared.events.Link.{Link}
use Rattle.orc_heap.specs.declared.events.Place.{Place}
use Rattle.orc_ordered_chains.specs.Chains.{IsOnChain}
use Rattle.orc_ordered_search.specs.Causes.{others_moves}
use Rattle.orc_ordered_search.specs.Inserts.{InsertCall}
use Rattle.orc_ordered_search.specs.Turns.{made_from}
use Rattle.orc_ordered_search.specs.declared.turn.InsertTurn.{InsertTurn}
use Rattle.orc_ordered_search.specs.declared.turn.InsertTurn.TheVariants.{Answered, NoNode, Over, Spent}
use Rattle.orc_split_rule.specs.SplitDiscipline.{IsDummy}
use Rattle.orc_split_rule.specs.declared.split.SplitNote.{SplitNote}
use Rattle.orc_split_rule.specs.declared.split.SplitNote.TheVariants.{Bucket}
use Rattle.orc_split_set.specs.Rootings.{IsRootSet}
use Rattle.orc_split_set.specs.SplitSearches.{split_reading}

-- the bucket's dummy is on the chain
pub record HasDummyOnChain (h : Heap) (bucket : ℕ) : Type 0 where
  pub id : ℕ
  pub dummy : IsDummy h id bucket
  pub on_chain : IsOnChain h 0 id

-- one of these events links this node as a bucket's dummy: it is a Move that leads a link to the node, with the note that says so
abbrev pub AddsDummy : List (Event SplitNote) → ℕ → Type 0
AddsDummy [] id = ⊥
AddsDummy (e ∷ es) id = ((place : Place) × (from : Link) × (e.act ≡ Move place from (link_to id)) × (e.note ≡ Some Bucket)) ⊎ AddsDummy es id

-- these events linked the bucket's dummy, which is on the chain after them; before them no Move had made a link to it
pub record LinksNewDummy (bucket : ℕ) (before : Heap) (es : List (Event SplitNote)) (after : Heap) : Type 0 where
  pub there : HasDummyOnChain after bucket
  pub adds : AddsDummy es there.id
  pub new : IsLinkedNode before there.id → ⊥

-- what a try to link a bucket's dummy tells, by what is new. Where it answers true, the pass's own events linked the dummy, and if no other
-- agent's event stands from the call's first one on, the bucket's root is null
abbrev pub StopTells : HeapNumbers → ℕ → Seat SplitNote → List (Event SplitNote) → InsertTurn → Seat SplitNote → Type 0
StopTells n bucket s part (Answered true passed) t =
    (1 ≤ length (events_by s.agent part)) × LinksNewDummy bucket (heap_of n s) (made_from s t) (heap_of n t)
    × (AllOwn s.agent (from_own s.agent part) → IsRootSet (heap_of n t) bucket → ⊥)
StopTells n bucket s part (Answered false passed) t = (id : ℕ) × IsDummy (heap_of n t) id bucket
StopTells n bucket s part Over t = 1 ≤ others_moves s.agent (from_own s.agent part)
StopTells n bucket s part NoNode t = Unit {0}
StopTells n bucket s part (Spent why) t = Unit {0}

-- the call's own events for it enter nothing, and give one node at the most; the pass holds what it held
pub record StopsUnnamed (n : HeapNumbers) (bucket : ℕ) (s : Seat SplitNote) (turn : InsertTurn) (t : Seat SplitNote) : Type 0 where
  pub own : List (Event SplitNote)
  pub call : InsertCall (split_reading n) s own [] t
  pub tells : StopTells n bucket s call.made.puts.part turn t

-- whether a turn that ended so linked the node
abbrev pub linked_by : InsertTurn → Bool
linked_by Over = false
linked_by (Answered linked passed) = linked
linked_by NoNode = false
linked_by (Spent why) = false
