-- The queue discipline: what the events of a queue of linked nodes obey. After Michael and Scott 1996.
use Rattle.std.specs.Prelude.{Bool, Contains, List, None, Option, Some, [], false, length, slice_get, true, unwrap_or, ℕ, ◌&&◌, ◌++◌, ◌+◌, ◌<◌, ◌==◌, ◌^◌, ◌∷◌, ◌≡◌, ◌≢◌, ◌≤◌, ◌⊎◌}
use Rattle.std.specs.List.{list_any, AllByRecursion}
use Rattle.orc_heap.specs.Heap.{Heap, HeapNumbers, Node, link_to, null, shown}
use Rattle.orc_heap.specs.Allowed.{AreSidesNull, HasLink, HasNullSide, IsLinkedNode}
use Rattle.orc_heap.specs.Journals.{FitsAfter, IsLawful, IsPlainAct, noted_entries, run_heap}
use Rattle.orc_heap.specs.declared.events.Act.{Act}
use Rattle.orc_heap.specs.declared.events.Act.TheVariants.{Look, Move}
use Rattle.orc_heap.specs.declared.events.Event.{Event}
use Rattle.orc_heap.specs.declared.events.Link.{Link}
use Rattle.orc_heap.specs.declared.events.Place.{Place}
use Rattle.orc_heap.specs.declared.events.Place.TheVariants.{Next, Root, Side}
use Rattle.orc_history.specs.QueueHistory.{IsLegalQueue, agent_of_entry, puts_in, waiting_after}
use Rattle.orc_history.specs.declared.queue.QueueEntry.{QueueEntry}
use Rattle.orc_history.specs.declared.queue.QueueEntry.TheVariants.{Empty, Put, Took}
use Rattle.orc_fifo_rule.specs.declared.fifo.FifoNote.{FifoNote}
use Rattle.orc_fifo_rule.specs.declared.fifo.FifoNote.TheVariants.{Begin, Entry, Swing}

-- what a note enters in the history
abbrev pub entries_in : Option FifoNote → List QueueEntry
entries_in (Some (Entry entry)) = entry ∷ []
entries_in noted = []

-- the queue history of the events
abbrev pub entries_of : List (Event FifoNote) → List QueueEntry
entries_of es = noted_entries entries_in es

-- the second value of a node, and 0 where it has none or isn't there
abbrev pub position_in : Option Node → ℕ
position_in None = 0
position_in (Some n) = unwrap_or n.second 0

-- the same of the node of this id: of node 0 the first position, of the node of a Put the next one after its own
abbrev pub position_of : Heap → ℕ → ℕ
position_of h id = position_in (slice_get h.nodes id)

-- the node's values are this job and its position + 1, and the position is below 2 ^ 62
pub record HoldsJob (node : Node) (job at : ℕ) : Type 0 where
  pub job_is : node.first ≡ Some job
  pub position_is : node.second ≡ Some (at + 1)
  pub low : at < 2 ^ 62

-- a once linked node that holds this job
pub record HasJob (h : Heap) (id job at : ℕ) : Type 0 where
  pub node : Node
  pub there : slice_get h.nodes id ≡ Some node
  pub linked : node.linked ≡ true
  pub holds : HoldsJob node job at

-- this is the node of the Put of this job at this position
pub record IsPutNode (es : List (Event FifoNote)) (id job at : ℕ) : Type 0 where
  pub event : Event FifoNote
  pub by : ℕ
  pub place : Place
  pub from : Link
  pub among : Contains es event
  pub act_is : event.act ≡ Move place from (link_to id)
  pub note_is : event.note ≡ Some (Entry (Put by job at))

-- from this node the links lead over the nodes of these Puts to the last one
abbrev pub IsPath : List (Event FifoNote) → Heap → ℕ → List (ℕ × ℕ) → ℕ → Type 0
IsPath es h id [] last = id ≡ last
IsPath es h id (put ∷ puts) last =
    (next : ℕ) × HasLink h id (link_to next) × IsPutNode es next put.0 put.1 × IsPath es h next puts last

-- the queue once both roots have begun
pub record IsRunning (h : Heap) (es : List (Event FifoNote)) : Type 0 where
  pub dummy : ℕ
  pub tail : ℕ
  pub last : ℕ
  pub front : List (ℕ × ℕ)
  pub back : List (ℕ × ℕ)
  -- from the dummy, which root 0 names, the links lead over the nodes of the untaken Puts in order, and end in null
  pub head_is : shown h (Root 0) ≡ Some (link_to dummy)
  pub waiting : waiting_after [] (entries_of es) ≡ front ++ back
  pub to_tail : IsPath es h dummy front tail
  pub to_last : IsPath es h tail back last
  pub ends : HasLink h last null
  -- root 1 names the last of these nodes or the one before it
  pub tail_is : shown h (Root 1) ≡ Some (link_to tail)
  pub short : length back ≤ 1
  -- node 0 was linked, and the last node's second value is the next position
  pub zero : IsLinkedNode h 0
  pub next : position_of h last ≡ position_of h 0 + puts_in (entries_of es)

-- if the act is a Move, it is a Begin of root 0 or root 1, from null to node 0
abbrev pub BeginsIfMoves : Act → Option FifoNote → Type 0
BeginsIfMoves (Move (Root r) from to) noted = (r < 2) × (from ≡ null) × (to ≡ link_to 0) × (noted ≡ Some Begin)
BeginsIfMoves (Move (Next id) from to) noted = ⊥
BeginsIfMoves (Move (Side id) from to) noted = ⊥
BeginsIfMoves act noted = Unit {0}

-- there is no entry yet, each Move is a Begin, and the link of node 0 is null once it is linked
pub record IsOpening (h : Heap) (es : List (Event FifoNote)) : Type 0 where
  pub none : entries_of es ≡ []
  pub begins : AllByRecursion (λ (e : Event FifoNote). BeginsIfMoves e.act e.note) es
  pub zero_ends : (node : Node) → slice_get h.nodes 0 ≡ Some node → node.linked ≡ true → node.link ≡ null

-- the event is a Begin of this root
abbrev pub is_begin_of : ℕ → Act → Option FifoNote → Bool
is_begin_of root (Move (Root r) from to) (Some Begin) = r == root
is_begin_of root act noted = false

-- the root has had a Begin
abbrev pub root_has_begun : ℕ → List (Event FifoNote) → Bool
root_has_begun root es = list_any (λ e. is_begin_of root e.act e.note) es

-- roots 0 and 1 have each had a Begin
abbrev pub has_begun : List (Event FifoNote) → Bool
has_begun es = root_has_begun 0 es && root_has_begun 1 es

-- the link is null, or names the node of the Put at this position
abbrev pub LeadsOn : List (Event FifoNote) → ℕ → Link → Type 0
LeadsOn es position link = (link ≡ null) ⊎ ((next : ℕ) × (job : ℕ) × (link ≡ link_to next) × IsPutNode es next job position)

-- what the events of a queue obey
pub record FifoHolds (n : HeapNumbers) (es : List (Event FifoNote)) : Type 0 where
  pub lawful : IsLawful n es
  pub legal : IsLegalQueue (position_of (run_heap n es) 0) (entries_of es)
  pub opening : has_begun es ≡ false → IsOpening (run_heap n es) es
  pub running : has_begun es ≡ true → IsRunning (run_heap n es) es
  -- the node of a Put has its job and its position + 1
  pub puts : (id job at : ℕ) → IsPutNode es id job at → HasJob (run_heap n es) id job at
  -- the link of a once linked node is null, or names the node of the Put at its own second value
  pub links : (id : ℕ) (link : Link) → HasLink (run_heap n es) id link → LeadsOn es (position_of (run_heap n es) id) link
  -- once it isn't null it never changes
  pub frozen : (before after : List (Event FifoNote)) (id : ℕ) (link : Link) → es ≡ before ++ after
      → HasLink (run_heap n before) id link → link ≢ null → HasLink (run_heap n es) id link
  -- the second link of a once linked node, if there is one, is null
  pub sides : AreSidesNull (run_heap n es)

-- a Begin: root 0 or root 1 goes from null to node 0, whose links are null
pub record MayBegin (h : Heap) (root : ℕ) (from to : Link) : Type 0 where
  pub root_is : root < 2
  pub from_is : from ≡ null
  pub to_is : to ≡ link_to 0
  pub ends : shown h (Next 0) ≡ Some null
  pub side_null : HasNullSide h 0

-- a Put: the null link of the node that root 1 names goes to a node that was never linked, has null links, and
-- holds the job
pub record MayPut (h : Heap) (tail : ℕ) (from to : Link) (job at : ℕ) : Type 0 where
  pub tail_is : shown h (Root 1) ≡ Some (link_to tail)
  pub from_is : from ≡ null
  pub id : ℕ
  pub to_is : to ≡ link_to id
  pub node : Node
  pub there : slice_get h.nodes id ≡ Some node
  pub unlinked : node.linked ≡ false
  pub ends : node.link ≡ null
  pub side_null : HasNullSide h id
  pub holds : HoldsJob node job at

-- the root goes from its node to that node's successor
pub record StepsOn (h : Heap) (from to : Link) : Type 0 where
  pub id : ℕ
  pub next : ℕ
  pub from_is : from ≡ link_to id
  pub to_is : to ≡ link_to next
  pub successor : shown h (Next id) ≡ Some (link_to next)

-- a Swing: root 1 steps on
pub record MaySwing (h : Heap) (root : ℕ) (from to : Link) : Type 0 where
  pub root_is : root ≡ 1
  pub steps : StepsOn h from to

-- a Took: root 0 steps on, while root 1 names another node
pub record MayTake (h : Heap) (root : ℕ) (from to : Link) : Type 0 where
  pub root_is : root ≡ 0
  pub steps : StepsOn h from to
  pub tail_apart : shown h (Root 1) ≢ Some from

-- an Empty: the null link of the node that root 0 names
pub record MayEmpty (h : Heap) (id : ℕ) (link : Link) : Type 0 where
  pub head_is : shown h (Root 0) ≡ Some (link_to id)
  pub link_is : link ≡ null

-- the act that may carry a note; an act without one is neither a Move nor an Aim with a target
abbrev pub MayAct : Heap → Act → Option FifoNote → Type 0
MayAct h act None = IsPlainAct act
MayAct h (Move (Root r) from to) (Some Begin) = MayBegin h r from to
MayAct h (Move (Root r) from to) (Some Swing) = MaySwing h r from to
MayAct h (Move (Root r) from to) (Some (Entry (Took by job at))) = MayTake h r from to
MayAct h (Move (Next id) from to) (Some (Entry (Put by job at))) = MayPut h id from to job at
MayAct h (Look (Next id) link) (Some (Entry (Empty by))) = MayEmpty h id link
MayAct h act noted = ⊥

-- all but a Begin come after the two Begins
abbrev pub IsInTime : Bool → Option FifoNote → Type 0
IsInTime begun (Some (Entry entry)) = begun ≡ true
IsInTime begun (Some Swing) = begun ≡ true
IsInTime begun noted = Unit {0}

-- an entry has the event's agent, and the history stays legal with it
abbrev pub MayEnter : ℕ → List QueueEntry → ℕ → Option FifoNote → Type 0
MayEnter first history agent (Some (Entry entry)) = (agent_of_entry entry ≡ agent) × IsLegalQueue first (history ++ entry ∷ [])
MayEnter first history agent noted = Unit {0}

-- what the discipline allows
pub record FifoMay (n : HeapNumbers) (es : List (Event FifoNote)) (e : Event FifoNote) : Type 0 where
  pub fits : FitsAfter n es e
  pub may_act : MayAct (run_heap n es) e.act e.note
  pub in_time : IsInTime (has_begun es) e.note
  pub may_enter : MayEnter (position_of (run_heap n es) 0) (entries_of es) e.agent e.note

-- positions rise along the links
abbrev pub fifo_rank : HeapNumbers → List (Event FifoNote) → ℕ → ℕ
fifo_rank n es id = position_of (run_heap n es) id
