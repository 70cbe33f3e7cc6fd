-- What the turns of a call do. After Michael and Scott 1996.
use Rattle.std.specs.Prelude.{List, None, Some, [], false, is_some, length, slice_get, true, ℕ, ◌*◌, ◌++◌, ◌+◌, ◌<◌, ◌^◌, ◌∷◌, ◌≡◌, ◌≢◌, ◌≤◌, ◌⊎◌}
use Rattle.std.specs.List.{list_any}
use Rattle.orc_heap.specs.Allowed.{IsLinkedNode, HasLink}
use Rattle.orc_heap.specs.Calls.{Misses, event_of, given_node}
use Rattle.orc_heap.specs.Heap.{Heap, HeapNumbers, Node, null, shown, link_to}
use Rattle.orc_heap.specs.Journals.{run_heap}
use Rattle.orc_heap.specs.Moves.{AllOwn, from_own, gives_in, moves_in, moves_place}
use Rattle.orc_heap.specs.OwnEvents.{Puts}
use Rattle.orc_heap.specs.Seats.{Seat, heap_of}
use Rattle.orc_heap.specs.Slots.{Hold, Holds, id_in}
use Rattle.orc_heap.specs.declared.events.Act.TheVariants.{Look, Miss, Move}
use Rattle.orc_heap.specs.declared.events.Event.{Event}
use Rattle.orc_heap.specs.declared.events.Link.{Link}
use Rattle.orc_heap.specs.declared.events.Place.{Place}
use Rattle.orc_heap.specs.declared.events.Place.TheVariants.{Next, Root}
use Rattle.orc_history.specs.QueueHistory.{puts_in}
use Rattle.orc_history.specs.declared.queue.QueueEntry.{QueueEntry}
use Rattle.orc_history.specs.declared.queue.QueueEntry.TheVariants.{Empty, Put, Took}
use Rattle.orc_fifo_rule.specs.declared.fifo.FifoNote.{FifoNote}
use Rattle.orc_fifo_rule.specs.declared.fifo.FifoNote.TheVariants.{Swing}
use Rattle.orc_fifo_rule.specs.Counts.{off_the_head}
use Rattle.orc_fifo_rule.specs.QueueDiscipline.{entries_of, has_begun, position_of}
use Rattle.orc_queue.specs.declared.put.PutTurn.{PutTurn}
use Rattle.orc_queue.specs.declared.put.PutTurn.TheVariants.{Full, Over as PutOver, Put as PutDone}
use Rattle.orc_queue.specs.declared.take.TakeTurn.{TakeTurn}
use Rattle.orc_queue.specs.declared.take.TakeTurn.TheVariants.{Empty as TakeEmpty, Over as TakeOver, Took as TakeDone}

-- root 0 and root 1 have begun, and each once linked node has its second value
pub record HasDummy (n : HeapNumbers) (es : List (Event FifoNote)) : Type 0 where
  pub begun : has_begun es ≡ true
  pub filled : (id : ℕ) (node : Node) → slice_get (run_heap n es).nodes id ≡ Some node → node.linked ≡ true → is_some node.second ≡ true

-- the position of the next Put
abbrev pub next_position : HeapNumbers → List (Event FifoNote) → ℕ
next_position n es = position_of (run_heap n es) 0 + puts_in (entries_of es)

-- this event is a Look of the agent's own at the end of the queue, the null link of a once linked node; and no position is left
pub record IsFullLook (n : HeapNumbers) (agent : ℕ) (seen : List (Event FifoNote)) (e : Event FifoNote) : Type 0 where
  pub mine : e.agent ≡ agent
  pub id : ℕ
  pub linked : IsLinkedNode (run_heap n seen) id
  pub at_end : e.act ≡ Look (Next id) null
  pub full : 2 ^ 62 ≤ next_position n seen

-- some event among these is such a Look
abbrev pub FindsFull : HeapNumbers → ℕ → List (Event FifoNote) → List (Event FifoNote) → Type 0
FindsFull n agent seen [] = ⊥
FindsFull n agent seen (e ∷ es) = IsFullLook n agent seen e ⊎ FindsFull n agent (seen ++ e ∷ []) es

-- root 1 names the last node
pub record TailIsLast (h : Heap) : Type 0 where
  pub last : ℕ
  pub tail_is : shown h (Root 1) ≡ Some (link_to last)
  pub ends : shown h (Next last) ≡ Some null

-- root 1 names another node than root 0
pub record TailIsPast (h : Heap) : Type 0 where
  pub head : ℕ
  pub head_is : shown h (Root 0) ≡ Some (link_to head)
  pub tail_apart : shown h (Root 1) ≢ Some (link_to head)

-- the tail was swung on from this node to its successor, or it named the node no more
pub record Helps (tail next : ℕ) (s t : Seat FifoNote) : Type 0 where
  pub slots : t.slots ≡ s.slots
  pub fresh : t.fresh ≡ s.fresh
  pub either : Puts s (event_of s (Move (Root 1) (link_to tail) (link_to next)) (Some Swing) ∷ []) t ⊎ Misses (Root 1) (link_to tail) s t

-- a piece of a call: the pass holds what it held, and its own events are at most so many, enter these entries and give no
-- node
pub record Piece (most : ℕ) (s : Seat FifoNote) (entries : List QueueEntry) (t : Seat FifoNote) : Type 0 where
  pub own : List (Event FifoNote)
  pub slots : t.slots ≡ s.slots
  pub puts : Puts s own t
  pub entries_are : entries_of own ≡ entries
  pub no_give : gives_in own ≡ 0
  pub few : length own ≤ most

-- the rest of a turn that is over: if the place showed the link before, then a Move stands in what is new; the pass made
-- no Move of its own, or it helped
pub record HasStopped (n : HeapNumbers) (most : ℕ) (place : Place) (link : Link) (IsHelping : List (Event FifoNote) → Type 0) (s t : Seat FifoNote) : Type 0 where
  pub piece : Piece most s [] t
  pub fresh : t.fresh ≡ s.fresh
  pub moved : shown (heap_of n s) place ≡ Some link → 1 ≤ moves_in piece.puts.part
  pub own_moves : (moves_in piece.own ≡ 0) ⊎ IsHelping piece.own

-- a turn that is over: a Move stands in it. If no other agent steps in it, then it leaves the tail settled, and it found it unsettled
pub record IsTurnOver (n : HeapNumbers) (IsSettled : Heap → Type 0) (s t : Seat FifoNote) : Type 0 where
  pub piece : Piece 6 s [] t
  pub fresh : t.fresh ≡ s.fresh
  pub moved : 1 ≤ moves_in (from_own s.agent piece.puts.part)
  pub settles : AllOwn s.agent (from_own s.agent piece.puts.part) → IsSettled (heap_of n t)
  pub unsettled : AllOwn s.agent piece.puts.part → IsSettled (heap_of n s) → ⊥

-- so many turns that are over: as many Moves stand in them, and another agent steps in them if they are two or more
pub record AreOver (n : HeapNumbers) (IsSettled : Heap → Type 0) (turns : ℕ) (s t : Seat FifoNote) : Type 0 where
  pub piece : Piece (6 * turns) s [] t
  pub fresh : t.fresh ≡ s.fresh
  pub moved : turns ≤ moves_in (from_own s.agent piece.puts.part)
  pub settles : 1 ≤ turns → AllOwn s.agent (from_own s.agent piece.puts.part) → IsSettled (heap_of n t)
  pub busy : 2 ≤ turns → AllOwn s.agent (from_own s.agent piece.puts.part) → ⊥

-- the pass holds its fresh node, which has this job
pub record HoldsNode (n : HeapNumbers) (job : ℕ) (h : Hold) (s : Seat FifoNote) : Type 0 where
  pub held : Holds s.slots h
  pub fresh : s.fresh ≡ Some (id_in s.slots h)
  pub second : ℕ
  pub node : slice_get (heap_of n s).nodes (id_in s.slots h) ≡ Some (given_node s.agent job second)

-- no event moves root 1
abbrev pub KeepsTail : List (Event FifoNote) → Type 0
KeepsTail es = list_any (λ e. moves_place (Root 1) e.act) es ≡ false

-- the event swings root 1 on from this node, or finds that root 1 names it no more
abbrev pub SwingsTail : ℕ → Event FifoNote → Type 0
SwingsTail tail e =
    ((next : ℕ) × (e ≡ record { agent = e.agent; act = Move (Root 1) (link_to tail) (link_to next); note = Some Swing }))
    ⊎ ((found : Link) × (e.act ≡ Miss (Root 1) (link_to tail) found))

-- the last of the events does so, and none before it moves root 1
pub record SwingsLast (tail : ℕ) (es : List (Event FifoNote)) : Type 0 where
  pub before : List (Event FifoNote)
  pub keeps : KeepsTail before
  pub last : Event FifoNote
  pub es_are : es ≡ before ++ last ∷ []
  pub swings : SwingsTail tail last

-- the events end with help of the tail: a Look finds that root 1 names a node, and the last swings root 1 on from that node,
-- or finds that another has
pub record EndsHelping (es : List (Event FifoNote)) : Type 0 where
  pub before : List (Event FifoNote)
  pub tail : ℕ
  pub look : Event FifoNote
  pub sees : look.act ≡ Look (Root 1) (link_to tail)
  pub rest : List (Event FifoNote)
  pub es_are : es ≡ before ++ look ∷ rest
  pub swings : SwingsLast tail rest

-- the job was put, at a position that there is, and this is known of how the own events helped the tail on
pub record PutsJob (n : HeapNumbers) (most : ℕ) (IsHelping : List (Event FifoNote) → Type 0) (job at : ℕ) (s t : Seat FifoNote) : Type 0 where
  pub piece : Piece most s (Put s.agent job at ∷ []) t
  pub helps : IsHelping piece.own
  pub fresh : t.fresh ≡ None
  pub low : at < 2 ^ 62
  pub room : FindsFull n s.agent s.seen piece.puts.part → ⊥

-- no position was left
pub record IsFull (n : HeapNumbers) (most : ℕ) (s t : Seat FifoNote) : Type 0 where
  pub piece : Piece most s [] t
  pub fresh : t.fresh ≡ s.fresh
  pub full : FindsFull n s.agent s.seen piece.puts.part

-- how many Moves of other places than root 0 stand in the events, from the agent's first one on
abbrev pub back_moves_in : ℕ → List (Event FifoNote) → ℕ
back_moves_in agent es = moves_in (from_own agent (off_the_head es))

-- behind a node with a null link, the new node was not linked: if the link was null before, then a Move stands in what is new,
-- and not of root 0
pub record LinkMissed (n : HeapNumbers) (job tail : ℕ) (h : Hold) (s t : Seat FifoNote) : Type 0 where
  pub stops : HasStopped n 2 (Next tail) null (λ own. ⊥) s t
  pub room : FindsFull n s.agent s.seen stops.piece.puts.part → ⊥
  pub low : position_of (heap_of n s) tail < 2 ^ 62
  pub node : HoldsNode n job h t
  pub back : shown (heap_of n s) (Next tail) ≡ Some null → 1 ≤ moves_in (off_the_head stops.piece.puts.part)

-- nor was it linked where no position is left behind the node
pub record NoPosition (n : HeapNumbers) (tail : ℕ) (s t : Seat FifoNote) : Type 0 where
  pub piece : Piece 0 s [] t
  pub fresh : t.fresh ≡ s.fresh
  pub none : 2 ^ 62 ≤ position_of (heap_of n s) tail

-- the new node was linked there, and the link leads to it from then on
pub record LinksJob (n : HeapNumbers) (most : ℕ) (IsHelping : List (Event FifoNote) → Type 0) (job tail at : ℕ) (h : Hold) (s t : Seat FifoNote) : Type 0 where
  pub puts : PutsJob n most IsHelping job at s t
  pub low : position_of (heap_of n s) tail < 2 ^ 62
  pub link : HasLink (heap_of n t) tail (link_to (id_in s.slots h))

-- the link behind a node, by its answer
abbrev pub LinksBehind : HeapNumbers → ℕ → (List (Event FifoNote) → Type 0) → ℕ → ℕ → Hold → Seat FifoNote → PutTurn → Seat FifoNote → Type 0
LinksBehind n most IsHelping job tail h s PutOver t = LinkMissed n job tail h s t
LinksBehind n most IsHelping job tail h s (PutDone at) t = LinksJob n most IsHelping job tail at h s t
LinksBehind n most IsHelping job tail h s Full t = NoPosition n tail s t

-- the own events of a pass that helps, from its looks at the successor on
abbrev pub HelpsBehind : Seat FifoNote → ℕ → List (Event FifoNote) → Type 0
HelpsBehind s tail own = (next : ℕ) × (own ≡ event_of s (Look (Next tail) (link_to next)) None ∷ event_of s (Look (Next tail) (link_to next)) None
    ∷ event_of s (Move (Root 1) (link_to tail) (link_to next)) (Some Swing) ∷ [])

-- behind the node that root 1 named, the new node was not linked: if root 1 named the node before, then a Move stands in what is new,
-- and not of root 0
pub record TurnMissed (n : HeapNumbers) (job tail : ℕ) (h : Hold) (s t : Seat FifoNote) : Type 0 where
  pub stops : HasStopped n 4 (Root 1) (link_to tail) (HelpsBehind s tail) s t
  pub room : FindsFull n s.agent s.seen stops.piece.puts.part → ⊥
  pub node : HoldsNode n job h t
  pub back : shown (heap_of n s) (Root 1) ≡ Some (link_to tail) → 1 ≤ moves_in (off_the_head stops.piece.puts.part)

-- a turn of a put from that node on, by its answer
abbrev pub PutsBehind : HeapNumbers → ℕ → ℕ → Hold → Seat FifoNote → PutTurn → Seat FifoNote → Type 0
PutsBehind n job tail h s PutOver t = TurnMissed n job tail h s t
PutsBehind n job tail h s (PutDone at) t = PutsJob n 4 (SwingsLast tail) job at s t
PutsBehind n job tail h s Full t = IsFull n 4 s t

-- a turn of a put that is over: a Move stands in it that isn't one of root 0
pub record PutMissed (n : HeapNumbers) (job : ℕ) (h : Hold) (s t : Seat FifoNote) : Type 0 where
  pub over : IsTurnOver n TailIsLast s t
  pub room : FindsFull n s.agent s.seen over.piece.puts.part → ⊥
  pub node : HoldsNode n job h t
  pub back : 1 ≤ back_moves_in s.agent over.piece.puts.part

-- a turn of a put, by its answer
abbrev pub PutsTurn : HeapNumbers → ℕ → Hold → Seat FifoNote → PutTurn → Seat FifoNote → Type 0
PutsTurn n job h s PutOver t = PutMissed n job h s t
PutsTurn n job h s (PutDone at) t = PutsJob n 6 EndsHelping job at s t
PutsTurn n job h s Full t = IsFull n 6 s t

-- so many turns of a put that are over: as many such Moves stand in them
pub record PutTires (n : HeapNumbers) (job turns : ℕ) (h : Hold) (s t : Seat FifoNote) : Type 0 where
  pub over : AreOver n TailIsLast turns s t
  pub room : FindsFull n s.agent s.seen over.piece.puts.part → ⊥
  pub node : HoldsNode n job h t
  pub back : turns ≤ back_moves_in s.agent over.piece.puts.part

-- at most so many turns of a put, by the answer of the last
abbrev pub PutsTurns : HeapNumbers → ℕ → ℕ → Hold → Seat FifoNote → PutTurn → Seat FifoNote → Type 0
PutsTurns n job turns h s PutOver t = PutTires n job turns h s t
PutsTurns n job turns h s (PutDone at) t = PutsJob n (6 * turns) EndsHelping job at s t
PutsTurns n job turns h s Full t = IsFull n (6 * turns) s t

-- a job was taken
pub record TakesJob (most job at : ℕ) (s t : Seat FifoNote) : Type 0 where
  pub piece : Piece most s (Took s.agent job at ∷ []) t
  pub fresh : t.fresh ≡ s.fresh

-- nothing was found
pub record TakesNone (most : ℕ) (s t : Seat FifoNote) : Type 0 where
  pub piece : Piece most s (Empty s.agent ∷ []) t
  pub fresh : t.fresh ≡ s.fresh

-- the own events of a pass that helps, from its test of the tail on
abbrev pub HelpsPast : Seat FifoNote → ℕ → ℕ → List (Event FifoNote) → Type 0
HelpsPast s head next own = own ≡ event_of s (Look (Root 1) (link_to head)) None ∷ event_of s (Move (Root 1) (link_to head) (link_to next)) (Some Swing) ∷ []

-- the swing of the head on to the successor
abbrev pub TakesFrom : HeapNumbers → ℕ → Seat FifoNote → TakeTurn → Seat FifoNote → Type 0
TakesFrom n head s TakeOver t = HasStopped n 1 (Root 0) (link_to head) (λ own. ⊥) s t
TakesFrom n head s (TakeDone job at) t = TakesJob 1 job at s t
TakesFrom n head s TakeEmpty t = ⊥

-- from the head and its successor on
abbrev pub TakesFromHead : HeapNumbers → ℕ → ℕ → Seat FifoNote → TakeTurn → Seat FifoNote → Type 0
TakesFromHead n head next s TakeOver t = HasStopped n 2 (Root 0) (link_to head) (HelpsPast s head next) s t
TakesFromHead n head next s (TakeDone job at) t = TakesJob 2 job at s t
TakesFromHead n head next s TakeEmpty t = ⊥

-- the own events of a pass that helps, from its looks at the successor on
abbrev pub HelpsHead : Seat FifoNote → ℕ → List (Event FifoNote) → Type 0
HelpsHead s head own = (next : ℕ) × (own ≡ event_of s (Look (Next head) (link_to next)) None ∷ event_of s (Look (Next head) (link_to next)) None
    ∷ event_of s (Look (Root 1) (link_to head)) None ∷ event_of s (Move (Root 1) (link_to head) (link_to next)) (Some Swing) ∷ [])

-- behind the node that root 0 named
abbrev pub TakesBehind : HeapNumbers → ℕ → Seat FifoNote → TakeTurn → Seat FifoNote → Type 0
TakesBehind n head s TakeOver t = HasStopped n 4 (Root 0) (link_to head) (HelpsHead s head) s t
TakesBehind n head s (TakeDone job at) t = TakesJob 4 job at s t
TakesBehind n head s TakeEmpty t = TakesNone 4 s t

-- a turn of a take
abbrev pub TakesTurn : HeapNumbers → Seat FifoNote → TakeTurn → Seat FifoNote → Type 0
TakesTurn n s TakeOver t = IsTurnOver n TailIsPast s t
TakesTurn n s (TakeDone job at) t = TakesJob 6 job at s t
TakesTurn n s TakeEmpty t = TakesNone 6 s t

-- so many turns of a take
abbrev pub TakesTurns : HeapNumbers → ℕ → Seat FifoNote → TakeTurn → Seat FifoNote → Type 0
TakesTurns n turns s TakeOver t = AreOver n TailIsPast turns s t
TakesTurns n turns s (TakeDone job at) t = (turns ≢ 0) × TakesJob (6 * turns) job at s t
TakesTurns n turns s TakeEmpty t = (turns ≢ 0) × TakesNone (6 * turns) s t
