-- What a call did, by its answer.
use Rattle.std.specs.Prelude.{Err, List, None, Ok, Option, Result, Some, [], drop, length, suc, zero, ℕ, ◌*◌, ◌++◌, ◌+◌, ◌<◌, ◌^◌, ◌∷◌, ◌≡◌, ◌≢◌, ◌≤◌, ◌⊎◌}
use Rattle.orc_fault.specs.declared.Again.{Again as AgainFault}
use Rattle.orc_heap.specs.Heap.{HeapNumbers}
use Rattle.orc_heap.specs.Moves.{AllOwn, from_own, gives_in, moves_in}
use Rattle.orc_heap.specs.OwnEvents.{Puts}
use Rattle.orc_heap.specs.Seats.{IsIdle, Seat, heap_of}
use Rattle.orc_heap.specs.declared.events.Event.{Event}
use Rattle.orc_history.specs.QueueHistory.{entry_of_dequeue}
use Rattle.orc_history.specs.declared.queue.QueueEntry.{QueueEntry}
use Rattle.orc_history.specs.declared.queue.QueueEntry.TheVariants.{Put}
use Rattle.orc_history.specs.declared.queue.QueueRefused.{QueueRefused}
use Rattle.orc_history.specs.declared.queue.QueueRefused.TheVariants.{Again, NoNode, Positions}
use Rattle.orc_fifo_rule.specs.declared.fifo.FifoNote.{FifoNote}
use Rattle.orc_fifo_rule.specs.QueueDiscipline.{entries_of, position_of}
use Rattle.orc_queue.specs.Turns.{EndsHelping, FindsFull, KeepsTail, Piece, TailIsLast, back_moves_in}
use Rattle.orc_queue.specs.declared.put.PutTurn.{PutTurn}
use Rattle.orc_queue.specs.declared.put.PutTurn.TheVariants.{Full, Over as PutOver, Put as PutDone}

-- a call of so many turns that leaves the pass idle: its own events enter these entries and give so many nodes; at most 6 of
-- them are of each turn, and 3 of each node that is given
pub record IsCall (given turns : ℕ) (s : Seat FifoNote) (entries : List QueueEntry) (t : Seat FifoNote) : Type 0 where
  pub idle : IsIdle t
  pub own : List (Event FifoNote)
  pub puts : Puts s own t
  pub entries_are : entries_of own ≡ entries
  pub gives : gives_in own ≡ given
  pub few : length own ≤ 6 * turns + 3 * given

-- a call that used all its turns
pub record Tires (given turns : ℕ) (s t : Seat FifoNote) : Type 0 where
  pub call : IsCall given turns s [] t
  pub moved : turns ≤ moves_in (from_own s.agent call.puts.part)
  pub busy : 2 ≤ turns → AllOwn s.agent (from_own s.agent call.puts.part) → ⊥

-- the call found the end of the queue where no position was left
abbrev pub CallFindsFull : HeapNumbers → Seat FifoNote → Seat FifoNote → Type 0
CallFindsFull n s t = FindsFull n s.agent s.seen (drop (length s.seen) t.seen)

-- the call found no Look at the end without a position
abbrev pub HasPositions : HeapNumbers → {given turns : ℕ} {s : Seat FifoNote} {entries : List QueueEntry} {t : Seat FifoNote}
    → IsCall given turns s entries t → Type 0
HasPositions n {s = s} call = FindsFull n s.agent s.seen call.puts.part → ⊥

-- how many nodes a put gives: none without a turn, or where none could be had; else one
abbrev pub gives_of : ℕ → Result ℕ QueueRefused → ℕ
gives_of zero result = 0
gives_of (suc turns) (Err NoNode) = 0
gives_of (suc turns) result = 1

-- a put that used all its turns, each by a Move that isn't one of root 0, and found room
pub record PutTired (n : HeapNumbers) (turns : ℕ) (s t : Seat FifoNote) : Type 0 where
  pub tires : Tires (gives_of turns (Err Again)) turns s t
  pub room : HasPositions n tires.call
  pub back : turns ≤ back_moves_in s.agent tires.call.puts.part

-- a put for which no node could be had
pub record PutLacking (n : HeapNumbers) (turns : ℕ) (s t : Seat FifoNote) : Type 0 where
  pub call : IsCall (gives_of turns (Err NoNode)) turns s [] t
  pub some_turn : turns ≢ 0
  pub room : HasPositions n call

-- a put that found no position left
pub record PutFull (n : HeapNumbers) (turns : ℕ) (s t : Seat FifoNote) : Type 0 where
  pub call : IsCall (gives_of turns (Err Positions)) turns s [] t
  pub some_turn : turns ≢ 0
  pub full : FindsFull n s.agent s.seen call.puts.part

-- a put that put its job at this position, and then helped the tail on
pub record PutMade (n : HeapNumbers) (job at turns : ℕ) (s t : Seat FifoNote) : Type 0 where
  pub call : IsCall (gives_of turns (Ok at)) turns s (Put s.agent job at ∷ []) t
  pub some_turn : turns ≢ 0
  pub low : at < 2 ^ 62
  pub room : HasPositions n call
  pub helps : EndsHelping call.own

-- a put, by its answer
abbrev pub PutAnswers : HeapNumbers → ℕ → ℕ → Seat FifoNote → Result ℕ QueueRefused → Seat FifoNote → Type 0
PutAnswers n job turns s (Ok at) t = PutMade n job at turns s t
PutAnswers n job turns s (Err Again) t = PutTired n turns s t
PutAnswers n job turns s (Err NoNode) t = PutLacking n turns s t
PutAnswers n job turns s (Err Positions) t = PutFull n turns s t

-- a take that answered: its entry is a Took, or Empty where the answer is None
pub record TakeMade (turns : ℕ) (got : Option (ℕ × ℕ)) (s t : Seat FifoNote) : Type 0 where
  pub call : IsCall 0 turns s (entry_of_dequeue s.agent got ∷ []) t
  pub some_turn : turns ≢ 0

-- a take, by its answer
abbrev pub TakeAnswers : ℕ → Seat FifoNote → Result (Option (ℕ × ℕ)) AgainFault → Seat FifoNote → Type 0
TakeAnswers turns s (Ok got) t = TakeMade turns got s t
TakeAnswers turns s (Err again) t = Tires 0 turns s t

-- what a turn of a put that stops before its last step enters
abbrev pub stop_entries : ℕ → ℕ → PutTurn → List QueueEntry
stop_entries agent job (PutDone at) = Put agent job at ∷ []
stop_entries agent job PutOver = []
stop_entries agent job Full = []

-- a piece of such a put: it moves root 1 nowhere
pub record StopsPiece (most : ℕ) (s : Seat FifoNote) (entries : List QueueEntry) (t : Seat FifoNote) : Type 0 where
  pub piece : Piece most s entries t
  pub keeps : KeepsTail piece.own

-- such a put, whole
pub record StopsShort (given : ℕ) (s : Seat FifoNote) (entries : List QueueEntry) (t : Seat FifoNote) : Type 0 where
  pub call : IsCall given 1 s entries t
  pub keeps : KeepsTail call.own

-- by its answer, where `Lacks` says that no row could be given
abbrev pub PutStops : ℕ → Type 0 → Seat FifoNote → Option ℕ → Seat FifoNote → Type 0
PutStops job Lacks s (Some at) t = StopsShort 1 s (Put s.agent job at ∷ []) t
PutStops job Lacks s None t = StopsShort 1 s [] t ⊎ (Lacks × StopsShort 0 s [] t)

-- if no other agent's event is new to the pass, and root 1 named the last node before, then no position is left behind that node
abbrev pub IsFullAlone : HeapNumbers → Seat FifoNote → Seat FifoNote → Type 0
IsFullAlone n s t = (part : List (Event FifoNote)) → t.seen ≡ s.seen ++ part → AllOwn s.agent part → (l : TailIsLast (heap_of n s))
    → 2 ^ 62 ≤ position_of (heap_of n s) l.last
