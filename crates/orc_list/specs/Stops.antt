-- What a remove does that stops before its last step.
use Rattle.std.specs.Prelude.{Bool, List, MatchBool, [], false, if◌then◌else◌, length, true, ℕ, ◌∷◌, ◌≡◌, ◌≤◌}
use Rattle.orc_heap.specs.Heap.{HeapNumbers}
use Rattle.orc_heap.specs.Moves.{AllOwn, from_own, moves_in}
use Rattle.orc_heap.specs.OwnEvents.{Puts}
use Rattle.orc_heap.specs.Seats.{Seat}
use Rattle.orc_heap.specs.declared.events.Event.{Event}
use Rattle.orc_history.specs.declared.set.SetEntry.TheVariants.{Removed}
use Rattle.orc_chain_rule.specs.ChainDiscipline.{entries_of}
use Rattle.orc_chain_rule.specs.declared.chain.ChainNote.{ChainNote}
use Rattle.orc_list.specs.Inserts.{SeesAbsent}
use Rattle.orc_list.specs.Turns.{MarksAlone}

-- the pass holds what it held, and looked; a node was marked, by the only Move, or nothing moved. Then the Looks found the key absent, if no
-- other agent stepped
pub record MarkStops (n : HeapNumbers) (key : ℕ) (s : Seat ChainNote) (marked : Bool) (t : Seat ChainNote) : Type 0 where
  pub own : List (Event ChainNote)
  pub puts : Puts s own t
  pub slots : t.slots ≡ s.slots
  pub fresh : t.fresh ≡ s.fresh
  pub some : 1 ≤ length own
  pub entries_are : entries_of own ≡ (if marked then Removed s.agent key true ∷ [] else [])
  pub moves : MatchBool marked (MarksAlone key own) (moves_in own ≡ 0)
  pub absent : marked ≡ false → AllOwn s.agent (from_own s.agent puts.part) → SeesAbsent n key own t
