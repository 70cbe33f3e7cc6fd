-- The loads before a turn's search are part of the turn.
use Rattle.std.proofs.Common.{Bool, List, None, Option, Some, ◌≡◌}
use Rattle.orc_heap.specs.Seats.{Seat}
use Rattle.orc_heap.specs.declared.events.Event.{Event}
use Rattle.orc_history.specs.declared.set.SetEntry.{SetEntry}
use Rattle.orc_ordered_search.specs.Reading.{Reading}
use Rattle.orc_ordered_search.specs.Searches.{Quiet}
use Rattle.orc_ordered_search.specs.Turns.{AnswersTurn}
use Rattle.orc_ordered_search.proofs.Preceding.{answers_after, tires_after}

pub turn_after : {N : Type 0} (r : Reading N) (entry : Bool → SetEntry) (s t u : Seat N) (own : List (Event N)) → Quiet r s own t → t.slots ≡ s.slots
    → (result : Option Bool) → AnswersTurn r entry t result u → AnswersTurn r entry s result u
turn_after r entry s t u own q same None w = tires_after r s t u own q same w
turn_after r entry s t u own q same (Some answer) a = answers_after r s t u own q (entry answer) same a
