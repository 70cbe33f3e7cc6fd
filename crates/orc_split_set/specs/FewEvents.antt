-- How few events the searches of a call make. After Harris 2001, and Shalev and Shavit 2006.
use Rattle.std.specs.Prelude.{List, length, ℕ, ◌*◌, ◌+◌, ◌≡◌, ◌≤◌}
use Rattle.orc_heap.specs.Seats.{Seat}
use Rattle.orc_heap.specs.declared.events.Event.{Event}
use Rattle.orc_ordered_search.specs.Turns.{made_from}
use Rattle.orc_ordered_search.specs.Ways.{CoversLooks}
use Rattle.orc_split_rule.specs.declared.split.SplitNote.{SplitNote}

-- of the events there are at most two for each node at whose link one of them looked, and `each`, in each of so many searches; and so many
-- more in all
abbrev pub AreFewBySearch : ℕ → ℕ → ℕ → List (Event SplitNote) → Type 0
AreFewBySearch each searches more es = (ids : List ℕ) → CoversLooks ids es → length es ≤ searches * (2 * length ids + each) + more

-- such are the events that a pass made from one seat of its agent to another
abbrev pub MadeFewBySearch : ℕ → ℕ → ℕ → Seat SplitNote → Seat SplitNote → Type 0
MadeFewBySearch each searches more s t = (t.agent ≡ s.agent) × AreFewBySearch each searches more (made_from s t)
