-- What the slots of a pass show, by the rows in them.
use Rattle.std.specs.Prelude.{◌≡◌, ℕ, ◌<◌, List, [], ◌∷◌, length, Option, Some, None, slice_get}
use Rattle.orc_words.specs.Bounds.{Bounds}
use Rattle.orc_words.specs.declared.place.Word.TheVariants as word
use Rattle.orc_heap.specs.Seats.{Seat}
use Rattle.orc_heap.specs.Slots.{SlotNode, Slots}
use Rattle.orc_plain_board.specs.Calls.{KnowsRow}
use Rattle.orc_any_domain.specs.Rows.{index_of}
use Rattle.orc_plain_board.specs.Machine.{id_by}
use Rattle.orc_plain_board.specs.Views.{PlainView}

-- a slot, with the node that lies in its row; `rows` are the rows of the nodes, in the order in which they were given
abbrev pub slot_by : List ℕ → Option ℕ → Option SlotNode
slot_by rows None = None
slot_by rows (Some row) = Some (record { row = row; id = index_of row rows })

abbrev pub slots_by : List ℕ → List (Option ℕ) → Slots
slots_by rows [] = []
slots_by rows (slot ∷ slots) = slot_by rows slot ∷ slots_by rows slots

-- what a pass shows, from what it shows to the board and the rows in its slots
abbrev pub seat_by : {N : Type 0} → PlainView N → List (Option ℕ) → Seat N
seat_by s slots = record { agent = s.agent; seen = s.events; slots = slots_by s.rows slots; fresh = id_by s.rows s.fresh }

-- what is true of a pass between calls, beside what its board knows: its agent knows the node of each row in a slot
pub record Keeps {N : Type 0} (b : Bounds) (s : PlainView N) (slots : List (Option ℕ)) (next : ℕ) : Type 0 where
  pub eight : length slots ≡ 8
  pub known : (slot row : ℕ) → slice_get slots slot ≡ Some (Some row) → KnowsRow b s row
  pub inside : next < b.rows
