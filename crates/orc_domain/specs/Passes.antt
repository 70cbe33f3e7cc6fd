-- The passes of a domain.
use Rattle.std.specs.Prelude.{List, Some, ℕ, ◌<◌, ◌≡◌}
use Rattle.orc_core.specs.declared.records.Agent.{Agent}
use Rattle.orc_heap.specs.Heap.{HeapNumbers}
use Rattle.orc_heap.specs.Journals.{run_heap}
use Rattle.orc_heap.specs.Seats.{IsUntouched, Seat}
use Rattle.orc_heap.specs.Seeds.{opening_events}
use Rattle.orc_heap.specs.declared.discipline.Discipline as discipline
use Rattle.orc_heap.specs.declared.events.Event.{Event}
use Rattle.orc_machine_board.specs.Views.{Belongs, board_bounds, board_numbers, board_seed, shows}
use Rattle.orc_machine_board.specs.declared.machine.MachineShape.{MachineShape}
use Rattle.orc_machine_board.specs.declared.machine.Reclaiming.{Reclaiming}
use Rattle.orc_machine_board.specs.declared.machine.Request.{Request}
use Rattle.orc_domain.specs.Seats.{IsBetweenCalls, seat_by}
use Rattle.orc_domain.specs.declared.domain.OrcDomain.{OrcDomain}
use Rattle.orc_domain.specs.declared.domain.OrcPass.{OrcPass}
use Rattle.orc_shared_words.specs.declared.machine.Machine as machine
use Rattle.orc_sound.specs.declared.steps.Step.{Step}
use Rattle.orc_words.specs.Bounds.{Bounds}

-- no Aim and no Move made a link to the fresh node
abbrev pub IsFreshUntouched : {N : Type 0} → HeapNumbers → Seat N → Type 0
IsFreshUntouched n s = (id : ℕ) → s.fresh ≡ Some id → IsUntouched s.agent (run_heap n s.seen) id

module _ {D N : Type 0} where
  -- the sizes of a domain, the numbers of its heap, and the events that it begins with
  abbrev pub domain_bounds : OrcDomain D N → Bounds
  domain_bounds d = board_bounds d.board

  abbrev pub domain_numbers : OrcDomain D N → HeapNumbers
  domain_numbers d = board_numbers d.board

  abbrev pub domain_opening : OrcDomain D N → List (Event N)
  domain_opening d = opening_events (board_seed d.board)

module _ {D N : Type 0} {d : discipline.Ghosts D N} {m : machine.Ghosts Reclaiming N (MachineShape N) Request (Step N) Agent Agent} where
  -- the steps that a pass has seen
  abbrev pub journal_of : OrcPass D N d m → List (Step N)
  journal_of p = (shows p.pass).journal

  -- what a pass shows
  abbrev pub seat_of : OrcDomain D N → OrcPass D N d m → Seat N
  seat_of domain p = seat_by (domain_bounds domain) (shows p.pass)

  -- the row with which the next search of a pass begins
  abbrev pub next_row : OrcPass D N d m → ℕ
  next_row p = p.next

  -- the pass is one of the domain's: nothing is pending in it, its fresh node is untouched, and it goes on from a row of the table
  pub record IsPassOf (domain : OrcDomain D N) (p : OrcPass D N d m) : Type 0 where
    pub board : Belongs domain.board p.pass
    pub ready : IsBetweenCalls (shows p.pass).record_is
    pub untouched : IsFreshUntouched (domain_numbers domain) (seat_of domain p)
    pub inside : p.next < (domain_bounds domain).rows
