-- The passes of a domain.
use Rattle.std.specs.Prelude.{◌≡◌, List, ℕ}
use Rattle.orc_words.specs.Bounds.{Bounds, bounds_of}
use Rattle.orc_heap.specs.Heap.{HeapNumbers}
use Rattle.orc_heap.specs.Seats.{Seat}
use Rattle.orc_heap.specs.Seeds.{opening_events}
use Rattle.orc_heap.specs.declared.discipline.Discipline as discipline
use Rattle.orc_heap.specs.declared.events.Event.{Event}
use Rattle.orc_shared_words.specs.declared.machine.Machine as machine
use Rattle.orc_plain_board.specs.Views.{Belongs, board_bounds, board_numbers, board_seed, shows, shows_by}
use Rattle.orc_plain_board.specs.declared.machine.Plain.{Plain}
use Rattle.orc_plain_board.specs.declared.machine.PlainOp.{PlainOp}
use Rattle.orc_plain_board.specs.declared.machine.PlainStep.{PlainStep}
use Rattle.orc_plain_board.specs.declared.shape.PlainShape.{PlainShape}
use Rattle.orc_plain_domain.specs.Rows.{Keeps, seat_by}
use Rattle.orc_plain_domain.specs.declared.domain.PlainDomain.{PlainDomain}
use Rattle.orc_plain_domain.specs.declared.domain.PlainPass.{PlainPass}

module _ {D N : Type 0} where
  -- the sizes of a domain, the numbers of its heap, and the events that it begins with
  abbrev pub domain_bounds : PlainDomain D N → Bounds
  domain_bounds d = board_bounds d.board

  abbrev pub domain_numbers : PlainDomain D N → HeapNumbers
  domain_numbers d = board_numbers d.board

  abbrev pub domain_opening : PlainDomain D N → List (Event N)
  domain_opening d = opening_events (board_seed d.board)

module _ {D N : Type 0} {d : discipline.Ghosts D N} {m : machine.Ghosts Plain N (PlainShape N) PlainOp (PlainStep N) (Unit {0}) (Unit {0})} where
  -- the events that a pass has seen
  abbrev pub journal_of : PlainPass D N (PlainShape N) PlainOp (PlainStep N) (Unit {0}) (Unit {0}) d m → List (Event N)
  journal_of p = (shows_by (bounds_of p.shape) p.pass).events

  -- what a pass shows
  abbrev pub seat_of : PlainDomain D N → PlainPass D N (PlainShape N) PlainOp (PlainStep N) (Unit {0}) (Unit {0}) d m → Seat N
  seat_of domain p = seat_by (shows domain.board p.pass) p.slots

  -- the row with which the next search of a pass begins
  abbrev pub next_row : PlainPass D N (PlainShape N) PlainOp (PlainStep N) (Unit {0}) (Unit {0}) d m → ℕ
  next_row p = p.next

  -- the rows that were given, in that order, by what a pass has seen
  abbrev pub rows_of : PlainDomain D N → PlainPass D N (PlainShape N) PlainOp (PlainStep N) (Unit {0}) (Unit {0}) d m → List ℕ
  rows_of domain p = (shows domain.board p.pass).rows

  -- the pass is one of the domain's
  pub record IsPassOf (domain : PlainDomain D N) (p : PlainPass D N (PlainShape N) PlainOp (PlainStep N) (Unit {0}) (Unit {0}) d m) : Type 0 where
    pub board : Belongs domain.board p.pass
    pub shape : bounds_of p.shape ≡ domain_bounds domain
    pub keeps : Keeps (domain_bounds domain) (shows domain.board p.pass) p.slots p.next
