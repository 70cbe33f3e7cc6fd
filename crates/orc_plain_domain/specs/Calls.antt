-- What the parts of calls do to what a pass shows.
use Rattle.std.specs.Prelude.{◌≡◌, ℕ, ◌≤◌, List, [], ◌∷◌, Option, Some, None, length, slice_get, slice_set}
use Rattle.orc_words.specs.Bounds.{Bounds}
use Rattle.orc_words.specs.declared.packed.RowLink.{RowLink}
use Rattle.orc_heap.specs.Acts.{IsTarget}
use Rattle.orc_heap.specs.Calls.{given_node}
use Rattle.orc_heap.specs.Heap.{HeapNumbers, new_node}
use Rattle.orc_heap.specs.Journals.{event_by, run_heap}
use Rattle.orc_heap.specs.OwnEvents.{Puts}
use Rattle.orc_heap.specs.Seats.{Seat}
use Rattle.orc_heap.specs.declared.discipline.Discipline as discipline
use Rattle.orc_heap.specs.declared.events.Act.TheVariants.{Fill, Give, Look}
use Rattle.orc_heap.specs.declared.events.Event.{Event}
use Rattle.orc_heap.specs.declared.events.Place.{Place}
use mathlib.Core.List.{IsPrefix}
use Rattle.orc_shared_words.specs.declared.machine.Machine as machine
use Rattle.orc_plain_board.specs.Calls.{AddsOwn, unless_linked}
use Rattle.orc_any_domain.specs.Rows.{IsListed, index_of}
use Rattle.orc_plain_board.specs.Machine.{id_by, link_by}
use Rattle.orc_plain_board.specs.Views.{PlainView, heap_of}
use Rattle.orc_plain_board.specs.declared.machine.Plain.{Plain}
use Rattle.orc_plain_board.specs.declared.machine.PlainOp.{PlainOp}
use Rattle.orc_plain_board.specs.declared.machine.PlainStep.{PlainStep}
use Rattle.orc_plain_board.specs.declared.shape.PlainShape.{PlainShape}
use Rattle.orc_plain_domain.specs.Rows.{seat_by}
use Rattle.orc_plain_domain.specs.declared.domain.PlainPass.{PlainPass}

-- nothing but the board's pass has changed
pub record IsSame {D N : Type 0} {d : discipline.Ghosts D N} {m : machine.Ghosts Plain N (PlainShape N) PlainOp (PlainStep N) (Unit {0}) (Unit {0})}
    (p q : PlainPass D N (PlainShape N) PlainOp (PlainStep N) (Unit {0}) (Unit {0}) d m) : Type 0 where
  pub slots : q.slots ≡ p.slots
  pub next : q.next ≡ p.next
  pub shape : q.shape ≡ p.shape

module _ {N : Type 0} where
  -- the row was given: it is the fresh row, and its node is new
  pub record GivesFreshRow (b : Bounds) (row : ℕ) (slots : List (Option ℕ)) (s t : PlainView N) : Type 0 where
    pub fresh : t.fresh ≡ Some row
    pub rows : IsPrefix s.rows t.rows
    pub new : length (heap_of b s).nodes ≤ index_of row t.rows
    pub puts : Puts (seat_by s slots) (event_by s.agent Give None ∷ []) (seat_by t slots)
    pub node : slice_get (heap_of b t).nodes (index_of row t.rows) ≡ Some (new_node s.agent)

  -- the row was given before
  pub record Loses (row : ℕ) (slots : List (Option ℕ)) (s t : PlainView N) : Type 0 where
    pub fresh : t.fresh ≡ s.fresh
    pub rows : IsPrefix s.rows t.rows
    pub puts : Puts (seat_by s slots) [] (seat_by t slots)
    pub out : IsListed t.rows row

  -- both values of the fresh row were filled, and the row is held in the slot
  pub record Furnishes (n : HeapNumbers) (row id slot first second : ℕ) (s t : Seat N) : Type 0 where
    pub fresh : t.fresh ≡ s.fresh
    pub slots : t.slots ≡ slice_set s.slots slot (Some (record { row = row; id = id }))
    pub puts : Puts s (event_by s.agent (Fill id 0 first) None ∷ event_by s.agent (Fill id 1 second) None ∷ []) t
    pub node : slice_get (run_heap n t.seen).nodes id ≡ Some (given_node s.agent first second)

  -- the link was found at the place, and the agent knows its target from then on
  pub record Loads (may : List (Event N) → Event N → Type 0) (b : Bounds) (place : Place) (link : RowLink) (s t : PlainView N) : Type 0 where
    pub fresh : t.fresh ≡ s.fresh
    pub adds : AddsOwn may (event_by s.agent (Look place (link_by t.rows link)) None ∷ []) s t
    pub known : IsTarget s.agent (heap_of b t) (id_by t.rows link.to)

  -- the row isn't the fresh row any more
  pub record Retires (row : ℕ) (s t : PlainView N) : Type 0 where
    pub same : t ≡ record s { fresh = t.fresh }
    pub fresh : t.fresh ≡ unless_linked s.fresh (Some row)
