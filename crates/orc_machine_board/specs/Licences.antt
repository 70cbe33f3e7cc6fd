-- What the discipline must allow of a step that changes a link, or of a load with a note: the event, by the present ids of the
-- rows that the agent has, in every later journal of the pass.
use Rattle.std.specs.Option.{option_map}
use Rattle.std.specs.Prelude.{List, None, Option, Some, ℕ, ◌≡◌}
use Rattle.orc_heap.specs.Acts.{aim_act}
use Rattle.orc_heap.specs.Allowed.{AllowedLater, AllowedWhereFits}
use Rattle.orc_heap.specs.Journals.{event_by}
use Rattle.orc_heap.specs.declared.events.Act.TheVariants.{Look, Move}
use Rattle.orc_heap.specs.declared.events.Event.{Event}
use Rattle.orc_heap.specs.declared.events.Place.{Place}
use Rattle.orc_projection.specs.Mirror.{numbers_of}
use Rattle.orc_projection.specs.PresentIds.{PresentIds, node_link, node_place}
use Rattle.orc_projection.specs.Projection.{present_ids, project}
use Rattle.orc_machine_board.specs.Views.{MachineView}
use Rattle.orc_words.specs.Bounds.{Bounds}
use Rattle.orc_words.specs.declared.packed.RowLink.{RowLink}
use Rattle.orc_words.specs.declared.place.Word.{Word}

module _ {N : Type 0} where
  -- the present ids of the rows, after what the pass has seen
  abbrev pub ids_of : Bounds → MachineView N → PresentIds
  ids_of b s = present_ids b s.journal

  -- the events of what the pass has seen
  abbrev pub events_seen : Bounds → MachineView N → List (Event N)
  events_seen b s = project b s.journal

  module _ (may : List (Event N) → Event N → Type 0) (b : Bounds) (s : MachineView N) where
    -- a Move of the place
    abbrev pub MoveAllowed : Word → RowLink → RowLink → Option N → Type 0
    MoveAllowed place from to note = (at : Place) → node_place (ids_of b s) place ≡ Some at
        → AllowedLater may (numbers_of b) s.agent (events_seen b s) at (node_link (ids_of b s) from)
        (event_by s.agent (Move at (node_link (ids_of b s) from) (node_link (ids_of b s) to)) note)

    -- a noted Look at the place
    abbrev pub LookAllowed : Word → RowLink → Option N → Type 0
    LookAllowed place link note = (at : Place) → node_place (ids_of b s) place ≡ Some at
        → AllowedLater may (numbers_of b) s.agent (events_seen b s) at (node_link (ids_of b s) link)
        (event_by s.agent (Look at (node_link (ids_of b s) link)) note)

    -- an Aim of the fresh row's node for link number 0, and an AimSide for number 1
    abbrev pub AimAllowed : ℕ → ℕ → Option ℕ → Type 0
    AimAllowed row number to = AllowedWhereFits may (numbers_of b) s.agent (events_seen b s)
        (event_by s.agent (aim_act number ((ids_of b s).node row) (option_map (ids_of b s).node to)) None)
