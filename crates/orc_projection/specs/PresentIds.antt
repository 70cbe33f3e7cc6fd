-- Rows read as nodes of a heap that is never reused. A row is a new node each time that it is taken.
use Rattle.std.specs.Option.{option_map}
use Rattle.std.specs.Prelude.{None, Option, Some, if◌then◌else◌, ℕ, ◌+◌, ◌==◌}
use Rattle.orc_heap.specs.declared.events.Link.{Link}
use Rattle.orc_heap.specs.declared.events.Place.{Place}
use Rattle.orc_heap.specs.declared.events.Place.TheVariants.{Next as NodePlace, Root as RootPlace, Side as SidePlace}
use Rattle.orc_words.specs.declared.packed.RowLink.{RowLink}
use Rattle.orc_words.specs.declared.place.Word.{Word}
use Rattle.orc_words.specs.declared.place.Word.TheVariants.{Next, Root, Side}

-- how many nodes were given, and the present node of each row: the id of the row's last taking, counted in order
pub record PresentIds : Type 0 where
  pub given : ℕ
  pub node : ℕ → ℕ

-- no row was taken yet
abbrev pub no_ids : PresentIds
no_ids = record { given = 0; node = λ r. 0 }

-- the row is taken: it is the next node
abbrev pub with_taken : ℕ → PresentIds → PresentIds
with_taken r p = record { given = p.given + 1; node = λ q. if q == r then p.given else p.node q }

-- a link to a row, read as the link to its node
abbrev pub node_link : PresentIds → RowLink → Link
node_link p l = record { to = option_map p.node l.to; mark = l.mark }

-- the place of a link word in the heap; other words have none
abbrev pub node_place : PresentIds → Word → Option Place
node_place p (Root i) = Some (RootPlace i)
node_place p (Next r) = Some (NodePlace (p.node r))
node_place p (Side r) = Some (SidePlace (p.node r))
node_place p word = None
