-- The numbers of a first line, as those of a shape.
use Rattle.orc_words.specs.Bounds.{Bounds}
use Rattle.orc_trace_text.specs.declared.shape_line.Asked.{Asked}

abbrev pub bounds_asked : Asked → Bounds
bounds_asked a = record { rows = a.rows; roots = a.roots; agents = a.agents; limit = a.limit; links = a.links }
