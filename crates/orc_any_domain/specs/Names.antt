-- How a domain names what a caller names: by rows.
use Rattle.std.specs.Borrow.{Bor}
use Rattle.std.specs.Prelude.{false, None, Option, Some}
use Rattle.orc_words.specs.declared.packed.RowLink.{RowLink}
use Rattle.orc_words.specs.declared.place.Word.{Word}
use Rattle.orc_words.specs.declared.place.Word.TheVariants as word
use Rattle.orc_heap.specs.Slots.{Hold}
use Rattle.orc_heap.specs.declared.holds.At.{At}
use Rattle.orc_heap.specs.declared.holds.At.TheVariants.{Node as AtNode, Root as AtRoot, Side as AtSide}
use Rattle.orc_heap.specs.declared.holds.Want.{Want}
use Rattle.orc_heap.specs.declared.holds.Want.TheVariants.{Node as WantNode, Null as WantNull}

-- the word of a place that a caller names
abbrev pub word_at : At → Word
word_at (AtRoot r) = word.Root r
word_at (AtNode h) = word.Next h.now.row
word_at (AtSide h) = word.Side h.now.row

-- the link that a caller names, by its row
abbrev pub row_link : Want → RowLink
row_link (WantNull mark) = record { to = None; mark = mark }
row_link (WantNode h mark) = record { to = Some h.now.row; mark = mark }

-- an unmarked link to what a caller names, by its row
abbrev pub target_link : Option (Bor Hold) → RowLink
target_link None = record { to = None; mark = false }
target_link (Some h) = record { to = Some h.now.row; mark = false }
