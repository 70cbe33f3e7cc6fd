-- No row is marked at first, so the marks are those of the roots and of the rows that are out.
use Rattle.std.proofs.Common.{false, refl}
use Rattle.std.proofs.lemmas.List.{get_or-replicate}
use Rattle.orc_core.proofs.counting.marked_targets.Goals as goal

pub returns : goal.returns
returns c r h = rw (c.mark_rows.ensures r h, c.mark_roots.ensures r h, get_or-replicate 65535 r false false h) refl
