-- A staged part is let go when its root is set back to null.
use Rattle.orc_cell.proofs.new_parts.let_go.Goals as goal

pub returns-in-Given-clause-gone : goal.returns-in-Given-clause-gone
returns-in-Given-clause-gone g c = rw c.in-Given.is assumption
