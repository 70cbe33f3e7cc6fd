use Rattle.orc_projection.proofs.OneRow.{one_row, row_of_node, taken-append, taken_count}
use Rattle.orc_projection.proofs.laws.each_node_lies_in_one_row.Goals as goal

pub returns-clause-count : goal.returns-clause-count
returns-clause-count g c = taken_count

pub returns-clause-row : goal.returns-clause-row
returns-clause-row g c = row_of_node

pub returns-clause-grows : goal.returns-clause-grows
returns-clause-grows g c = taken-append

pub returns-clause-one : goal.returns-clause-one
returns-clause-one g c = one_row
