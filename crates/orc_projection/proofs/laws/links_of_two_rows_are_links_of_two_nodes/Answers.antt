use Rattle.orc_projection.proofs.OneRow.{row_links_out, root_links_out, two_links}
use Rattle.orc_projection.proofs.laws.links_of_two_rows_are_links_of_two_nodes.Goals as goal

pub returns-clause-root : goal.returns-clause-root
returns-clause-root g c = root_links_out

pub returns-clause-row : goal.returns-clause-row
returns-clause-row g c = row_links_out

pub returns-clause-two : goal.returns-clause-two
returns-clause-two g c = two_links
