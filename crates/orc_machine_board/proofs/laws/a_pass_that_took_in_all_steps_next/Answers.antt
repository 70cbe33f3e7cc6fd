use Rattle.orc_machine_board.proofs.Making.{steps_next}
use Rattle.orc_machine_board.proofs.laws.a_pass_that_took_in_all_steps_next.Goals as goal

pub returns : goal.returns
returns g c = steps_next
