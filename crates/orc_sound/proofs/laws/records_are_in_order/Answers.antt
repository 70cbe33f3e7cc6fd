use Rattle.orc_sound.proofs.ForRuns.{due_alone, hand_within}
use Rattle.orc_sound.proofs.laws.records_are_in_order.Goals as goal

pub returns-clause-hand : goal.returns-clause-hand
returns-clause-hand c = hand_within

pub returns-clause-due : goal.returns-clause-due
returns-clause-due c = due_alone
