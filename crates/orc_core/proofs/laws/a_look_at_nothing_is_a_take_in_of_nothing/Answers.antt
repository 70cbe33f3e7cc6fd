use Rattle.orc_core.proofs.Saving.{look_allowed, looked, took_nothing}
use Rattle.orc_core.proofs.laws.a_look_at_nothing_is_a_take_in_of_nothing.Goals as goal

pub returns-clause-allowed : goal.returns-clause-allowed
returns-clause-allowed c = look_allowed

pub returns-clause-unchanged : goal.returns-clause-unchanged
returns-clause-unchanged c = looked

pub returns-clause-nothing : goal.returns-clause-nothing
returns-clause-nothing c = took_nothing
