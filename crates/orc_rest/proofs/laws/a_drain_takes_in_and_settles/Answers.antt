use Rattle.orc_rest.proofs.Draining.{drained}
use Rattle.orc_rest.proofs.TakingIn.{made_between, take_slot, took_more, took_none}
use Rattle.orc_rest.proofs.laws.a_drain_takes_in_and_settles.Goals as goal

pub returns : goal.returns
returns c = record { allowed = take_slot; idle = made_between; end = took_none; takes = took_more; drains = drained }
