-- The agents that work are the first ones.
use Rattle.std.proofs.Common.{◌∙◌}
use Rattle.orc_stress.proofs.Staying.{parts_all}
use Rattle.stress.proofs.runs.drive_to_rest.Goals as goal

pub returns : goal.returns
returns g c = record {
  calls = c.in_ok-passes.ensures.calls ∙ parts_all _ _ c.args.plan.now c.args.passes.items c.requires.ready c.requires.enough;
}
