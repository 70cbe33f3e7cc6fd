-- A pass that has settled takes its place among those that can go on.
use Rattle.std.proofs.Common.{rules}
use Rattle.std.proofs.lemmas.List.Elements.{All-set}
use Rattle.orc_any_domain.specs.Domains.{IsIdlePass}
use Rattle.uses.proofs.crew.backlog_when_settled.Goals as goal

pub loop-place-preserved : goal.loop-place-preserved
loop-place-preserved g c = (
  All-set (IsIdlePass g.L.Links c.args.links.now) c.loop-place.passes c.loop-place.place c.settle_one.new.p
      c.settle_one.ensures c.loop-place.invariant.0,
  search rules,
)
