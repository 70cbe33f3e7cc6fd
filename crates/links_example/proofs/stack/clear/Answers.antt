-- The root, which the agent alone changes, still leads to what was on top.
use Rattle.orc_heap.proofs.ByAnswer.{Swings-fresh, Swings-missed, Swings-moved}
use Rattle.links_example.proofs.Swings.{clears, no_miss}
use Rattle.links_example.proofs.stack.clear.Goals as goal

pub unreachable-requires : goal.unreachable-requires
unreachable-requires g c =
    let d = c.args.links.now in
    let e = c.in-Ok-false.ensures in
    no_miss (g.L.Links.numbers d) _ _ c.agent-agent.result _ c.agent-agent.ensures (g.met.L.Links.allowed d c.swing.new.p e.pass) c.requires.top
    (Swings-missed e.swung c.in-Ok-false.field-0-test)

pub returns-clause-cleared : goal.returns-clause-cleared
returns-clause-cleared g c =
    let d = c.args.links.now in
    let e = c.in-Ok-true.ensures in
    clears (g.L.Links.numbers d) _ _ c.agent-agent.result _ _ c.agent-agent.ensures (g.met.L.Links.allowed d c.swing.new.p e.pass) e.swung.slots
    (Swings-fresh e.swung c.in-Ok-true.field-0-test) (Swings-moved e.swung c.in-Ok-true.field-0-test)
