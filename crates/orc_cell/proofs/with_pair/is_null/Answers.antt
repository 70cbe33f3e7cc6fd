-- A Look of null, or another link.
use Rattle.std.proofs.Common.{arith}
use Rattle.orc_heap.proofs.ByAnswer.{Tests-missed}
use Rattle.orc_heap.specs.Heap.{null}
use Rattle.orc_heap.specs.declared.events.Act.TheVariants.{Look}
use Rattle.orc_heap.specs.declared.events.Place.TheVariants.{Root}
use Rattle.orc_pairs_rule.proofs.Coming.{unnoted_later}
use Rattle.orc_cell.proofs.Answering.{null_missed, published_tests, tests_only, tests_puts}
use Rattle.orc_heap.proofs.Parting.{part_begun_seats}
use Rattle.orc_cell.proofs.Counting.{tested_few}
use Rattle.orc_cell.proofs.with_pair.is_null.Goals as goal

pub same-requires-clause-place : goal.same-requires-clause-place
same-requires-clause-place g c = omega (arith, c.requires.made.roots)

pub same-requires-clause-allowed : goal.same-requires-clause-allowed
same-requires-clause-allowed g c =
    let s = g.L.Links.seat _ c.args.p.now in
    λ more later at. unnoted_later _ s.agent (Look (Root 0) null) s.seen tt more later at

pub returns-clause-only : goal.returns-clause-only
returns-clause-only g c = tests_only _ _ _ _ c.same.result c.same.ensures.tested

pub returns-clause-published : goal.returns-clause-published
returns-clause-published g c =
    let e = c.same.ensures in
    λ is. null_missed _ _ _ (record { holds = g.met.L.Links.obeys _ _ c.requires.pass; all = g.met.L.Links.allowed _ _ c.requires.pass })
    (g.met.L.Links.allowed _ _ e.pass) (Tests-missed e.tested is)

pub returns-clause-was_published : goal.returns-clause-was_published
returns-clause-was_published g c =
    let e = c.same.ensures in
    λ was. published_tests _ _ _ c.same.result (g.met.L.Links.allowed _ _ e.pass) e.tested was

pub returns-clause-begun : goal.returns-clause-begun
returns-clause-begun g c =
    let e = c.same.ensures in
    let w = tests_puts _ _ _ _ c.same.result e.tested in
    part_begun_seats g.L.Links.agent_of _ (g.met.L.Links.steps_add _) _ _
    _ _ w.0 w.1 e.later (g.met.L.Links.seen_is _ _ c.requires.pass) (g.met.L.Links.seen_is _ _ e.pass) w.2

pub returns-clause-tries : goal.returns-clause-tries
returns-clause-tries g c = tested_few c.same.ensures.tested
