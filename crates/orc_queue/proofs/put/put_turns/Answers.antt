-- One turn after another, until one answers.
use Rattle.std.proofs.Common.{[], append-nil, arith, subst, ℕ, ◌≡◌}
use Rattle.orc_queue.specs.Turns.{PutTires}
use Rattle.orc_queue.proofs.PutTurns.{tires_next, tires_none, turns_done}
use Rattle.orc_queue.proofs.put.put_turns.Goals as goal
use Rattle.orc_heap.proofs.Pieces.{goes_on}

pub loop-init : goal.loop-init
loop-init g c = record { pass = c.requires.pass; later = ([], append-nil _); tires = tires_none _ _ _ _ c.requires.node }

pub loop-preserved : goal.loop-preserved
loop-preserved g c =
    let i = c.loop.invariant in
    let e = c.in-Over.ensures in
    record { pass = e.pass; later = goes_on _ _ _ i.later e.later; tires = tires_next _ _ _ _ _ _ _ i.tires e.put }

pub returns-in_default : goal.returns-in_default
returns-in_default g c =
    let i = c.loop.invariant in
    let e = c.put_turn.ensures in
    let done = turns_done _ _ _ c.args.turns _ _ _ _ c.put_turn.result c.in_default.not-Over (omega (arith, c.loop-test.true))
    i.tires e.put in
    record { pass = e.pass; later = goes_on _ _ _ i.later e.later; put = done }

pub returns-clause-put : goal.returns-clause-put
returns-clause-put g c =
    let d = c.args.links.now in
    let all : c.loop.counter ≡ c.args.turns = omega (arith, c.loop-test.false, c.loop.auto.counter-end) in
    subst (λ (k : ℕ). PutTires (g.L.Links.numbers d) c.args.job k c.args.node.now (g.L.Links.seat d c.args.p.now) (g.L.Links.seat d c.loop.p)) all
    c.loop.invariant.tires
