-- One turn after another, until one answers.
use Rattle.std.proofs.Common.{[], append-nil, arith, subst, ℕ, ◌≡◌}
use Rattle.orc_queue.specs.Turns.{AreOver, TailIsPast}
use Rattle.orc_queue.proofs.PutTurns.{over_next, over_none}
use Rattle.orc_queue.proofs.TakeTurns.{turns_taken}
use Rattle.orc_queue.proofs.take.take_turns.Goals as goal
use Rattle.orc_heap.proofs.Pieces.{goes_on}

pub loop-init : goal.loop-init
loop-init g c =
    record { pass = c.requires.pass; later = ([], append-nil _); over = over_none _ TailIsPast _ }

pub loop-preserved : goal.loop-preserved
loop-preserved g c =
    let i = c.loop.invariant in
    let e = c.in-Over.ensures in
    record { pass = e.pass; later = goes_on _ _ _ i.later e.later; over = over_next _ _ _ _ _ _ i.over e.took }

pub returns-in_default : goal.returns-in_default
returns-in_default g c =
    let i = c.loop.invariant in
    let e = c.take_turn.ensures in
    let taken = turns_taken _ _ c.args.turns _ _ _ c.take_turn.result c.in_default.not-Over
    (omega (arith, c.loop-test.true)) i.over e.took in
    record { pass = e.pass; later = goes_on _ _ _ i.later e.later; took = taken }

pub returns-clause-took : goal.returns-clause-took
returns-clause-took g c =
    let d = c.args.links.now in
    let all : c.loop.counter ≡ c.args.turns = omega (arith, c.loop-test.false, c.loop.auto.counter-end) in
    subst (λ (k : ℕ). AreOver (g.L.Links.numbers d) TailIsPast k (g.L.Links.seat d c.args.p.now) (g.L.Links.seat d c.loop.p)) all c.loop.invariant.over
