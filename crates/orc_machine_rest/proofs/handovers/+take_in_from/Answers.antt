use Rattle.std.proofs.Common.{arith, subst, sym}
use Rattle.orc_machine_rest.proofs.Taking.{below_eight, taken_more, takes_more, takes_none}
use Rattle.orc_machine_rest.specs.Drains.{TakesInFrom}
use Rattle.orc_machine_board.specs.Views.{board_bounds, shows}
use Rattle.orc_machine_rest.proofs.handovers.+take_in_from.Goals as goal

pub returns-then-k-eq8-clause-takes : goal.returns-then-k-eq8-clause-takes
returns-then-k-eq8-clause-takes g t c =
    let b = board_bounds c.args.board.now in
    subst (λ k. TakesInFrom b c.args.agent k (shows c.args.p.now) (shows c.args.p.now)) (sym c.if-k-eq8.true)
    (takes_none b c.args.agent (shows c.args.p.now) c.requires.pass.reached)

pub returns-clause-takes : goal.returns-clause-takes
returns-clause-takes g t c =
    takes_more (board_bounds c.args.board.now) c.args.agent c.args.k (shows c.args.p.now) (shows c.take_in.new.p) (shows c.take_in_from.new.p)
    c.requires.pass.reached c.requires.pass.low c.requires.between (below_eight c.args.k c.requires.slot c.if-k-eq8.false)
    c.take_in.ensures.takes c.take_in_from.ensures.takes

pub returns-then-k-eq8-clause-taken_in : goal.returns-then-k-eq8-clause-taken_in
returns-then-k-eq8-clause-taken_in g t c slot from low = let end = c.if-k-eq8.true in absurd (omega (arith, end, from, low))

pub returns-clause-taken_in : goal.returns-clause-taken_in
returns-clause-taken_in g t c =
    let one = c.take_in.ensures.takes.adds in
    let rest = c.take_in_from.ensures.takes.adds in
    taken_more c.args.agent c.args.k (shows c.args.p.now).journal (shows c.take_in.new.p).journal (shows c.take_in_from.new.p).journal
    c.take_in.ensures.taken_in (one.part, sym one.journal) (rest.part, sym rest.journal) c.take_in_from.ensures.taken_in

pub returns-then-k-eq8-clause-few : goal.returns-then-k-eq8-clause-few
returns-then-k-eq8-clause-few g t c = omega arith

pub returns-clause-few : goal.returns-clause-few
returns-clause-few g t c =
    let one = c.take_in.ensures.few in
    let rest = c.take_in_from.ensures.few in
    let low = below_eight c.args.k c.requires.slot c.if-k-eq8.false in
    omega (arith, one, rest, low)
