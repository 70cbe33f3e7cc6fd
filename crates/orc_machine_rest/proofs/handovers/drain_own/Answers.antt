use Rattle.std.proofs.Common.{arith, sym}
use Rattle.orc_machine_rest.proofs.Taking.{drains, taken_more}
use Rattle.orc_machine_rest.proofs.TakenIn.{taken_then}
use Rattle.orc_machine_board.specs.Views.{board_bounds, shows}
use Rattle.orc_machine_rest.proofs.handovers.drain_own.Goals as goal

pub returns-clause-drains : goal.returns-clause-drains
returns-clause-drains g c =
    drains (board_bounds c.args.board.now) c.args.agent (shows c.args.p.now) (shows c.take_in.new.p) (shows c.take_in_from.new.p) (shows c.settle_all.new.p)
    c.requires.pass.reached c.requires.pass.low c.take_in.ensures.takes c.take_in_from.ensures.takes c.settle_all.ensures.settles

pub returns-clause-takes_all : goal.returns-clause-takes_all
returns-clause-takes_all g c slot low =
    let one = c.take_in.ensures.takes.adds in
    let others = c.take_in_from.ensures.takes.adds in
    let settles = c.settle_all.ensures.settles.adds in
    taken_then c.args.agent slot (shows c.args.p.now).journal (shows c.take_in_from.new.p).journal (shows c.settle_all.new.p).journal
    (taken_more c.args.agent 0 (shows c.args.p.now).journal (shows c.take_in.new.p).journal (shows c.take_in_from.new.p).journal
    c.take_in.ensures.taken_in (one.part, sym one.journal) (others.part, sym others.journal) c.take_in_from.ensures.taken_in slot (omega arith) low)
    (settles.part, sym settles.journal)

pub returns-clause-few : goal.returns-clause-few
returns-clause-few g c =
    let one = c.take_in.ensures.few in
    let others = c.take_in_from.ensures.few in
    let rest = c.settle_all.ensures.few in
    omega (arith, one, others, rest)
