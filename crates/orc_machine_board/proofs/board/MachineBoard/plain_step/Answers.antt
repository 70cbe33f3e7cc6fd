use Rattle.orc_words.specs.Bounds.{bounds_of}
use Rattle.orc_machine_board.proofs.Events.{plain_allowed, plain_licensed}
use Rattle.orc_machine_board.specs.Rules.{heap_numbers}
use Rattle.orc_machine_board.proofs.board.MachineBoard.plain_step.Goals as goal

pub step-requires-clause-licensed : goal.step-requires-clause-licensed
step-requires-clause-licensed g c =
    let k = c.args.self.now.words.shape in
    let p = c.args.p.now.pass in
    let v = p.seat.me.0 in
    let rest = plain_allowed (bounds_of k.shape) p.agent c.args.op c.args.want v.own c.requires.plain c.requires.wanted in
    plain_licensed k (g.D.Discipline.holds (heap_numbers k)) (g.D.Discipline.may (heap_numbers k)) (g.D.Discipline.allows_plain (heap_numbers k)) v p.agent
    (record { op = c.args.op; want = c.args.want }) c.requires.plain
    (record { may = c.requires.allowed; enrolled = rest.1; wanted = c.requires.wanted; plain = rest.0 })
