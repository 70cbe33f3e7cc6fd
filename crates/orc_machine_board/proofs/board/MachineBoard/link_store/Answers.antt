use Rattle.std.proofs.Common.{refl}
use Rattle.orc_machine_board.proofs.Licences.{store_licensed}
use Rattle.orc_machine_board.specs.Rules.{heap_numbers}
use Rattle.orc_machine_board.proofs.board.MachineBoard.link_store.Goals as goal

pub step-requires-clause-licensed : goal.step-requires-clause-licensed
step-requires-clause-licensed g c =
    store_licensed (g.D.Discipline.allows_plain (heap_numbers c.args.self.now.words.shape)) c.requires.belongs.keeps c.args.row c.args.number c.args.link
    (record { may = c.requires.allowed; enrolled = refl; wanted = tt; plain = c.requires.without_mark }) c.requires.licensed
