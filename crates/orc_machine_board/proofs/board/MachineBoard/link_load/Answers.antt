use Rattle.std.proofs.Common.{refl}
use Rattle.orc_machine_board.proofs.Licences.{load_licensed}
use Rattle.orc_machine_board.specs.Rules.{heap_numbers}
use Rattle.orc_machine_board.proofs.board.MachineBoard.link_load.Goals as goal

pub step-requires-clause-licensed : goal.step-requires-clause-licensed
step-requires-clause-licensed g c =
    load_licensed (g.D.Discipline.allows_plain (heap_numbers c.args.self.now.words.shape)) c.requires.belongs.keeps c.args.place c.args.slot c.args.want c.args.note
    (record { may = c.requires.allowed; enrolled = refl; wanted = c.requires.wanted; plain = tt }) c.requires.noted c.requires.licensed
