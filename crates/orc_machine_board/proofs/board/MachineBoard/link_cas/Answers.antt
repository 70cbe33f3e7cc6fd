use Rattle.std.proofs.Common.{refl}
use Rattle.orc_machine_board.proofs.Licences.{cas_licensed}
use Rattle.orc_machine_board.specs.Rules.{heap_numbers}
use Rattle.orc_machine_board.proofs.board.MachineBoard.link_cas.Goals as goal

pub step-requires-clause-licensed : goal.step-requires-clause-licensed
step-requires-clause-licensed g c =
    cas_licensed (g.D.Discipline.allows_plain (heap_numbers c.args.self.now.words.shape)) c.requires.belongs.keeps c.args.place c.args.from c.args.to c.args.note
    (record { may = c.requires.allowed; enrolled = refl; wanted = tt; plain = tt }) c.requires.licensed

pub returns-clause-makes : goal.returns-clause-makes
returns-clause-makes g c = c.step.ensures.makes
