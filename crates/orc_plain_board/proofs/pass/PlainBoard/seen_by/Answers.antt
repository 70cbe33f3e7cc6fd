use Rattle.orc_plain_board.proofs.Known.{below, fresh_row, lawful, opened, ties}
use Rattle.orc_plain_board.proofs.pass.PlainBoard.seen_by.Goals as goal

pub returns-clause-lawful : goal.returns-clause-lawful
returns-clause-lawful g c = lawful g.D.Discipline _ _ _ _ c.args.p.now.looked c.requires.belongs.keeps

pub returns-clause-opened : goal.returns-clause-opened
returns-clause-opened g c = opened g.D.Discipline _ _ _ _ c.args.p.now.looked c.requires.belongs.keeps

pub returns-clause-below : goal.returns-clause-below
returns-clause-below g c = below g.D.Discipline _ _ _ _ c.args.p.now.looked c.requires.belongs.keeps

pub returns-clause-even : goal.returns-clause-even
returns-clause-even g c = (ties g.D.Discipline _ _ _ _ c.args.p.now.looked c.requires.belongs.keeps).even

pub returns-clause-once : goal.returns-clause-once
returns-clause-once g c = (ties g.D.Discipline _ _ _ _ c.args.p.now.looked c.requires.belongs.keeps).once

pub returns-clause-inside : goal.returns-clause-inside
returns-clause-inside g c = (ties g.D.Discipline _ _ _ _ c.args.p.now.looked c.requires.belongs.keeps).inside

pub returns-clause-fresh : goal.returns-clause-fresh
returns-clause-fresh g c = fresh_row g.D.Discipline _ _ _ _ c.args.p.now.looked c.requires.belongs.keeps

pub returns-clause-agent : goal.returns-clause-agent
returns-clause-agent g c = c.requires.belongs.keeps.number
