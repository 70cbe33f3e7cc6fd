use Rattle.std.proofs.Common.{◌∙◌}
use Rattle.orc_plain_board.proofs.Tells.{read_adds, read_keeps, read_value}
use Rattle.orc_plain_board.proofs.Licences.{row_inside}
use Rattle.orc_plain_board.proofs.pass.PlainBoard.read.Goals as goal

pub step-requires-clause-allowed : goal.step-requires-clause-allowed
step-requires-clause-allowed g c =
    (row_inside g.D.Discipline _ _ _ _ c.args.p.now.looked c.requires.belongs.keeps c.args.row c.requires.row, c.requires.which)

pub returns-clause-belongs : goal.returns-clause-belongs
returns-clause-belongs g c =
    record {
      table = c.step.ensures.table ∙ c.requires.belongs.table;
      keeps = read_keeps g.D.Discipline _ _ _ _ _ _ c.args.p.now.looked _
          c.args.p.now.looked c.requires.belongs.keeps c.step.ensures.agent c.args.row c.args.which _ c.step.ensures.fresh c.step.ensures.step;
    }

pub returns-clause-value : goal.returns-clause-value
returns-clause-value g c =
    read_value g.D.Discipline _ _ _ _ _ _ c.args.p.now.looked c.step.new.p.fresh c.step.new.p.looked c.requires.belongs.keeps c.step.ensures.agent
    c.args.row c.args.which _ c.requires.row c.step.ensures.step

pub returns-clause-adds : goal.returns-clause-adds
returns-clause-adds g c =
    read_adds g.D.Discipline _ _ _ _ _ _ c.args.p.now.looked _ _ c.requires.belongs.keeps c.step.ensures.agent c.args.row c.args.which _ c.step.ensures.step
