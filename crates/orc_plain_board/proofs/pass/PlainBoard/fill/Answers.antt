use Rattle.std.proofs.Common.{◌∙◌}
use Rattle.orc_plain_board.proofs.Tells.{fill_adds, fill_keeps}
use Rattle.orc_plain_board.proofs.Licences.{fill_licence}
use Rattle.orc_plain_board.proofs.pass.PlainBoard.fill.Goals as goal

pub step-requires-clause-licensed : goal.step-requires-clause-licensed
step-requires-clause-licensed g c =
    fill_licence g.D.Discipline _ _ _ _ c.args.p.now.looked c.requires.belongs.keeps c.args.row c.args.which c.args.value c.requires.fresh c.requires.which

pub returns-clause-belongs : goal.returns-clause-belongs
returns-clause-belongs g c =
    record {
      table = c.step.ensures.table ∙ c.requires.belongs.table;
      keeps = fill_keeps g.D.Discipline _ _ _ _ _ _ c.args.p.now.looked _
          c.args.p.now.looked c.requires.belongs.keeps c.step.ensures.agent c.args.row c.args.which c.args.value _ c.step.ensures.fresh c.step.ensures.step;
    }

pub returns-clause-adds : goal.returns-clause-adds
returns-clause-adds g c =
    fill_adds g.D.Discipline _ _ _ _ _ _ c.args.p.now.looked _ _ c.requires.belongs.keeps c.step.ensures.agent c.args.row c.args.which c.args.value _
    c.requires.fresh c.step.ensures.step
