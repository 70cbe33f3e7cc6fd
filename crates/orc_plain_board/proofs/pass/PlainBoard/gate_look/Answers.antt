use Rattle.std.proofs.Common.{◌∙◌}
use Rattle.orc_plain_board.proofs.Tells.{look_adds, look_gate, look_keeps}
use Rattle.orc_plain_board.proofs.pass.PlainBoard.gate_look.Goals as goal

pub returns-clause-belongs : goal.returns-clause-belongs
returns-clause-belongs g c =
    record {
      table = c.step-gate.ensures.table ∙ c.requires.belongs.table;
      keeps = look_keeps g.D.Discipline _ _ _ _ _ _ c.args.p.now.looked _
          c.args.p.now.looked c.requires.belongs.keeps c.step-gate.ensures.agent c.args.row _ c.step-gate.ensures.fresh c.step-gate.ensures.step;
    }

pub returns-clause-gate : goal.returns-clause-gate
returns-clause-gate g c =
    look_gate g.D.Discipline _ _ _ _ _ _ c.args.p.now.looked c.step-gate.new.p.fresh c.args.p.now.looked c.requires.belongs.keeps
    c.step-gate.ensures.agent c.args.row _ c.requires.row c.step-gate.ensures.step

pub returns-clause-adds : goal.returns-clause-adds
returns-clause-adds g c =
    look_adds g.D.Discipline _ _ _ _ _ _ c.args.p.now.looked _ _ c.requires.belongs.keeps c.step-gate.ensures.agent c.args.row _ c.step-gate.ensures.step
