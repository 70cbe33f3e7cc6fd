use Rattle.std.proofs.Common.{◌∙◌, refl, None, Some}
use Rattle.orc_plain_board.proofs.Tells.{lost_keeps, take_gives, take_keeps, take_loses}
use Rattle.orc_plain_board.proofs.pass.PlainBoard.gate_take.Goals as goal

pub returns-then-gate-eq0-clause-belongs : goal.returns-then-gate-eq0-clause-belongs
returns-then-gate-eq0-clause-belongs g c =
    record {
      table = c.step-gate.ensures.table ∙ c.requires.belongs.table;
      keeps = take_keeps g.D.Discipline _ _ _ _ _ _ c.args.p.now.looked
          (Some c.args.row) None c.requires.belongs.keeps c.step-gate.ensures.agent c.args.row _ c.if-gate-eq0.true c.requires.row refl
          c.step-gate.ensures.step;
    }

pub returns-then-gate-eq0-clause-won : goal.returns-then-gate-eq0-clause-won
returns-then-gate-eq0-clause-won g c =
    λ _. take_gives g.D.Discipline _ _ _ _ _ _ c.args.p.now.looked (Some c.args.row) None c.requires.belongs.keeps c.step-gate.ensures.agent c.args.row
    _ c.if-gate-eq0.true c.requires.row refl c.step-gate.ensures.step

pub returns-clause-belongs : goal.returns-clause-belongs
returns-clause-belongs g c =
    record {
      table = c.step-gate.ensures.table ∙ c.requires.belongs.table;
      keeps = lost_keeps g.D.Discipline _ _ _ _ _ _ c.args.p.now.looked _
          c.args.p.now.looked c.requires.belongs.keeps c.step-gate.ensures.agent c.args.row _ c.if-gate-eq0.false c.step-gate.ensures.fresh
          c.step-gate.ensures.step;
    }

pub returns-clause-lost : goal.returns-clause-lost
returns-clause-lost g c =
    λ _. take_loses g.D.Discipline _ _ _ _ _ _ c.args.p.now.looked _ None c.requires.belongs.keeps c.step-gate.ensures.agent c.args.row _
    c.if-gate-eq0.false c.requires.row c.step-gate.ensures.fresh c.step-gate.ensures.step
