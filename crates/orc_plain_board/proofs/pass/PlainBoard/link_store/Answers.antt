use Rattle.std.proofs.Common.{◌∙◌}
use Rattle.orc_plain_board.proofs.LinkTells.{store_keeps, store_replaces}
use Rattle.orc_plain_board.proofs.Licences.{link_inside, store_licence}
use Rattle.orc_plain_board.proofs.pass.PlainBoard.link_store.Goals as goal

pub step-requires-clause-allowed : goal.step-requires-clause-allowed
step-requires-clause-allowed g c = (
  c.requires.row,
  c.requires.number,
  link_inside g.D.Discipline c.args.self.now.words.shape c.args.p.now.pass.seat.me.0 c.args.p.now.pass.agent c.args.p.now.fresh
      c.args.p.now.looked c.requires.belongs.keeps c.args.link c.requires.target,
)

pub step-requires-clause-licensed : goal.step-requires-clause-licensed
step-requires-clause-licensed g c =
    store_licence g.D.Discipline _ _ _ _ c.args.p.now.looked c.requires.belongs.keeps c.args.row c.args.number c.args.link c.requires.fresh
    c.requires.number c.requires.target c.requires.allowed

pub returns-clause-belongs : goal.returns-clause-belongs
returns-clause-belongs g c =
    record {
      table = c.step.ensures.table ∙ c.requires.belongs.table;
      keeps = store_keeps g.D.Discipline _ _ _ _ _ _ c.args.p.now.looked _
          c.args.p.now.looked c.requires.belongs.keeps c.step.ensures.agent c.args.row c.args.number _ c.args.link c.requires.fresh c.requires.other c.requires.target
          c.step.ensures.fresh c.step.ensures.step;
    }

pub returns-clause-replaces : goal.returns-clause-replaces
returns-clause-replaces g c =
    store_replaces g.D.Discipline _ _ _ _ _ _ c.args.p.now.looked _ c.step.new.p.looked c.requires.belongs.keeps c.step.ensures.agent c.args.row
    c.args.number _ c.args.link c.requires.fresh c.requires.number c.requires.target c.step.ensures.step
