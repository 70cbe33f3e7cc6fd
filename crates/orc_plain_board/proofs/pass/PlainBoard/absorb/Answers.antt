use Rattle.std.proofs.Common.{◌∙◌, refl}
use Rattle.orc_plain_board.proofs.Learning.{absorb_keeps, absorbs}
use Rattle.orc_plain_board.proofs.pass.PlainBoard.absorb.Goals as goal

pub returns-clause-into : goal.returns-clause-into
returns-clause-into g c = record {
  table = c.absorb.ensures.table ∙ (c.learn.ensures.table.0 ∙ c.requires.into.table);
  keeps = absorb_keeps g.D.Discipline _ c.requires.into.keeps c.requires.from.keeps
      c.learn.ensures.learned c.learn.ensures.agents.0 refl c.learn.ensures.agents.1 refl c.absorb.new.into.seat.me.0 c.absorb.new.into.agent _
      c.absorb.ensures.view c.absorb.ensures.agent refl;
}

pub returns-clause-absorbs : goal.returns-clause-absorbs
returns-clause-absorbs g c =
    absorbs g.D.Discipline _ c.requires.into.keeps c.requires.from.keeps c.learn.ensures.learned
    c.learn.ensures.agents.0 refl c.learn.ensures.agents.1 refl c.absorb.new.into.seat.me.0 c.absorb.new.into.agent _ c.args.into.now.looked
    c.args.from.looked c.args.into.now.looked c.absorb.ensures.view c.absorb.ensures.agent refl refl
