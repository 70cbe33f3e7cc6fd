use Rattle.std.proofs.Common.{◌∙◌, refl}
use Rattle.orc_plain_board.proofs.Learning.{from_keeps, into_keeps, learns}
use Rattle.orc_plain_board.proofs.pass.PlainBoard.learn.Goals as goal

pub returns-clause-into : goal.returns-clause-into
returns-clause-into g c = record {
  table = c.learn.ensures.table.0 ∙ c.requires.into.table;
  keeps = into_keeps g.D.Discipline _ c.requires.into.keeps c.requires.from.keeps c.learn.ensures.learned c.learn.ensures.agents.0 refl c.learn.ensures.agents.1 refl;
}

pub returns-clause-from : goal.returns-clause-from
returns-clause-from g c = record {
  table = c.learn.ensures.table.1 ∙ c.requires.from.table;
  keeps = from_keeps g.D.Discipline _ c.requires.into.keeps c.requires.from.keeps c.learn.ensures.learned c.learn.ensures.agents.0 refl c.learn.ensures.agents.1 refl;
}

pub returns-clause-learns : goal.returns-clause-learns
returns-clause-learns g c =
    learns g.D.Discipline _ c.requires.into.keeps c.requires.from.keeps c.learn.ensures.learned
    c.learn.ensures.agents.0 refl c.learn.ensures.agents.1 refl c.args.into.now.looked c.args.from.now.looked c.args.into.now.looked
    c.args.from.now.looked refl refl
