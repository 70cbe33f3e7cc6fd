use Rattle.std.proofs.Common.{◌∙◌}
use Rattle.orc_plain_board.proofs.LinkTells.{any_finds, any_keeps, any_meets, any_misses}
use Rattle.orc_plain_board.proofs.Licences.{load_licence, place_inside}
use Rattle.orc_plain_board.proofs.pass.PlainBoard.link_load.Goals as goal

pub step-requires-clause-allowed : goal.step-requires-clause-allowed
step-requires-clause-allowed g c =
    place_inside g.D.Discipline _ _ _ _ c.args.p.now.looked c.requires.belongs.keeps c.args.place c.requires.place

pub step-requires-clause-licensed : goal.step-requires-clause-licensed
step-requires-clause-licensed g c =
    load_licence g.D.Discipline _ _ _ _ c.args.p.now.looked c.requires.belongs.keeps c.args.place c.args.want c.args.«note» c.requires.place
    c.requires.want c.requires.noted c.requires.allowed

pub returns-clause-belongs : goal.returns-clause-belongs
returns-clause-belongs g c =
    record {
      table = c.step.ensures.table ∙ c.requires.belongs.table;
      keeps = any_keeps g.D.Discipline _ _ _ _ _ _ c.args.p.now.looked _
          c.args.p.now.looked c.requires.belongs.keeps c.step.ensures.agent c.args.place c.args.want c.args.«note» _ c.step.ensures.fresh c.step.ensures.step;
    }

pub returns-clause-finds : goal.returns-clause-finds
returns-clause-finds g c =
    λ is. any_finds g.D.Discipline _ _ _ _ _ _ c.args.p.now.looked _ c.step.new.p.looked c.requires.belongs.keeps c.step.ensures.agent c.args.place
    c.args.want c.args.«note» _ c.requires.place is c.step.ensures.step

pub returns-clause-meets : goal.returns-clause-meets
returns-clause-meets g c =
    λ link is hits. any_meets g.D.Discipline _ _ _ _ _ _ c.args.p.now.looked _ c.step.new.p.looked c.requires.belongs.keeps c.step.ensures.agent
    c.args.place c.args.want link c.args.«note» _ c.requires.place c.requires.want is hits c.step.ensures.step

pub returns-clause-misses : goal.returns-clause-misses
returns-clause-misses g c =
    λ link is other. any_misses g.D.Discipline _ _ _ _ _ _ c.args.p.now.looked _ c.step.new.p.looked c.requires.belongs.keeps c.step.ensures.agent
    c.args.place c.args.want link c.args.«note» _ c.requires.place c.requires.want is other c.step.ensures.step
