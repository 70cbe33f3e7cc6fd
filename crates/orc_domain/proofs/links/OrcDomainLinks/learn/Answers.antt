use Rattle.orc_domain.proofs.Learning.{first_later, grown_between, learns, second_later}
use Rattle.orc_domain.proofs.Ending.{between_of, pass_of, stage_of}
use Rattle.orc_domain.proofs.links.OrcDomainLinks.learn.Goals as goal

pub returns-clause-passes : goal.returns-clause-passes
returns-clause-passes g c =
    let one = c.requires.passes.0 in
    let two = c.requires.passes.1 in
    let e = c.learn.ensures in
    let s = stage_of one.board in
    let u = stage_of two.board in
    let t = stage_of e.into in
    let w = stage_of e.from in (
      pass_of e.into (grown_between s t e.learns.into (first_later s u t w e.learns) (between_of one)) one.inside,
      pass_of e.from (grown_between u w e.learns.from (second_later s u t w e.learns) (between_of two)) two.inside,
    )

pub returns-clause-learned : goal.returns-clause-learned
returns-clause-learned g c =
    let e = c.learn.ensures in
    learns (stage_of c.requires.passes.0.board) (stage_of c.requires.passes.1.board) (stage_of e.into) (stage_of e.from) e.learns
