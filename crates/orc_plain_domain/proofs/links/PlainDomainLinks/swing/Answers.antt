use Rattle.std.proofs.Common.{rules}
use Rattle.orc_plain_domain.proofs.OneStep.{knows_link, knows_place, knows_target, may_move, swung}
use Rattle.orc_plain_domain.proofs.links.PlainDomainLinks.swing.Goals as goal

pub link_cas-moved-requires-clause-place : goal.link_cas-moved-requires-clause-place
link_cas-moved-requires-clause-place g c =
    knows_place c.args.self.now c.args.p.now c.requires.pass c.args.p.now.pass c.requires.pass.board c.args.place.now c.word_at.result
    c.requires.place c.word_at.ensures c.args.from.now c.row_link.result c.requires.links.0 c.row_link.ensures

pub link_cas-moved-requires-clause-from : goal.link_cas-moved-requires-clause-from
link_cas-moved-requires-clause-from g c =
    knows_link c.args.self.now c.args.p.now c.requires.pass c.args.p.now.pass c.requires.pass.board c.args.place.now c.word_at.result c.requires.place
    c.word_at.ensures c.args.from.now c.row_link.result c.requires.links.0 c.row_link.ensures

pub link_cas-moved-requires-clause-to : goal.link_cas-moved-requires-clause-to
link_cas-moved-requires-clause-to g c =
    knows_target c.args.self.now c.args.p.now c.requires.pass c.args.p.now.pass c.requires.pass.board c.args.place.now c.word_at.result
    c.requires.place c.word_at.ensures c.args.from.now c.row_link.result c.requires.links.0 c.row_link.ensures
    c.args.to.now c.row_link-2.result c.requires.links.1 c.row_link-2.ensures

pub link_cas-moved-requires-clause-allowed : goal.link_cas-moved-requires-clause-allowed
link_cas-moved-requires-clause-allowed g c =
    may_move c.args.self.now c.args.p.now c.requires.pass c.args.p.now.pass c.requires.pass.board c.args.place.now c.word_at.result c.requires.place
    c.word_at.ensures c.args.from.now c.row_link.result c.requires.links.0 c.row_link.ensures
    c.args.to.now c.row_link-2.result c.requires.links.1 c.row_link-2.ensures c.args.note c.requires.allowed

pub returns : goal.returns
returns g c =
    let moved = c.link_cas-moved.ensures in
    let both = swung c.args.self.now c.args.p.now c.requires.pass c.link_cas-moved.new.p moved.belongs c.args.place.now c.word_at.result
    c.requires.place c.word_at.ensures c.args.from.now c.row_link.result c.requires.links.0 c.row_link.ensures
    c.args.to.now c.row_link-2.result c.requires.links.1 c.row_link-2.ensures c.args.note c.link_cas-moved.result moved.answer
    moved.moves moved.linked moved.fails in
    search rules
