use Rattle.std.proofs.Common.{◌∙◌, refl, sym, ap, subst, arith}
use Rattle.orc_any_domain.proofs.Rows.{some_one}
use Rattle.orc_plain_board.specs.Calls.{KnowsTarget, MayWhereShown, look_event}
use Rattle.orc_plain_board.specs.Views.{shows}
use Rattle.orc_words.specs.declared.packed.RowLink.{RowLink}
use Rattle.orc_plain_domain.specs.Passes.{domain_bounds, domain_numbers}
use Rattle.orc_plain_domain.proofs.Naming.{want_low}
use Rattle.orc_plain_domain.proofs.OneStep.{knows_link, knows_place, may_look, still_tested, tests}
use Rattle.orc_plain_domain.proofs.links.PlainDomainLinks.same.Goals as goal

pub link_load-found-requires-clause-place : goal.link_load-found-requires-clause-place
link_load-found-requires-clause-place g c =
    knows_place c.args.self.now c.args.p.now c.requires.pass c.args.p.now.pass c.requires.pass.board c.args.place.now c.word_at.result
    c.requires.place c.word_at.ensures c.args.link.now c.row_link-want.result c.requires.link c.row_link-want.ensures

pub link_load-found-requires-clause-want : goal.link_load-found-requires-clause-want
link_load-found-requires-clause-want g c link is =
    subst (λ l. KnowsTarget (domain_bounds c.args.self.now) (shows c.args.self.now.board c.args.p.now.pass) l) (some_one _ link is)
    (knows_link c.args.self.now c.args.p.now c.requires.pass c.args.p.now.pass c.requires.pass.board c.args.place.now c.word_at.result
    c.requires.place c.word_at.ensures c.args.link.now c.row_link-want.result c.requires.link c.row_link-want.ensures)

pub link_load-found-requires-clause-allowed : goal.link_load-found-requires-clause-allowed
link_load-found-requires-clause-allowed g c link said is noted =
    let s = shows c.args.self.now.board c.args.p.now.pass in
    subst (λ l. MayWhereShown (g.D.Discipline.may (domain_numbers c.args.self.now)) (domain_bounds c.args.self.now) s c.word_at.result l
    (look_event s c.word_at.result l c.args.note)) (some_one c.row_link-want.result link is)
    (may_look c.args.self.now c.args.p.now c.requires.pass c.args.p.now.pass c.requires.pass.board c.args.place.now c.word_at.result c.requires.place
    c.word_at.ensures c.args.link.now c.row_link-want.result c.requires.link c.row_link-want.ensures c.args.note c.requires.allowed)

pub pack_link-requires : goal.pack_link-requires
pack_link-requires g c row is =
    let few = c.args.self.now.board.words.shape.shape.few_rows in
    let low = want_low c.args.self.now c.args.p.now c.requires.pass c.args.link.now c.requires.link row
    (ap (λ (l : RowLink). l.to) (sym c.row_link-want.ensures) ∙ is) in
    omega (arith, few, low)

pub returns-clause-pass : goal.returns-clause-pass
returns-clause-pass g c =
    let l = c.row_link-want.result in
    still_tested c.args.self.now c.args.p.now c.requires.pass c.link_load-found.new.p c.link_load-found.ensures.belongs c.args.place.now
    c.word_at.result c.requires.place c.word_at.ensures c.args.link.now l c.requires.link c.row_link-want.ensures
    c.args.note c.link_load-found.result c.pack_link.result c.pack_link.ensures.word (c.link_load-found.ensures.meets l refl)
    (c.link_load-found.ensures.misses l refl) c.link_load-found.ensures.fresh

pub returns-clause-tested : goal.returns-clause-tested
returns-clause-tested g c =
    let l = c.row_link-want.result in
    tests c.args.self.now c.args.p.now c.requires.pass c.link_load-found.new.p c.link_load-found.ensures.belongs c.args.place.now c.word_at.result
    c.requires.place c.word_at.ensures c.args.link.now l c.requires.link c.row_link-want.ensures
    c.args.note c.link_load-found.result c.pack_link.result c.pack_link.ensures.word (c.link_load-found.ensures.meets l refl)
    (c.link_load-found.ensures.misses l refl) c.link_load-found.ensures.fresh
