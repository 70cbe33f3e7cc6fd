use Rattle.std.proofs.Common.{sym, subst, ◌∙◌}
use Rattle.orc_plain_board.specs.Calls.{KnowsPlace}
use Rattle.orc_plain_board.specs.Views.{shows}
use Rattle.orc_plain_domain.specs.Passes.{domain_bounds}
use Rattle.orc_plain_domain.proofs.Equal.{links_agree, links_differ}
use Rattle.orc_plain_domain.proofs.Looking.{LoadsFirst, LoadsWord, known_again, later_first, later_last, looks_held, looks_moved, looks_null, still_looked}
use Rattle.orc_plain_domain.proofs.Naming.{place_known}
use Rattle.orc_plain_domain.proofs.links.PlainDomainLinks.look.Given.{Over}
use Rattle.orc_plain_domain.proofs.links.PlainDomainLinks.look.Goals.{After-load-one, After-load-two}
use Rattle.orc_plain_domain.proofs.links.PlainDomainLinks.look.Goals as goal

first : (g : Over) (c : After-load-one g) → LoadsFirst c.args.self.now c.args.p.now c.load-one.new.p c.args.place.now c.word_at-word.result c.load-one.result
first g c = record {
  before = c.requires.pass;
  there = c.requires.place;
  word_is = c.word_at-word.ensures;
  load = record { after = c.load-one.ensures.pass; same = c.load-one.ensures.same; loads = c.load-one.ensures.loaded };
}

again : (g : Over) (c : After-load-two g) → LoadsWord c.args.self.now c.load-one.new.p c.load-two.new.p c.word_at-word.result c.load-two.result
again g c = record { after = c.load-two.ensures.pass; same = c.load-two.ensures.same; loads = c.load-two.ensures.loaded }

pub load-one-requires-clause-place : goal.load-one-requires-clause-place
load-one-requires-clause-place g c =
    subst (λ w. KnowsPlace (domain_bounds c.args.self.now) (shows c.args.self.now.board c.args.p.now.pass) w) (sym c.word_at-word.ensures)
    (place_known c.args.self.now c.args.p.now c.requires.pass c.args.place.now c.requires.place)

pub returns-in_default-clause-looked : goal.returns-in_default-clause-looked
returns-in_default-clause-looked g c = looks_null (first g (goal.at.returns-in_default-clause-looked g c).After-load-one) c.args.slot c.in_default.is

pub load-two-requires-clause-place : goal.load-two-requires-clause-place
load-two-requires-clause-place g c = known_again (first g (goal.at.load-two-requires-clause-place g c).After-load-one)

pub returns-then-ne-clause-looked : goal.returns-then-ne-clause-looked
returns-then-ne-clause-looked g c =
    let at = goal.at.returns-then-ne-clause-looked g c in
    looks_moved (first g at.After-load-one) (again g at.After-load-two) c.args.slot c.in-Some.row c.in-Some.is
    (links_differ c.load-two.result c.load-one.result c.ne.result c.ne.ensures c.if-ne.true)

pub returns-clause-pass : goal.returns-clause-pass
returns-clause-pass g c =
    let at = goal.at.returns-clause-pass g c in
    still_looked (first g at.After-load-one) (again g at.After-load-two) c.args.slot c.in-Some.row c.in-Some.is
    (links_agree c.load-two.result c.load-one.result c.ne.result c.ne.ensures c.if-ne.false)

pub returns-clause-looked : goal.returns-clause-looked
returns-clause-looked g c =
    let at = goal.at.returns-clause-looked g c in
    looks_held (first g at.After-load-one) (again g at.After-load-two) c.args.slot c.in-Some.row c.in-Some.is
    (links_agree c.load-two.result c.load-one.result c.ne.result c.ne.ensures c.if-ne.false) c.new.result c.new.ensures

pub load-one-requires-clause-pass : goal.load-one-requires-clause-pass
load-one-requires-clause-pass g c = c.requires.pass

pub load-two-requires-clause-pass : goal.load-two-requires-clause-pass
load-two-requires-clause-pass g c = c.load-one.ensures.pass

pub returns-in_default-clause-pass : goal.returns-in_default-clause-pass
returns-in_default-clause-pass g c = c.load-one.ensures.pass

pub returns-in_default-clause-later : goal.returns-in_default-clause-later
returns-in_default-clause-later g c = later_first (first g (goal.at.returns-in_default-clause-later g c).After-load-one)

pub returns-in_default-clause-next : goal.returns-in_default-clause-next
returns-in_default-clause-next g c = c.load-one.ensures.same.next

pub returns-then-ne-clause-pass : goal.returns-then-ne-clause-pass
returns-then-ne-clause-pass g c = c.load-two.ensures.pass

pub returns-then-ne-clause-later : goal.returns-then-ne-clause-later
returns-then-ne-clause-later g c =
    let at = goal.at.returns-then-ne-clause-later g c in
    later_last (first g at.After-load-one) (again g at.After-load-two)

pub returns-then-ne-clause-next : goal.returns-then-ne-clause-next
returns-then-ne-clause-next g c = c.load-two.ensures.same.next ∙ c.load-one.ensures.same.next

pub returns-clause-later : goal.returns-clause-later
returns-clause-later g c =
    let at = goal.at.returns-clause-later g c in
    later_last (first g at.After-load-one) (again g at.After-load-two)

pub returns-clause-next : goal.returns-clause-next
returns-clause-next g c = c.load-two.ensures.same.next ∙ c.load-one.ensures.same.next
