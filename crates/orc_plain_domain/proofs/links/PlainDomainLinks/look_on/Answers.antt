use Rattle.std.proofs.Common.{sym, subst, ◌∙◌}
use Rattle.orc_plain_board.specs.Calls.{KnowsPlace}
use Rattle.orc_plain_board.specs.Views.{shows}
use Rattle.orc_plain_domain.specs.Passes.{domain_bounds}
use Rattle.orc_plain_domain.proofs.Equal.{links_agree, links_differ}
use Rattle.orc_plain_domain.proofs.Looking.{LoadsFirst, LoadsWord, known_again, later_first, later_last, moves_held, moves_off, stays_held, stays_moved, stays_null, still_looked, still_off}
use Rattle.orc_plain_domain.proofs.Naming.{place_known}
use Rattle.orc_plain_domain.proofs.Releasing.{slot_below}
use Rattle.orc_plain_domain.proofs.links.PlainDomainLinks.look_on.Given.{Over}
use Rattle.orc_plain_domain.proofs.links.PlainDomainLinks.look_on.Goals.{After-load-one, After-load-again}
use Rattle.orc_plain_domain.proofs.links.PlainDomainLinks.look_on.Goals as goal

first : (g : Over) (c : After-load-one g) → LoadsFirst c.args.self.now c.args.p.now c.load-one.new.p c.args.place.now c.word_at-word.result c.load-one.result
first g c = record {
  before = c.requires.pass;
  there = c.requires.place;
  word_is = c.word_at-word.ensures;
  load = record { after = c.load-one.ensures.pass; same = c.load-one.ensures.same; loads = c.load-one.ensures.loaded };
}

again : (g : Over) (c : After-load-again g) → LoadsWord c.args.self.now c.load-one.new.p c.load-again.new.p c.word_at-word.result c.load-again.result
again g c = record { after = c.load-again.ensures.pass; same = c.load-again.ensures.same; loads = c.load-again.ensures.loaded }

pub load-one-requires-clause-place : goal.load-one-requires-clause-place
load-one-requires-clause-place g c =
    subst (λ w. KnowsPlace (domain_bounds c.args.self.now) (shows c.args.self.now.board c.args.p.now.pass) w) (sym c.word_at-word.ensures)
    (place_known c.args.self.now c.args.p.now c.requires.pass c.args.place.now c.requires.place)

pub returns-in_default-clause-looked : goal.returns-in_default-clause-looked
returns-in_default-clause-looked g c = stays_null (first g (goal.at.returns-in_default-clause-looked g c).After-load-one) c.args.slot c.args.from c.in_default.is

pub load-again-requires-clause-place : goal.load-again-requires-clause-place
load-again-requires-clause-place g c = known_again (first g (goal.at.load-again-requires-clause-place g c).After-load-one)

pub returns-then-ne-clause-looked : goal.returns-then-ne-clause-looked
returns-then-ne-clause-looked g c =
    let at = goal.at.returns-then-ne-clause-looked g c in
    stays_moved (first g at.After-load-one) (again g at.After-load-again) c.args.slot c.in-Some.row c.args.from c.in-Some.is
    (links_differ c.load-again.result c.load-one.result c.ne.result c.ne.ensures c.if-ne.true) c.if-mark.true

pub returns-then-mark-clause-pass : goal.returns-then-mark-clause-pass
returns-then-mark-clause-pass g c =
    let at = goal.at.returns-then-mark-clause-pass g c in
    still_looked (first g at.After-load-one) (again g at.After-load-again) c.args.slot c.in-Some.row c.in-Some.is
    (links_agree c.load-again.result c.load-one.result c.ne.result c.ne.ensures c.if-ne.false)

pub returns-then-mark-clause-looked : goal.returns-then-mark-clause-looked
returns-then-mark-clause-looked g c =
    let at = goal.at.returns-then-mark-clause-looked g c in
    stays_held (first g at.After-load-one) (again g at.After-load-again) c.args.slot c.in-Some.row c.in-Some.is
    (links_agree c.load-again.result c.load-one.result c.ne.result c.ne.ensures c.if-ne.false)
    c.new-held.result c.args.from c.new-held.ensures c.if-mark.true

pub bounds-p-freed : goal.bounds-p-freed
bounds-p-freed g c =
    slot_below c.args.self.now c.args.p.now c.load-one.new.p c.requires.pass c.load-one.ensures.pass c.load-one.ensures.same c.args.from c.requires.from
    c.slot-freed.result c.slot-freed.ensures

pub bounds-p-freed-2 : goal.bounds-p-freed-2
bounds-p-freed-2 g c =
    slot_below c.args.self.now c.args.p.now c.load-one.new.p c.requires.pass c.load-one.ensures.pass c.load-one.ensures.same c.args.from c.requires.from
    c.slot-freed.result c.slot-freed.ensures

pub returns-then-ne-2-clause-pass : goal.returns-then-ne-2-clause-pass
returns-then-ne-2-clause-pass g c =
    let at = goal.at.returns-then-ne-2-clause-pass g c in
    still_off (first g at.After-load-one) (again g at.After-load-again) c.slot-freed.result

pub returns-then-ne-2-clause-looked : goal.returns-then-ne-2-clause-looked
returns-then-ne-2-clause-looked g c =
    let at = goal.at.returns-then-ne-2-clause-looked g c in
    moves_off (first g at.After-load-one) (again g at.After-load-again) c.args.slot c.in-Some.row c.slot-freed.result c.args.from c.slot-freed.ensures c.in-Some.is
    (links_differ c.load-again.result c.load-one.result c.ne-2.result c.ne-2.ensures c.if-ne-2.true) c.if-mark.false

pub returns-clause-pass : goal.returns-clause-pass
returns-clause-pass g c =
    let at = goal.at.returns-clause-pass g c in
    still_looked (first g at.After-load-one) (again g at.After-load-again) c.slot-freed.result c.in-Some.row c.in-Some.is
    (links_agree c.load-again.result c.load-one.result c.ne-2.result c.ne-2.ensures c.if-ne-2.false)

pub returns-clause-looked : goal.returns-clause-looked
returns-clause-looked g c =
    let at = goal.at.returns-clause-looked g c in
    moves_held (first g at.After-load-one) (again g at.After-load-again) c.slot-freed.result c.in-Some.row c.in-Some.is
    (links_agree c.load-again.result c.load-one.result c.ne-2.result c.ne-2.ensures c.if-ne-2.false)
    c.args.slot c.new.result c.args.from c.slot-freed.ensures c.new.ensures c.if-mark.false

pub load-one-requires-clause-pass : goal.load-one-requires-clause-pass
load-one-requires-clause-pass g c = c.requires.pass

pub load-again-requires-clause-pass : goal.load-again-requires-clause-pass
load-again-requires-clause-pass g c = c.load-one.ensures.pass

pub returns-in_default-clause-pass : goal.returns-in_default-clause-pass
returns-in_default-clause-pass g c = c.load-one.ensures.pass

pub returns-in_default-clause-later : goal.returns-in_default-clause-later
returns-in_default-clause-later g c = later_first (first g (goal.at.returns-in_default-clause-later g c).After-load-one)

pub returns-in_default-clause-next : goal.returns-in_default-clause-next
returns-in_default-clause-next g c = c.load-one.ensures.same.next

pub returns-then-ne-clause-pass : goal.returns-then-ne-clause-pass
returns-then-ne-clause-pass g c = c.load-again.ensures.pass

pub returns-then-ne-clause-later : goal.returns-then-ne-clause-later
returns-then-ne-clause-later g c =
    let at = goal.at.returns-then-ne-clause-later g c in
    later_last (first g at.After-load-one) (again g at.After-load-again)

pub returns-then-ne-clause-next : goal.returns-then-ne-clause-next
returns-then-ne-clause-next g c = c.load-again.ensures.same.next ∙ c.load-one.ensures.same.next

pub returns-then-mark-clause-later : goal.returns-then-mark-clause-later
returns-then-mark-clause-later g c =
    let at = goal.at.returns-then-mark-clause-later g c in
    later_last (first g at.After-load-one) (again g at.After-load-again)

pub returns-then-mark-clause-next : goal.returns-then-mark-clause-next
returns-then-mark-clause-next g c = c.load-again.ensures.same.next ∙ c.load-one.ensures.same.next

pub returns-then-ne-2-clause-later : goal.returns-then-ne-2-clause-later
returns-then-ne-2-clause-later g c =
    let at = goal.at.returns-then-ne-2-clause-later g c in
    later_last (first g at.After-load-one) (again g at.After-load-again)

pub returns-then-ne-2-clause-next : goal.returns-then-ne-2-clause-next
returns-then-ne-2-clause-next g c = c.load-again.ensures.same.next ∙ c.load-one.ensures.same.next

pub returns-clause-later : goal.returns-clause-later
returns-clause-later g c =
    let at = goal.at.returns-clause-later g c in
    later_last (first g at.After-load-one) (again g at.After-load-again)

pub returns-clause-next : goal.returns-clause-next
returns-clause-next g c = c.load-again.ensures.same.next ∙ c.load-one.ensures.same.next
