use Rattle.std.proofs.Common.{ap, arith, refl, subst, sym, ◌∙◌, ◌%◌, ◌+◌, ◌<◌, ◌≡◌}
use Rattle.std.proofs.Math.Nat.{mod-lt}
use Rattle.orc_domain.proofs.Giving.{Gave, Took, first_can, gave, publish_can, second_can}
use Rattle.orc_domain.proofs.Rounds.{next_grows, tries_all, tries_then}
use Rattle.orc_domain.proofs.Ending.{between_of, ends_later, pass_of, stage_of}
use Rattle.orc_domain.proofs.Swinging.{read_between}
use Rattle.orc_domain.proofs.TakingIn.{takes_free}
use Rattle.orc_any_domain.specs.Turns.{IsNext}
use Rattle.orc_heap.specs.Slots.{Hold}
use Rattle.orc_machine_board.specs.Views.{shows}
use Rattle.orc_domain.specs.Passes.{domain_bounds}
use Rattle.orc_domain.specs.Searches.{Found}
use Rattle.orc_words.specs.Bounds.{Bounds}
use Rattle.orc_domain.proofs.links.OrcDomainLinks.give.Given.{Over}
use Rattle.orc_domain.proofs.links.OrcDomainLinks.give.Goals.{After-publish, In-Some}
use Rattle.orc_domain.proofs.links.OrcDomainLinks.give.Goals as goal

-- a row was taken
taken : (g : Over) (c : In-Some g) → Took (stage_of c.requires.pass.board) (stage_of c.search.ensures.belongs) c.in-Some.row
taken g c =
    let got = c.in-Some.ensures.found c.in-Some.row refl in
    record { low = got.0; got = got.1; between = between_of c.requires.pass }

-- its node is given
given : (g : Over) (c : After-publish g)
    → Gave (stage_of c.requires.pass.board) (stage_of c.search.ensures.belongs) c.in-Some.row c.args.slot c.args.first c.args.second
    (stage_of c.publish.ensures.belongs)
given g c =
    let got = c.in-Some.ensures.found c.in-Some.row refl in
    gave (stage_of c.requires.pass.board) (stage_of c.search.ensures.belongs) c.in-Some.row
    (record { low = got.0; got = got.1; between = between_of c.requires.pass })
    (stage_of c.fill.ensures.belongs) c.args.first c.fill.result c.fill.ensures.made
    (stage_of c.fill-2.ensures.belongs) c.args.second c.fill-2.result c.fill-2.ensures.made
    c.args.slot c.requires.slot (stage_of c.publish.ensures.belongs) c.publish.result c.publish.ensures.made

-- no row could be given
pub returns-in_default-clause-lacking : goal.returns-in_default-clause-lacking
returns-in_default-clause-lacking g c =
    tries_all c.args.p.now.next (stage_of c.requires.pass.board) (stage_of c.take_in_free.ensures.belongs) c.requires.pass.inside
    (tries_then _ _ _ _ _ _ _ (c.search.ensures.tried c.in_default.is) c.take_in_free.ensures.idle)

pub returns-in_default-clause-leaves : goal.returns-in_default-clause-leaves
returns-in_default-clause-leaves g c =
    (tries_then _ _ _ _ _ _ _ (c.search.ensures.tried c.in_default.is) c.take_in_free.ensures.idle).idle.leaves

pub returns-in_default-clause-taken_in : goal.returns-in_default-clause-taken_in
returns-in_default-clause-taken_in g c =
    takes_free (stage_of c.requires.pass.board) (stage_of c.search.ensures.belongs) (stage_of c.take_in_free.ensures.belongs) c.requires.pass.ready
    (c.search.ensures.tried c.in_default.is).idle c.take_in_free.ensures.taken_in

pub fill-requires-clause-allowed : goal.fill-requires-clause-allowed
fill-requires-clause-allowed g c =
    first_can (stage_of c.requires.pass.board) (stage_of c.search.ensures.belongs) c.in-Some.row (taken g (goal.at.fill-requires-clause-allowed g c).In-Some) c.args.first

pub fill-requires-2-clause-allowed : goal.fill-requires-2-clause-allowed
fill-requires-2-clause-allowed g c =
    second_can (stage_of c.requires.pass.board) (stage_of c.search.ensures.belongs) c.in-Some.row (taken g (goal.at.fill-requires-2-clause-allowed g c).In-Some)
    (stage_of c.fill.ensures.belongs) c.args.first c.fill.result c.fill.ensures.made c.args.second

pub publish-requires-clause-allowed : goal.publish-requires-clause-allowed
publish-requires-clause-allowed g c =
    publish_can (stage_of c.requires.pass.board) (stage_of c.search.ensures.belongs) c.in-Some.row (taken g (goal.at.publish-requires-clause-allowed g c).In-Some)
    (stage_of c.fill.ensures.belongs) c.args.first c.fill.result c.fill.ensures.made (stage_of c.fill-2.ensures.belongs) c.args.second c.fill-2.result c.fill-2.ensures.made
    c.args.slot c.requires.slot

pub around-p-requires : goal.around-p-requires
around-p-requires g c =
    let low = (taken g (goal.at.around-p-requires g c).In-Some).low in
    let rows = c.rows.ensures ∙ ap (λ (b : Bounds). b.rows) c.shape.ensures in
    omega (arith, low, rows)

pub overflow_add-row : goal.overflow_add-row
overflow_add-row g c =
    let few = c.args.self.now.board.words.shape.shape.few_rows in
    let low = (taken g (goal.at.overflow_add-row g c).In-Some).low in
    omega (arith, few, low)

pub returns-clause-pass : goal.returns-clause-pass
returns-clause-pass g c =
    let at = goal.at.returns-clause-pass g c in
    let rows : c.rows.result ≡ (domain_bounds c.args.self.now).rows = c.rows.ensures ∙ ap (λ (b : Bounds). b.rows) c.shape.ensures in
    let some : 0 < c.rows.result = let r = (taken g at.In-Some).low in omega (arith, r, rows) in
    let low : c.around-p.result < c.rows.result = subst (λ z. z < c.rows.result) (sym c.around-p.ensures) (mod-lt (c.in-Some.row + 1) some) in
    pass_of c.publish.ensures.belongs (given g at.After-publish).ends.between (subst (λ z. c.around-p.result < z) rows low)

pub returns-clause-later : goal.returns-clause-later
returns-clause-later g c = ends_later (given g (goal.at.returns-clause-later g c).After-publish).ends

pub returns-clause-leaves : goal.returns-clause-leaves
returns-clause-leaves g c = (given g (goal.at.returns-clause-leaves g c).After-publish).ends.leaves

pub returns-clause-given : goal.returns-clause-given
returns-clause-given g c = (given g (goal.at.returns-clause-given g c).After-publish).gives c.new.result c.new.ensures

pub returns-clause-in_turn : goal.returns-clause-in_turn
returns-clause-in_turn g c =
    let b = domain_bounds c.args.self.now in
    let s = shows c.args.p.now.pass in
    let row = c.in-Some.row in
    subst (IsNext b.rows c.args.p.now.next (Found b s.agent s.journal (shows c.publish.new.p).journal)) (ap (λ (h : Hold). h.row) (sym c.new.ensures))
    (next_grows b c.args.p.now.next s.agent row s.journal (shows c.search.new.p).journal (shows c.publish.new.p).journal
    (given g (goal.at.returns-clause-in_turn g c).After-publish).filled (c.in-Some.ensures.in_turn row refl))

pub returns-clause-next : goal.returns-clause-next
returns-clause-next g c =
    let rows = c.rows.ensures ∙ ap (λ (b : Bounds). b.rows) c.shape.ensures in
    let same = ap (λ (h : Hold). h.row) (sym c.new.ensures) in
    c.around-p.ensures ∙ (λ i. (same i + 1) % rows i)

pub search-requires-clause-belongs : goal.search-requires-clause-belongs
search-requires-clause-belongs g c = c.requires.pass.board

pub search-requires-clause-ready : goal.search-requires-clause-ready
search-requires-clause-ready g c = c.requires.pass.ready

pub search-requires-clause-begin : goal.search-requires-clause-begin
search-requires-clause-begin g c = c.requires.pass.inside

pub take_in_free-requires-clause-belongs : goal.take_in_free-requires-clause-belongs
take_in_free-requires-clause-belongs g c = c.search.ensures.belongs

pub returns-in_default-clause-pass : goal.returns-in_default-clause-pass
returns-in_default-clause-pass g c =
    pass_of c.take_in_free.ensures.belongs
    (read_between (stage_of c.requires.pass.board) (stage_of c.take_in_free.ensures.belongs)
    (tries_then _ _ _ _ _ _ _ (c.search.ensures.tried c.in_default.is) c.take_in_free.ensures.idle).idle (between_of c.requires.pass))
    c.requires.pass.inside

pub returns-in_default-clause-later : goal.returns-in_default-clause-later
returns-in_default-clause-later g c =
    let idle = (tries_then _ _ _ _ _ _ _ (c.search.ensures.tried c.in_default.is) c.take_in_free.ensures.idle).idle in (idle.more, sym idle.journal)

pub returns-in_default-clause-none : goal.returns-in_default-clause-none
returns-in_default-clause-none g c =
    (tries_then _ _ _ _ _ _ _ (c.search.ensures.tried c.in_default.is) c.take_in_free.ensures.idle).idle.only

pub returns-in_default-clause-given : goal.returns-in_default-clause-given
returns-in_default-clause-given g c = tt

pub returns-in_default-clause-in_turn : goal.returns-in_default-clause-in_turn
returns-in_default-clause-in_turn g c = tt

pub returns-in_default-clause-next : goal.returns-in_default-clause-next
returns-in_default-clause-next g c = tt

pub returns-in_default-clause-same_next : goal.returns-in_default-clause-same_next
returns-in_default-clause-same_next g c = refl

pub fill-requires-clause-belongs : goal.fill-requires-clause-belongs
fill-requires-clause-belongs g c = c.search.ensures.belongs

pub fill-requires-2-clause-belongs : goal.fill-requires-2-clause-belongs
fill-requires-2-clause-belongs g c = c.fill.ensures.belongs

pub publish-requires-clause-belongs : goal.publish-requires-clause-belongs
publish-requires-clause-belongs g c = c.fill-2.ensures.belongs

pub returns-clause-none : goal.returns-clause-none
returns-clause-none g c = tt

pub returns-clause-lacking : goal.returns-clause-lacking
returns-clause-lacking g c = tt

pub returns-clause-taken_in : goal.returns-clause-taken_in
returns-clause-taken_in g c = tt

pub returns-clause-same_next : goal.returns-clause-same_next
returns-clause-same_next g c = tt
