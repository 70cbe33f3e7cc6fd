use Rattle.std.proofs.Common.{◌≢◌, ◌<◌, ◌∙◌, Some, ap, refl, sym, subst}
use Rattle.orc_plain_board.specs.Calls.{KnowsTarget}
use Rattle.orc_plain_board.specs.Views.{shows}
use Rattle.orc_words.specs.declared.packed.RowLink.{RowLink}
use Rattle.orc_plain_domain.specs.Passes.{domain_bounds}
use Rattle.orc_plain_domain.proofs.OneStep.{aims, may_aim}
use Rattle.orc_plain_domain.proofs.OneStep.{fresh_is}
use Rattle.orc_plain_domain.proofs.Growing.{adds_grow, still_adds}
use Rattle.orc_plain_domain.proofs.Looking.{events_later}
use Rattle.orc_plain_domain.proofs.Naming.{hold_below, target_known, target_other, target_plain}
use Rattle.orc_plain_domain.proofs.domain.PlainDomain.store.Goals as goal

pub link_store-requires-clause-row : goal.link_store-requires-clause-row
link_store-requires-clause-row g c =
    subst (λ r. r < (domain_bounds c.args.self.now).rows) (sym c.row.ensures)
    (hold_below c.args.self.now c.args.p.now c.requires.pass c.args.fresh.now c.requires.may.fresh.held)

pub link_store-requires-clause-fresh : goal.link_store-requires-clause-fresh
link_store-requires-clause-fresh g c =
    fresh_is c.args.self.now c.args.p.now c.requires.pass c.args.p.now.pass c.requires.pass.board c.args.fresh.now c.row.result c.row.ensures c.requires.may.fresh

pub link_store-requires-clause-unmarked : goal.link_store-requires-clause-unmarked
link_store-requires-clause-unmarked g c = ap (λ (l : RowLink). l.mark) c.target_link-link.ensures
    ∙ target_plain c.args.self.now c.args.p.now c.requires.pass c.args.to

pub link_store-requires-clause-other : goal.link_store-requires-clause-other
link_store-requires-clause-other g c =
    subst (λ (l : RowLink). l.to ≢ Some c.row.result) (sym c.target_link-link.ensures)
    (target_other c.args.self.now c.args.p.now c.requires.pass c.args.to c.row.result c.requires.may.target
    (fresh_is c.args.self.now c.args.p.now c.requires.pass c.args.p.now.pass c.requires.pass.board c.args.fresh.now c.row.result c.row.ensures
    c.requires.may.fresh))

pub link_store-requires-clause-target : goal.link_store-requires-clause-target
link_store-requires-clause-target g c =
    subst (λ l. KnowsTarget (domain_bounds c.args.self.now) (shows c.args.self.now.board c.args.p.now.pass) l) (sym c.target_link-link.ensures)
    (target_known c.args.self.now c.args.p.now c.requires.pass c.args.to c.requires.may.target)

pub link_store-requires-clause-allowed : goal.link_store-requires-clause-allowed
link_store-requires-clause-allowed g c =
    may_aim c.args.self.now c.args.p.now c.requires.pass c.args.p.now.pass c.requires.pass.board c.args.fresh.now c.row.result c.args.number c.row.ensures
    c.requires.may.fresh c.args.to c.target_link-link.result c.requires.may.target c.target_link-link.ensures c.requires.may.allowed

pub returns-clause-pass : goal.returns-clause-pass
returns-clause-pass g c =
    still_adds c.args.self.now c.args.p.now c.requires.pass c.link_store.new.p c.link_store.ensures.belongs _ c.link_store.ensures.replaces.adds

pub returns-clause-aimed : goal.returns-clause-aimed
returns-clause-aimed g c =
    aims c.args.self.now c.args.p.now c.requires.pass c.link_store.new.p c.link_store.ensures.belongs c.args.fresh.now c.row.result c.args.number c.row.ensures
    c.requires.may.fresh c.args.to c.target_link-link.result c.requires.may.target c.target_link-link.ensures
    c.link_store.ensures.replaces.adds c.link_store.ensures.fresh

pub link_store-requires-clause-belongs : goal.link_store-requires-clause-belongs
link_store-requires-clause-belongs g c = c.requires.pass.board

pub link_store-requires-clause-number : goal.link_store-requires-clause-number
link_store-requires-clause-number g c = c.requires.number

pub returns-clause-later : goal.returns-clause-later
returns-clause-later g c =
    let adds = c.link_store.ensures.replaces.adds in
    events_later c.args.self.now c.args.p.now _ c.requires.pass
    (still_adds c.args.self.now c.args.p.now c.requires.pass c.link_store.new.p c.link_store.ensures.belongs _ adds)
    (adds_grow (domain_bounds c.args.self.now) _ _ _ _ adds).events

pub returns-clause-next : goal.returns-clause-next
returns-clause-next g c = refl
