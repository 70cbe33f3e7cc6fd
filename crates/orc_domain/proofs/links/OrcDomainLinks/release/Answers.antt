use Rattle.std.proofs.Common.{ap, subst, sym, ◌∙◌}
use Rattle.orc_core.specs.RecordParts.{names}
use Rattle.orc_core.specs.declared.ops.Op.TheVariants.{Clear}
use Rattle.orc_machine_board.specs.Kinds.{MayDo}
use Rattle.orc_machine_board.specs.Views.{shows}
use Rattle.orc_domain.proofs.Retiring.{LetsGo, clear_can, goes, release_ends, releases}
use Rattle.orc_domain.proofs.Seats.{ready_calm}
use Rattle.orc_domain.proofs.Ending.{between_of, ends_later, pass_of, stage_of}
use Rattle.orc_domain.specs.Calls.{Retires, Unlocks}
use Rattle.orc_domain.specs.Passes.{domain_bounds}
use Rattle.orc_domain.proofs.links.OrcDomainLinks.release.Given.{Over}
use Rattle.orc_domain.proofs.links.OrcDomainLinks.release.Goals.{After-give_up, After-unlock}
use Rattle.orc_domain.proofs.links.OrcDomainLinks.release.Goals as goal

-- the hold's node is fresh no more, if it was
let_go : (g : Over) (c : After-give_up g) → LetsGo (stage_of c.requires.pass.board) (stage_of c.give_up.ensures.belongs) c.args.h
let_go g c =
    let s = stage_of c.requires.pass.board in
    let t = stage_of c.give_up.ensures.belongs in
    goes s t c.args.h (between_of c.requires.pass) c.requires.held
    (λ f. subst (λ r. Retires (domain_bounds c.args.self.now) r s.view t.view) c.row.ensures
    (c.give_up.ensures.retired (ap (names s.view.record_is.fresh) c.row.ensures ∙ f)))
    (λ f. ap (λ p. shows p) (c.give_up.ensures.kept (ap (names s.view.record_is.fresh) c.row.ensures ∙ f)))

-- its slot was cleared
cleared : (g : Over) (c : After-unlock g) → Unlocks (domain_bounds c.args.self.now) c.args.h.slot (shows c.give_up.new.p) (shows c.unlock.new.p)
cleared g c = subst (λ slot. Unlocks (domain_bounds c.args.self.now) slot (shows c.give_up.new.p) (shows c.unlock.new.p)) c.slot.ensures c.unlock.ensures.unlocks

pub unlock-requires-clause-calm : goal.unlock-requires-clause-calm
unlock-requires-clause-calm g c = ready_calm (shows c.give_up.new.p).record_is (let_go g (goal.at.unlock-requires-clause-calm g c).After-give_up).between.ready

pub unlock-requires-clause-allowed : goal.unlock-requires-clause-allowed
unlock-requires-clause-allowed g c =
    subst (λ slot. MayDo (domain_bounds c.args.self.now) (shows c.give_up.new.p) (Clear slot)) (sym c.slot.ensures)
    (clear_can (stage_of c.requires.pass.board) (stage_of c.give_up.ensures.belongs) c.args.h c.requires.held (let_go g (goal.at.unlock-requires-clause-allowed g c).After-give_up))

pub returns-clause-released : goal.returns-clause-released
returns-clause-released g c =
    let at = goal.at.returns-clause-released g c in
    releases (stage_of c.requires.pass.board) (stage_of c.give_up.ensures.belongs) c.args.h c.requires.held (let_go g at.After-give_up)
    (stage_of c.unlock.ensures.belongs) (cleared g at.After-unlock)

pub returns-clause-later : goal.returns-clause-later
returns-clause-later g c =
    let at = goal.at.returns-clause-later g c in
    ends_later (release_ends (stage_of c.requires.pass.board) (stage_of c.give_up.ensures.belongs) c.args.h c.requires.held (let_go g at.After-give_up)
    (stage_of c.unlock.ensures.belongs) (cleared g at.After-unlock))

pub returns-clause-taken_in : goal.returns-clause-taken_in
returns-clause-taken_in g c =
    let at = goal.at.returns-clause-taken_in g c in
    (release_ends (stage_of c.requires.pass.board) (stage_of c.give_up.ensures.belongs) c.args.h c.requires.held (let_go g at.After-give_up)
    (stage_of c.unlock.ensures.belongs) (cleared g at.After-unlock)).leaves

pub returns-clause-pass : goal.returns-clause-pass
returns-clause-pass g c =
    let at = goal.at.returns-clause-pass g c in
    pass_of c.unlock.ensures.belongs (release_ends (stage_of c.requires.pass.board) (stage_of c.give_up.ensures.belongs) c.args.h c.requires.held (let_go g at.After-give_up)
    (stage_of c.unlock.ensures.belongs) (cleared g at.After-unlock)).between c.requires.pass.inside
