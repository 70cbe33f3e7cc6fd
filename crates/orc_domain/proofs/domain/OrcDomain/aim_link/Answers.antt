use Rattle.std.proofs.Common.{Option, Some, ap, false, rules, subst, sym, true, ℕ, ◌∙◌, ◌≡◌}
use Rattle.std.specs.Borrow.{Bor}
use Rattle.orc_core.specs.Allowed.{may_target}
use Rattle.orc_core.specs.RecordParts.{names}
use Rattle.orc_any_domain.specs.Names.{target_link}
use Rattle.orc_machine_rest.proofs.TakenIn.{done_later}
use Rattle.orc_heap.specs.Seats.{HoldsFresh, HoldsTarget}
use Rattle.orc_heap.specs.Slots.{Hold}
use Rattle.orc_machine_board.specs.Licences.{AimAllowed}
use Rattle.orc_any_domain.proofs.Rows.{some_one}
use Rattle.orc_machine_board.specs.Rules.{heap_numbers}
use Rattle.orc_machine_board.specs.Views.{shows}
use Rattle.orc_domain.proofs.Filling.{fresh_row}
use Rattle.orc_domain.proofs.Linking.{aim_allowed, aims, hold_target, not_fresh}
use Rattle.orc_domain.proofs.Ending.{between_of, pass_of, stage_of}
use Rattle.orc_domain.proofs.Stages.{seat}
use Rattle.orc_domain.proofs.Swinging.{aim_on, aims_both, fresh_on, leaves_both, read_between, read_untouched, target_on}
use Rattle.orc_domain.specs.Changes.{Stores}
use Rattle.orc_domain.specs.Passes.{domain_bounds}
use Rattle.orc_domain.proofs.domain.OrcDomain.aim_link.Given.{Over}
use Rattle.orc_domain.proofs.domain.OrcDomain.aim_link.Goals.{After-check}
use Rattle.orc_domain.proofs.domain.OrcDomain.aim_link.Goals as goal

-- without a target
pub store-requires-clause-fresh : goal.store-requires-clause-fresh
store-requires-clause-fresh g c =
    let s = stage_of c.requires.pass.board in
    subst (λ r. names s.view.record_is.fresh r ≡ true) (sym c.row.ensures) (fresh_row s c.args.fresh.now c.requires.may.fresh)

pub store-requires-clause-may : goal.store-requires-clause-may
store-requires-clause-may g c =
    let s = stage_of c.requires.pass.board in
    let r = c.requires.may in
    let licensed = subst (λ (z : ℕ × Option (Bor Hold)). AimAllowed (g.D.Discipline.may (heap_numbers c.args.self.now.board.words.shape)) (domain_bounds c.args.self.now) s.view z.0 c.args.number (target_link z.1).to)
    (λ i. (sym c.row.ensures i, c.in_default.is i)) (aim_allowed s c.args.number c.args.fresh.now c.args.to r.fresh.held r.target r.allowed) in
    search rules

pub returns-in_default-clause-aimed : goal.returns-in_default-clause-aimed
returns-in_default-clause-aimed g c =
    let r = c.requires.may in
    let s = stage_of c.requires.pass.board in
    let u = stage_of c.store.ensures.belongs in
    aims s c.args.number c.args.fresh.now c.args.to r.fresh.held r.target u
    (subst (λ (z : ℕ × Option (Bor Hold)). Stores (domain_bounds c.args.self.now) z.0 c.args.number (target_link z.1).to s.view u.view)
    (λ i. (c.row.ensures i, sym c.in_default.is i)) c.store.ensures.stores)

-- the target is worn
pub returns-in_err-check-clause-pass : goal.returns-in_err-check-clause-pass
returns-in_err-check-clause-pass g c =
    pass_of c.check.ensures.belongs (read_between (stage_of c.requires.pass.board) (stage_of c.check.ensures.belongs) c.check.ensures.checks (between_of c.requires.pass))
    c.requires.pass.inside

-- it isn't: what the caller names holds still
fresh : (g : Over) (c : After-check g) → HoldsFresh (seat (stage_of c.check.ensures.belongs)) c.args.fresh.now
fresh g c = fresh_on (stage_of c.requires.pass.board) (stage_of c.check.ensures.belongs) c.check.ensures.checks c.args.fresh.now c.requires.may.fresh

target : (g : Over) (c : After-check g) → HoldsTarget (seat (stage_of c.check.ensures.belongs)) c.args.to
target g c = target_on (stage_of c.requires.pass.board) (stage_of c.check.ensures.belongs) c.check.ensures.checks c.args.to c.requires.may.target

pub store-requires-2-clause-untouched : goal.store-requires-2-clause-untouched
store-requires-2-clause-untouched g c =
    read_untouched (stage_of c.requires.pass.board) (stage_of c.check.ensures.belongs) c.check.ensures.checks c.requires.pass.untouched

pub store-requires-2-clause-fresh : goal.store-requires-2-clause-fresh
store-requires-2-clause-fresh g c =
    subst (λ r. names (shows c.check.new.p).record_is.fresh r ≡ true) (sym c.row-2.ensures)
    (fresh_row (stage_of c.check.ensures.belongs) c.args.fresh.now (fresh g (goal.at.store-requires-2-clause-fresh g c).After-check))

pub store-requires-2-clause-may : goal.store-requires-2-clause-may
store-requires-2-clause-may g c =
    let at = (goal.at.store-requires-2-clause-may g c).After-check in
    let t = stage_of c.check.ensures.belongs in
    let to = subst (HoldsTarget (seat t)) c.in-Some.is (target g at) in
    let there = subst (λ r. may_target (domain_bounds c.args.self.now) t.view.record_is (Some r) ≡ true) (sym c.row-3.ensures)
    (hold_target t c.in-Some.h.now to.0) in
    let other : (r : ℕ) → Some c.row-3.result ≡ Some r → names t.view.record_is.fresh r ≡ false =
    λ r is. subst (λ x. names t.view.record_is.fresh x ≡ false) (sym c.row-3.ensures ∙ some_one c.row-3.result r is)
    (not_fresh t c.in-Some.h.now to.0 to.1) in
    let licensed = subst (λ (z : ℕ × Option ℕ). AimAllowed (g.D.Discipline.may (heap_numbers c.args.self.now.board.words.shape)) (domain_bounds c.args.self.now) t.view z.0 c.args.number z.1)
    (λ i. (sym c.row-2.ensures i, (ap (λ (o : Option (Bor Hold)). (target_link o).to) c.in-Some.is ∙ ap Some (sym c.row-3.ensures)) i))
    (aim_allowed t c.args.number c.args.fresh.now c.args.to (fresh g at).held (target g at)
    (aim_on (stage_of c.requires.pass.board) t c.check.ensures.checks c.args.number c.args.fresh.now c.args.to c.requires.may.allowed)) in
    search rules

pub returns-clause-aimed : goal.returns-clause-aimed
returns-clause-aimed g c =
    let t = stage_of c.check.ensures.belongs in
    let u = stage_of c.store-2.ensures.belongs in
    let at = (goal.at.returns-clause-aimed g c).After-check in
    aims_both (stage_of c.requires.pass.board) t c.check.ensures.checks c.args.number u c.args.fresh.now c.args.to
    (aims t c.args.number c.args.fresh.now c.args.to (fresh g at).held (target g at) u
    (subst (λ (z : ℕ × Option ℕ). Stores (domain_bounds c.args.self.now) z.0 c.args.number z.1 t.view u.view)
    (λ i. (c.row-2.ensures i, (ap Some c.row-3.ensures ∙ sym (ap (λ (o : Option (Bor Hold)). (target_link o).to) c.in-Some.is)) i))
    c.store-2.ensures.stores))

pub returns-clause-taken_in : goal.returns-clause-taken_in
returns-clause-taken_in g c =
    leaves_both (stage_of c.requires.pass.board) (stage_of c.check.ensures.belongs) c.check.ensures.checks (stage_of c.store-2.ensures.belongs)
    c.check.ensures.checks.leaves c.store-2.ensures.leaves

pub returns-clause-pass : goal.returns-clause-pass
returns-clause-pass g c =
    pass_of c.store-2.ensures.belongs (record { ready = c.store-2.ensures.ready; untouched = c.store-2.ensures.untouched }) c.requires.pass.inside

pub returns-clause-later : goal.returns-clause-later
returns-clause-later g c =
    let leaves = leaves_both (stage_of c.requires.pass.board) (stage_of c.check.ensures.belongs) c.check.ensures.checks (stage_of c.store-2.ensures.belongs)
    c.check.ensures.checks.leaves c.store-2.ensures.leaves in
    done_later _ _ _ leaves.ops leaves.done

pub returns-in_default-clause-pass : goal.returns-in_default-clause-pass
returns-in_default-clause-pass g c =
    pass_of c.store.ensures.belongs (record { ready = c.store.ensures.ready; untouched = c.store.ensures.untouched }) c.requires.pass.inside

pub returns-in_default-clause-later : goal.returns-in_default-clause-later
returns-in_default-clause-later g c = done_later _ _ _ c.store.ensures.leaves.ops c.store.ensures.leaves.done

pub returns-in_default-clause-taken_in : goal.returns-in_default-clause-taken_in
returns-in_default-clause-taken_in g c = c.store.ensures.leaves

pub returns-in_err-check-clause-later : goal.returns-in_err-check-clause-later
returns-in_err-check-clause-later g c = let idle = c.check.ensures.checks in (idle.more, sym idle.journal)

pub returns-in_err-check-clause-taken_in : goal.returns-in_err-check-clause-taken_in
returns-in_err-check-clause-taken_in g c = c.check.ensures.checks.leaves

pub check-requires-clause-belongs : goal.check-requires-clause-belongs
check-requires-clause-belongs g c = c.requires.pass.board

pub check-requires-clause-ready : goal.check-requires-clause-ready
check-requires-clause-ready g c = c.requires.pass.ready

pub store-requires-clause-belongs : goal.store-requires-clause-belongs
store-requires-clause-belongs g c = c.requires.pass.board

pub store-requires-clause-ready : goal.store-requires-clause-ready
store-requires-clause-ready g c = c.requires.pass.ready

pub store-requires-clause-untouched : goal.store-requires-clause-untouched
store-requires-clause-untouched g c = c.requires.pass.untouched

pub store-requires-2-clause-belongs : goal.store-requires-2-clause-belongs
store-requires-2-clause-belongs g c = c.check.ensures.belongs

pub store-requires-2-clause-ready : goal.store-requires-2-clause-ready
store-requires-2-clause-ready g c =
    (read_between (stage_of c.requires.pass.board) (stage_of c.check.ensures.belongs) c.check.ensures.checks (between_of c.requires.pass)).ready
