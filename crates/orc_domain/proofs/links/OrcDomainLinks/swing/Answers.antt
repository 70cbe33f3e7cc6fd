use Rattle.std.proofs.Common.{refl, subst, sym}
use Rattle.orc_heap.specs.Seats.{HoldsPlace, HoldsWant}
use Rattle.orc_machine_rest.proofs.TakenIn.{done_later}
use Rattle.orc_domain.specs.Passes.{domain_numbers}
use Rattle.orc_domain.proofs.Ending.{between_of, pass_of, stage_of}
use Rattle.orc_domain.proofs.Swinging.{leaves_both, move_on, read_between, read_untouched, swings_both}
use Rattle.orc_domain.proofs.links.OrcDomainLinks.swing.Goals as goal

pub returns-in_err-prepare-clause-pass : goal.returns-in_err-prepare-clause-pass
returns-in_err-prepare-clause-pass g c =
    pass_of c.prepare.ensures.belongs (read_between (stage_of c.requires.pass.board) (stage_of c.prepare.ensures.belongs) c.prepare.ensures.checks (between_of c.requires.pass))
    c.requires.pass.inside

pub exchange-done-requires-clause-untouched : goal.exchange-done-requires-clause-untouched
exchange-done-requires-clause-untouched g c =
    read_untouched (stage_of c.requires.pass.board) (stage_of c.prepare.ensures.belongs) c.prepare.ensures.checks c.requires.pass.untouched

pub exchange-done-requires-clause-allowed : goal.exchange-done-requires-clause-allowed
exchange-done-requires-clause-allowed g c =
    move_on (stage_of c.requires.pass.board) (stage_of c.prepare.ensures.belongs) c.prepare.ensures.checks c.args.place.now c.args.from.now c.args.to.now c.args.note
    c.requires.allowed

pub returns-clause-swung : goal.returns-clause-swung
returns-clause-swung g c =
    swings_both (stage_of c.requires.pass.board) (stage_of c.prepare.ensures.belongs) c.prepare.ensures.checks (stage_of c.exchange-done.ensures.belongs)
    c.args.place.now c.args.from.now c.args.to.now c.args.note c.exchange-done.result c.exchange-done.ensures.swung

pub returns-clause-taken_in : goal.returns-clause-taken_in
returns-clause-taken_in g c =
    leaves_both (stage_of c.requires.pass.board) (stage_of c.prepare.ensures.belongs) c.prepare.ensures.checks (stage_of c.exchange-done.ensures.belongs)
    c.prepare.ensures.checks.leaves c.exchange-done.ensures.leaves

pub prepare-requires-clause-belongs : goal.prepare-requires-clause-belongs
prepare-requires-clause-belongs g c = c.requires.pass.board

pub prepare-requires-clause-ready : goal.prepare-requires-clause-ready
prepare-requires-clause-ready g c = c.requires.pass.ready

pub prepare-requires-clause-links : goal.prepare-requires-clause-links
prepare-requires-clause-links g c = c.requires.links

pub returns-in_err-prepare-clause-later : goal.returns-in_err-prepare-clause-later
returns-in_err-prepare-clause-later g c = let idle = c.prepare.ensures.checks in (idle.more, sym idle.journal)

pub returns-in_err-prepare-clause-taken_in : goal.returns-in_err-prepare-clause-taken_in
returns-in_err-prepare-clause-taken_in g c = c.prepare.ensures.checks.leaves

pub returns-in_err-prepare-clause-next : goal.returns-in_err-prepare-clause-next
returns-in_err-prepare-clause-next g c = refl

pub exchange-done-requires-clause-belongs : goal.exchange-done-requires-clause-belongs
exchange-done-requires-clause-belongs g c = c.prepare.ensures.belongs

pub exchange-done-requires-clause-low : goal.exchange-done-requires-clause-low
exchange-done-requires-clause-low g c = c.in_ok-prepare.ensures.low

pub returns-clause-none : goal.returns-clause-none
returns-clause-none g c = tt

pub returns-clause-spent : goal.returns-clause-spent
returns-clause-spent g c = tt

pub returns-clause-worn : goal.returns-clause-worn
returns-clause-worn g c = tt

pub returns-clause-next : goal.returns-clause-next
returns-clause-next g c = refl

pub returns-clause-pass : goal.returns-clause-pass
returns-clause-pass g c =
    pass_of c.exchange-done.ensures.belongs (record { ready = c.exchange-done.ensures.ready; untouched = c.exchange-done.ensures.untouched }) c.requires.pass.inside

pub returns-clause-later : goal.returns-clause-later
returns-clause-later g c =
    let leaves = leaves_both (stage_of c.requires.pass.board) (stage_of c.prepare.ensures.belongs) c.prepare.ensures.checks (stage_of c.exchange-done.ensures.belongs)
    c.prepare.ensures.checks.leaves c.exchange-done.ensures.leaves in
    done_later _ _ _ leaves.ops leaves.done

pub exchange-done-requires-clause-ready : goal.exchange-done-requires-clause-ready
exchange-done-requires-clause-ready g c =
    (read_between (stage_of c.requires.pass.board) (stage_of c.prepare.ensures.belongs) c.prepare.ensures.checks (between_of c.requires.pass)).ready

pub exchange-done-requires-clause-place : goal.exchange-done-requires-clause-place
exchange-done-requires-clause-place g c =
    subst (λ slots. HoldsPlace (domain_numbers c.args.self.now) slots c.args.place.now) (sym c.prepare.ensures.checks.only.slots) c.requires.place

pub exchange-done-requires-clause-links : goal.exchange-done-requires-clause-links
exchange-done-requires-clause-links g c =
    subst (λ slots. HoldsWant slots c.args.from.now × HoldsWant slots c.args.to.now) (sym c.prepare.ensures.checks.only.slots) c.requires.links
