use Rattle.std.proofs.Common.{Some, ap, eqb, subst, sym, true, ◌∙◌, ◌≡◌, ◌≢◌}
use Rattle.std.specs.Option.{option_eq}
use Rattle.orc_core.specs.Allowed.{may_change}
use Rattle.orc_heap.specs.declared.holds.Want.{Want}
use Rattle.orc_any_domain.specs.Names.{row_link}
use Rattle.orc_heap.specs.Calls.{RefusesSwing}
use Rattle.orc_heap.specs.Seats.{HoldsWant}
use Rattle.orc_machine_board.specs.Views.{shows}
use Rattle.orc_domain.proofs.Linking.{link_other}
use Rattle.orc_domain.proofs.Searching.{idle_none}
use Rattle.orc_domain.proofs.Ending.{stage_of}
use Rattle.orc_domain.proofs.Stages.{seat}
use Rattle.orc_domain.proofs.Swinging.{if_err_map, not_equal, old_target}
use Rattle.orc_domain.specs.Passes.{domain_bounds}
use Rattle.orc_domain.specs.Seats.{seat_by}
use Rattle.orc_words.specs.Bounds.{link_limit}
use Rattle.orc_words.specs.declared.packed.RowLink.{RowLink}
use Rattle.orc_domain.proofs.domain.OrcDomain.prepare.Goals as goal

pub returns-in_default-clause-checks : goal.returns-in_default-clause-checks
returns-in_default-clause-checks g c = idle_none (domain_bounds c.args.self.now) (shows c.args.p.now)

pub returns-then-eq-clause-checks : goal.returns-then-eq-clause-checks
returns-then-eq-clause-checks g c = idle_none (domain_bounds c.args.self.now) (shows c.args.p.now)

pub returns-clause-spent : goal.returns-clause-spent
returns-clause-spent g c =
    let s = stage_of c.requires.belongs in
    let links = c.requires.links in
    let held = subst (HoldsWant (seat s).slots) c.in-Node.is links.1 in
    let ne : (row_link c.args.from.now).to ≢ Some c.in-Node.h.now.row = λ same.
    not_equal c.row_link.result.to c.row.result c.if-eq.ensures (ap (λ (l : RowLink). l.to) c.row_link.ensures ∙ (same ∙ ap Some (sym c.row.ensures))) in
    let other = link_other s c.args.from.now c.in-Node.h.now links.0 held ne in
    if_err_map c.check.result (λ e worn. subst (λ w. RefusesSwing (seat s).slots c.args.from.now w e
    (seat_by (domain_bounds c.args.self.now) (shows c.check.new.p)).seen) (sym c.in-Node.is) (other, worn)) c.check.ensures.spent

pub returns-then-eq-clause-low : goal.returns-then-eq-clause-low
returns-then-eq-clause-low g c =
    let d = (shows c.args.p.now).record_is in
    let n = link_limit (domain_bounds c.args.self.now) in
    let from = (row_link c.args.from.now).to in
    let old : may_change d n from (Some c.in-Node.h.now.row) ≡ true = old_target d n c.in-Node.h.now.row from
    (c.if-eq.ensures ∙ ap (λ (l : RowLink). option_eq eqb l.to (Some c.row.result)) c.row_link.ensures ∙ ap (λ r. option_eq eqb from (Some r)) c.row.ensures) in
    subst (λ (w : Want). may_change d n from (row_link w).to ≡ true) (sym c.in-Node.is) old

pub check-requires-clause-belongs : goal.check-requires-clause-belongs
check-requires-clause-belongs g c = c.requires.belongs

pub check-requires-clause-ready : goal.check-requires-clause-ready
check-requires-clause-ready g c = c.requires.ready

pub returns-in_default-clause-belongs : goal.returns-in_default-clause-belongs
returns-in_default-clause-belongs g c = c.requires.belongs

pub returns-in_default-clause-spent : goal.returns-in_default-clause-spent
returns-in_default-clause-spent g c = tt

pub returns-in_default-clause-worn : goal.returns-in_default-clause-worn
returns-in_default-clause-worn g c = tt

pub returns-then-eq-clause-belongs : goal.returns-then-eq-clause-belongs
returns-then-eq-clause-belongs g c = c.requires.belongs

pub returns-then-eq-clause-spent : goal.returns-then-eq-clause-spent
returns-then-eq-clause-spent g c = tt

pub returns-then-eq-clause-worn : goal.returns-then-eq-clause-worn
returns-then-eq-clause-worn g c = tt

pub returns-clause-belongs : goal.returns-clause-belongs
returns-clause-belongs g c = c.check.ensures.belongs

pub returns-clause-checks : goal.returns-clause-checks
returns-clause-checks g c = c.check.ensures.checks

pub returns-clause-worn : goal.returns-clause-worn
returns-clause-worn g c = c.check.ensures.worn
