-- What is answered of the set is answered of the place.
use Rattle.std.proofs.Common.{refl, subst, sym}
use Rattle.mooringakee_c_passes.specs.Kinds.{set, split, calls_view}
use Rattle.mooringakee_c_passes.specs.Seats.{AtSet, IsSeat}
use Rattle.mooringakee_c_passes.specs.SetCalls.{AnswersCall}
use Rattle.mooringakee_c_passes.specs.declared.on_domain.ReclaimingSet.{ReclaimingSet}
use Rattle.mooringakee_c_passes.specs.declared.on_domain.ReclaimingSplit.{ReclaimingSplit}
use Rattle.mooringakee_c_passes.specs.declared.seat.Seat.{Seat}
use Rattle.mooringakee_c_passes.specs.declared.seat.Seat.TheVariants.{Set, Split}
use Rattle.mooringakee_c_passes.proofs.SamePlaces.{still_used, usable_by}
use Rattle.mooringakee_c_passes.proofs.seat.Seat.call.Goals as goal

pub call_bucketed-requires : goal.call_bucketed-requires
call_bucketed-requires c =
    let can = subst (λ (s : Seat). IsSeat s) c.in-Set.is c.requires in
    usable_by c.in-Set.place.pass (λ j. (sym c.deref.ensures j).set.list.links.domain) can.belongs can.idle

pub returns-in-Set-clause-seat : goal.returns-in-Set-clause-seat
returns-in-Set-clause-seat c =
    let can = subst (λ (s : Seat). IsSeat s) c.in-Set.is c.requires in
    still_used c.call_bucketed.new.p (λ j. (c.deref.ensures j).set.list.links.domain) can c.call_bucketed.ensures.usable

pub returns-in-Set-clause-answer : goal.returns-in-Set-clause-answer
returns-in-Set-clause-answer c =
    let old = c.in-Set.place in
    let p = c.call_bucketed.new.p in
    subst (λ (s : Seat). AtSet (AnswersCall c.args.call c.args.key c.call_bucketed.new.yes) s c.call_bucketed.result (Set (record old { pass = p })))
    (sym c.in-Set.is) (
      refl,
      subst (λ (x : ReclaimingSet). AnswersCall c.args.call c.args.key c.call_bucketed.new.yes (calls_view set x.set.list.links.domain old.turns old.pass) c.call_bucketed.result
          (calls_view set x.set.list.links.domain old.turns p)) c.deref.ensures c.call_bucketed.ensures.answer,
    )

pub call_split-requires : goal.call_split-requires
call_split-requires c =
    let can = subst (λ (s : Seat). IsSeat s) c.in-Split.is c.requires in
    usable_by c.in-Split.place.pass (λ j. (sym c.deref-in-Split.ensures j).set.links.domain) can.belongs can.idle

pub returns-in-Split-clause-seat : goal.returns-in-Split-clause-seat
returns-in-Split-clause-seat c =
    let can = subst (λ (s : Seat). IsSeat s) c.in-Split.is c.requires in
    still_used c.call_split.new.p (λ j. (c.deref-in-Split.ensures j).set.links.domain) can c.call_split.ensures.usable

pub returns-in-Split-clause-answer : goal.returns-in-Split-clause-answer
returns-in-Split-clause-answer c =
    let old = c.in-Split.place in
    let p = c.call_split.new.p in
    subst (λ (s : Seat). AtSet (AnswersCall c.args.call c.args.key c.call_split.new.yes) s c.call_split.result (Split (record old { pass = p })))
    (sym c.in-Split.is) (
      refl,
      subst (λ (x : ReclaimingSplit). AnswersCall c.args.call c.args.key c.call_split.new.yes (calls_view split x.set.links.domain old.turns old.pass) c.call_split.result
          (calls_view split x.set.links.domain old.turns p)) c.deref-in-Split.ensures c.call_split.ensures.answer,
    )
