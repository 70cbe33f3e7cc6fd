-- Nothing was entered, and a refusal has its cause.
use Rattle.std.proofs.Common.{[], append-nil, refl, subst, ◌≤◌}
use Rattle.orc_domain.specs.Passes.{domain_numbers, journal_of, seat_of}
use Rattle.orc_domain.specs.declared.domain.OrcDomain.{OrcDomain}
use Rattle.orc_heap.proofs.Steps.{part_within}
use Rattle.orc_history.specs.declared.set.ListRefused.TheVariants.{Again}
use Rattle.orc_sound.specs.declared.steps.Step.{Step}
use Rattle.orc_split_rule.specs.SplitDiscipline.{IsSize, greatest, size_of}
use Rattle.orc_split_rule.specs.declared.split.Split.{Split}
use Rattle.orc_split_rule.specs.declared.split.SplitNote.{SplitNote}
use Rattle.mooringakee_c_passes.specs.Kinds.{split}
use Rattle.mooringakee_c_passes.proofs.Entering.{entered, refused}
use Rattle.mooringakee_c_passes.proofs.Histories.{legal_split}
use Rattle.mooringakee_c_passes.proofs.SamePlaces.{still_used}
use Rattle.mooringakee_c_passes.proofs.split.SplitSetPlace.buckets.Goals as goal

pub returns-in_default-clause-seat : goal.returns-in_default-clause-seat
returns-in_default-clause-seat c = still_used c.size.new.p (λ j. (c.deref.ensures j).set.links.domain) c.requires c.in_default.ensures.usable

pub returns-clause-seat : goal.returns-clause-seat
returns-clause-seat c = still_used c.size.new.p (λ j. (c.deref.ensures j).set.links.domain) c.requires c.in-Ok.ensures.usable

pub returns-in_default-clause-answer : goal.returns-in_default-clause-answer
returns-in_default-clause-answer c =
    let s = c.args.self.now in
    let p = c.size.new.p in
    let x = c.deref.result.now.set.links.domain in
    let told = c.in_default.ensures in (
      refl,
      refused split x s.container.value.set.links.domain (λ j. (c.deref.ensures j).set.links.domain) s.turns s.pass p (legal_split x p told.usable.0) told.agent Again told.none
          (part_within (λ (step : Step SplitNote). step.agent) (seat_of x s.pass).agent (journal_of s.pass) (journal_of p) (journal_of p)
          (split.cause x (seat_of x s.pass).agent s.turns Again (journal_of p)) told.later ([], append-nil (journal_of p)) told.again),
    )

pub returns-clause-answer : goal.returns-clause-answer
returns-clause-answer c =
    let s = c.args.self.now in
    let p = c.size.new.p in
    let x = c.deref.result.now.set.links.domain in
    let told = c.in-Ok.ensures in (
      refl,
      (
        entered split x s.container.value.set.links.domain (λ j. (c.deref.ensures j).set.links.domain) s.turns s.pass p (legal_split x p told.usable.0) told.agent [] told.none,
        subst (λ (y : OrcDomain Split SplitNote). IsSize (greatest (domain_numbers y)) c.in-Ok.size
            × (size_of (domain_numbers y) (seat_of y s.pass).seen ≤ c.in-Ok.size) × (c.in-Ok.size ≤ size_of (domain_numbers y) (seat_of y p).seen))
            (λ j. (c.deref.ensures j).set.links.domain) told.size,
      ),
    )
