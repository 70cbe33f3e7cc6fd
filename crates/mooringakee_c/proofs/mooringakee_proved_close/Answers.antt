-- Where there is no pass, it says so; else the pass is given up, and the last one is told of the rows.
use Rattle.std.proofs.Common.{IfSome, None, Option, Some, of_z, refl, subst, to_z, w32, ℤ, ◌≡◌}
use Rattle.orc_any_domain.specs.declared.domain.RowCounts.{RowCounts}
use Rattle.mooringakee_c_passes.specs.Codes.{Says, code_of}
use Rattle.mooringakee_c_passes.specs.Settling.{TellsCounts}
use Rattle.mooringakee_c_passes.specs.declared.answer.Answer.{Answer}
use Rattle.mooringakee_c_passes.specs.declared.answer.Answer.TheVariants.{Done, Kept, NoMemory, NoPass, Others}
use Rattle.mooringakee_c_passes.specs.declared.seat.Seat.{Seat}
use Rattle.mooringakee_c_passes.proofs.Saying.{says_of}
use Rattle.mooringakee_c.specs.Closing.{ClosesPass, TellsOf}
use Rattle.mooringakee_c.specs.declared.Counts.{Counts}
use Rattle.mooringakee_c.proofs.mooringakee_proved_close.Goals as goal

-- the pass was closed, or there was none
says_closed : (counts : Counts) (old new before : Option Seat) (answer : Answer) (code : ℤ) → code ≡ code_of answer → old ≡ before → new ≡ None
    → ClosesPass counts before answer None → Says (to_z w32 (of_z w32 code)) (λ a. ClosesPass counts old a new)
says_closed counts old new before answer code is was left done = says_of (ClosesPass counts) old new before None answer code is was left done

-- these are the counts of this container
told_of : (told : RowCounts) → TellsOf told (record { given = told.given; reused = told.reused; linked = told.linked })
told_of told = record { given = refl; reused = refl; linked = refl }

pub returns-in_default-clause-answer : goal.returns-in_default-clause-answer
returns-in_default-clause-answer c =
    says_closed c.args.counts.now c.args.pass.now.pointer.seat c.take.new.self.pointer.seat None NoPass c.code.result c.code.ensures
    (c.take.ensures.none c.in_default.is) c.take.ensures.left tt

pub returns-in-Ok-Some-clause-answer : goal.returns-in-Ok-Some-clause-answer
returns-in-Ok-Some-clause-answer c =
    let told = c.in-Ok-Some.told in
    says_closed (record { given = told.given; reused = told.reused; linked = told.linked }) c.args.pass.now.pointer.seat c.take.new.self.pointer.seat
    (Some c.in-Some.seat.value) Done c.code-in-Ok-Some.result c.code-in-Ok-Some.ensures c.in-Some.ensures.taken.0 c.take.ensures.left (
      told,
      subst (λ (s : Seat). TellsCounts s told) c.into_inner.ensures
          (subst (λ (o : Option RowCounts). IfSome o (λ counts. TellsCounts c.into_inner.result counts)) c.in-Ok-Some.field-0-is c.in-Ok-Some.ensures),
      told_of told,
    )

pub returns-in-Ok-None-clause-answer : goal.returns-in-Ok-None-clause-answer
returns-in-Ok-None-clause-answer c =
    says_closed c.args.counts.now c.args.pass.now.pointer.seat c.take.new.self.pointer.seat (Some c.in-Some.seat.value) Others c.code-in-Ok-None.result
    c.code-in-Ok-None.ensures c.in-Some.ensures.taken.0 c.take.ensures.left tt

pub returns-in-Err-Missing-clause-answer : goal.returns-in-Err-Missing-clause-answer
returns-in-Err-Missing-clause-answer c =
    says_closed c.args.counts.now c.args.pass.now.pointer.seat c.take.new.self.pointer.seat (Some c.in-Some.seat.value) Kept c.code-in-Err-Missing.result
    c.code-in-Err-Missing.ensures c.in-Some.ensures.taken.0 c.take.ensures.left tt

pub returns-in-Err-NoMemory-clause-answer : goal.returns-in-Err-NoMemory-clause-answer
returns-in-Err-NoMemory-clause-answer c =
    says_closed c.args.counts.now c.args.pass.now.pointer.seat c.take.new.self.pointer.seat (Some c.in-Some.seat.value) NoMemory
    c.code-in-Err-NoMemory.result c.code-in-Err-NoMemory.ensures c.in-Some.ensures.taken.0 c.take.ensures.left tt
