-- What the number of an answer says.
use Rattle.std.proofs.Common.{None, Option, Some, ap, of_z, refl, subst, sym, to_z, w32, ℤ, ◌∙◌, ◌≡◌}
use Rattle.mooringakee_c_passes.specs.Codes.{Says, code_of}
use Rattle.mooringakee_c_passes.specs.Seats.{IsSeat, Through}
use Rattle.mooringakee_c_passes.specs.Settling.{GivesPassUp, SettlesPass}
use Rattle.mooringakee_c_passes.specs.declared.answer.Answer.{Answer}
use Rattle.mooringakee_c_passes.specs.declared.answer.Answer.TheVariants.{Again, Done, Empty, Full, Kept, Kind, Live, NoMemory, NoPass, Others, Positions, Shape, Spent}
use Rattle.mooringakee_c_passes.specs.declared.seat.Seat.{Seat}

-- each number fits
fits : (answer : Answer) → to_z w32 (of_z w32 (code_of answer)) ≡ code_of answer
fits Done = refl
fits Again = refl
fits Full = refl
fits Positions = refl
fits Empty = refl
fits Shape = refl
fits NoMemory = refl
fits NoPass = refl
fits Live = refl
fits Kind = refl
fits Spent = refl
fits Others = refl
fits Kept = refl

pub said : (answer : Answer) (code : ℤ) → code ≡ code_of answer → to_z w32 (of_z w32 code) ≡ code_of answer
said answer code is = ap (λ (n : ℤ). to_z w32 (of_z w32 n)) is ∙ fits answer

-- a call answered, of what the pass stands for before and after it
pub says_of : (clause : Option Seat → Answer → Option Seat → Type 0) (old new before after : Option Seat) (answer : Answer) (code : ℤ)
    → code ≡ code_of answer → old ≡ before → new ≡ after → clause before answer after → Says (to_z w32 (of_z w32 code)) (λ a. clause old a new)
says_of clause old new before after answer code is was left done = (
  answer,
  said answer code is,
  subst (λ (o : Option Seat). clause o answer new) (sym was) (subst (λ (n : Option Seat). clause before answer n) (sym left) done),
)

-- there was no pass
pub says_none : (call : Seat → Answer → Seat → Type 0) (old new : Option Seat) (code : ℤ) → code ≡ code_of NoPass → old ≡ None → new ≡ None
    → Says (to_z w32 (of_z w32 code)) (λ answer. Through call old answer new)
says_none call old new code is gone left = says_of (Through call) old new None None NoPass code is gone left tt

-- a call answered, at the place that the pass stands for
pub says : (call : Seat → Answer → Seat → Type 0) (old new : Option Seat) (before after : Seat) (answer : Answer) (code : ℤ) → code ≡ code_of answer
    → old ≡ Some before → new ≡ Some after → call before answer after → Says (to_z w32 (of_z w32 code)) (λ a. Through call old a new)
says call old new before after answer code is was left done = says_of (Through call) old new (Some before) (Some after) answer code is was left done

-- the pass was given up, or there was none
pub says_gone : (old new : Option Seat) (code : ℤ) → code ≡ code_of NoPass → old ≡ None → new ≡ None
    → Says (to_z w32 (of_z w32 code)) (λ answer. GivesPassUp old answer new)
says_gone old new code is gone left = says_of GivesPassUp old new None None NoPass code is gone left tt

pub says_given : (old new : Option Seat) (before last : Seat) (answer : Answer) (code : ℤ) → code ≡ code_of answer
    → old ≡ Some before → new ≡ None → IsSeat last → SettlesPass before answer last → Says (to_z w32 (of_z w32 code)) (λ a. GivesPassUp old a new)
says_given old new before last answer code is was left can done = says_of GivesPassUp old new (Some before) None answer code is was left (last, can, done)
