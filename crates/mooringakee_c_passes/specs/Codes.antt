-- The number of each answer, which C sees.
use Rattle.std.specs.Prelude.{pos, ℤ, ◌≡◌}
use Rattle.mooringakee_c_passes.specs.declared.answer.Answer.{Answer}
use Rattle.mooringakee_c_passes.specs.declared.answer.Answer.TheVariants.{Again, Done, Empty, Full, Kept, Kind, Live, NoMemory, NoPass, Others, Positions, Shape, Spent}

abbrev pub code_of : Answer → ℤ
code_of Done = pos 0
code_of Again = pos 1
code_of Full = pos 2
code_of Positions = pos 3
code_of Empty = pos 4
code_of Shape = pos 5
code_of NoMemory = pos 6
code_of NoPass = pos 7
code_of Live = pos 8
code_of Kind = pos 10
code_of Spent = pos 11
code_of Others = pos 12
code_of Kept = pos 13

-- the number is that of an answer with this property
abbrev pub Says : ℤ → (Answer → Type 0) → Type 0
Says code property = (answer : Answer) × (code ≡ code_of answer) × property answer
