-- What closing a pass answers.
use Rattle.std.specs.Prelude.{None, Option, Some, ◌≡◌}
use Rattle.orc_any_domain.specs.declared.domain.RowCounts.{RowCounts}
use Rattle.mooringakee_c_passes.specs.Settling.{TellsCounts}
use Rattle.mooringakee_c_passes.specs.declared.answer.Answer.{Answer}
use Rattle.mooringakee_c_passes.specs.declared.answer.Answer.TheVariants.{Done, Kept, NoMemory, NoPass, Others}
use Rattle.mooringakee_c_passes.specs.declared.seat.Seat.{Seat}
use Rattle.mooringakee_c.specs.declared.Counts.{Counts}

-- these are the counts that the container told of its rows
pub record TellsOf (told : RowCounts) (counts : Counts) : Type 0 where
  pub given : counts.given ≡ told.given
  pub reused : counts.reused ≡ told.reused
  pub linked : counts.linked ≡ told.linked

-- the pass is given up, and where the answer is Done, its container came to rest, and these are the counts of its rows
abbrev pub ClosesPass : Counts → Option Seat → Answer → Option Seat → Type 0
ClosesPass counts (Some old) Done None = (told : RowCounts) × TellsCounts old told × TellsOf told counts
ClosesPass counts (Some old) Others None = Unit {0}
ClosesPass counts (Some old) Kept None = Unit {0}
ClosesPass counts (Some old) NoMemory None = Unit {0}
ClosesPass counts None NoPass None = Unit {0}
ClosesPass _ _ _ _ = ⊥
