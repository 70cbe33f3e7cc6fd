use Rattle.std.proofs.Common.{All, length, take}
use Rattle.orc_jobs.specs.Numbers.{IsNumber}
use Rattle.orc_jobs.proofs.NumberLists.{pieces_of}
use Rattle.orc_jobs.proofs.number.is_number_list.Given as goal

abbrev pub invariant-loop-piece : goal.invariant-loop-piece
invariant-loop-piece l = All IsNumber (take (length l.yielded) (pieces_of l.text))
