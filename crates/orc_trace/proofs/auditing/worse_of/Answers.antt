use Rattle.std.proofs.Common.{arith, refl}
use Rattle.orc_trace.proofs.auditing.worse_of.Goals as goal

pub returns-then-backlog-most : goal.returns-then-backlog-most
returns-then-backlog-most c = let more = c.if-backlog-most.true in record { more = λ _. (refl, refl); same = λ few. absurd (omega (arith, more, few)) }

pub returns-else-backlog-most : goal.returns-else-backlog-most
returns-else-backlog-most c = let few = c.if-backlog-most.false in record { more = λ more. absurd (omega (arith, more, few)); same = λ _. (refl, refl) }
