use Rattle.std.proofs.Common.{IsUtf8, [], ◌∷◌, arith, codes, rules}
use Rattle.std.proofs.lemmas.List.Elements.{All-cons, All-nil}
use Rattle.orc_jobs.specs.Line.{IsLine}
use Rattle.orc_jobs.specs.declared.line.Job.TheVariants.{Bytes}
use Rattle.orc_jobs.specs.declared.line.Line.TheVariants.{Drop, Post}
use Rattle.program_tests.proofs.tests.jobs.values_by_hand.Goals as goal

pub returns-clause-good : goal.returns-clause-good
returns-clause-good c =
    let hello : IsUtf8 (codes "hello") = search rules in
    record {
      few = omega arith;
      each = All-cons IsLine (Post 7 Bytes (codes "hello")) (Drop 7 ∷ []) (omega arith, hello, tt) (All-cons IsLine (Drop 7) [] (omega arith) (All-nil IsLine));
      small = omega arith;
    }

pub returns-clause-bad : goal.returns-clause-bad
returns-clause-bad c good =
    let id = good.each 0 (Drop 4294967296) (omega arith) in
    omega (arith, id)
