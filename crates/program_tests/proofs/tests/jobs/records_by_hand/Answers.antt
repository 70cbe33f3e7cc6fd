use Rattle.std.proofs.Common.{◌≡◌, [], ◌∷◌, ℕ, arith, codes, refl}
use Rattle.std.specs.Fmt.{decimal, digits}
use Rattle.std.proofs.lemmas.List.Elements.{All-cons, All-nil}
use Rattle.csv.proofs.OnLiterals.{csv_on_literals}
use Rattle.orc_job_files.proofs.GrammarLaws.{file-read}
use Rattle.orc_job_files.specs.JobGrammar.{IsFileOf, records_of}
use Rattle.orc_jobs.specs.Line.{IsLine}
use Rattle.orc_jobs.specs.declared.line.Line.TheVariants.{Drop}
use Rattle.program_tests.proofs.tests.jobs.records_by_hand.Goals as goal

seven : decimal 7 ≡ codes "7"
unfolding digits
seven = refl

records_of-drop : records_of (codes "drop,7\n") ≡ (codes "drop" ∷ codes "7" ∷ []) ∷ []
unfolding csv_on_literals
records_of-drop = refl

drop_file : IsFileOf (Drop 7 ∷ []) (codes "drop,7\n")
drop_file = record {
  records = rw seven records_of-drop;
  each = All-cons IsLine (Drop 7) [] (omega arith) (All-nil IsLine);
  few = omega arith;
}

pub returns-clause-records : goal.returns-clause-records
unfolding csv_on_literals
returns-clause-records c = refl

pub returns-clause-post : goal.returns-clause-post
returns-clause-post c = rw seven refl

pub returns-clause-rush : goal.returns-clause-rush
returns-clause-rush c = rw seven refl

pub returns-clause-drop : goal.returns-clause-drop
returns-clause-drop c = rw seven refl

pub returns-clause-file : goal.returns-clause-file
returns-clause-file c = drop_file

pub returns-clause-other : goal.returns-clause-other
returns-clause-other c other =
    let same = file-read (codes "drop,7\n") (Drop 8 ∷ []) (Drop 7 ∷ []) other drop_file in
    let ids : ◌≡◌ {A = ℕ} 8 7 = cc same in
    omega (arith, ids)
