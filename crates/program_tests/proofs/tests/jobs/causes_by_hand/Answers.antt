use Rattle.std.proofs.Common.{◌≡◌, ◌<◌, All, IsUtf8, List, [], ◌∷◌, ℕ, ap, arith, codes, get_or, inl, inr, refl, rules}
use Rattle.std.proofs.lemmas.List.Elements.{All-cons, All-nil}
use Rattle.csv.proofs.OnLiterals.{csv_on_literals}
use Rattle.orc_job_files.proofs.GrammarLaws.{refused-bad}
use Rattle.orc_job_files.specs.JobGrammar.{Applies, HasCause, Refuses, rank_of}
use Rattle.orc_jobs.specs.Line.{IsLine}
use Rattle.orc_job_files.specs.declared.cause.Cause.{Cause}
use Rattle.orc_job_files.specs.declared.cause.Cause.TheVariants as cause
use Rattle.orc_job_files.specs.declared.records.FileRefused.TheVariants as fault
use Rattle.program_tests.proofs.tests.jobs.causes_by_hand.Goals as goal

put : List (List ℕ)
put = codes "put" ∷ codes "x" ∷ codes "y" ∷ codes "z" ∷ []

put-text : All IsUtf8 put
unfolding put
put-text =
    let x : IsUtf8 (codes "x") = search rules in
    let y : IsUtf8 (codes "y") = search rules in
    let z : IsUtf8 (codes "z") = search rules in
    let verb : IsUtf8 (codes "put") = search rules in
    let three = All-cons IsUtf8 (codes "z") [] z (All-nil IsUtf8) in
    let two = All-cons IsUtf8 (codes "y") (codes "z" ∷ []) y three in
    All-cons IsUtf8 (codes "put") (codes "x" ∷ codes "y" ∷ codes "z" ∷ []) verb (All-cons IsUtf8 (codes "x") (codes "y" ∷ codes "z" ∷ []) x two)

put-no_verb : Applies cause.Verb put
unfolding put
put-no_verb = (
  λ e. let second : 117 ≡ 111 = ap (λ t. get_or t 1 0) e in omega (arith, second),
  λ e. let first : 112 ≡ 114 = ap (λ t. get_or t 0 0) e in omega (arith, first),
  λ e. let first : 112 ≡ 100 = ap (λ t. get_or t 0 0) e in omega (arith, first),
)

put-before : (earlier : Cause) → rank_of earlier < 2 → ¬ Applies earlier put
unfolding put
put-before cause.Fields lt (inl bad) = put-no_verb.2 bad.0
put-before cause.Fields lt (inr bad) = bad.1 refl
put-before cause.Utf8 lt bad = bad put-text
put-before cause.Verb lt bad = omega (arith, lt)
put-before cause.Id lt bad = omega (arith, lt)
put-before cause.Op lt bad = omega (arith, lt)
put-before cause.Sum lt bad = omega (arith, lt)

drop-no_fields : HasCause (codes "drop" ∷ []) cause.Fields
drop-no_fields = record { applies = inl (refl, λ e. omega (arith, e)); first = λ earlier lt. absurd (omega (arith, lt)) }

drop-refused : Refuses (codes "drop\n") (fault.Malformed 0 cause.Fields)
unfolding csv_on_literals
drop-refused = ([], codes "drop" ∷ [], [], record { records = refl; each = All-nil IsLine }, refl, omega arith, drop-no_fields)

pub returns-clause-verb : goal.returns-clause-verb
unfolding put
returns-clause-verb c = record { applies = put-no_verb; first = put-before }

pub returns-clause-first : goal.returns-clause-first
unfolding put
returns-clause-first c h = h.first cause.Verb (omega arith) put-no_verb

pub returns-clause-refused : goal.returns-clause-refused
returns-clause-refused c = drop-refused

pub returns-clause-place : goal.returns-clause-place
returns-clause-place c other = elim (refused-bad (codes "drop\n") 0 cause.Fields (fault.Malformed 1 cause.Fields) drop-refused other) [
  | inl same ↦ let places : ◌≡◌ {A = ℕ} 1 0 = cc same in omega (arith, places)
  | inr same ↦ cc same
]

pub returns-clause-many : goal.returns-clause-many
returns-clause-many c many = elim (refused-bad (codes "drop\n") 0 cause.Fields fault.TooMany drop-refused many) [ inl same ↦ cc same | inr same ↦ cc same ]
