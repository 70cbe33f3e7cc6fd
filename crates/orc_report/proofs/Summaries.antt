-- Summaries: one more operation, and its total.
use Rattle.std.proofs.Common.{Bool, Bor, List, None, Option, Some, [], add-one, ap, append-nil, cond, false, filter, flat_map, inl, inr, is_some, nat_eq, not, option_copied, refl, slice_get, suc, sym, take, true, zero, ℕ, ◌++◌, ◌+◌, ◌||◌, ◌∙◌, ◌∷◌, ◌≡◌}
use Rattle.std.specs.List.{list_any}
use Rattle.std.specs.Map.{lookup}
use Rattle.std.proofs.lemmas.Bool.{cases_Bool}
use Rattle.orc_jobs.specs.declared.line.Job.{Job}
use Rattle.orc_jobs.specs.declared.line.Job.TheVariants as job
use Rattle.orc_report.specs.Summary.{firsts, same_op, total_line}
use Rattle.std.proofs.lemmas.Grind.{flat_map-append}
use Rattle.std.proofs.lemmas.Option.{get_or_from_slice_get, slice_get_within}
use Rattle.std.proofs.Math.Seq.{take-suc}
use Rattle.orc_report.specs.declared.summary.Total.{Total}
use Rattle.orc_report.specs.Totals.{operation_totals, key_of_operation, total_of}

-- the operation is one of these
abbrev pub known : Job → List Job → Bool
known op ops = list_any (same_op op) ops

pub same-key : (a b : Job) → nat_eq (key_of_operation a) (key_of_operation b) ≡ same_op a b
same-key job.Bytes job.Bytes = refl
same-key job.Bytes job.Words = refl
same-key job.Bytes job.Sum = refl
same-key job.Words job.Bytes = refl
same-key job.Words job.Words = refl
same-key job.Words job.Sum = refl
same-key job.Sum job.Bytes = refl
same-key job.Sum job.Words = refl
same-key job.Sum job.Sum = refl

same-is : (a b : Job) → same_op a b ≡ true → a ≡ b
same-is job.Bytes job.Bytes e = refl
same-is job.Bytes job.Words e = cc e
same-is job.Bytes job.Sum e = cc e
same-is job.Words job.Bytes e = cc e
same-is job.Words job.Words e = refl
same-is job.Words job.Sum e = cc e
same-is job.Sum job.Bytes e = cc e
same-is job.Sum job.Words e = cc e
same-is job.Sum job.Sum e = refl

same-turned : (a b : Job) → same_op a b ≡ same_op b a
same-turned a b = elim (cases_Bool (same_op a b)) [
  | inl e ↦ rw (same-is a b e) refl
  | inr e ↦ elim (cases_Bool (same_op b a)) [ inl f ↦ rw (same-is b a f) refl | inr f ↦ e ∙ sym f ]
]

abbrev others : Job → List Job → List Job
others x ops = filter (λ y. not (same_op x y)) ops

others-append : (x : Job) (xs ys : List Job) → others x (xs ++ ys) ≡ others x xs ++ others x ys
others-append x [] ys = refl
others-append x (y ∷ xs) ys = elim (cases_Bool (same_op x y)) [
  | inl e ↦ rw e (others-append x xs ys)
  | inr e ↦ rw e (ap (λ t. y ∷ t) (others-append x xs ys))
]

known-others : (op x : Job) (ops : List Job) → same_op op x ≡ false → known op (others x ops) ≡ known op ops
known-others op x [] e = refl
known-others op x (y ∷ ys) e = elim (cases_Bool (same_op x y)) [
  | inl same ↦ let apart : same_op op y ≡ false = ap (same_op op) (sym (same-is x y same)) ∙ e in rw (same, apart) (known-others op x ys e)
  | inr apart ↦ rw apart (ap (λ b. same_op op y || b) (known-others op x ys e))
]

-- one more operation stands last, unless it was there
pub firsts-more : (ops : List Job) (op : Job) → firsts (ops ++ op ∷ []) ≡ firsts ops ++ cond (known op (firsts ops)) [] (op ∷ [])
firsts-more [] op = refl
firsts-more (x ∷ xs) op =
    ap (λ t. x ∷ others x t) (firsts-more xs op)
    ∙ (ap (λ t. x ∷ t) (others-append x (firsts xs) (cond (known op (firsts xs)) [] (op ∷ [])))
    ∙ ap (λ t. x ∷ (others x (firsts xs) ++ t)) last)
  where
    last : others x (cond (known op (firsts xs)) [] (op ∷ [])) ≡ cond (same_op op x || known op (others x (firsts xs))) [] (op ∷ [])
    last = elim (cases_Bool (same_op op x)) [
      | inl same ↦ let turned : same_op x op ≡ true = same-turned x op ∙ same in elim (cases_Bool (known op (firsts xs))) [
        | inl there ↦ rw (same, there) refl
        | inr absent ↦ rw (same, absent, turned) refl
      ]
      | inr apart ↦ let turned : same_op x op ≡ false = same-turned x op ∙ apart in elim (cases_Bool (known op (firsts xs))) [
        | inl there ↦ rw (apart, known-others op x (firsts xs) apart, there) refl
        | inr absent ↦ rw (apart, known-others op x (firsts xs) apart, absent, turned) refl
      ]
    ]

pub lookup-known : (jobs : List (Job × ℕ)) (op : Job) (ops : List Job) → is_some (lookup (nat_eq (key_of_operation op)) (operation_totals jobs ops)) ≡ known op ops
lookup-known jobs op [] = refl
lookup-known jobs op (y ∷ ys) = elim (cases_Bool (same_op op y)) [
  | inl e ↦ rw (same-key op y ∙ e, e) refl
  | inr e ↦ rw (same-key op y ∙ e, e) (lookup-known jobs op ys)
]

pub firsts-known : (ops : List Job) (op : Job) → known op (firsts ops) ≡ true → firsts (ops ++ op ∷ []) ≡ firsts ops
firsts-known ops op e = firsts-more ops op ∙ (ap (λ b. firsts ops ++ cond b [] (op ∷ [])) e ∙ append-nil (firsts ops))

pub firsts-new : (ops : List Job) (op : Job) → known op (firsts ops) ≡ false → firsts (ops ++ op ∷ []) ≡ firsts ops ++ op ∷ []
firsts-new ops op e = firsts-more ops op ∙ ap (λ b. firsts ops ++ cond b [] (op ∷ [])) e

pub entries-more : (jobs : List (Job × ℕ)) (ops : List Job) (op : Job)
    → operation_totals jobs (ops ++ op ∷ []) ≡ operation_totals jobs ops ++ (key_of_operation op, total_of jobs op) ∷ []
entries-more jobs [] op = refl
entries-more jobs (x ∷ xs) op = ap (λ t. (key_of_operation x, total_of jobs x) ∷ t) (entries-more jobs xs op)

pub there : {X : Type 0} (r : Option (Bor X)) (m : Option X) → option_copied r ≡ m → is_some r ≡ is_some m
there None m e = ap is_some e
there (Some x) m e = ap is_some e

pub none-there : {X : Type 0} (m : Option X) → is_some m ≡ false → m ≡ None
none-there None e = refl
none-there (Some x) e = cc e

-- the operation of a total, at its place
pub total-at : (jobs : List (Job × ℕ)) (ops : List Job) (place key : ℕ) (t : Total) → slice_get (operation_totals jobs ops) place ≡ Some (key, t)
    → (op : Job) × (slice_get ops place ≡ Some op) × (t ≡ total_of jobs op)
total-at jobs [] place key t e = cc e
total-at jobs (x ∷ xs) zero key t e = let same : (key_of_operation x, total_of jobs x) ≡ (key, t) = cc e in (x, refl, sym (ap (λ (p : ℕ × Total). p.1) same))
total-at jobs (x ∷ xs) (suc place) key t e = total-at jobs xs place key t e

-- the lines of one more operation
pub lines-more : (jobs : List (Job × ℕ)) (ops : List Job) (place : ℕ) (op : Job) → slice_get ops place ≡ Some op
    → flat_map (total_line jobs) (take (place + 1) ops) ≡ flat_map (total_line jobs) (take place ops) ++ total_line jobs op
lines-more jobs ops place op e =
    ap (λ k. flat_map (total_line jobs) (take k ops)) (add-one place)
    ∙ (ap (flat_map (total_line jobs))
    (take-suc ops place op (slice_get_within ops place op e) ∙ ap (λ z. take place ops ++ z ∷ []) (get_or_from_slice_get ops place op op e))
    ∙ (flat_map-append (total_line jobs) (take place ops) (op ∷ [])
    ∙ ap (λ z. flat_map (total_line jobs) (take place ops) ++ z) (append-nil (total_line jobs op))))
