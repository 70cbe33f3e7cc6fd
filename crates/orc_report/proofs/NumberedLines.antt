-- Lines that post numbered jobs, which generated lines do; and lines have one list of jobs.
use Rattle.std.proofs.Common.{◌≡◌, ◌∙◌, ◌+◌, ◌∷◌, List, [], ℕ, zero, suc, Some, arith, slice_get, subst, sym}
use Rattle.orc_jobs.specs.Generated.{behind_line, generated, line_from, lines_from}
use Rattle.orc_jobs.specs.declared.line.Job.{Job}
use Rattle.orc_jobs.specs.declared.line.Line.{Line}
use Rattle.orc_jobs.specs.declared.line.Line.TheVariants as line
use Rattle.orc_jobs.proofs.JobValues.{IsJobValue-unique}
use Rattle.orc_report.specs.AllDone.{AreJobsOf, IsJobOf}

-- the line posts a job with this id on the queue
abbrev pub PostsId : ℕ → Line → Type 0
PostsId i (line.Post id op text) = id ≡ i
PostsId i (line.Rush id op text) = ⊥
PostsId i (line.Drop id) = ⊥

-- each line posts a job on the queue, whose id is the line's number
abbrev pub PostTheirNumbers : List Line → Type 0
PostTheirNumbers lines = (i : ℕ) (l : Line) → slice_get lines i ≡ Some l → PostsId i l

numbered : (n a x i : ℕ) (l : Line) → slice_get (lines_from n a x) i ≡ Some l → PostsId (a + i) l
numbered zero a x i l e = cc e
numbered (suc n) a x zero l e = let is : line_from a x ≡ l = cc e in subst (PostsId (a + 0)) is (omega arith)
numbered (suc n) a x (suc i) l e =
    let next : a + 1 + i ≡ a + suc i = omega arith in
    subst (λ (k : ℕ). PostsId k l) next (numbered n (a + 1) (behind_line x) i l e)

pub generated-numbered : (seed lines : ℕ) → PostTheirNumbers (generated seed lines)
generated-numbered seed lines i l e = let is : 0 + i ≡ i = omega arith in subst (λ (k : ℕ). PostsId k l) is (numbered lines 0 seed i l e)

one_job : (l : Line) (x y : Job × ℕ) → IsJobOf l x → IsJobOf l y → x ≡ y
one_job (line.Post id op text) x y h k =
    let ops : x.0 ≡ y.0 = h.0 ∙ sym k.0 in
    let values : x.1 ≡ y.1 = IsJobValue-unique (line.Post id op text) x.1 y.1 h.1 k.1 in
    λ i. (ops i, values i)
one_job (line.Rush id op text) x y h k =
    let ops : x.0 ≡ y.0 = h.0 ∙ sym k.0 in
    let values : x.1 ≡ y.1 = IsJobValue-unique (line.Rush id op text) x.1 y.1 h.1 k.1 in
    λ i. (ops i, values i)
one_job (line.Drop id) x y h k = absurd h

-- the jobs of lines are one list
pub one-list : (lines : List Line) (a b : List (Job × ℕ)) → AreJobsOf lines a → AreJobsOf lines b → a ≡ b
one-list [] [] [] h k = λ i. []
one-list [] [] (y ∷ ys) h k = absurd k
one-list [] (x ∷ xs) b h k = absurd h
one-list (l ∷ lines) [] b h k = absurd h
one-list (l ∷ lines) (x ∷ xs) [] h k = absurd k
one-list (l ∷ lines) (x ∷ xs) (y ∷ ys) h k =
    let head : x ≡ y = one_job l x y h.0 k.0 in
    let tail : xs ≡ ys = one-list lines xs ys h.1 k.1 in
    λ i. head i ∷ tail i
