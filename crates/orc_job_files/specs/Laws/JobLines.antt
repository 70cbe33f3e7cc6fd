-- A line of a job file has no cause and is known by its record, and a record has one cause.
use Rattle.std.proofs.Common.{◌≡◌, ◌≢◌, ◌<◌, ◌^◌, All, List, [], ◌∷◌, ℕ, codes, refl, arith, ap, sym, get_or, inl, inr, Bool, true, false, IsUtf8, ◌==◌, if◌then◌else◌}
use Rattle.std.proofs.lemmas.List.Elements.{All-cons, All-nil}
use Rattle.std.specs.Fmt.{decimal}
use Rattle.std.proofs.lemmas.Fmt.{decimal_injective}
use Rattle.orc_job_files.specs.JobGrammar.{Applies, HasCause, rank_of, record_of}
use Rattle.orc_jobs.specs.Line.{IsLine, TakesText, operation_word, job_line}
use Rattle.orc_jobs.specs.Numbers.{IsNumberList}
use Rattle.orc_job_files.specs.Laws.Causes.{one-cause}
use Rattle.orc_job_files.specs.Laws.Fields.{IsUtf8-decimal, first-field, two-texts}
use Rattle.orc_job_files.specs.declared.cause.Cause.{Cause}
use Rattle.orc_job_files.specs.declared.cause.Cause.TheVariants as cause
use Rattle.orc_jobs.specs.declared.line.Job.{Job}
use Rattle.orc_jobs.specs.declared.line.Job.TheVariants as job
use Rattle.orc_jobs.specs.declared.line.Line.{Line}
use Rattle.orc_jobs.specs.declared.line.Line.TheVariants as line

-- the word of an operation is text
IsUtf8-word_of : (op : Job) → IsUtf8 (operation_word op)
unfolding lib.Utf8.encode
IsUtf8-word_of job.Bytes = (codes "bytes", (refl, refl))
IsUtf8-word_of job.Words = (codes "words", (refl, refl))
IsUtf8-word_of job.Sum = (codes "sum", (refl, refl))

-- so are the words with which records of lines begin
IsUtf8-post : IsUtf8 (codes "post")
unfolding lib.Utf8.encode
IsUtf8-post = (codes "post", (refl, refl))

IsUtf8-rush : IsUtf8 (codes "rush")
unfolding lib.Utf8.encode
IsUtf8-rush = (codes "rush", (refl, refl))

IsUtf8-drop : IsUtf8 (codes "drop")
unfolding lib.Utf8.encode
IsUtf8-drop = (codes "drop", (refl, refl))

-- the record of a job, with this verb
job_record : List ℕ → ℕ → Job → List ℕ → List (List ℕ)
job_record verb id op text = verb ∷ decimal id ∷ operation_word op ∷ text ∷ []

-- the id, operation and text that a record of a job may have
abbrev IsJob : ℕ → Job → List ℕ → Type 0
IsJob id op text = (id < 2 ^ 32) × IsUtf8 text × TakesText op text

-- so are the fields of the record of a job
IsUtf8-job : (verb : List ℕ) (id : ℕ) (op : Job) (text : List ℕ) → IsUtf8 verb → IsJob id op text → All IsUtf8 (job_record verb id op text)
unfolding job_record
IsUtf8-job verb id op text v h =
    let four = All-cons IsUtf8 text [] h.1 (All-nil IsUtf8) in
    let three = All-cons IsUtf8 (operation_word op) (text ∷ []) (IsUtf8-word_of op) four in
    let two = All-cons IsUtf8 (decimal id) (operation_word op ∷ text ∷ []) (IsUtf8-decimal id h.0) three in
    All-cons IsUtf8 verb (decimal id ∷ operation_word op ∷ text ∷ []) v two

-- so are the fields of the record of any line
IsUtf8-record_of : (l : Line) → IsLine l → All IsUtf8 (record_of l)
unfolding job_record
IsUtf8-record_of (line.Post id op text) h = IsUtf8-job (codes "post") id op text IsUtf8-post h
IsUtf8-record_of (line.Rush id op text) h = IsUtf8-job (codes "rush") id op text IsUtf8-rush h
IsUtf8-record_of (line.Drop id) h =
    let two = All-cons IsUtf8 (decimal id) [] (IsUtf8-decimal id h) (All-nil IsUtf8) in
    All-cons IsUtf8 (codes "drop") (decimal id ∷ []) IsUtf8-drop two

-- a line that sums has a text of numbers
sums-numbers : (id : ℕ) (op : Job) (text : List ℕ) → IsJob id op text → operation_word op ≡ codes "sum" → IsNumberList text
sums-numbers id job.Bytes text h e = absurd (two-texts e refl)
sums-numbers id job.Words text h e = absurd (two-texts e refl)
sums-numbers id job.Sum text h e = h.2

-- no cause applies to the record of a job whose verb is one
job-not-applies : (verb : List ℕ) (id : ℕ) (op : Job) (text : List ℕ) → IsUtf8 verb → verb ≢ codes "drop" → ¬ ((verb ≢ codes "post") × (verb ≢ codes "rush"))
    → IsJob id op text → (why : Cause) → ¬ Applies why (job_record verb id op text)
unfolding job_record
job-not-applies verb id op text v no_drop known h cause.Fields (inl bad) = no_drop bad.0
job-not-applies verb id op text v no_drop known h cause.Fields (inr bad) = bad.1 refl
job-not-applies verb id op text v no_drop known h cause.Utf8 bad = bad (IsUtf8-job verb id op text v h)
job-not-applies verb id op text v no_drop known h cause.Verb bad = known (bad.0, bad.1)
job-not-applies verb id op text v no_drop known h cause.Id bad = bad (id, h.0, refl)
job-not-applies verb id op text v no_drop known h cause.Op bad = bad.1 (op, refl)
job-not-applies verb id op text v no_drop known h cause.Sum bad = bad.2 (sums-numbers id op text h bad.1)

-- no cause applies to the record of a line
not-applies : (l : Line) → IsLine l → (why : Cause) → ¬ Applies why (record_of l)
unfolding job_record
not-applies (line.Post id op text) h why bad = job-not-applies (codes "post") id op text IsUtf8-post (λ e. two-texts e refl) (λ no. no.0 refl) h why bad
not-applies (line.Rush id op text) h why bad = job-not-applies (codes "rush") id op text IsUtf8-rush (λ e. two-texts e refl) (λ no. no.1 refl) h why bad
not-applies (line.Drop id) h cause.Fields (inl bad) = bad.1 refl
not-applies (line.Drop id) h cause.Fields (inr bad) = bad.0 refl
not-applies (line.Drop id) h cause.Utf8 bad = bad (IsUtf8-record_of (line.Drop id) h)
not-applies (line.Drop id) h cause.Verb bad = bad.2 refl
not-applies (line.Drop id) h cause.Id bad = bad (id, h, refl)
not-applies (line.Drop id) h cause.Op bad = bad.0 refl
not-applies (line.Drop id) h cause.Sum bad = bad.0 refl

-- the cause of a rank
abbrev cause_at : ℕ → Cause
cause_at n =
    if n == 0 then cause.Fields else if n == 1 then cause.Utf8 else if n == 2 then cause.Verb
    else if n == 3 then cause.Id else if n == 4 then cause.Op else cause.Sum

-- each cause is known by its rank
cause_at-rank_of : (why : Cause) → cause_at (rank_of why) ≡ why
cause_at-rank_of cause.Fields = refl
cause_at-rank_of cause.Utf8 = refl
cause_at-rank_of cause.Verb = refl
cause_at-rank_of cause.Id = refl
cause_at-rank_of cause.Op = refl
cause_at-rank_of cause.Sum = refl

-- an operation is known by its word
same-op : (a b : Job) → operation_word a ≡ operation_word b → a ≡ b
same-op job.Bytes job.Bytes e = refl
same-op job.Bytes job.Words e = absurd (two-texts e refl)
same-op job.Bytes job.Sum e = absurd (two-texts e refl)
same-op job.Words job.Bytes e = absurd (two-texts e refl)
same-op job.Words job.Words e = refl
same-op job.Words job.Sum e = absurd (two-texts e refl)
same-op job.Sum job.Bytes e = absurd (two-texts e refl)
same-op job.Sum job.Words e = absurd (two-texts e refl)
same-op job.Sum job.Sum e = refl

-- a job is known by its record
same-job : (verb : List ℕ) (rush : Bool) (i : ℕ) (o : Job) (s : List ℕ) (j : ℕ) (p : Job) (t : List ℕ) → IsJob i o s → IsJob j p t
    → job_record verb i o s ≡ job_record verb j p t → job_line rush i o s ≡ job_line rush j p t
unfolding job_record
same-job verb rush i o s j p t h k e =
    let ids : decimal i ≡ decimal j = ap (λ r. get_or r 1 []) e in
    let ops : operation_word o ≡ operation_word p = ap (λ r. get_or r 2 []) e in
    let texts : s ≡ t = ap (λ r. get_or r 3 []) e in
    let small = h.0 in
    let small2 = k.0 in
    let id = decimal_injective i j (omega (arith, small)) (omega (arith, small2)) ids in
    let op = same-op o p ops in
    cc (id, op, texts)

-- a line is known by its record
pub known_by_record : (a b : Line) → IsLine a → IsLine b → record_of a ≡ record_of b → a ≡ b
unfolding job_record
known_by_record (line.Post i o s) (line.Post j p t) h k e = same-job (codes "post") false i o s j p t h k e
known_by_record (line.Rush i o s) (line.Rush j p t) h k e = same-job (codes "rush") true i o s j p t h k e
known_by_record (line.Post i o s) (line.Rush j p t) h k e = absurd (two-texts (first-field e) refl)
known_by_record (line.Rush i o s) (line.Post j p t) h k e = absurd (two-texts (sym (first-field e)) refl)
known_by_record (line.Rush i o s) (line.Drop j) h k e = absurd (two-texts (first-field e) refl)
known_by_record (line.Drop i) (line.Rush j p t) h k e = absurd (two-texts (sym (first-field e)) refl)
known_by_record (line.Post i o s) (line.Drop j) h k e = absurd (two-texts (first-field e) refl)
known_by_record (line.Drop i) (line.Post j p t) h k e = absurd (two-texts (sym (first-field e)) refl)
known_by_record (line.Drop i) (line.Drop j) h k e =
    let ids : decimal i ≡ decimal j = ap (λ r. get_or r 1 []) e in
    ap (λ x. line.Drop x) (decimal_injective i j (omega (arith, h)) (omega (arith, k)) ids)

-- the record of a line has no cause
pub line_has_no_cause : (l : Line) (why : Cause) → IsLine l → ¬ HasCause (record_of l) why
line_has_no_cause l why h bad = not-applies l h why bad.applies

-- a record has one cause at most
pub record_has_one_cause : (fields : List (List ℕ)) (a b : Cause) → HasCause fields a → HasCause fields b → a ≡ b
record_has_one_cause = one-cause Applies rank_of cause_at cause_at-rank_of
