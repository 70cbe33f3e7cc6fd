-- A line of a watch file has no cause and is known by its record, and a record has one cause.
use Rattle.std.proofs.Common.{◌≡◌, ◌<◌, ◌^◌, All, List, [], ◌∷◌, ℕ, codes, refl, arith, ap, ap₂, sym, get_or, inl, inr, IsUtf8, ◌==◌, if◌then◌else◌}
use Rattle.std.proofs.lemmas.List.Elements.{All-cons, All-nil}
use Rattle.std.specs.Fmt.{decimal}
use Rattle.std.proofs.lemmas.Fmt.{decimal_injective}
use Rattle.orc_job_files.specs.Laws.Causes.{one-cause}
use Rattle.orc_job_files.specs.Laws.Fields.{IsUtf8-decimal, first-field, two-texts}
use Rattle.orc_watch.specs.WatchGrammar.{Applies, HasCause, IsLine, rank_of, record_of}
use Rattle.orc_watch.specs.declared.cause.WatchCause.{WatchCause}
use Rattle.orc_watch.specs.declared.cause.WatchCause.TheVariants as cause
use Rattle.orc_watch.specs.declared.line.WatchLine.{WatchLine}
use Rattle.orc_watch.specs.declared.line.WatchLine.TheVariants as line

-- the words with which records of lines begin are text
IsUtf8-left : IsUtf8 (codes "left")
unfolding lib.Utf8.encode
IsUtf8-left = (codes "left", (refl, refl))

IsUtf8-right : IsUtf8 (codes "right")
unfolding lib.Utf8.encode
IsUtf8-right = (codes "right", (refl, refl))

IsUtf8-both : IsUtf8 (codes "both")
unfolding lib.Utf8.encode
IsUtf8-both = (codes "both", (refl, refl))

IsUtf8-see : IsUtf8 (codes "see")
unfolding lib.Utf8.encode
IsUtf8-see = (codes "see", (refl, refl))

-- so are such a word and the print of a number
one-value : (verb : List ℕ) (n : ℕ) → IsUtf8 verb → n < 2 ^ 32 → All IsUtf8 (verb ∷ decimal n ∷ [])
one-value verb n v h = All-cons IsUtf8 verb (decimal n ∷ []) v (All-cons IsUtf8 (decimal n) [] (IsUtf8-decimal n h) (All-nil IsUtf8))

-- so are the fields of the record of any line
IsUtf8-record_of : (l : WatchLine) → IsLine l → All IsUtf8 (record_of l)
IsUtf8-record_of (line.Left n) h = one-value (codes "left") n IsUtf8-left h
IsUtf8-record_of (line.Right n) h = one-value (codes "right") n IsUtf8-right h
IsUtf8-record_of (line.Both m n) h =
    All-cons IsUtf8 (codes "both") (decimal m ∷ decimal n ∷ []) IsUtf8-both (one-value (decimal m) n (IsUtf8-decimal m h.0) h.1)
IsUtf8-record_of line.See h = All-cons IsUtf8 (codes "see") [] IsUtf8-see (All-nil IsUtf8)

-- no cause applies to the record of a line
not-applies : (l : WatchLine) → IsLine l → (why : WatchCause) → ¬ Applies why (record_of l)
not-applies (line.Left n) h cause.Fields (inl bad) = two-texts bad.0 refl
not-applies (line.Left n) h cause.Fields (inr (inl bad)) = two-texts bad.0 refl
not-applies (line.Left n) h cause.Fields (inr (inr bad)) = bad.2 refl
not-applies (line.Right n) h cause.Fields (inl bad) = two-texts bad.0 refl
not-applies (line.Right n) h cause.Fields (inr (inl bad)) = two-texts bad.0 refl
not-applies (line.Right n) h cause.Fields (inr (inr bad)) = bad.2 refl
not-applies (line.Both m n) h cause.Fields (inl bad) = two-texts bad.0 refl
not-applies (line.Both m n) h cause.Fields (inr (inl bad)) = bad.1 refl
not-applies (line.Both m n) h cause.Fields (inr (inr bad)) = bad.1 refl
not-applies line.See h cause.Fields (inl bad) = bad.1 refl
not-applies line.See h cause.Fields (inr (inl bad)) = two-texts (sym bad.0) refl
not-applies line.See h cause.Fields (inr (inr bad)) = bad.0 refl
not-applies (line.Left n) h cause.Utf8 bad = bad (IsUtf8-record_of (line.Left n) h)
not-applies (line.Right n) h cause.Utf8 bad = bad (IsUtf8-record_of (line.Right n) h)
not-applies (line.Both m n) h cause.Utf8 bad = bad (IsUtf8-record_of (line.Both m n) h)
not-applies line.See h cause.Utf8 bad = bad (IsUtf8-record_of line.See h)
not-applies (line.Left n) h cause.Verb bad = bad.0 refl
not-applies (line.Right n) h cause.Verb bad = bad.1 refl
not-applies (line.Both m n) h cause.Verb bad = bad.2 refl
not-applies line.See h cause.Verb bad = bad.3 refl
not-applies (line.Left n) h cause.Value (inl bad) = bad.1 (n, h, refl)
not-applies (line.Left n) h cause.Value (inr bad) = two-texts bad.0 refl
not-applies (line.Right n) h cause.Value (inl bad) = bad.1 (n, h, refl)
not-applies (line.Right n) h cause.Value (inr bad) = two-texts bad.0 refl
not-applies (line.Both m n) h cause.Value (inl bad) = bad.1 (m, h.0, refl)
not-applies (line.Both m n) h cause.Value (inr bad) = bad.1 (n, h.1, refl)
not-applies line.See h cause.Value (inl bad) = bad.0 refl
not-applies line.See h cause.Value (inr bad) = two-texts (sym bad.0) refl

-- the cause of a rank
abbrev cause_at : ℕ → WatchCause
cause_at n = if n == 0 then cause.Fields else if n == 1 then cause.Utf8 else if n == 2 then cause.Verb else cause.Value

-- each cause is known by its rank
cause_at-rank_of : (why : WatchCause) → cause_at (rank_of why) ≡ why
cause_at-rank_of cause.Fields = refl
cause_at-rank_of cause.Utf8 = refl
cause_at-rank_of cause.Verb = refl
cause_at-rank_of cause.Value = refl

-- a number is known by its print
same-number : (m n : ℕ) → m < 2 ^ 32 → n < 2 ^ 32 → decimal m ≡ decimal n → m ≡ n
same-number m n h k e = decimal_injective m n (omega (arith, h)) (omega (arith, k)) e

-- a line is known by its record
pub known_by_record : (a b : WatchLine) → IsLine a → IsLine b → record_of a ≡ record_of b → a ≡ b
known_by_record (line.Left m) (line.Left n) h k e = ap (λ x. line.Left x) (same-number m n h k (ap (λ r. get_or r 1 []) e))
known_by_record (line.Right m) (line.Right n) h k e = ap (λ x. line.Right x) (same-number m n h k (ap (λ r. get_or r 1 []) e))
known_by_record (line.Both m i) (line.Both n j) h k e =
    ap₂ (λ x y. line.Both x y) (same-number m n h.0 k.0 (ap (λ r. get_or r 1 []) e)) (same-number i j h.1 k.1 (ap (λ r. get_or r 2 []) e))
known_by_record line.See line.See h k e = refl
known_by_record (line.Left m) (line.Right n) h k e = absurd (two-texts (first-field e) refl)
known_by_record (line.Left m) (line.Both n j) h k e = absurd (two-texts (first-field e) refl)
known_by_record (line.Left m) line.See h k e = absurd (two-texts (first-field e) refl)
known_by_record (line.Right m) (line.Left n) h k e = absurd (two-texts (sym (first-field e)) refl)
known_by_record (line.Right m) (line.Both n j) h k e = absurd (two-texts (first-field e) refl)
known_by_record (line.Right m) line.See h k e = absurd (two-texts (first-field e) refl)
known_by_record (line.Both m i) (line.Left n) h k e = absurd (two-texts (sym (first-field e)) refl)
known_by_record (line.Both m i) (line.Right n) h k e = absurd (two-texts (sym (first-field e)) refl)
known_by_record (line.Both m i) line.See h k e = absurd (two-texts (first-field e) refl)
known_by_record line.See (line.Left n) h k e = absurd (two-texts (sym (first-field e)) refl)
known_by_record line.See (line.Right n) h k e = absurd (two-texts (sym (first-field e)) refl)
known_by_record line.See (line.Both n j) h k e = absurd (two-texts (sym (first-field e)) refl)

-- the record of a line has no cause
pub line_has_no_cause : (l : WatchLine) (why : WatchCause) → IsLine l → ¬ HasCause (record_of l) why
line_has_no_cause l why h bad = not-applies l h why bad.applies

-- a record has one cause at most
pub record_has_one_cause : (fields : List (List ℕ)) (a b : WatchCause) → HasCause fields a → HasCause fields b → a ≡ b
record_has_one_cause = one-cause Applies rank_of cause_at cause_at-rank_of
