-- A file of records has one reading: a record has one cause, a file is of one list of lines, and the first record with a cause has one place.
use Rattle.std.proofs.Common.{◌≡◌, ◌∙◌, ◌<◌, ◌++◌, ◌⊎◌, All, List, [], ◌∷◌, ℕ, zero, suc, map, refl, arith, ap, ap₂, sym, length, inl, inr, length-append}
use Rattle.std.proofs.lemmas.List.{length-map}
use Rattle.std.proofs.lemmas.List.Elements.{All-head, All-tail}
use Rattle.std.proofs.lemmas.Result.{IfErr-weaker, IfOk-weaker, MatchResult-from_both}
use Rattle.std.specs.Prelude.{IfErr, IfOk}
use Rattle.std.specs.declared.result.Result.{Result}
use Rattle.orc_job_files.specs.OneRecord.{GivesFault, GivesLines, RefusesFile}
use Rattle.orc_job_files.specs.RecordFiles.{HasFirst, HasTooMany, IsFile, IsMalformed}
use Rattle.orc_job_files.specs.Laws.Causes.{in_order}
use Rattle.orc_job_files.specs.declared.records.FileRefused.{FileRefused}
use Rattle.orc_job_files.specs.declared.records.FileRefused.TheVariants as fault

-- to refute a claim, one may ask of any fact whether it holds
pub whether : (P : Type 0) → ¬ ¬ (P ⊎ ¬ P)
whether P k = k (inr (λ p. k (inl p)))

module _ {C : Type 0} (Applies : C → List (List ℕ) → Type 0) (rank_of : C → ℕ) where
  -- where no cause is the first that applies, none applies
  pub none-applies : (fields : List (List ℕ)) → ((why : C) → ¬ HasFirst Applies rank_of fields why) → (n : ℕ) (why : C) → rank_of why < n
      → ¬ Applies why fields
  none-applies fields none zero why lt bad = omega (arith, lt)
  none-applies fields none (suc n) why lt bad =
      none why (record { applies = bad; first = λ earlier before. none-applies fields none n earlier (omega (arith, lt, before)) })

-- behind as many lines stands the same record
same-place : {L : Type 0} (record_of : L → List (List ℕ)) (a b : List L) (x y : List (List ℕ)) (xs ys : List (List (List ℕ))) → length a ≡ length b
    → map record_of a ++ (x ∷ xs) ≡ map record_of b ++ (y ∷ ys) → x ≡ y
same-place record_of [] [] x y xs ys n e = cc e
same-place record_of [] (b ∷ bs) x y xs ys n e = absurd (omega (arith, n))
same-place record_of (a ∷ as1) [] x y xs ys n e = absurd (omega (arith, n))
same-place record_of (a ∷ as1) (b ∷ bs) x y xs ys n e =
    let same : map record_of as1 ++ (x ∷ xs) ≡ map record_of bs ++ (y ∷ ys) = cc e in
    same-place record_of as1 bs x y xs ys (omega (arith, n)) same

-- a line is known by its record and has no cause, and a record has one cause
pub record AreDetermined {L C : Type 0} (record_of : L → List (List ℕ)) (IsLine : L → Type 0) (HasCause : List (List ℕ) → C → Type 0) : Type 0 where
  pub same_line : (a b : L) → IsLine a → IsLine b → record_of a ≡ record_of b → a ≡ b
  pub no_cause : (l : L) (why : C) → IsLine l → ¬ HasCause (record_of l) why
  pub one_cause : (fields : List (List ℕ)) (a b : C) → HasCause fields a → HasCause fields b → a ≡ b

module _ {L C : Type 0} {record_of : L → List (List ℕ)} {IsLine : L → Type 0} {HasCause : List (List ℕ) → C → Type 0}
    (laws : AreDetermined record_of IsLine HasCause) where
  same-lines : (a b : List L) → All IsLine a → All IsLine b → map record_of a ≡ map record_of b → a ≡ b
  same-lines [] [] h k e = refl
  same-lines [] (y ∷ ys) h k e = cc e
  same-lines (x ∷ xs) [] h k e = cc e
  same-lines (x ∷ xs) (y ∷ ys) h k e =
      let first : record_of x ≡ record_of y = cc e in
      let rest : map record_of xs ≡ map record_of ys = cc e in
      ap₂ (λ l ls. l ∷ ls) (laws.same_line x y (All-head IsLine x xs h) (All-head IsLine y ys k) first)
      (same-lines xs ys (All-tail IsLine x xs h) (All-tail IsLine y ys k) rest)

  -- no record of a list of lines has a cause
  none-bad : (lines front : List L) (bad : List (List ℕ)) (rest : List (List (List ℕ))) (why : C) → All IsLine lines
      → map record_of lines ≡ map record_of front ++ (bad ∷ rest) → ¬ HasCause bad why
  none-bad [] [] bad rest why each e h = cc e
  none-bad [] (f ∷ fs) bad rest why each e h = cc e
  none-bad (l ∷ ls) [] bad rest why each e h =
      let same : record_of l ≡ bad = cc e in
      laws.no_cause l why (All-head IsLine l ls each) (rw same h)
  none-bad (l ∷ ls) (f ∷ fs) bad rest why each e h =
      let same : map record_of ls ≡ map record_of fs ++ (bad ∷ rest) = cc e in
      none-bad ls fs bad rest why (All-tail IsLine l ls each) same h

  -- nor has one that stands before the end of some lines
  none-bad-before : (lines front : List L) (bad : List (List ℕ)) (more rest : List (List (List ℕ))) (why : C) → All IsLine lines
      → length front < length lines → map record_of lines ++ more ≡ map record_of front ++ (bad ∷ rest) → ¬ HasCause bad why
  none-bad-before [] front bad more rest why each lt e h = absurd (omega (arith, lt))
  none-bad-before (l ∷ ls) [] bad more rest why each lt e h =
      let same : record_of l ≡ bad = cc e in
      laws.no_cause l why (All-head IsLine l ls each) (rw same h)
  none-bad-before (l ∷ ls) (f ∷ fs) bad more rest why each lt e h =
      let same : map record_of ls ++ more ≡ map record_of fs ++ (bad ∷ rest) = cc e in
      none-bad-before ls fs bad more rest why (All-tail IsLine l ls each) (omega (arith, lt)) same h

  pub one-reading : (bytes : List ℕ) (a b : List L) → IsFile record_of IsLine a bytes → IsFile record_of IsLine b bytes → a ≡ b
  one-reading bytes a b x y = same-lines a b x.each y.each (sym x.records ∙ y.records)

  -- a file with a cause is no file of lines, and one with too many records neither
  pub not-read : (bytes : List ℕ) (lines : List L) (at : ℕ) (why : C) → IsMalformed record_of IsLine HasCause bytes at why → ¬ IsFile record_of IsLine lines bytes
  not-read bytes lines at why bad file = none-bad lines bad.0 bad.1 bad.2 why file.each (sym file.records ∙ bad.3.records) bad.6

  pub not-few : (bytes : List ℕ) (lines : List L) → HasTooMany record_of IsLine bytes → ¬ IsFile record_of IsLine lines bytes
  not-few bytes lines many file =
      let sizes = ap length (sym file.records ∙ many.3.records) in
      let few = file.few in
      omega (arith, sizes, few, many.4, length-map lines record_of, length-map many.0 record_of, length-append (map record_of many.0) (many.1 ∷ many.2))

  -- it has not both
  pub not-both : (bytes : List ℕ) (at : ℕ) (why : C) → IsMalformed record_of IsLine HasCause bytes at why → ¬ HasTooMany record_of IsLine bytes
  not-both bytes at why bad many =
      let place = bad.4 in
      let below = bad.5 in
      let long = many.4 in
      none-bad-before many.0 bad.0 bad.1 (many.1 ∷ many.2) bad.2 why many.3.each (omega arith) (sym many.3.records ∙ bad.3.records) bad.6

  -- and the first record with a cause is one
  same-refusal : (bytes : List ℕ) (at : ℕ) (why : C) (there : ℕ) (other : C) → IsMalformed record_of IsLine HasCause bytes at why
      → IsMalformed record_of IsLine HasCause bytes there other → ◌≡◌ {A = FileRefused C} (fault.Malformed there other) (fault.Malformed at why)
  same-refusal bytes at why there other x y =
      let place = x.4 in
      let place2 = y.4 in
      elim (in_order at there) [
        | inl lt ↦ absurd (none-bad-before y.0 x.0 x.1 (y.1 ∷ y.2) x.2 why y.3.each (omega arith) (sym y.3.records ∙ x.3.records) x.6)
        | inr more ↦ elim more [
          | inl e ↦
              let same = same-place record_of y.0 x.0 y.1 x.1 y.2 x.2 (omega arith) (sym y.3.records ∙ x.3.records) in
              ap₂ (λ place cause. fault.Malformed place cause) (sym e) (laws.one_cause x.1 other why (rw (← same) y.6) x.6)
          | inr gt ↦ absurd (none-bad-before x.0 y.0 y.1 (x.1 ∷ x.2) y.2 other x.3.each (omega arith) (sym x.3.records ∙ y.3.records) y.6)
        ]
      ]

  abbrev Refuses : List ℕ → FileRefused C → Type 0
  Refuses bytes f = RefusesFile record_of IsLine HasCause bytes f

  -- a file of lines is refused for want of memory alone
  file-refused : (bytes : List ℕ) (lines : List L) → IsFile record_of IsLine lines bytes → (f : FileRefused C) → Refuses bytes f → f ≡ fault.NoMemory
  file-refused bytes lines file (fault.Malformed at why) refused = absurd (not-read bytes lines at why refused file)
  file-refused bytes lines file fault.TooMany refused = absurd (not-few bytes lines refused file)
  file-refused bytes lines file fault.NoMemory refused = refl

  pub one-refusal : (bytes : List ℕ) (at : ℕ) (why : C) → Refuses bytes (fault.Malformed at why) → (f : FileRefused C) → Refuses bytes f
      → (f ≡ fault.Malformed at why) ⊎ (f ≡ fault.NoMemory)
  one-refusal bytes at why bad (fault.Malformed there other) found = inl (same-refusal bytes at why there other bad found)
  one-refusal bytes at why bad fault.TooMany found = absurd (not-both bytes at why bad found)
  one-refusal bytes at why bad fault.NoMemory found = inr refl

  refused-many : (bytes : List ℕ) → Refuses bytes fault.TooMany → (f : FileRefused C) → Refuses bytes f → (f ≡ fault.TooMany) ⊎ (f ≡ fault.NoMemory)
  refused-many bytes many (fault.Malformed there other) found = absurd (not-both bytes there other found many)
  refused-many bytes many fault.TooMany found = inl refl
  refused-many bytes many fault.NoMemory found = inr refl

  -- what is read, where lines are read only from their file, and bytes are refused only for what is amiss
  module _ (bytes : List ℕ) (r : Result (List L) (FileRefused C)) (ok : IfOk r (λ lines. IsFile record_of IsLine lines bytes)) (err : IfErr r (Refuses bytes)) where
    pub reads-file : (file : List L) → IsFile record_of IsLine file bytes → GivesLines file r
    reads-file file is =
        MatchResult-from_both r (λ lines. lines ≡ file) (λ e. e ≡ fault.NoMemory)
        (IfOk-weaker r (λ lines. IsFile record_of IsLine lines bytes) (λ lines. lines ≡ file) (λ lines h. one-reading bytes lines file h is) ok)
        (IfErr-weaker r (Refuses bytes) (λ e. e ≡ fault.NoMemory) (file-refused bytes file is) err)

    -- no line is read of other bytes
    refused-with : (why : FileRefused C) → ((lines : List L) → ¬ IsFile record_of IsLine lines bytes)
        → ((f : FileRefused C) → Refuses bytes f → (f ≡ why) ⊎ (f ≡ fault.NoMemory)) → GivesFault why r
    refused-with why none one =
        MatchResult-from_both r (λ lines. ⊥) (λ e. (e ≡ why) ⊎ (e ≡ fault.NoMemory))
        (IfOk-weaker r (λ lines. IsFile record_of IsLine lines bytes) (λ lines. ⊥) none ok)
        (IfErr-weaker r (Refuses bytes) (λ e. (e ≡ why) ⊎ (e ≡ fault.NoMemory)) one err)

    pub reads-bad : (at : ℕ) (why : C) → Refuses bytes (fault.Malformed at why) → GivesFault (fault.Malformed at why) r
    reads-bad at why is = refused-with (fault.Malformed at why) (λ lines. not-read bytes lines at why is) (one-refusal bytes at why is)

    pub reads-many : Refuses bytes fault.TooMany → GivesFault fault.TooMany r
    reads-many is = refused-with fault.TooMany (λ lines. not-few bytes lines is) (refused-many bytes is)
