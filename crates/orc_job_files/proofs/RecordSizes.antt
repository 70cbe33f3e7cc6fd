-- The fields of a text's records hold no more bytes than the text.
use Rattle.std.proofs.Common.{◌≡◌, ◌≤◌, ◌+◌, ◌++◌, List, [], ◌∷◌, ℕ, zero, suc, refl, arith, length, inl, inr}
use Rattle.std.proofs.lemmas.Bool.{cases_Bool}
use Rattle.std.proofs.lemmas.List.{length-append}
use Rattle.std.specs.declared.option.Option.{Option}
use Rattle.std.specs.declared.option.Option.TheVariants.{None, Some}
use Rattle.csv.specs.Machine.{Read, ends_at_end, field_after, fields_after, is_end, next_record, step}
use Rattle.csv.specs.Reading.{default_config, is_bom, records_from, records_next, strip_bom}
use Rattle.csv.specs.declared.parser.Action.{Action}
use Rattle.csv.specs.declared.parser.Action.TheVariants as act
use Rattle.csv.specs.declared.parser.State.{State}
use Rattle.csv.specs.declared.parser.State.TheVariants as st
use Rattle.orc_job_files.specs.RecordFiles.{records_of}

-- how many bytes the fields of a record hold
abbrev pub size_of : List (List ℕ) → ℕ
size_of [] = 0
size_of (f ∷ fs) = length f + size_of fs

-- and those of some records
abbrev pub sizes_of : List (List (List ℕ)) → ℕ
sizes_of [] = 0
sizes_of (r ∷ rs) = size_of r + sizes_of rs

size_of-push : (fs : List (List ℕ)) (f : List ℕ) → size_of (fs ++ (f ∷ [])) ≡ size_of fs + length f
size_of-push [] f = omega arith
size_of-push (x ∷ xs) f = let rest = size_of-push xs f in omega (arith, rest)

-- a byte adds one byte at most
ended : (a : Action) (f : List (List ℕ)) (w : List ℕ) → size_of (fields_after a f w) ≤ size_of f + length w
ended act.EndField f w = omega (arith, size_of-push f w)
ended act.Skip f w = omega arith
ended act.Copy f w = omega arith
ended act.EndRecord f w = omega (arith, size_of-push f w)

went_on : (a : Action) (f : List (List ℕ)) (c : ℕ) (w : List ℕ) → size_of (fields_after a f w) + length (field_after a c w) ≤ size_of f + length w + 1
went_on act.EndField f c w = omega (arith, size_of-push f w)
went_on act.Skip f c w = omega arith
went_on act.Copy f c w = omega (arith, length-append w (c ∷ []))
went_on act.EndRecord f c w = omega (arith, size_of-push f w)

size-next_record : (s : State) (f : List (List ℕ)) (w xs : List ℕ) (p : Read) → next_record default_config s f w xs ≡ Some p
    → size_of p.0 + length p.2 ≤ size_of f + length w + length xs
unfolding next_record
size-next_record s f w [] p e = elim (cases_Bool (ends_at_end s)) [
  | inl ends ↦
      let q : Some (f ++ (w ∷ []), st.StartRecord, []) ≡ Some p = rw ends at e in
      let same : (f ++ (w ∷ []), st.StartRecord, []) ≡ p = cc q in
      rw (← same) (omega (arith, size_of-push f w))
  | inr goes ↦ let bad : ◌≡◌ {A = Option Read} None (Some p) = rw goes at e in cc bad
]
size-next_record s f w (c ∷ rest) p e = elim (cases_Bool (is_end (step default_config s c).1)) [
  | inl ends ↦
      let q = rw ends at e in
      let same : (fields_after (step default_config s c).1 f w, (step default_config s c).0, rest) ≡ p = cc q in
      rw (← same) (omega (arith, ended (step default_config s c).1 f w))
  | inr goes ↦
      let q = rw goes at e in
      let more = size-next_record (step default_config s c).0 (fields_after (step default_config s c).1 f w)
      (field_after (step default_config s c).1 c w) rest p q in
      omega (arith, more, went_on (step default_config s c).1 f c w)
]

-- one record, where the later ones are as they must be
sizes-records_next : (n : ℕ) (s : State) (xs : List ℕ) → ((t : State) (ys : List ℕ) → sizes_of (records_from default_config n t ys) ≤ length ys)
    → (o : Option Read) → next_record default_config s [] [] xs ≡ o → sizes_of (records_next (records_from default_config n) o) ≤ length xs
sizes-records_next n s xs more None e = omega arith
sizes-records_next n s xs more (Some p) e =
    let here = size-next_record s [] [] xs p e in
    let rest = more p.1 p.2 in
    omega (arith, here, rest)

sizes-records_from : (n : ℕ) (s : State) (xs : List ℕ) → sizes_of (records_from default_config n s xs) ≤ length xs
unfolding records_from
sizes-records_from zero s xs = omega arith
sizes-records_from (suc n) s xs = sizes-records_next n s xs (λ t ys. sizes-records_from n t ys) (next_record default_config s [] [] xs) refl

length-strip_bom : (xs : List ℕ) → length (strip_bom xs) ≤ length xs
unfolding strip_bom
length-strip_bom [] = omega arith
length-strip_bom (a ∷ []) = omega arith
length-strip_bom (a ∷ b ∷ []) = omega arith
length-strip_bom (a ∷ b ∷ c ∷ rest) = elim (cases_Bool (is_bom a b c)) [
  | inl is ↦ rw is (omega arith)
  | inr other ↦ rw other (omega arith)
]

pub sizes-records_of : (bytes : List ℕ) → sizes_of (records_of bytes) ≤ length bytes
sizes-records_of bytes =
    let records = sizes-records_from (length (strip_bom bytes) + 1) st.StartRecord (strip_bom bytes) in
    let strip = length-strip_bom bytes in
    omega (arith, records, strip)
