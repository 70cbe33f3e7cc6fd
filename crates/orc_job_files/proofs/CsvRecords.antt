-- The records that were reached are the first ones of all.
use Rattle.std.proofs.Common.{◌≡◌, ◌∙◌, ◌<◌, ◌≤◌, ◌+◌, ◌-◌, ◌==◌, ◌||◌, ◌++◌, true, false, List, [], ◌∷◌, ℕ, zero, suc, refl, arith, ap, sym, length, inl, inr}
use Rattle.std.proofs.lemmas.Bool.{cases_Bool}
use Rattle.std.proofs.lemmas.List.{append-nil}
use Rattle.std.specs.declared.option.Option.{Option}
use Rattle.std.specs.declared.option.Option.TheVariants.{None, Some}
use Rattle.csv.specs.Machine.{Read, after_end, ends_at_end, fields_after, field_after, in_field, is_end, next_record, start_field, start_record, step}
use Rattle.csv.specs.Reading.{Reached, default_config, records, records_from}
use Rattle.csv.specs.declared.parser.Terminator.TheVariants as term
use Rattle.csv.specs.declared.parser.State.{State}
use Rattle.csv.specs.declared.parser.State.TheVariants as st

-- a state in which no field is at hand
abbrev Rests : State → Type 0
Rests s = ends_at_end s ≡ false

after-rests : (c : ℕ) → Rests (after_end term.CRLF c)
after-rests c = elim (cases_Bool (c == 13)) [ inl e ↦ rw e refl | inr e ↦ rw e refl ]

in-field-ends : (c : ℕ) → is_end (in_field default_config c).1 ≡ true → Rests (in_field default_config c).0
in-field-ends c = elim (cases_Bool (c == 44)) [
  | inl e ↦ rw e (λ h. cc h)
  | inr e ↦ elim (cases_Bool ((c == 13) || (c == 10))) [
    | inl f ↦ rw (e, f) (λ h. after-rests c)
    | inr f ↦ rw (e, f) (λ h. cc h)
  ]
]

start-field-ends : (c : ℕ) → is_end (start_field default_config c).1 ≡ true → Rests (start_field default_config c).0
start-field-ends c = elim (cases_Bool (c == 34)) [
  | inl e ↦ rw e (λ h. cc h)
  | inr e ↦ rw e (in-field-ends c)
]

start-record-ends : (c : ℕ) → is_end (start_record default_config c).1 ≡ true → Rests (start_record default_config c).0
start-record-ends c = elim (cases_Bool ((c == 13) || (c == 10))) [
  | inl e ↦ rw e (λ h. cc h)
  | inr e ↦ rw e (rw e at (start-field-ends c))
]

step-ends : (s : State) (c : ℕ) → is_end (step default_config s c).1 ≡ true → Rests (step default_config s c).0
step-ends st.StartRecord c = start-record-ends c
step-ends st.StartField c = start-field-ends c
step-ends st.InField c = in-field-ends c
step-ends st.InQuoted c = elim (cases_Bool (c == 34)) [ inl e ↦ rw e (λ h. cc h) | inr e ↦ rw e (λ h. cc h) ]
step-ends st.InEscape c = λ h. cc h
step-ends st.AfterQuote c = elim (cases_Bool (c == 34)) [ inl e ↦ rw e (λ h. cc h) | inr e ↦ rw e (in-field-ends c) ]
step-ends st.InComment c = elim (cases_Bool (c == 10)) [ inl e ↦ rw e (λ h. cc h) | inr e ↦ rw e (λ h. cc h) ]
step-ends st.AfterCr c = elim (cases_Bool (c == 10)) [ inl e ↦ rw e (λ h. cc h) | inr e ↦ rw e (rw e at (start-record-ends c)) ]

-- a record takes bytes
pub record Took (s : State) (xs : List ℕ) (p : Read) : Type 0 where
  pub rests : Rests p.1
  pub less : length p.2 ≤ length xs
  pub some : Rests s → length p.2 < length xs

took : (s : State) (f : List (List ℕ)) (w xs : List ℕ) (p : Read) → next_record default_config s f w xs ≡ Some p → Took s xs p
unfolding next_record
took s f w [] p e = elim (cases_Bool (ends_at_end s)) [
  | inl ends ↦
      let q : Some (f ++ (w ∷ []), st.StartRecord, []) ≡ Some p = rw ends at e in
      let same : (f ++ (w ∷ []), st.StartRecord, []) ≡ p = cc q in
      rw (← same) (record { rests = refl; less = omega arith; some = λ r. absurd (let bad : true ≡ false = sym ends ∙ r in cc bad) })
  | inr goes ↦ let bad : ◌≡◌ {A = Option Read} None (Some p) = rw goes at e in cc bad
]
took s f w (c ∷ rest) p e = elim (cases_Bool (is_end (step default_config s c).1)) [
  | inl ends ↦
      let q = rw ends at e in
      let same : (fields_after (step default_config s c).1 f w, (step default_config s c).0, rest) ≡ p = cc q in
      rw (← same) (record { rests = step-ends s c ends; less = omega arith; some = λ r. omega arith })
  | inr goes ↦
      let q = rw goes at e in
      let t = took (step default_config s c).0 (fields_after (step default_config s c).1 f w) (field_after (step default_config s c).1 c w) rest p q in
      let less = t.less in
      record { rests = t.rests; less = omega arith; some = λ r. omega arith }
]

-- so many records take so many bytes
pub reached-few : (s : State) (xs : List ℕ) (rows : List (List (List ℕ))) (s2 : State) (ys : List ℕ) → Rests s → Reached default_config s xs rows s2 ys
    → length rows + length ys ≤ length xs
unfolding Reached
reached-few s xs [] s2 ys r h = rw h.1 (omega arith)
reached-few s xs (row ∷ rows) s2 ys r h =
    let t = took s [] [] xs h.0 h.1 in
    let some = t.some r in
    let more = reached-few h.0.1 h.0.2 rows s2 ys t.rests h.3 in
    omega arith

-- the records that were reached, and then the others
pub reached-from : (n : ℕ) (s : State) (xs : List ℕ) (rows : List (List (List ℕ))) (s2 : State) (ys : List ℕ) → length rows ≤ n
    → Reached default_config s xs rows s2 ys
    → records_from default_config n s xs ≡ rows ++ records_from default_config (n - length rows) s2 ys
unfolding Reached records_from
reached-from n s xs [] s2 ys few h =
    let same : n ≡ n - 0 = omega arith in
    rw (h.0, h.1) (ap (λ m. records_from default_config m s2 ys) same)
reached-from zero s xs (row ∷ rows) s2 ys few h = absurd (omega (arith, few))
reached-from (suc n) s xs (row ∷ rows) s2 ys few h =
    let more = reached-from n h.0.1 h.0.2 rows s2 ys (omega (arith, few)) h.3 in
    let same : n - length rows ≡ suc n - suc (length rows) = omega arith in
    rw (h.1, h.2) (ap (λ (t : List (List (List ℕ))). h.0.0 ∷ t) (more ∙ ap (λ m. rows ++ records_from default_config m s2 ys) same))

-- past the last record there is none
pub none-from : (n : ℕ) (s : State) (ys : List ℕ) → next_record default_config s [] [] ys ≡ None
    → ◌≡◌ {A = List (List (List ℕ))} (records_from default_config n s ys) []
unfolding records_from
none-from zero s ys e = refl
none-from (suc n) s ys e = rw e refl

pub first-records : (xs : List ℕ) (rows : List (List (List ℕ))) (s2 : State) (ys : List ℕ) → Reached default_config st.StartRecord xs rows s2 ys
    → (rest : List (List (List ℕ))) × (records default_config xs ≡ rows ++ rest)
first-records xs rows s2 ys h =
    let few = reached-few st.StartRecord xs rows s2 ys refl h in
    (records_from default_config (length xs + 1 - length rows) s2 ys, reached-from (length xs + 1) st.StartRecord xs rows s2 ys (omega arith) h)

pub all-records : (xs : List ℕ) (rows : List (List (List ℕ))) (s2 : State) (ys : List ℕ) → Reached default_config st.StartRecord xs rows s2 ys
    → next_record default_config s2 [] [] ys ≡ None → records default_config xs ≡ rows
all-records xs rows s2 ys h e =
    let few = reached-few st.StartRecord xs rows s2 ys refl h in
    reached-from (length xs + 1) st.StartRecord xs rows s2 ys (omega arith) h ∙ rw (none-from (length xs + 1 - length rows) s2 ys e) (append-nil rows)
