-- The first cause of a record.
use Rattle.std.proofs.Common.{◌≡◌, ◌≢◌, ◌<◌, ◌≤◌, ◌∙◌, All, Bool, true, false, IsUtf8, List, ℕ, arith, codes, length, inl, inr, refl, sym}
use Rattle.orc_job_files.specs.JobGrammar.{Applies, HasCause, IsOpWord, rank_of}
use Rattle.orc_jobs.specs.Numbers.{IsNumber, IsNumberList}
use Rattle.orc_job_files.specs.RecordFiles.{field}
use Rattle.orc_job_files.specs.declared.cause.Cause.{Cause}
use Rattle.orc_job_files.specs.declared.cause.Cause.TheVariants as cause

-- a drop has two fields, and another line four
drop_fits : (fields : List (List ℕ)) → field fields 0 ≡ codes "drop" → length fields ≡ 2 → ¬ Applies cause.Fields fields
drop_fits fields drop two applies = elim applies as (λ _. ⊥) [ inl a ↦ a.1 two | inr b ↦ b.0 drop ]

job_fits : (fields : List (List ℕ)) → field fields 0 ≢ codes "drop" → length fields ≡ 4 → ¬ Applies cause.Fields fields
job_fits fields other four applies = elim applies as (λ _. ⊥) [ inl a ↦ other a.0 | inr b ↦ b.1 four ]

-- how many fields a record has is asked by whether it drops an id
pub record Asked (fields : List (List ℕ)) (is_drop : Bool) (wanted : ℕ) : Type 0 where
  pub drop : is_drop ≡ true → field fields 0 ≡ codes "drop"
  pub job : is_drop ≡ false → field fields 0 ≢ codes "drop"
  pub two : is_drop ≡ true → wanted ≡ 2
  pub four : is_drop ≡ false → wanted ≡ 4

-- so it is where the verb was compared with `drop`
pub asked : (fields : List (List ℕ)) (verb : List ℕ) (is_drop : Bool) (wanted : ℕ) → verb ≡ field fields 0 → (is_drop ≡ true → verb ≡ codes "drop")
    → (is_drop ≡ false → verb ≢ codes "drop") → (is_drop ≡ true → wanted ≡ 2) → (is_drop ≡ false → wanted ≡ 4) → Asked fields is_drop wanted
asked fields verb is_drop wanted is same other two four =
    record { drop = λ e. sym is ∙ same e; job = λ e drop. other e (is ∙ drop); two = two; four = four }

-- a record that has as many fields as it is asked for
pub count_fits : (fields : List (List ℕ)) (is_drop : Bool) (wanted : ℕ) → Asked fields is_drop wanted → length fields ≡ wanted → ¬ Applies cause.Fields fields
count_fits fields true wanted asked is = drop_fits fields (asked.drop refl) (is ∙ asked.two refl)
count_fits fields false wanted asked is = job_fits fields (asked.job refl) (is ∙ asked.four refl)

-- a record that has another number of fields
pub wrong_count : (fields : List (List ℕ)) (is_drop : Bool) (wanted : ℕ) → Asked fields is_drop wanted → length fields ≢ wanted → HasCause fields cause.Fields
wrong_count fields true wanted asked other =
    record { applies = inl (asked.drop refl, λ two. other (two ∙ sym (asked.two refl))); first = λ earlier low. absurd (omega (arith, low)) }
wrong_count fields false wanted asked other =
    record { applies = inr (asked.job refl, λ four. other (four ∙ sym (asked.four refl))); first = λ earlier low. absurd (omega (arith, low)) }

-- a verb that is the third where it is none of two
pub verb_fits : (fields : List (List ℕ)) (verb : List ℕ) → verb ≡ field fields 0 → (verb ≢ codes "drop" → verb ≢ codes "rush" → verb ≡ codes "post")
    → ¬ Applies cause.Verb fields
verb_fits fields verb is known none = none.0 (sym is ∙ known (λ drop. none.2 (sym is ∙ drop)) (λ rush. none.1 (sym is ∙ rush)))

-- no cause of a lower rank applies
earlier_fit : (fields : List (List ℕ)) (rank : ℕ) → rank ≤ 5 → ¬ Applies cause.Fields fields → (1 < rank → ¬ Applies cause.Utf8 fields)
    → (2 < rank → ¬ Applies cause.Verb fields) → (3 < rank → ¬ Applies cause.Id fields) → (4 < rank → ¬ Applies cause.Op fields)
    → (earlier : Cause) → rank_of earlier < rank → ¬ Applies earlier fields
earlier_fit fields rank few count text verb id op cause.Fields low = count
earlier_fit fields rank few count text verb id op cause.Utf8 low = text low
earlier_fit fields rank few count text verb id op cause.Verb low = verb low
earlier_fit fields rank few count text verb id op cause.Id low = id low
earlier_fit fields rank few count text verb id op cause.Op low = op low
earlier_fit fields rank few count text verb id op cause.Sum low = absurd (omega (arith, low, few))

-- a field that isn't UTF-8 is the first cause where the number of fields fits
pub no_text : (fields : List (List ℕ)) → ¬ Applies cause.Fields fields → ¬ All IsUtf8 fields → HasCause fields cause.Utf8
no_text fields count other = record {
  applies = other;
  first = earlier_fit fields 1 (omega arith) count (λ z. absurd (omega (arith, z))) (λ z. absurd (omega (arith, z))) (λ z. absurd (omega (arith, z)))
      (λ z. absurd (omega (arith, z)));
}

-- the verb is the first cause in a text
pub no_verb : (fields : List (List ℕ)) (verb : List ℕ) → ¬ Applies cause.Fields fields → All IsUtf8 fields → verb ≡ field fields 0
    → (verb ≢ codes "post") × (verb ≢ codes "rush") × (verb ≢ codes "drop") → HasCause fields cause.Verb
no_verb fields verb count text is none = record {
  applies = (λ post. none.0 (is ∙ post), λ rush. none.1 (is ∙ rush), λ drop. none.2 (is ∙ drop));
  first = earlier_fit fields 2 (omega arith) count (λ _ no. no text) (λ z. absurd (omega (arith, z))) (λ z. absurd (omega (arith, z)))
      (λ z. absurd (omega (arith, z)));
}

-- the id is the first cause behind a verb
pub no_id : (fields : List (List ℕ)) → ¬ Applies cause.Fields fields → All IsUtf8 fields → ¬ Applies cause.Verb fields → ¬ IsNumber (field fields 1)
    → HasCause fields cause.Id
no_id fields count text verb other = record {
  applies = other;
  first = earlier_fit fields 3 (omega arith) count (λ _ no. no text) (λ _. verb) (λ z. absurd (omega (arith, z))) (λ z. absurd (omega (arith, z)));
}

-- the operation is the first cause behind an id
pub no_op : (fields : List (List ℕ)) → ¬ Applies cause.Fields fields → All IsUtf8 fields → ¬ Applies cause.Verb fields → IsNumber (field fields 1)
    → field fields 0 ≢ codes "drop" → ¬ IsOpWord (field fields 2) → HasCause fields cause.Op
no_op fields count text verb id job other = record {
  applies = (job, other);
  first = earlier_fit fields 4 (omega arith) count (λ _ no. no text) (λ _. verb) (λ _ no. no id) (λ z. absurd (omega (arith, z)));
}

-- the text of a sum is the first cause behind an operation
pub no_numbers : (fields : List (List ℕ)) → ¬ Applies cause.Fields fields → All IsUtf8 fields → ¬ Applies cause.Verb fields → IsNumber (field fields 1)
    → IsOpWord (field fields 2) → field fields 0 ≢ codes "drop" → field fields 2 ≡ codes "sum" → ¬ IsNumberList (field fields 3) → HasCause fields cause.Sum
no_numbers fields count text verb id op job sum other = record {
  applies = (job, sum, other);
  first = earlier_fit fields 5 (omega arith) count (λ _ no. no text) (λ _. verb) (λ _ no. no id) (λ _ no. no.1 op);
}
