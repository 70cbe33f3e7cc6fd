-- The text of generated lines is a job file of them: no byte of it calls for quotes.
use Rattle.std.proofs.Common.{◌≡◌, ◌∙◌, ◌+◌, ◌<◌, ◌≤◌, ◌%◌, ◌^◌, ◌++◌, ◌==◌, All, false, List, [], ◌∷◌, ℕ, zero, suc, inl, inr, refl, sym, ap, arith, map, replicate, decimal, codes, append_assoc, append-nil, add-one, take, slice_get, Some}
use Rattle.std.specs.Char.{digit_value}
use Rattle.std.specs.List.{join_with_byte, list_any}
use Rattle.std.specs.Str.Parse.{AllDigits}
use Rattle.std.proofs.lemmas.Bool.{cases_Bool, eqb-true}
use Rattle.std.proofs.lemmas.Fmt.{decimal_is_IsNumeral}
use Rattle.std.proofs.lemmas.List.Elements.{All-head, All-tail}
use Rattle.std.proofs.lemmas.Grind.{flat_map-append}
use Rattle.std.proofs.lemmas.Option.{get_or_from_slice_get, slice_get_within}
use Rattle.std.proofs.Math.Seq.{take-suc}
use Rattle.std.proofs.lemmas.List.Folds.{list_any-append}
use Rattle.csv.specs.Reading.{Reached, default_config, records, strip_bom}
use Rattle.csv.specs.Machine.{Read, next_record}
use Rattle.std.specs.declared.option.Option.{Option}
use Rattle.std.specs.declared.option.Option.TheVariants.{None}
use Rattle.csv.specs.Writing.{default_writer, fields_text, is_blank, needs_byte, row_text}
use Rattle.csv.specs.declared.parser.State.TheVariants as st
use Rattle.csv.proofs.RoundTrip.{read-write}
use Rattle.orc_jobs.specs.Generated.{behind_line, drawn, draws, generated, line_from, line_text, lines_from, op_of, text_of, text_of_lines}
use Rattle.orc_job_files.specs.JobGrammar.{IsFileOf, record_of}
use Rattle.orc_jobs.specs.Line.{operation_word}
use Rattle.orc_jobs.specs.declared.line.Job.{Job}
use Rattle.orc_jobs.specs.declared.line.Job.TheVariants as job
use Rattle.orc_jobs.specs.declared.line.Line.{Line}
use Rattle.orc_jobs.specs.declared.line.Line.TheVariants as line
use Rattle.orc_job_files.proofs.CsvRecords.{all-records}
use Rattle.orc_job_files.proofs.GeneratedLines.{all-replicated, are-lines, length-lines, pieces_of, small-numbers, all-mapped, IsSmall}

-- no byte of the text calls for quotes
abbrev IsPlain : List ℕ → Type 0
IsPlain text = list_any (needs_byte default_writer) text ≡ false

plain-append : (xs ys : List ℕ) → IsPlain xs → IsPlain ys → IsPlain (xs ++ ys)
plain-append xs ys a b = list_any-append (needs_byte default_writer) xs ys ∙ rw (a, b) refl

plain-digit : (c : ℕ) → digit_value c < 10 → needs_byte default_writer c ≡ false
plain-digit c h = elim (cases_Bool (c == 44)) [
  | inl e ↦ let bad : digit_value 44 < 10 = rw (eqb-true c 44 e) at h in absurd (omega (arith, bad))
  | inr not_comma ↦ elim (cases_Bool (c == 34)) [
    | inl e ↦ let bad : digit_value 34 < 10 = rw (eqb-true c 34 e) at h in absurd (omega (arith, bad))
    | inr not_quote ↦ elim (cases_Bool (c == 13)) [
      | inl e ↦ let bad : digit_value 13 < 10 = rw (eqb-true c 13 e) at h in absurd (omega (arith, bad))
      | inr not_return ↦ elim (cases_Bool (c == 10)) [
        | inl e ↦ let bad : digit_value 10 < 10 = rw (eqb-true c 10 e) at h in absurd (omega (arith, bad))
        | inr not_feed ↦ rw (not_comma, not_quote, not_return, not_feed) refl
      ]
    ]
  ]
]

plain-digits : (ds : List ℕ) → AllDigits 10 ds → IsPlain ds
plain-digits [] h = refl
plain-digits (c ∷ cs) h = rw (plain-digit c h.0, plain-digits cs h.1) refl

plain-decimal : (n : ℕ) → n < 2 ^ 64 → IsPlain (decimal n)
plain-decimal n small = plain-digits (decimal n) (decimal_is_IsNumeral n small).0.1

plain-joined : (ps : List (List ℕ)) → All IsPlain ps → IsPlain (join_with_byte 32 ps)
plain-joined [] h = refl
plain-joined (p ∷ []) h = All-head IsPlain p [] h
plain-joined (p ∷ q ∷ ps) h =
    plain-append p (32 ∷ join_with_byte 32 (q ∷ ps)) (All-head IsPlain p (q ∷ ps) h) (plain-joined (q ∷ ps) (All-tail IsPlain p (q ∷ ps) h))

plain-letters : (n : ℕ) → IsPlain (replicate n 120)
plain-letters zero = refl
plain-letters (suc n) = plain-letters n

plain-text : (op : Job) (n x : ℕ) → IsPlain (text_of op n x)
plain-text job.Bytes n x = plain-letters n
plain-text job.Words n x = plain-joined (replicate n (codes "ab")) (all-replicated IsPlain n (codes "ab") refl)
plain-text job.Sum n x = plain-joined (pieces_of (draws n x))
    (all-mapped IsSmall IsPlain decimal (λ k h. plain-decimal k (omega (arith, h))) (map (λ draw. draw % 1000) (draws n x)) (small-numbers (draws n x)))

plain-word : (op : Job) → IsPlain (operation_word op)
plain-word job.Bytes = refl
plain-word job.Words = refl
plain-word job.Sum = refl

-- the fields of a record, and its line
fields-line : (a b t : List ℕ) → (a ++ (44 ∷ (b ++ (44 ∷ (t ++ []))))) ++ 10 ∷ [] ≡ a ++ 44 ∷ [] ++ b ++ 44 ∷ [] ++ t ++ 10 ∷ []
fields-line a b t = ap (λ z. z ++ 10 ∷ [])
    (ap (λ z. a ++ (44 ∷ (b ++ (44 ∷ z)))) (append-nil t)
    ∙ sym (append_assoc (a ++ 44 ∷ [] ++ b) (44 ∷ []) t ∙ (append_assoc (a ++ 44 ∷ []) b (44 ∷ t) ∙ append_assoc a (44 ∷ []) (b ++ (44 ∷ t)))))

row-line : (id : ℕ) (op : Job) (text : List ℕ) → id < 2 ^ 64 → IsPlain text → row_text default_writer (record_of (line.Post id op text)) ≡ line_text (line.Post id op text)
unfolding fields_text is_blank
row-line id op text small plain =
    rw (plain-decimal id small, plain-word op, plain) (ap (λ z. codes "post," ++ z) (fields-line (decimal id) (operation_word op) text))

-- the lines that posts with plain texts are read as
text-reached : (n id x : ℕ) → id + n ≤ 60000
    → Reached default_config st.StartRecord (text_of_lines (lines_from n id x)) (map record_of (lines_from n id x)) st.StartRecord []
unfolding Reached
text-reached zero id x few = (refl, refl)
text-reached (suc n) id x few =
    let op = op_of (drawn x) in
    let y = drawn (drawn x) in
    let l = line_from id x in
    let rest = text_of_lines (lines_from n (id + 1) (behind_line x)) in
    let row = row-line id op (text_of op (y % 8) y) (omega (arith, few)) (plain-text op (y % 8) y) in (
      (record_of l, st.StartRecord, rest),
      sym (ap (λ t. next_record default_config st.StartRecord [] [] (t ++ rest)) row) ∙ read-write (record_of l) rest,
      refl,
      text-reached n (id + 1) (behind_line x) (omega (arith, few)),
    )

no-mark : (n id x : ℕ) → strip_bom (text_of_lines (lines_from n id x)) ≡ text_of_lines (lines_from n id x)
unfolding strip_bom
no-mark zero id x = refl
no-mark (suc n) id x = refl

none-left : ◌≡◌ {A = Option Read} (next_record default_config st.StartRecord [] [] []) None
unfolding next_record
none-left = refl

pub generated-file : (seed n : ℕ) → n ≤ 60000 → IsFileOf (generated seed n) (text_of_lines (generated seed n))
generated-file seed n few =
    let long = length-lines n 0 seed in
    record {
      records = ap (λ t. records default_config t) (no-mark n 0 seed)
          ∙ all-records (text_of_lines (generated seed n)) (map record_of (generated seed n)) st.StartRecord [] (text-reached n 0 seed (omega (arith, few))) none-left;
      each = are-lines n 0 seed (omega (arith, few));
      few = omega (arith, long, few);
    }

-- the text of one more line
pub text-one_more : (ls : List Line) (i : ℕ) (l : Line) → slice_get ls i ≡ Some l → text_of_lines (take (i + 1) ls) ≡ text_of_lines (take i ls) ++ line_text l
text-one_more ls i l e =
    ap (λ k. text_of_lines (take k ls)) (add-one i)
    ∙ (ap text_of_lines (take-suc ls i l (slice_get_within ls i l e) ∙ ap (λ z. take i ls ++ z ∷ []) (get_or_from_slice_get ls i l l e))
    ∙ (flat_map-append line_text (take i ls) (l ∷ []) ∙ ap (λ z. text_of_lines (take i ls) ++ z) (append-nil (line_text l))))
