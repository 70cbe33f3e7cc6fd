use Rattle.std.proofs.Common.{◌≡◌, ◌∙◌, All, IsUtf8, List, ℕ, ap, codes, length, subst, sym}
use Rattle.std.proofs.lemmas.Result.{err_from_is_err_and}
use Rattle.std.specs.Fmt.{decimal}
use Rattle.csv.specs.Records.{fields_of}
use Rattle.orc_job_files.specs.JobGrammar.{IsOpWord}
use Rattle.orc_jobs.specs.Line.{TakesText, operation_word}
use Rattle.orc_jobs.specs.Numbers.{IsNumber, IsNumberList}
use Rattle.orc_job_files.specs.RecordFiles.{field}
use Rattle.orc_job_files.proofs.CauseOrLine.{job_spelled}
use Rattle.orc_job_files.proofs.Fields.{two-fields}
use Rattle.orc_job_files.proofs.FirstCauses.{asked, count_fits, no_id, no_numbers, no_op, no_text, no_verb, verb_fits, wrong_count}
use Rattle.orc_job_files.proofs.record.LineFromRecord.from_record.Goals as goal

pub returns-then-len-wanted_fields-clause-err : goal.returns-then-len-wanted_fields-clause-err
returns-then-len-wanted_fields-clause-err c =
    let fields = fields_of c.args.row.now in
    let verb_is = c.field_of-verb.ensures in
    let known = asked fields _ c.is_word-is_drop.result c.wanted_fields.result verb_is c.is_word-is_drop.ensures.same c.is_word-is_drop.ensures.other
    c.wanted_fields.ensures.drop c.wanted_fields.ensures.job in
    wrong_count fields _ _ known (λ same. c.if-len-wanted_fields.true (c.len.ensures ∙ same))

pub returns-then-not-is_text-clause-err : goal.returns-then-not-is_text-clause-err
returns-then-not-is_text-clause-err c =
    let fields = fields_of c.args.row.now in
    let verb_is = c.field_of-verb.ensures in
    let known = asked fields _ c.is_word-is_drop.result c.wanted_fields.result verb_is c.is_word-is_drop.ensures.same c.is_word-is_drop.ensures.other
    c.wanted_fields.ensures.drop c.wanted_fields.ensures.job in
    let count = count_fits fields _ _ known (sym c.len.ensures ∙ c.if-len-wanted_fields.false) in
    no_text fields count (λ all. let no = c.if-not-is_text.ensures.1 all in cc no)

pub returns-then-not-is_verb-clause-err : goal.returns-then-not-is_verb-clause-err
returns-then-not-is_verb-clause-err c =
    let fields = fields_of c.args.row.now in
    let verb_is = c.field_of-verb.ensures in
    let known = asked fields _ c.is_word-is_drop.result c.wanted_fields.result verb_is c.is_word-is_drop.ensures.same c.is_word-is_drop.ensures.other
    c.wanted_fields.ensures.drop c.wanted_fields.ensures.job in
    let count = count_fits fields _ _ known (sym c.len.ensures ∙ c.if-len-wanted_fields.false) in
    let text : All IsUtf8 fields = c.is_text.ensures.0 c.if-not-is_text.false in
    no_verb fields c.field_of-verb.result.now count text verb_is (c.is_verb.ensures.no c.if-not-is_verb.true)

pub returns-in_default-clause-err : goal.returns-in_default-clause-err
returns-in_default-clause-err c =
    let fields = fields_of c.args.row.now in
    let verb_is = c.field_of-verb.ensures in
    let known = asked fields _ c.is_word-is_drop.result c.wanted_fields.result verb_is c.is_word-is_drop.ensures.same c.is_word-is_drop.ensures.other
    c.wanted_fields.ensures.drop c.wanted_fields.ensures.job in
    let count = count_fits fields _ _ known (sym c.len.ensures ∙ c.if-len-wanted_fields.false) in
    let text : All IsUtf8 fields = c.is_text.ensures.0 c.if-not-is_text.false in
    let verb = verb_fits fields c.field_of-verb.result.now verb_is (c.is_verb.ensures.yes c.if-not-is_verb.false) in
    no_id fields count text verb (λ number. c.in_default.ensures.none (subst IsNumber (sym c.field_of.ensures) number))

pub returns-in_default-op_of-clause-err : goal.returns-in_default-op_of-clause-err
returns-in_default-op_of-clause-err c =
    let fields = fields_of c.args.row.now in
    let verb_is = c.field_of-verb.ensures in
    let known = asked fields _ c.is_word-is_drop.result c.wanted_fields.result verb_is c.is_word-is_drop.ensures.same c.is_word-is_drop.ensures.other
    c.wanted_fields.ensures.drop c.wanted_fields.ensures.job in
    let count = count_fits fields _ _ known (sym c.len.ensures ∙ c.if-len-wanted_fields.false) in
    let text : All IsUtf8 fields = c.is_text.ensures.0 c.if-not-is_text.false in
    let verb = verb_fits fields c.field_of-verb.result.now verb_is (c.is_verb.ensures.yes c.if-not-is_verb.false) in
    let id : IsNumber (field fields 1) = (c.in-Some.id, c.in-Some.ensures.some.0, sym c.field_of.ensures ∙ c.in-Some.ensures.some.1) in
    no_op fields count text verb id (known.job c.if-is_drop.false)
    (λ op. c.in_default-op_of.ensures.none (subst IsOpWord (sym c.field_of-2.ensures) op))

pub returns-then-not-takes-clause-err : goal.returns-then-not-takes-clause-err
returns-then-not-takes-clause-err c =
    let fields = fields_of c.args.row.now in
    let verb_is = c.field_of-verb.ensures in
    let known = asked fields _ c.is_word-is_drop.result c.wanted_fields.result verb_is c.is_word-is_drop.ensures.same c.is_word-is_drop.ensures.other
    c.wanted_fields.ensures.drop c.wanted_fields.ensures.job in
    let count = count_fits fields _ _ known (sym c.len.ensures ∙ c.if-len-wanted_fields.false) in
    let text : All IsUtf8 fields = c.is_text.ensures.0 c.if-not-is_text.false in
    let verb = verb_fits fields c.field_of-verb.result.now verb_is (c.is_verb.ensures.yes c.if-not-is_verb.false) in
    let id : IsNumber (field fields 1) = (c.in-Some.id, c.in-Some.ensures.some.0, sym c.field_of.ensures ∙ c.in-Some.ensures.some.1) in
    let op_is : field fields 2 ≡ operation_word c.in-Some-op_of.op = sym c.field_of-2.ensures ∙ c.in-Some-op_of.ensures.some in
    let sum = c.takes.ensures.no c.if-not-takes.true in
    no_numbers fields count text verb id (c.in-Some-op_of.op, op_is) (known.job c.if-is_drop.false) (op_is ∙ ap operation_word sum.0)
    (λ list. sum.1 (subst IsNumberList (sym c.field_of-text.ensures) list))

pub returns-then-is_drop-clause-ok : goal.returns-then-is_drop-clause-ok
returns-then-is_drop-clause-ok c =
    let fields = fields_of c.args.row.now in
    let two : length fields ≡ 2 = sym c.len.ensures ∙ c.if-len-wanted_fields.false ∙ c.wanted_fields.ensures.drop c.if-is_drop.true in
    let number = c.in-Some.ensures.some in (
      two-fields fields (codes "drop") (decimal c.in-Some.id) two (sym c.field_of-verb.ensures ∙ c.is_word-is_drop.ensures.same c.if-is_drop.true)
          (sym c.field_of.ensures ∙ number.1),
      number.0,
    )

pub returns-in_err-text-clause-err : goal.returns-in_err-text-clause-err
returns-in_err-text-clause-err c =
    let r = err_from_is_err_and c.from_residual.result c.from_residual.ensures.1 in
    rw (r.1, r.2) tt

pub returns-then-is_rush-clause-ok : goal.returns-then-is_rush-clause-ok
returns-then-is_rush-clause-ok c =
    let fields = fields_of c.args.row.now in
    let four : length fields ≡ 4 = sym c.len.ensures ∙ c.if-len-wanted_fields.false ∙ c.wanted_fields.ensures.job c.if-is_drop.false in
    let text : All IsUtf8 fields = c.is_text.ensures.0 c.if-not-is_text.false in
    job_spelled fields (codes "rush") c.in-Some.id c.in-Some-op_of.op c.in_ok-text.text four
    (sym c.field_of-verb.ensures ∙ c.is_word-is_rush.ensures.same c.if-is_rush.true)
    c.in-Some.ensures.some.0 (sym c.field_of.ensures ∙ c.in-Some.ensures.some.1) (sym c.field_of-2.ensures ∙ c.in-Some-op_of.ensures.some)
    (sym c.field_of-text.ensures ∙ sym c.in_ok-text.ensures) text
    (subst (λ (t : List ℕ). TakesText c.in-Some-op_of.op t) c.field_of-text.ensures (c.takes.ensures.yes c.if-not-takes.false))

pub returns-else-is_rush-clause-ok : goal.returns-else-is_rush-clause-ok
returns-else-is_rush-clause-ok c =
    let fields = fields_of c.args.row.now in
    let four : length fields ≡ 4 = sym c.len.ensures ∙ c.if-len-wanted_fields.false ∙ c.wanted_fields.ensures.job c.if-is_drop.false in
    let text : All IsUtf8 fields = c.is_text.ensures.0 c.if-not-is_text.false in
    job_spelled fields (codes "post") c.in-Some.id c.in-Some-op_of.op c.in_ok-text.text four
    (sym c.field_of-verb.ensures ∙ c.is_verb.ensures.yes c.if-not-is_verb.false (c.is_word-is_drop.ensures.other c.if-is_drop.false)
    (c.is_word-is_rush.ensures.other c.if-is_rush.false))
    c.in-Some.ensures.some.0 (sym c.field_of.ensures ∙ c.in-Some.ensures.some.1) (sym c.field_of-2.ensures ∙ c.in-Some-op_of.ensures.some)
    (sym c.field_of-text.ensures ∙ sym c.in_ok-text.ensures) text
    (subst (λ (t : List ℕ). TakesText c.in-Some-op_of.op t) c.field_of-text.ensures (c.takes.ensures.yes c.if-not-takes.false))
