use Rattle.std.proofs.Common.{rules, ◌∙◌, sym}
use Rattle.std.specs.Fmt.{decimal}
use Rattle.std.proofs.lemmas.Fmt.{IsAscii-decimal}
use Rattle.std.proofs.lemmas.Str.{IsUtf8-from_ascii}
use Rattle.orc_decimal.proofs.Numerals.{IsCanonical-decimal, parsed, unparsed}
use Rattle.orc_decimal.specs.Canonical.{IsCanonical}
use Rattle.orc_decimal.proofs.number_of.Goals as goal

pub returns-in_default-clause-none : goal.returns-in_default-clause-none
returns-in_default-clause-none c (n, small, same) =
    c.in_default.ensures.cases.0 (rw same (IsUtf8-from_ascii (decimal n) (IsAscii-decimal n small)))

pub returns-then-not-is_plain-clause-none : goal.returns-then-not-is_plain-clause-none
returns-then-not-is_plain-clause-none c (n, small, same) =
    let bad : ¬ IsCanonical c.args.text.now = search rules in
    bad (rw same (IsCanonical-decimal n small))

pub returns-in-Ok-parse-clause-some : goal.returns-in-Ok-parse-clause-some
returns-in-Ok-parse-clause-some c =
    let plain : IsCanonical c.args.text.now = search rules in
    let text = c.in-Ok.ensures.cases.0 in
    let found = parsed c.in-Ok.utf8.now c.parse.result c.in-Ok-parse.number (rw text plain) c.parse.ensures.value.0 c.in-Ok-parse.is in
    (found.0, sym text ∙ found.1)

pub returns-in-Err-clause-none : goal.returns-in-Err-clause-none
returns-in-Err-clause-none c (n, small, same) =
    let text = c.in-Ok.ensures.cases.0 in
    unparsed c.in-Ok.utf8.now c.parse.result c.in-Err.field-0 c.parse.ensures.value.0 c.in-Err.is n small (text ∙ same)
