-- The rule grows as the option does.
use Rattle.std.proofs.Common.{rules, ◌≡◌, ◌∙◌, ◌∷◌, ◌<◌, ◌^◌, [], ap, ap₂, arith, pos, to_z, w64, Some, ℤ}
use Rattle.std.proofs.lemmas.Int.{ints}
use Rattle.clap.specs.Words.{Rule, new_rule, rule_of}
use Rattle.clap.specs.declared.builder.arg.Arg.{Arg}
use Rattle.clap.specs.declared.builder.value_parser.ValueParser.{ValueParser}
use Rattle.clap.specs.declared.builder.value_parser.ValueParser.TheVariants.{Signed}
use Rattle.orc_options.proofs.command.number_option.Goals as goal

pub returns-clause-rule : goal.returns-clause-rule
returns-clause-rule c =
    let id = c.args.id.now in
    let range = c.args.range in
    let low_small : range.low < 2 ^ 32 = search rules in
    let high_small : range.high < 2 ^ 32 = search rules in
    let low : to_z w64 range.low ≡ pos range.low = omega (arith, ints) in
    let high : to_z w64 range.high ≡ pos range.high = omega (arith, ints) in
    let long = ap rule_of c.long.ensures ∙ ap (λ (r : Rule). record r { long = Some id }) c.new.ensures.rule in
    let given = c.value_parser.ensures.given in
    let parser = given.1 ∙ (ap (λ (p : ValueParser). Some p) given.2 ∙ ap₂ (λ (l h : ℤ). Some (Signed l h)) low high) in
    let parsed = ap rule_of c.value_parser.ensures.others ∙ (ap (λ (r : Rule). record r { parser = c.value_parser.result.value_parser }) long
    ∙ ap (λ p. record (new_rule id) { long = Some id; parser = p }) parser) in
    ap rule_of c.default_value.ensures ∙ ap (λ (r : Rule). record r { defaults = range.default.now ∷ [] }) parsed

pub returns-clause-local : goal.returns-clause-local
returns-clause-local c =
    let global = λ (a : Arg). a.global in
    ap global c.default_value.ensures ∙ (ap global c.value_parser.ensures.others ∙ (ap global c.long.ensures ∙ c.new.ensures.optional.1))
