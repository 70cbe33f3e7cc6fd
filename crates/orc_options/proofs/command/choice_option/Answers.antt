-- The rule grows as the option does.
use Rattle.std.proofs.Common.{◌∙◌, ◌∷◌, [], ap, Some, Option}
use Rattle.clap.specs.Words.{Rule, new_rule, rule_of}
use Rattle.clap.specs.declared.builder.arg.Arg.{Arg}
use Rattle.clap.specs.declared.builder.value_parser.ValueParser.{ValueParser}
use Rattle.orc_options.proofs.command.choice_option.Goals as goal

pub returns-clause-rule : goal.returns-clause-rule
returns-clause-rule c =
    let id = c.args.id.now in
    let long = ap rule_of c.long.ensures ∙ ap (λ (r : Rule). record r { long = Some id }) c.new.ensures.rule in
    let parsed = ap rule_of c.value_parser.ensures.others ∙ ap (λ (r : Rule). record r { parser = c.value_parser.result.value_parser }) long in
    let given = c.value_parser.ensures.given in
    let parser = given.1 ∙ ap (λ (p : ValueParser). Some p) given.2 in
    ap rule_of c.default_value.ensures
    ∙ (ap (λ (r : Rule). record r { defaults = c.args.default.now ∷ [] }) parsed
    ∙ ap (λ (p : Option ValueParser). record (new_rule id) { long = Some id; parser = p; defaults = c.args.default.now ∷ [] }) parser)

pub returns-clause-local : goal.returns-clause-local
returns-clause-local c =
    let global = λ (a : Arg). a.global in
    ap global c.default_value.ensures ∙ (ap global c.value_parser.ensures.others ∙ (ap global c.long.ensures ∙ c.new.ensures.optional.1))
