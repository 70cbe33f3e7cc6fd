-- Each option is added to the command as it is.
use Rattle.std.proofs.Common.{◌≡◌, ◌∙◌, ap, ap₂, codes}
use Rattle.std.proofs.lemmas.Result.{IfOk-from_err, IfOk-weaker}
use Rattle.clap.specs.Words.{rule_of, with_rule}
use Rattle.orc_options.specs.Options.{number_rule}
use Rattle.orc_options.specs.Ranges as ranges
use Rattle.orc_options.proofs.command.with_team_options.Goals as goal

pub returns : goal.returns
returns c =
    let posters : rule_of c.number_option.result ≡ number_rule (codes "posters") ranges.posters = c.number_option.ensures.rule in
    let takers : rule_of c.number_option-2.result ≡ number_rule (codes "takers") ranges.takers = c.number_option-2.ensures.rule in
    let stages : rule_of c.number_option-3.result ≡ number_rule (codes "stages") ranges.stages = c.number_option-3.ensures.rule in
    let a1 = c.in_ok-command.ensures.shape c.number_option.ensures.local ∙ ap (with_rule _) posters in
    let a2 = c.in_ok-command-2.ensures.shape c.number_option-2.ensures.local ∙ ap₂ with_rule a1 takers in
    IfOk-weaker c.arg-3.result _ _ (λ d h. h.shape c.number_option-3.ensures.local ∙ ap₂ with_rule a2 stages) c.arg-3.ensures

pub returns-in_err-command : goal.returns-in_err-command
returns-in_err-command c = IfOk-from_err c.from_residual.result _ c.from_residual.ensures.0

pub returns-in_err-command-2 : goal.returns-in_err-command-2
returns-in_err-command-2 c = IfOk-from_err c.from_residual-in_err-command-2.result _ c.from_residual-in_err-command-2.ensures.0
