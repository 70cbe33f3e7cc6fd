-- Each option is added to the command as it is.
use Rattle.std.proofs.Common.{ap, ap₂, ◌∙◌}
use Rattle.std.proofs.lemmas.Result.{IfOk-from_err, IfOk-weaker}
use Rattle.clap.specs.Words.{with_rule}
use Rattle.orc_options.proofs.command.with_work_options.Goals as goal

pub returns : goal.returns
returns c =
    let a1 = c.in_ok-command.ensures.shape c.number_option.ensures.local ∙ ap (with_rule _) c.number_option.ensures.rule in
    let a2 = c.in_ok-command-2.ensures.shape c.number_option-2.ensures.local ∙ ap₂ with_rule a1 c.number_option-2.ensures.rule in
    let a3 = c.in_ok-command-3.ensures.shape c.number_option-3.ensures.local ∙ ap₂ with_rule a2 c.number_option-3.ensures.rule in
    IfOk-weaker c.arg-4.result _ _ (λ d h. h.shape c.number_option-4.ensures.local ∙ ap₂ with_rule a3 c.number_option-4.ensures.rule) c.arg-4.ensures

pub returns-in_err-command : goal.returns-in_err-command
returns-in_err-command c = IfOk-from_err c.from_residual.result _ c.from_residual.ensures.0

pub returns-in_err-command-2 : goal.returns-in_err-command-2
returns-in_err-command-2 c = IfOk-from_err c.from_residual-in_err-command-2.result _ c.from_residual-in_err-command-2.ensures.0

pub returns-in_err-command-3 : goal.returns-in_err-command-3
returns-in_err-command-3 c = IfOk-from_err c.from_residual-in_err-command-3.result _ c.from_residual-in_err-command-3.ensures.0
