-- Each option is added to the command as it is.
use Rattle.std.proofs.Common.{ap, ap₂, codes, true, ◌∙◌, ◌≡◌}
use Rattle.std.proofs.lemmas.Result.{IfOk-weaker}
use Rattle.clap.specs.Words.{App, app_of, with_rule}
use Rattle.clap.specs.Simple.{app_of_fields}
use Rattle.orc_options.specs.Options.{first_app, number_rule}
use Rattle.orc_options.specs.Ranges.{buckets, lines, posters, rows, seed, stages, takers}
use Rattle.orc_options.proofs.command.command.Goals as goal

-- the rules of those who take part
abbrev with_team_rules : App → App
with_team_rules a = with_rule (with_rule (with_rule a (number_rule (codes "posters") posters)) (number_rule (codes "takers") takers)) (number_rule (codes "stages") stages)

-- the rules of what is worked on
abbrev with_work_rules : App → App
with_work_rules a = with_rule (with_rule (with_rule (with_rule a (number_rule (codes "rows") rows)) (number_rule (codes "buckets") buckets)) (number_rule (codes "seed") seed)) (number_rule (codes "lines") lines)

pub returns : goal.returns
returns c =
    let modes = c.mode_words.result in
    let a0 : app_of c.no_binary_name-command.result ≡ first_app =
    ap app_of_fields c.no_binary_name-command.ensures ∙ ap (λ (a : App). record a { top = record a.top { no_binary_name = true } }) c.new.ensures.app in
    let a1 = c.in_ok-command.ensures.shape c.choice_option.ensures.local ∙ ap₂ with_rule a0 c.choice_option.ensures.rule in
    let a2 = c.in_ok-command-2.ensures.shape c.choice_option-2.ensures.local ∙ ap₂ with_rule a1 c.choice_option-2.ensures.rule in
    let a3 = c.in_ok-command-3.ensures.shape c.choice_option-3.ensures.local ∙ ap₂ with_rule a2 c.choice_option-3.ensures.rule in
    let a4 = c.in_ok-command-4.ensures ∙ ap with_team_rules a3 in
    IfOk-weaker c.with_work_options.result _ _ (λ d h. record {
      modes = modes;
      answers = c.answer_words.result;
      sets = c.set_words.result;
      mode_words = c.mode_words.ensures;
      answer_words = c.answer_words.ensures;
      set_words = c.set_words.ensures;
      app = h ∙ ap with_work_rules a4;
    }) c.with_work_options.ensures
