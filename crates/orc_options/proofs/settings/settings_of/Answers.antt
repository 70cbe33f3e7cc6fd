-- `clap` takes the words or refuses them.
use Rattle.std.proofs.Common.{◌∙◌, ap, inl, inr}
use Rattle.clap.specs.Words.{app_of, matches_of}
use Rattle.orc_options.specs.Settings.{settings_in as read_settings}
use Rattle.orc_options.proofs.Commands.{command_free, command_simple}
use Rattle.orc_options.proofs.settings.settings_of.Goals as goal

pub returns-in-Ok-try_get_matches_from-clause-gives : goal.returns-in-Ok-try_get_matches_from-clause-gives
returns-in-Ok-try_get_matches_from-clause-gives c =
    let app = app_of c.in-Ok.command in
    let is = c.in-Ok.ensures in
    let words = c.words.ensures in
    record {
      app = app;
      is_command = is;
      taken = rw words at (c.in-Ok-try_get_matches_from.ensures.kinds (command_free app is));
      settings = c.settings_in.ensures.says ∙ ap read_settings ((c.in-Ok-try_get_matches_from.ensures.matches (command_simple app is)).0 ∙ ap (matches_of app) words);
    }

pub returns-in-Err-clause-refuses : goal.returns-in-Err-clause-refuses
returns-in-Err-clause-refuses c e =
    let app = app_of c.in-Ok.command in
    let is = c.in-Ok.ensures in
    let words = c.words.ensures in
    record {
      app = app;
      is_command = is;
      refused = λ none. elim (rw words at (c.in-Err.ensures.kinds (command_free app is))) [
        | inl oom ↦ absurd (c.refused_by.ensures.words e (c.kind.ensures ∙ oom))
        | inr among ↦ absurd (rw none at among)
      ];
    }
