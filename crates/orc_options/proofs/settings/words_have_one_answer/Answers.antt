-- The program's command is one, wherever it holds the words of the modes.
use Rattle.orc_options.proofs.NamesAnywhere.{never_both, one_settings}
use Rattle.orc_options.proofs.settings.words_have_one_answer.Goals as goal

pub returns-clause-never_both : goal.returns-clause-never_both
returns-clause-never_both c = never_both

pub returns-clause-same : goal.returns-clause-same
returns-clause-same c = one_settings
