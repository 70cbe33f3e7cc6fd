use Rattle.orc_core.proofs.Steps.{its_word, other_words}
use Rattle.orc_core.proofs.laws.a_step_writes_one_word_and_one_record.Goals as goal

pub returns-clause-word : goal.returns-clause-word
returns-clause-word c = its_word

pub returns-clause-other_words : goal.returns-clause-other_words
returns-clause-other_words c = other_words
