use Rattle.orc_words.proofs.NewWords.{new_words_each, new_words_long}
use Rattle.orc_words.proofs.new_table.a_new_table_has_each_word.Goals as goal

pub returns-clause-long : goal.returns-clause-long
returns-clause-long c = new_words_long

pub returns-clause-each : goal.returns-clause-each
returns-clause-each c = new_words_each
