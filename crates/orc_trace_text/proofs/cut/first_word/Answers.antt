use Rattle.std.specs.Option.{option_copied}
use Rattle.orc_trace_text.proofs.Words.{words-cut}
use Rattle.orc_trace_text.proofs.cut.first_word.Goals as goal

pub returns-clause-some : goal.returns-clause-some
returns-clause-some c = let cut = words-cut c.in_ok-text.text.now c.cut.result.0.now (option_copied c.cut.result.1) c.cut.ensures in rw c.in_ok-text.was cut
