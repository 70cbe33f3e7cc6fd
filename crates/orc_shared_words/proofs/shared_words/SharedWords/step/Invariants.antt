use Rattle.std.specs.Prelude.{Some}
use Rattle.orc_shared_words.proofs.shared_words.SharedWords.step.Given as goal

abbrev pub ghosts-make_step : goal.ghosts-make_step
ghosts-make_step g a = record { step = Some (a.self.now.shape, a.op.now, a.note.now) }
