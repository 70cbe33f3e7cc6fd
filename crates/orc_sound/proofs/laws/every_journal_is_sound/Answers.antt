use Rattle.orc_core.specs.Machine.{new_machine}
use Rattle.orc_sound.proofs.ForRuns.{run_sound}
use Rattle.orc_sound.proofs.Journals.{plain_lawful}
use Rattle.orc_sound.specs.Journals.{plain}
use Rattle.orc_sound.proofs.laws.every_journal_is_sound.Goals as goal

pub returns-clause-lawful : goal.returns-clause-lawful
returns-clause-lawful g c b journal l = plain_lawful (new_machine b) journal l

pub returns-clause-sound : goal.returns-clause-sound
returns-clause-sound g c b journal shape l = run_sound b (plain journal) shape (plain_lawful (new_machine b) journal l)
