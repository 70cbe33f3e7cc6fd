use Rattle.orc_sound.proofs.Journals.{IsLawfulJournal-append, plain-append, run_plain-append}
use Rattle.orc_sound.proofs.laws.journals_go_on.Goals as goal

pub returns-clause-steps : goal.returns-clause-steps
returns-clause-steps g c = plain-append

pub returns-clause-states : goal.returns-clause-states
returns-clause-states g c = run_plain-append

pub returns-clause-lawful : goal.returns-clause-lawful
returns-clause-lawful g c = IsLawfulJournal-append
