use Rattle.orc_job_files.proofs.GrammarLaws.{laws}
use Rattle.orc_watch.proofs.GrammarLaws.{laws as watch_laws}
use Rattle.orc_options.specs.declared.settings.Mode.TheVariants as mode
use Rattle.orc_program.specs.Ended.{HasReported, HasWatched, TellsStages}
use Rattle.orc_program.specs.Refusals.{cause_word, watch_cause_word}
use Rattle.orc_program.proofs.OneAnswer.{audit, fault_named, file, large, make, of_bad, of_lines, replay, trial}
use Rattle.orc_program.proofs.laws.inputs_have_one_answer.Goals as goal

pub returns-clause-large : goal.returns-clause-large
returns-clause-large c = large

pub returns-clause-file : goal.returns-clause-file
returns-clause-file c = file

pub returns-clause-record : goal.returns-clause-record
returns-clause-record c s bytes e status text = of_bad s bytes e status text laws cause_word (λ ls e t. HasReported ls s e t) mode.Run (λ h. h) (λ h. h)

pub returns-clause-make : goal.returns-clause-make
returns-clause-make c = make

pub returns-clause-trial : goal.returns-clause-trial
returns-clause-trial c = trial

pub returns-clause-replay : goal.returns-clause-replay
returns-clause-replay c = replay

pub returns-clause-audit : goal.returns-clause-audit
returns-clause-audit c = audit

pub returns-clause-fault : goal.returns-clause-fault
returns-clause-fault c = fault_named

pub returns-clause-watch : goal.returns-clause-watch
returns-clause-watch c s bytes e status text = of_lines s bytes e status text watch_laws watch_cause_word (λ ls e t. HasWatched ls s e t) mode.Watch (λ h. h) (λ h. h)

pub returns-clause-watch_record : goal.returns-clause-watch_record
returns-clause-watch_record c s bytes e status text = of_bad s bytes e status text watch_laws watch_cause_word (λ ls e t. HasWatched ls s e t) mode.Watch (λ h. h) (λ h. h)

pub returns-clause-stages : goal.returns-clause-stages
returns-clause-stages c s bytes e status text = of_lines s bytes e status text laws cause_word (λ ls e t. TellsStages ls s e t) mode.Stages (λ h. h) (λ h. h)

pub returns-clause-stages_record : goal.returns-clause-stages_record
returns-clause-stages_record c s bytes e status text = of_bad s bytes e status text laws cause_word (λ ls e t. TellsStages ls s e t) mode.Stages (λ h. h) (λ h. h)
