use Rattle.orc_job_files.specs.JobGrammar.{Refuses}
use Rattle.orc_program.specs.Answers.{TellsJobs}
use Rattle.orc_program.specs.Refusals.{cause_word}
use Rattle.orc_program.proofs.Files.{is_refused, is_told}
use Rattle.orc_program.proofs.answer.Setup.answer_jobs.Goals as goal

pub returns-in-Ok-clause-answered : goal.returns-in-Ok-clause-answered
returns-in-Ok-clause-answered g c =
    is_told _ (λ why. Refuses c.args.bytes.now why) cause_word (λ lines ended text. TellsJobs c.args.way lines c.args.self.now.settings ended text)
    c.tell.new.ended c.tell.result _ c.in-Ok.ensures.ok c.tell.ensures.answered

pub returns-in-Err-clause-answered : goal.returns-in-Err-clause-answered
returns-in-Err-clause-answered g c =
    is_refused _ (λ why. Refuses c.args.bytes.now why) cause_word (λ lines ended text. TellsJobs c.args.way lines c.args.self.now.settings ended text)
    c.args.ended.now c.refuse_file.result _ c.in-Err.ensures.err c.requires.nothing c.refuse_file.ensures
