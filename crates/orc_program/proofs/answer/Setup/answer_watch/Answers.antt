use Rattle.orc_program.specs.Ended.{HasWatched}
use Rattle.orc_program.specs.Refusals.{watch_cause_word}
use Rattle.orc_program.proofs.Files.{is_refused, is_told}
use Rattle.orc_program.proofs.answer.Setup.answer_watch.Goals as goal
use Rattle.orc_watch.specs.WatchGrammar.{Refuses}

pub returns-in-Ok-clause-answered : goal.returns-in-Ok-clause-answered
returns-in-Ok-clause-answered g c =
    is_told _ (λ why. Refuses c.args.bytes.now why) watch_cause_word (λ lines ended text. HasWatched lines c.args.self.now.settings ended text)
    c.watch.new.ended c.watch.result _ c.in-Ok.ensures.ok c.watch.ensures.answered

pub returns-in-Err-clause-answered : goal.returns-in-Err-clause-answered
returns-in-Err-clause-answered g c =
    is_refused _ (λ why. Refuses c.args.bytes.now why) watch_cause_word (λ lines ended text. HasWatched lines c.args.self.now.settings ended text)
    c.args.ended.now c.refuse_file.result _ c.in-Err.ensures.err c.requires.nothing c.refuse_file.ensures
