use Rattle.orc_watch_run.proofs.answer.answer_line.Goals as goal

pub returns-in-Both-clause-answered : goal.returns-in-Both-clause-answered
returns-in-Both-clause-answered g c = c.publish_word-in-Both.ensures.answered
