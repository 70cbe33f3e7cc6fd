use Rattle.orc_trace.proofs.Verdicts.{only-answer, only-fault}
use Rattle.orc_trace.proofs.playing.replay.Goals as goal

pub returns-clause-only : goal.returns-clause-only
returns-clause-only c = only-answer c.args.bytes.now c.play_trace.result c.play_trace.ensures.ok c.play_trace.ensures.err

pub returns-clause-bad : goal.returns-clause-bad
returns-clause-bad c = only-fault c.args.bytes.now c.play_trace.result c.play_trace.ensures.ok c.play_trace.ensures.err
