use Rattle.std.proofs.Common.{refl}
use Rattle.domain_tests.proofs.JobRun.{on_and_on, took_licensed}
use Rattle.orc_machine_board.specs.Views.{board_bounds, shows}
use Rattle.domain_tests.proofs.tests.job.take.Goals as goal

pub exchange-requires-clause-licensed : goal.exchange-requires-clause-licensed
exchange-requires-clause-licensed c =
    let sole = c.step.ensures.played.sole in
    took_licensed (board_bounds c.args.board.now) (shows c.step.new.p) sole.sizes sole.agent
    (on_and_on _ _ c.in_ok-job.ensures.journal (c.if-not-held.ensures.journal refl) c.requires.journal) sole.belongs.keeps.now.kept
