use Rattle.std.proofs.Common.{refl, ◌≡◌}
use Rattle.domain_tests.proofs.JobRun.{on_and_on, put_licensed, swing_licensed}
use Rattle.domain_tests.specs.JobRun.{before_swing}
use Rattle.orc_machine_board.specs.Views.{board_bounds, shows}
use Rattle.domain_tests.proofs.tests.job.put.Goals as goal

pub exchange-requires-clause-licensed : goal.exchange-requires-clause-licensed
exchange-requires-clause-licensed c =
    let sole = c.give.ensures.played.sole in
    put_licensed (board_bounds c.args.board.now) (shows c.give.new.p) sole.sizes sole.agent (c.if-not-give.ensures.journal refl) sole.belongs.keeps.now.kept

pub exchange-requires-2-clause-licensed : goal.exchange-requires-2-clause-licensed
exchange-requires-2-clause-licensed c =
    let sole = c.steps.ensures.played.sole in
    let seen : (shows c.steps.new.p).journal ≡ before_swing = on_and_on _ _ (c.if-not-steps.ensures.journal refl) (c.if-not-exchange.ensures.journal refl)
    (c.if-not-give.ensures.journal refl) in
    swing_licensed (board_bounds c.args.board.now) (shows c.steps.new.p) sole.sizes sole.agent seen sole.belongs.keeps.now.kept

pub returns-clause-journal : goal.returns-clause-journal
returns-clause-journal c = λ e.
    let seen : (shows c.steps.new.p).journal ≡ before_swing = on_and_on _ _ (c.if-not-steps.ensures.journal refl) (c.if-not-exchange.ensures.journal refl)
    (c.if-not-give.ensures.journal refl) in
    on_and_on _ _ (c.steps-2.ensures.journal e) (c.if-not-exchange-2.ensures.journal refl) seen
