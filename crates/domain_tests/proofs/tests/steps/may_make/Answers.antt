use Rattle.std.proofs.Common.{sym, ◌∙◌}
use Rattle.domain_tests.proofs.JobRun.{played_may}
use Rattle.orc_machine_board.specs.Views.{board_bounds, shows}
use Rattle.domain_tests.proofs.tests.steps.may_make.Goals as goal

pub returns-clause-may : goal.returns-clause-may
returns-clause-may g c = λ e.
    let played = c.requires.played in
    played_may (board_bounds c.args.board.now) (shows c.args.p.now) c.args.state.now c.args.op.now played.is played.sole.agent
    played.sole.belongs.keeps.now.mine (sym c.is_enroll.ensures ∙ c.if-is_enroll.false) (sym c.allowed.ensures ∙ e)

pub returns-clause-allowed : goal.returns-clause-allowed
returns-clause-allowed g c = λ e. sym c.allowed.ensures ∙ e

pub returns-clause-room : goal.returns-clause-room
returns-clause-room g c = λ e. c.has_room.ensures.room c.if-not-has_room.false c.args.op.now
