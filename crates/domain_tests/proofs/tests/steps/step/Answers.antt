use Rattle.std.proofs.Common.{None}
use Rattle.domain_tests.proofs.JobRun.{if_some_map, sole_next}
use Rattle.orc_machine_board.specs.Kinds.{asks}
use Rattle.orc_machine_board.specs.Views.{board_bounds, shows}
use Rattle.domain_tests.proofs.tests.steps.step.Goals as goal

pub returns-clause-journal : goal.returns-clause-journal
returns-clause-journal g c = if_some_map c.make_plain-made.result
    (λ n made. sole_next (board_bounds c.args.board.now) (asks c.args.op) None (shows c.args.p.now)
    (shows c.make_plain-made.new.p) n c.requires.played.sole.sizes c.requires.played.sole.agent made c.seen_by.ensures.below)
    c.make_plain-made.ensures.made
