use Rattle.std.proofs.Common.{None, ◌∙◌}
use Rattle.domain_tests.proofs.JobRun.{played_on}
use Rattle.orc_machine_board.specs.Kinds.{asks}
use Rattle.orc_machine_board.specs.Views.{board_bounds, shows}
use Rattle.domain_tests.proofs.tests.steps.make_plain.Goals as goal

pub returns-clause-played : goal.returns-clause-played
returns-clause-played g c =
    let old = c.requires.played.sole in
    let made = c.in_ok-made.ensures.made in
    record {
      sole = record { belongs = c.make_allowed.ensures.belongs; sizes = old.sizes; agent = made.agent ∙ old.agent };
      is = played_on (board_bounds c.args.board.now) (asks c.args.op) None (shows c.args.p.now) (shows c.make_allowed.new.p) c.in_ok-made.made
          c.args.state.now c.follow.new.state old.sizes old.agent made c.seen_by.ensures.below c.requires.played.is c.follow.ensures;
    }
