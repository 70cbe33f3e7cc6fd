use Rattle.std.proofs.Common.{None, ◌∙◌}
use Rattle.domain_tests.proofs.JobRun.{played_on}
use Rattle.orc_core.specs.declared.ops.Op.TheVariants.{LinkStore}
use Rattle.orc_machine_board.specs.Kinds.{asks}
use Rattle.orc_machine_board.specs.Views.{board_bounds, shows}
use Rattle.domain_tests.proofs.tests.steps.make_one.Goals as goal

pub returns-in-LinkStore : goal.returns-in-LinkStore
returns-in-LinkStore g c =
    let old = c.requires.played.sole in
    let made = c.link_store-old.ensures.makes in
    record {
      played = record {
        sole = record { belongs = c.link_store-old.ensures.belongs; sizes = old.sizes; agent = made.agent ∙ old.agent };
        is = played_on (board_bounds c.args.board.now) (asks (LinkStore c.in-LinkStore.row c.in-LinkStore.link c.in-LinkStore.number)) None
            (shows c.args.p.now) (shows c.link_store-old.new.p) c.link_store-old.result c.args.state.now c.follow.new.state old.sizes old.agent made
            c.seen_by.ensures.below c.requires.played.is c.follow.ensures;
      };
    }
