use Rattle.std.proofs.Common.{Some, ◌∙◌}
use Rattle.orc_core.specs.declared.ops.Op.TheVariants.{LinkCas}
use Rattle.domain_tests.proofs.JobRun.{played_on, sole_next}
use Rattle.orc_machine_board.specs.Kinds.{asks}
use Rattle.orc_machine_board.specs.Views.{board_bounds, shows}
use Rattle.domain_tests.proofs.tests.steps.exchange.Goals as goal

pub returns-clause-journal : goal.returns-clause-journal
returns-clause-journal g c = λ e. sole_next (board_bounds c.args.board.now) (asks (LinkCas c.args.place c.args.from c.args.to)) (Some c.args.note)
    (shows c.args.p.now) (shows c.link_cas.new.p) c.link_cas.result
    c.requires.played.sole.sizes c.requires.played.sole.agent c.link_cas.ensures.makes c.seen_by.ensures.below

pub returns-clause-played : goal.returns-clause-played
returns-clause-played g c =
    let old = c.requires.played.sole in
    let op = LinkCas c.args.place c.args.from c.args.to in
    let made = c.link_cas.ensures.makes in
    record {
      sole = record { belongs = c.link_cas.ensures.belongs; sizes = old.sizes; agent = made.agent ∙ old.agent };
      is = played_on (board_bounds c.args.board.now) (asks op) (Some c.args.note) (shows c.args.p.now) (shows c.link_cas.new.p) c.link_cas.result
          c.args.state.now c.follow.new.state old.sizes old.agent made c.seen_by.ensures.below c.requires.played.is c.follow.ensures;
    }
