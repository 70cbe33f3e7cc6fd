use Rattle.std.proofs.Common.{◌≡◌, refl}
use Rattle.orc_program.specs.Headline.{numbers_of_rest}
use Rattle.orc_program.proofs.jobs_mode.numbers_at_rest.Goals as goal

pub returns : goal.returns
returns c =
    let rush : c.given-2.result ≡ (numbers_of_rest c.args.finished.now).rush_given = c.given-2.ensures in
    rw (
      c.if-not-asked.false,
      c.given.ensures,
      c.reused.ensures,
      c.linked.ensures,
      rush,
      c.reused-2.ensures,
      c.linked-2.ensures,
      c.given-3.ensures,
      c.reused-3.ensures,
      c.linked-3.ensures,
    ) refl
