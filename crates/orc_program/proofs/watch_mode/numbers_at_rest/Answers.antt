use Rattle.std.proofs.Common.{refl}
use Rattle.orc_program.proofs.watch_mode.numbers_at_rest.Goals as goal

pub returns : goal.returns
returns c = rw (c.if-not-asked.false, c.given.ensures, c.reused.ensures, c.linked.ensures) refl
