-- A list has the row where some entry is it.
use Rattle.std.proofs.Common.{ap, sym, ◌∙◌}
use Rattle.std.specs.Prelude.{not, ◌==◌}
use Rattle.orc_core.specs.Machine.{record_at}
use Rattle.orc_sound.proofs.Found.{some_listed}
use Rattle.orc_sound.proofs.counting.lists.Goals as goal

pub returns : goal.returns
returns c = ap (λ n. not (n == 0)) c.listings.ensures.count ∙ sym (some_listed (record_at c.args.state.now c.args.agent).list.items c.args.row)
