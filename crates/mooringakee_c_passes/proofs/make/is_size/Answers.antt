-- A number is a power of two where the next power of two from it on is itself.
use Rattle.std.proofs.Common.{sym, ◌∙◌}
use Rattle.std.proofs.lemmas.Bool.{eq-eqb, eqb-true}
use Rattle.mooringakee_c_passes.proofs.Powers.{same_power}
use Rattle.mooringakee_c_passes.proofs.make.is_size.Goals as goal

pub returns-then-buckets-le256 : goal.returns-then-buckets-le256
returns-then-buckets-le256 c =
    let next = c.next_power_of_two.ensures in (
      λ same. (c.if-buckets-le256.true, next.power.0, sym (eqb-true c.next_power_of_two.result c.args.buckets same) ∙ next.power.1),
      λ size. eq-eqb c.next_power_of_two.result c.args.buckets
          (same_power c.args.buckets size.1 c.next_power_of_two.result next.power.0 size.2 next.power.1 next.lower_bound next.upper_bound),
    )
