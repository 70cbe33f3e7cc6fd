-- There is a place for each pass.
use Rattle.std.proofs.Common.{ap, arith, ◌≡◌}
use Rattle.orc_domain.specs.Passes.{domain_bounds}
use Rattle.orc_words.specs.Bounds.{Bounds, bounds_of}
use Rattle.mooringakee_c_passes.proofs.seating.new_domain.Goals as goal

pub returns-clause-usable : goal.returns-clause-usable
returns-clause-usable g c k d low =
    let made = c.in_ok-domain.ensures in
    let agents : (domain_bounds c.in_ok-domain.domain).agents ≡ (bounds_of c.args.shape.now).agents = ap (λ (b : Bounds). b.agents) made.bounds in
    record {
      belongs = made.belongs k d low;
      idle = made.idle k d low;
      places = record { many = omega (arith, agents, c.in_ok-places.ensures.many, made.passes); each = c.in_ok-places.ensures.tag };
    }
