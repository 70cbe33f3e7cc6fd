-- The pass is one of the domain that each place is for.
use Rattle.std.proofs.Common.{All, subst, sym, ◌≡◌}
use Rattle.given_back.specs.Places.{tags}
use Rattle.mooringakee_c_passes.proofs.SamePlaces.{usable_by}
use Rattle.mooringakee_c_passes.proofs.ending.give_back.Goals as goal

pub give-requires : goal.give-requires
give-requires g c k d low =
    let each = subst (λ z. All (λ x. x ≡ c.args.domain.now) (tags z)) (sym c.deref.ensures) c.requires.places.each in
    usable_by c.args.pass (sym (each k d low)) c.requires.belongs c.requires.idle
