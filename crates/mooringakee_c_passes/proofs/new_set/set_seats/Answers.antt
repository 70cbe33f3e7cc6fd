-- The set stands on the new domain, and each pass of that gets its place.
use Rattle.std.proofs.Common.{ap, arith, sym, ◌∙◌}
use Rattle.orc_chain_rule.proofs.Later.{nothing_yet}
use Rattle.orc_chain_rule.specs.ChainDiscipline.{entries_of}
use Rattle.orc_projection.specs.Mirror.{numbers_of}
use Rattle.orc_words.specs.Bounds.{Bounds, bounds_of}
use Rattle.mooringakee_c_passes.specs.Kinds.{set}
use Rattle.mooringakee_c_passes.specs.Making.{IsNewSetSeat}
use Rattle.mooringakee_c_passes.specs.declared.on_domain.ReclaimingSet.{ReclaimingSet}
use Rattle.mooringakee_c_passes.specs.declared.seat.Seat.TheVariants.{Set}
use Rattle.mooringakee_c_passes.proofs.NewPlaces.{new_seats}
use Rattle.mooringakee_c_passes.proofs.Results.{if_ok, if_ok_both}
use Rattle.mooringakee_c_passes.proofs.new_set.set_seats.Goals as goal

pub new_domain-requires-clause-holds : goal.new_domain-requires-clause-holds
new_domain-requires-clause-holds c = nothing_yet (numbers_of (bounds_of c.args.shape.now))

pub set_of_lists-set-requires-clause-some : goal.set_of_lists-set-requires-clause-some
set_of_lists-set-requires-clause-some c = omega (arith, c.roots.ensures, c.args.shape.now.some_roots)

pub set_of_lists-set-requires-clause-all : goal.set_of_lists-set-requires-clause-all
set_of_lists-set-requires-clause-all c = ap (λ (b : Bounds). b.roots) c.in_ok-domain.ensures.bounds ∙ sym c.roots.ensures

pub returns-clause-many : goal.returns-clause-many
returns-clause-many c = if_ok c.seat_all.result _ _ (λ seats many. many ∙ c.in_ok-domain.ensures.many) c.seat_all.ensures.many

pub returns-clause-places : goal.returns-clause-places
returns-clause-places c =
    let made = c.in_ok-domain.ensures in
    let domain = c.in_ok-domain.domain in
    let set_is : ReclaimingSet = record { set = c.set_of_lists-set.result } in
    if_ok_both c.seat_all.result _ _ _ c.seat_all.ensures.many c.seat_all.ensures.places
    (λ seats many each. (
      domain,
      made.bounds,
      new_seats set set_is (λ s. s.set.list.links.domain) domain (λ j. (c.set_of_lists-set.ensures j).domain) c.in_ok-domain.places c.args.turns (λ place. Set place)
          (λ agent seat. IsNewSetSeat domain c.args.turns agent seat) c.in_ok-domain.passes.items seats.items many made.usable made.agents
          (λ k p low. ap entries_of (made.seen k p low)) _ each (λ place s is. is) (λ agent place new. new),
    ))
