-- The set stands on the new domain, and each pass of that gets its place.
use Rattle.std.proofs.Common.{ap, ◌∙◌}
use Rattle.orc_projection.specs.Mirror.{numbers_of}
use Rattle.orc_split_rule.proofs.Later.{nothing_yet}
use Rattle.orc_split_rule.specs.SplitDiscipline.{entries_of}
use Rattle.orc_words.specs.Bounds.{Bounds, bounds_of}
use Rattle.mooringakee_c_passes.specs.Kinds.{split}
use Rattle.mooringakee_c_passes.specs.Making.{IsNewSplitSeat}
use Rattle.mooringakee_c_passes.specs.declared.on_domain.ReclaimingSplit.{ReclaimingSplit}
use Rattle.mooringakee_c_passes.specs.declared.seat.Seat.TheVariants.{Split}
use Rattle.mooringakee_c_passes.proofs.NewPlaces.{new_seats}
use Rattle.mooringakee_c_passes.proofs.Results.{if_ok, if_ok_both}
use Rattle.mooringakee_c_passes.proofs.new_split.split_seats.Goals as goal

pub new_domain-requires-clause-holds : goal.new_domain-requires-clause-holds
new_domain-requires-clause-holds c = nothing_yet (numbers_of (bounds_of c.args.shape.now))

pub new-set-requires-clause-roots : goal.new-set-requires-clause-roots
new-set-requires-clause-roots c = ap (λ (b : Bounds). b.roots) c.in_ok-domain.ensures.bounds ∙ c.requires.roots

pub returns-clause-many : goal.returns-clause-many
returns-clause-many c = if_ok c.seat_all.result _ _ (λ seats many. many ∙ c.in_ok-domain.ensures.many) c.seat_all.ensures.many

pub returns-clause-places : goal.returns-clause-places
returns-clause-places c =
    let made = c.in_ok-domain.ensures in
    let domain = c.in_ok-domain.domain in
    let set_is : ReclaimingSplit = record { set = c.new-set.result } in
    if_ok_both c.seat_all.result _ _ _ c.seat_all.ensures.many c.seat_all.ensures.places
    (λ seats many each. (
      domain,
      made.bounds,
      new_seats split set_is (λ s. s.set.links.domain) domain (λ j. (c.new-set.ensures j).domain) c.in_ok-domain.places c.args.turns (λ place. Split place)
          (λ agent seat. IsNewSplitSeat domain c.args.turns agent seat) c.in_ok-domain.passes.items seats.items many made.usable made.agents
          (λ k p low. ap entries_of (made.seen k p low)) _ each (λ place s is. is) (λ agent place new. new),
    ))
