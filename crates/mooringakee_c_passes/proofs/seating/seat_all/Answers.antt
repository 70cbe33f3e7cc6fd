-- The pass that comes next gets its place.
use Rattle.std.proofs.Common.{[], suc, ap, arith, length, refl, subst, sym, ℕ, ◌+◌, ◌∙◌, ◌∷◌, ◌≡◌}
use Rattle.std.proofs.lemmas.List.{length-append}
use Rattle.orc_shared_words.specs.Lists.{EachAt}
use Rattle.mooringakee_c_passes.specs.Places.{GetsPlace}
use Rattle.mooringakee_c_passes.specs.declared.seat.Seat.{Seat}
use Rattle.mooringakee_c_passes.proofs.Lists.{EachAt-push, here_at, rest_after}
use Rattle.mooringakee_c_passes.proofs.seating.seat_all.Goals as goal

pub loop-pass-preserved : goal.loop-pass-preserved
loop-pass-preserved g c =
    let old = c.loop-pass.invariant in
    let all = c.args.passes.items in
    let seats = c.loop-pass.seats.items in
    let rest = c.loop-pass.pass-iterator.rest.items in
    let xs = c.next.new.self.rest.items in
    let x = c.in-Some.pass in
    let box = c.in_ok-new.field-0 in
    let head = c.in-Some.ensures.steps.0 in
    let items = c.in_ok-push.ensures.items in
    let more : length c.push.new.self.items ≡ length seats + 1 = ap length items ∙ length-append seats (box ∷ []) in
    let long : length rest ≡ suc (length xs) = ap length head in
    let Gets : ℕ → Seat → Type 0 =
    λ i s. GetsPlace (λ place seat. seat ≡ g.C.HasSeats.seat_of place) c.args.container c.args.places all c.args.turns i s in
    let got : Gets (length seats) c.seat-made.result = record {
      place = record { container = c.in_ok-clone.field-0; places = c.in_ok-clone-2.field-0; pass = x; turns = c.args.turns };
      is = c.seat-made.ensures;
      container_is = c.in_ok-clone.ensures.cases ∙ c.in_ok-container.ensures.ok;
      places_are = c.in_ok-clone-2.ensures.cases ∙ c.in_ok-places.ensures.ok;
      pass_is = λ p. here_at all rest xs x (length seats) p head old.2;
      turns_are = refl;
    } in (
      subst (λ z. EachAt (λ i b. Gets i b.value) z) (sym items)
          (EachAt-push (λ i b. Gets i b.value) seats box old.0 (subst (λ s. Gets (length seats) s) (sym c.in_ok-new.ensures.ok) got)),
      omega (arith, more, long, old.1),
      rest_after all rest xs x (length seats) (length c.push.new.self.items) head more old.2,
    )
