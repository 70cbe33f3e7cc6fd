-- The value of the next place fits its tag.
use Rattle.std.proofs.Common.{Some, [], ap, arith, length, subst, suc, sym, ◌+◌, ◌∙◌, ◌∷◌, ◌≡◌}
use Rattle.std.proofs.lemmas.List.{length-append}
use Rattle.given_back.proofs.Lists.{all_first, all_more, all_others, of_some}
use Rattle.given_back.proofs.places.GivenBack.take_all.Goals as goal

pub loop-place-preserved : goal.loop-place-preserved
loop-place-preserved g c =
    let old = c.loop-place.invariant in
    let values = c.loop-place.values.items in
    let rest = c.loop-place.place-iterator.rest.items in
    let left = c.next.new.self.rest.items in
    let t = c.in-Some.place in
    let room = c.in-Some-into_inner.room in
    let v = c.in-Some-into_inner-2.value in
    let head = c.in-Some.ensures.steps.0 in
    let items = c.in-Ok-push.ensures.items in
    let inside : room.raw.value ≡ Some v = sym c.open.ensures ∙ (sym c.into_inner-in-loop-place.ensures ∙ c.in-Some-into_inner-2.is) in
    let long : length rest ≡ suc (length left) = ap length head in
    let more : length c.push.new.self.items ≡ length values + 1 = ap length items ∙ length-append values (v ∷ []) in (
      omega (arith, more, long, old.0),
      λ tag each.
          let known = old.1 tag each in
          let here : t ≡ tag = all_first (λ x. x ≡ tag) rest left t head known.0 in (
            all_others (λ x. x ≡ tag) rest left t head known.0,
            all_more (λ x. g.K.Keeps.holds tag x) values c.push.new.self.items v items known.1
                (subst (λ (x : g.row.K-Tag.Denot). g.K.Keeps.holds x v) here (of_some (g.K.Keeps.holds t) room.raw.value v inside c.in-Some-into_inner.ensures)),
          ),
    )

pub returns-clause-each : goal.returns-clause-each
returns-clause-each g c tag each = (c.loop-place.invariant.1 tag each).1
