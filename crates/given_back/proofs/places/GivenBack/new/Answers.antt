-- Each new place has the tag.
use Rattle.std.proofs.Common.{[], ap, arith, length, ◌+◌, ◌∙◌, ◌∷◌, ◌≡◌}
use Rattle.std.proofs.lemmas.List.{length-append}
use Rattle.given_back.proofs.Lists.{all_more, all_none}
use Rattle.given_back.proofs.places.GivenBack.new.Goals as goal

pub loop-init : goal.loop-init
loop-init g c = (ap length c.in_ok-places.ensures.items, all_none (λ t. t ≡ c.args.tag.now) c.in_ok-places.places.items c.in_ok-places.ensures.items)

pub loop-preserved : goal.loop-preserved
loop-preserved g c =
    let items = c.in_ok-push.ensures.items in
    let t = c.new-in-loop.result in
    let more : length c.push.new.self.items ≡ length c.loop.places.items + 1 = ap length items ∙ length-append c.loop.places.items (t ∷ []) in (
      omega (arith, more, c.loop.invariant.0),
      all_more (λ x. x ≡ c.args.tag.now) c.loop.places.items c.push.new.self.items t items c.loop.invariant.1 c.new-in-loop.ensures,
    )

pub returns-clause-tag : goal.returns-clause-tag
returns-clause-tag g c = c.loop.invariant.1
