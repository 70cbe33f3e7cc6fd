use Rattle.std.proofs.Common.{◌∙◌, ◌+◌, ◌==◌, ap, length, arith, refl}
use Rattle.std.proofs.lemmas.Iterator.Consumers.{YieldsList-at, YieldsList-end, YieldsList-turn}
use Rattle.std.proofs.lemmas.Iterator.Splits.{YieldsList-from_slice_split}
use Rattle.std.proofs.lemmas.List.{length_push}
use Rattle.orc_jobs.proofs.NumberLists.{number-missed, sum-take_all, sum-take_more, sum-take_skip}
use Rattle.orc_jobs.proofs.number.sum_of.Goals as goal

pub loop-piece-preserved-in-Some-number_of : goal.loop-piece-preserved-in-Some-number_of
loop-piece-preserved-in-Some-number_of c =
    let gives = YieldsList-at c.into_iter-piece-iterator.ensures.into_iter_gives
    (YieldsList-from_slice_split _ (λ b. b == 32) c.args.text.now c.split-piece-items.ensures.rest c.split-piece-items.ensures.done
    c.split-piece-items.ensures.closure (λ x b q k. (refl, rw k.shows at k.called.met))) in
    let turn = YieldsList-turn gives c.loop-piece.yielded _ c.loop-piece.yielded_by _ _ c.in-Some.piece c.in-Some.is c.next.ensures.steps in
    let longer = length_push c.loop-piece.yielded c.in-Some.piece in
    let found = c.in-Some-number_of.ensures.some in
    let added = c.from-total.ensures in
    let room = c.loop-piece.invariant.room in
    record {
      sum = λ numbers spells. rw (longer, added) (ap (λ t. t + c.in-Some-number_of.number) (c.loop-piece.invariant.sum numbers spells)
          ∙ sum-take_more numbers c.args.text.now (length c.loop-piece.yielded) c.in-Some-number_of.number c.in-Some.piece.now spells turn.0 turn.1
          found.0 found.1);
      room = let small = found.0 in omega (arith, longer, added, room, small);
    }

pub loop-piece-preserved : goal.loop-piece-preserved
loop-piece-preserved c =
    let gives = YieldsList-at c.into_iter-piece-iterator.ensures.into_iter_gives
    (YieldsList-from_slice_split _ (λ b. b == 32) c.args.text.now c.split-piece-items.ensures.rest c.split-piece-items.ensures.done
    c.split-piece-items.ensures.closure (λ x b q k. (refl, rw k.shows at k.called.met))) in
    let turn = YieldsList-turn gives c.loop-piece.yielded _ c.loop-piece.yielded_by _ _ c.in-Some.piece c.in-Some.is c.next.ensures.steps in
    let longer = length_push c.loop-piece.yielded c.in-Some.piece in
    let other = number-missed c.number_of.result c.in-Some.piece.now c.number_of.ensures.none c.in_default.not-Some in
    let room = c.loop-piece.invariant.room in
    record {
      sum = λ numbers spells. rw longer (c.loop-piece.invariant.sum numbers spells
          ∙ sum-take_skip numbers c.args.text.now (length c.loop-piece.yielded) c.in-Some.piece.now spells turn.0 turn.1 other);
      room = omega (arith, longer, room);
    }

pub returns-clause-sum : goal.returns-clause-sum
returns-clause-sum c numbers spells =
    let gives = YieldsList-at c.into_iter-piece-iterator.ensures.into_iter_gives
    (YieldsList-from_slice_split _ (λ b. b == 32) c.args.text.now c.split-piece-items.ensures.rest c.split-piece-items.ensures.done
    c.split-piece-items.ensures.closure (λ x b q k. (refl, rw k.shows at k.called.met))) in
    let end = YieldsList-end gives c.loop-piece.yielded _ c.loop-piece.yielded_by _ _ c.in-None.is c.next.ensures.steps in
    c.loop-piece.invariant.sum numbers spells ∙ sum-take_all numbers c.args.text.now (length c.loop-piece.yielded) spells end.1
