use Rattle.std.proofs.Common.{◌<◌, ◌==◌, length, arith, refl}
use Rattle.std.proofs.lemmas.Bool.Decides.{nat_tests}
use Rattle.std.proofs.lemmas.Iterator.Consumers.{YieldsList-at, YieldsList-end, YieldsList-turn}
use Rattle.std.proofs.lemmas.Iterator.Splits.{YieldsList-from_slice_split}
use Rattle.std.proofs.lemmas.List.{length_push}
use Rattle.orc_jobs.proofs.NumberLists.{all-numbers, number-read, number-unread, one-is-none, one-more}
use Rattle.orc_jobs.proofs.number.is_number_list.Goals as goal

pub returns-then-is_none : goal.returns-then-is_none
returns-then-is_none c =
    let gives = YieldsList-at c.into_iter-piece-iterator.ensures.into_iter_gives
    (YieldsList-from_slice_split _ (λ b. b == 32) c.args.text.now c.split-piece-items.ensures.rest c.split-piece-items.ensures.done
    c.split-piece-items.ensures.closure (λ x b q k. (refl, rw k.shows at k.called.met))) in
    let turn = YieldsList-turn gives c.loop-piece.yielded _ c.loop-piece.yielded_by _ _ c.in-Some.piece c.in-Some.is c.next.ensures.steps in
    let some : 0 < length c.args.text.now = grind (arith, nat_tests) in
    let other = number-unread c.number_of.result c.in-Some.piece.now c.number_of.ensures.none c.if-is_none.ensures in
    (λ bad. absurd (cc bad), λ list. absurd (one-is-none c.args.text.now (length c.loop-piece.yielded) c.in-Some.piece.now some turn.0 turn.1 other list))

pub loop-piece-preserved : goal.loop-piece-preserved
loop-piece-preserved c =
    let gives = YieldsList-at c.into_iter-piece-iterator.ensures.into_iter_gives
    (YieldsList-from_slice_split _ (λ b. b == 32) c.args.text.now c.split-piece-items.ensures.rest c.split-piece-items.ensures.done
    c.split-piece-items.ensures.closure (λ x b q k. (refl, rw k.shows at k.called.met))) in
    let turn = YieldsList-turn gives c.loop-piece.yielded _ c.loop-piece.yielded_by _ _ c.in-Some.piece c.in-Some.is c.next.ensures.steps in
    let number = number-read c.number_of.result c.in-Some.piece.now c.number_of.ensures.some c.if-is_none.ensures in
    rw (length_push c.loop-piece.yielded c.in-Some.piece)
    (one-more c.args.text.now (length c.loop-piece.yielded) c.in-Some.piece.now turn.0 turn.1 c.loop-piece.invariant number)

pub returns : goal.returns
returns c =
    let gives = YieldsList-at c.into_iter-piece-iterator.ensures.into_iter_gives
    (YieldsList-from_slice_split _ (λ b. b == 32) c.args.text.now c.split-piece-items.ensures.rest c.split-piece-items.ensures.done
    c.split-piece-items.ensures.closure (λ x b q k. (refl, rw k.shows at k.called.met))) in
    let end = YieldsList-end gives c.loop-piece.yielded _ c.loop-piece.yielded_by _ _ c.in-None.is c.next.ensures.steps in
    (λ _. all-numbers c.args.text.now (length c.loop-piece.yielded) end.1 c.loop-piece.invariant, λ _. refl)
