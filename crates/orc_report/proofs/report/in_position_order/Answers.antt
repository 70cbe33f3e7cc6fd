use Rattle.std.proofs.Common.{rules, false, refl}
use Rattle.std.proofs.lemmas.List.Sorted.{IsNonDecreasingBy-from_sort_by_key, answers_always}
use Rattle.orc_board.specs.declared.replies.TakeReply.{TakeReply}
use Rattle.orc_board.specs.declared.replies.TakeWord.TheVariants.{Void}
use Rattle.orc_report.proofs.PositionOrder.{by_key-stable}
use Rattle.orc_report.proofs.report.in_position_order.Goals as goal

pub returns : goal.returns
returns c =
    by_key-stable (λ (r : TakeReply). r.at) _ (λ k. record { taker = 0; at = k; line = 0; rush = false; what = Void })
    (λ k. refl) c.args.takes.items c.sort_by_key.new.self.items
    (IsNonDecreasingBy-from_sort_by_key (λ (r : TakeReply). r.at) _ c.in_ok-sort_by_key.ensures.sorted (λ a r q k. search rules))
    (c.in_ok-sort_by_key.ensures.stable (λ (r : TakeReply). r.at) (answers_always _ _ _ (λ f a r g h. search rules)))
    c.in_ok-sort_by_key.ensures.permutation c.requires
