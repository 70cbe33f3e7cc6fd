use Rattle.std.proofs.Common.{rules, false, ◌≡◌, refl}
use Rattle.std.proofs.lemmas.List.Sorted.{IsNonDecreasingBy-from_sort_by_key, answers_always}
use Rattle.orc_board.specs.declared.replies.TakeReply.{TakeReply}
use Rattle.orc_board.specs.declared.replies.TakeWord.TheVariants.{Void}
use Rattle.orc_report.proofs.PositionOrder.{by_key-stable}
use Rattle.orc_report.proofs.summary.in_record_order.Goals as goal

pub returns : goal.returns
returns c =
    let same : c.in_ok-ordered.ordered.items ≡ c.args.takes.now = c.in_ok-ordered.ensures.items in
    by_key-stable (λ (r : TakeReply). r.line) _ (λ k. record { taker = 0; at = 0; line = k; rush = false; what = Void })
    (λ k. refl) c.args.takes.now c.sort_by_key.new.self.items
    (IsNonDecreasingBy-from_sort_by_key (λ (r : TakeReply). r.line) _ c.in_ok-sort_by_key.ensures.sorted (λ a r q k. search rules))
    (rw (← same) (c.in_ok-sort_by_key.ensures.stable (λ (r : TakeReply). r.line) (answers_always _ _ _ (λ f a r g h. search rules))))
    (rw (← same) c.in_ok-sort_by_key.ensures.permutation) c.requires
