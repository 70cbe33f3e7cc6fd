use Rattle.std.proofs.Common.{◌≡◌, ◌∙◌, ◌+◌, ◌<◌, ◌++◌, [], ◌∷◌, ap, ap₂, append-nil, cond, false, filter, get_or, length, sym, take, true, Bool, List, ℕ}
use Rattle.std.proofs.lemmas.List.{take_all}
use Rattle.std.proofs.lemmas.List.Elements.{filter_more}
use Rattle.orc_board.specs.declared.replies.TakeReply.{TakeReply}
use Rattle.orc_board.specs.Reportable.{is_side, takes_with}
use Rattle.orc_report.proofs.report.takes_with.Goals as goal
use Rattle.orc_report.proofs.report.takes_with.Goals.{then-is_of+in_ok-push, else-is_of}

-- what a test keeps of one item more
one_more : {X : Type 0} (p : X → Bool) (xs : List X) (i : ℕ) (d : X) (old : List X) (b : Bool) → i < length xs → old ≡ filter p (take i xs)
    → b ≡ p (get_or xs i d) → old ++ cond b (get_or xs i d ∷ []) [] ≡ filter p (take (i + 1) xs)
one_more p xs i d old b low is e =
    ap₂ (λ (o : List _) (t : Bool). o ++ cond t (get_or xs i d ∷ []) []) is e ∙ sym (filter_more p xs i d low)

pub loop-reply-init : goal.loop-reply-init
loop-reply-init c = c.new-given.ensures.items

pub loop-reply-preserved : goal.loop-reply-preserved
loop-reply-preserved c =
    let given : List TakeReply = c.loop-reply.given.items in
    let test : TakeReply → Bool = λ (r : TakeReply). is_side c.args.rush r.rush in
    elim c.if-is_of.branch [
      | then-is_of+in_ok-push w ↦ rw w.given-is
          (w.in_ok-push.ensures.items
          ∙ one_more test c.args.takes.now c.loop-reply.reply-index _ given true c.loop-reply-test.true c.loop-reply.invariant
          (sym w.if-is_of.true ∙ c.is_of.ensures))
      | else-is_of w ↦ rw w.given-is
          (sym (append-nil given)
          ∙ one_more test c.args.takes.now c.loop-reply.reply-index _ given false c.loop-reply-test.true c.loop-reply.invariant
          (sym w.if-is_of.false ∙ c.is_of.ensures))
    ]

pub returns : goal.returns
returns c = c.loop-reply.invariant ∙ ap (takes_with c.args.rush) (take_all c.loop-reply.reply-index c.args.takes.now c.loop-reply-test.false)
