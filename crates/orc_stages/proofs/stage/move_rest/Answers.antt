use Rattle.std.proofs.Common.{ℕ, ap, arith, [], ◌∷◌, ◌++◌, List, refl, sym, ◌∙◌, subst, length-append, append-nil, append_assoc}
use Rattle.orc_board.specs.Stretches.{queue_view}
use Rattle.orc_stages.specs.declared.replies.StageReply.{StageReply}
use Rattle.orc_stages.specs.Calls.{AreStagePasses}
use Rattle.orc_stages.proofs.Moves.{moving_none, moving_append, moving_last, moving_more}
use Rattle.orc_stages.proofs.stage.move_rest.Goals as goal

pub loop-init : goal.loop-init
loop-init g c = record {
  passes = c.requires.passes;
  spare = refl;
  moved = record {
    more = [];
    is = sym (append-nil c.args.replies.now.items);
    moves = moving_none (queue_view g.Q.SharedQueue c.args.from.now) (queue_view g.Q.SharedQueue c.args.to.now) _ _ _ _ _ _ refl;
  };
}

pub loop-preserved : goal.loop-preserved
loop-preserved g c =
    let m = c.loop.invariant.moved in
    let reply = c.in-Some-move_one.reply in
    record {
      passes = subst (λ (a : ℕ). AreStagePasses g.Q.SharedQueue c.args.from.now c.args.to.now a c.move_one.new.p c.move_one.new.r)
          c.loop.invariant.passes.from_agent c.move_one.ensures.passes;
      spare =
          rw c.push.ensures.items (omega (arith, c.loop.invariant.spare, c.push.ensures.spare, length-append c.loop.replies.items (reply ∷ [])));
      moved = record {
        more = m.more ++ reply ∷ [];
        is = c.push.ensures.items
            ∙ (ap (λ (z : List StageReply). z ++ reply ∷ []) m.is ∙ append_assoc c.args.replies.now.items m.more (reply ∷ []));
        moves = moving_append (queue_view g.Q.SharedQueue c.args.from.now) (queue_view g.Q.SharedQueue c.args.to.now) _ _ _ _ _ _ _ _ _ _ _ _
            m.moves c.loop.invariant.passes.from_agent c.in-Some-move_one.ensures.moved;
      };
    }

pub returns-in-None-move_one-clause-moved : goal.returns-in-None-move_one-clause-moved
returns-in-None-move_one-clause-moved g c =
    let m = c.loop.invariant.moved in
    record {
      more = m.more;
      is = m.is;
      moves = moving_more (queue_view g.Q.SharedQueue c.args.from.now) (queue_view g.Q.SharedQueue c.args.to.now) _ _ _ _ _ _ _ _ _ _ _
          m.moves c.loop.invariant.passes.from_agent c.in-None-move_one.ensures.moved;
    }

pub returns-in-None-move_one-clause-last : goal.returns-in-None-move_one-clause-last
returns-in-None-move_one-clause-last g c = λ room.
    moving_last (queue_view g.Q.SharedQueue c.args.from.now) (queue_view g.Q.SharedQueue c.args.to.now) _ _ _ _ _ _ _ _ _ _
    c.loop.invariant.moved.moves c.loop.invariant.passes.from_agent c.in-None-move_one.ensures.last
