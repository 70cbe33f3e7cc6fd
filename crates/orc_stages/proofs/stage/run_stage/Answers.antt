use Rattle.std.proofs.Common.{◌≡◌, ◌∙◌, ℕ, length, ap, arith, [], ◌∷◌, refl, subst, sym, length-append}
use Rattle.orc_board.specs.Stretches.{queue_view}
use Rattle.orc_stages.specs.Calls.{AreStagePasses}
use Rattle.orc_stages.proofs.Moves.{moving_none, moving_append, moving_last, moving_more}
use Rattle.orc_stages.proofs.stage.run_stage.Goals as goal

pub loop-init : goal.loop-init
loop-init g c = record {
  passes = c.requires.passes;
  spare = let none : length c.args.replies.now.items ≡ 0 = ap length c.requires.none in omega (arith, none);
  few = let none : length c.args.replies.now.items ≡ 0 = ap length c.requires.none in omega (arith, none);
  moved = moving_none (queue_view g.Q.SharedQueue c.args.from.now) (queue_view g.Q.SharedQueue c.args.to.now) _ _ _ _ _ _ c.requires.none;
}

pub move_one-requires : goal.move_one-requires
move_one-requires g c = record {
  passes = let p = c.loop.invariant.passes in
      record { from_pass = p.from_pass; to_pass = p.to_pass; from_agent = refl; to_agent = p.to_agent ∙ sym p.from_agent };
  good = c.requires.good;
  stage = c.requires.stage;
}

pub push-requires : goal.push-requires
push-requires g c = omega (arith, c.loop.invariant.spare, c.requires.room, c.if-len-jobs.false, c.len.ensures, c.count_jobs-jobs.ensures)

pub loop-preserved-in-Some-move_one : goal.loop-preserved-in-Some-move_one
loop-preserved-in-Some-move_one g c = record {
  passes = subst (λ (a : ℕ). AreStagePasses g.Q.SharedQueue c.args.from.now c.args.to.now a c.move_one.new.p c.move_one.new.r)
      c.loop.invariant.passes.from_agent c.move_one.ensures.passes;
  spare =
      rw c.push.ensures.items (omega (arith, c.loop.invariant.spare, c.push.ensures.spare, length-append c.loop.replies.items (c.in-Some-move_one.reply ∷ [])));
  few = rw c.push.ensures.items
      (omega (arith, c.if-len-jobs.false, c.len.ensures, c.count_jobs-jobs.ensures, length-append c.loop.replies.items (c.in-Some-move_one.reply ∷ [])));
  moved =
      rw c.push.ensures.items
      (moving_append (queue_view g.Q.SharedQueue c.args.from.now) (queue_view g.Q.SharedQueue c.args.to.now) _ _ _ _ _ _ _ _ _ _ _ _
      c.loop.invariant.moved c.loop.invariant.passes.from_agent c.in-Some-move_one.ensures.moved);
}

pub returns-then-len-jobs-clause-passes : goal.returns-then-len-jobs-clause-passes
returns-then-len-jobs-clause-passes g c = c.loop.invariant.passes

pub returns-then-len-jobs-clause-moved : goal.returns-then-len-jobs-clause-moved
returns-then-len-jobs-clause-moved g c = c.loop.invariant.moved

pub returns-then-len-jobs-clause-few : goal.returns-then-len-jobs-clause-few
returns-then-len-jobs-clause-few g c = c.loop.invariant.few

pub returns-then-len-jobs-clause-spare : goal.returns-then-len-jobs-clause-spare
returns-then-len-jobs-clause-spare g c = c.loop.invariant.spare

pub returns-then-len-jobs-clause-last : goal.returns-then-len-jobs-clause-last
returns-then-len-jobs-clause-last g c = λ less. absurd (omega (arith, less, c.if-len-jobs.true, c.len.ensures, c.count_jobs-jobs.ensures))

pub returns-then-ended-clause-passes : goal.returns-then-ended-clause-passes
returns-then-ended-clause-passes g c =
    subst (λ (a : ℕ). AreStagePasses g.Q.SharedQueue c.args.from.now c.args.to.now a c.move_one.new.p c.move_one.new.r)
    c.loop.invariant.passes.from_agent c.move_one.ensures.passes

pub returns-then-ended-clause-few : goal.returns-then-ended-clause-few
returns-then-ended-clause-few g c = c.loop.invariant.few

pub returns-then-ended-clause-spare : goal.returns-then-ended-clause-spare
returns-then-ended-clause-spare g c = c.loop.invariant.spare

pub returns-then-ended-clause-moved : goal.returns-then-ended-clause-moved
returns-then-ended-clause-moved g c =
    moving_more (queue_view g.Q.SharedQueue c.args.from.now) (queue_view g.Q.SharedQueue c.args.to.now) _ _ _ _ _ _ _ _ _ _ _
    c.loop.invariant.moved c.loop.invariant.passes.from_agent c.in-None-move_one.ensures.moved

pub returns-then-ended-clause-last : goal.returns-then-ended-clause-last
returns-then-ended-clause-last g c = λ room.
    moving_last (queue_view g.Q.SharedQueue c.args.from.now) (queue_view g.Q.SharedQueue c.args.to.now) _ _ _ _ _ _ _ _ _ _
    c.loop.invariant.moved c.loop.invariant.passes.from_agent c.in-None-move_one.ensures.last

pub loop-preserved : goal.loop-preserved
loop-preserved g c = record {
  passes = subst (λ (a : ℕ). AreStagePasses g.Q.SharedQueue c.args.from.now c.args.to.now a c.move_one.new.p c.move_one.new.r)
      c.loop.invariant.passes.from_agent c.move_one.ensures.passes;
  spare = c.loop.invariant.spare;
  few = c.loop.invariant.few;
  moved =
      moving_more (queue_view g.Q.SharedQueue c.args.from.now) (queue_view g.Q.SharedQueue c.args.to.now) _ _ _ _ _ _ _ _ _ _ _
      c.loop.invariant.moved c.loop.invariant.passes.from_agent c.in-None-move_one.ensures.moved;
}
