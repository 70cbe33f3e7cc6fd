use Rattle.std.proofs.Common.{◌≡◌, ℕ, length, ap, arith, [], ◌∷◌, subst, sym, ◌∙◌, length-append}
use Rattle.orc_board.specs.Desk.{IsDesk}
use Rattle.orc_board.specs.Stretches.{queue_views, set_view}
use Rattle.orc_board.proofs.Workers.{taking_none, taking_more, taking_end, taking_full, taking_last}
use Rattle.orc_board.proofs.loops.take_rest.Goals as goal

pub loop-init : goal.loop-init
loop-init g c = record {
  desk = c.requires.desk;
  spare = let none : length c.args.replies.now.items ≡ 0 = ap length c.requires.none in omega (arith, none);
  taking = taking_none (queue_views g.Q.SharedQueue c.args.queue.now c.args.rush.now) (set_view g.S.SharedSet c.args.set.now) _ _ _ _ _ _ c.requires.none;
}

pub loop-preserved : goal.loop-preserved
loop-preserved g c = record {
  desk = subst (λ (a : ℕ). IsDesk g.Q.SharedQueue g.S.SharedSet c.args.queue.now c.args.rush.now c.args.set.now a c.take_one.new.desk) c.loop.invariant.desk.queue_agent
      c.take_one.ensures.desk;
  spare =
      rw c.push.ensures.items (omega (arith, c.loop.invariant.spare, c.push.ensures.spare, length-append c.loop.replies.items (c.in-Some-take_one.reply ∷ [])));
  taking =
      rw c.push.ensures.items
      (taking_more (queue_views g.Q.SharedQueue c.args.queue.now c.args.rush.now)
      (set_view g.S.SharedSet c.args.set.now) _ _ _ _ _ _ _ _ _ _ _ _ c.loop.invariant.taking c.loop.invariant.desk.queue_agent
      c.in-Some-take_one.ensures.reply c.in-Some-take_one.ensures.last c.in-Some-take_one.ensures.row);
}

pub returns-in-None-take_one-clause-taking : goal.returns-in-None-take_one-clause-taking
returns-in-None-take_one-clause-taking g c =
    taking_end (queue_views g.Q.SharedQueue c.args.queue.now c.args.rush.now)
    (set_view g.S.SharedSet c.args.set.now) _ _ _ _ _ _ _ _ _ _ _ c.loop.invariant.taking c.loop.invariant.desk.queue_agent c.in-None-take_one.ensures.row

pub returns-then-spare-eq0-clause-taking : goal.returns-then-spare-eq0-clause-taking
returns-then-spare-eq0-clause-taking g c =
    taking_full (queue_views g.Q.SharedQueue c.args.queue.now c.args.rush.now) (set_view g.S.SharedSet c.args.set.now) _ _ _ _ _ _ _ _ c.loop.invariant.taking

pub returns-in-None-take_one-clause-last : goal.returns-in-None-take_one-clause-last
returns-in-None-take_one-clause-last g c = λ room.
    taking_last (queue_views g.Q.SharedQueue c.args.queue.now c.args.rush.now)
    (set_view g.S.SharedSet c.args.set.now) _ _ _ _ _ _ _ _ _ _ c.loop.invariant.taking c.loop.invariant.desk.queue_agent c.in-None-take_one.ensures.last

pub take_one-requires-clause-desk : goal.take_one-requires-clause-desk
take_one-requires-clause-desk g c =
    let desk = c.loop.invariant.desk in
    subst (λ (a : ℕ). IsDesk g.Q.SharedQueue g.S.SharedSet c.args.queue.now c.args.rush.now c.args.set.now a c.loop.desk) (sym desk.queue_agent) desk

pub returns-in-None-take_one-clause-desk : goal.returns-in-None-take_one-clause-desk
returns-in-None-take_one-clause-desk g c =
    subst (λ (a : ℕ). IsDesk g.Q.SharedQueue g.S.SharedSet c.args.queue.now c.args.rush.now c.args.set.now a c.take_one.new.desk) c.loop.invariant.desk.queue_agent
    c.take_one.ensures.desk

pub returns-then-spare-eq0-clause-last : goal.returns-then-spare-eq0-clause-last
returns-then-spare-eq0-clause-last g c = λ room. absurd (room (sym c.spare.ensures ∙ c.if-spare-eq0.true))

pub push-requires : goal.push-requires
push-requires g c = λ none. c.if-spare-eq0.false (c.spare.ensures ∙ none)
