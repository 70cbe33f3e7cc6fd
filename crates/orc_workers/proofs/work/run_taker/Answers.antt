use Rattle.std.proofs.Common.{◌≡◌, ◌≢◌, ◌<◌, ◌≤◌, ◌+◌, ◌++◌, ℕ, List, length, ap, arith, [], ◌∷◌, subst, sym, length-append}
use Rattle.orc_board.specs.Desk.{IsDesk}
use Rattle.orc_board.specs.Stretches.{queue_views, set_view}
use Rattle.orc_workers.proofs.Resting.{resting_none, resting_more, resting_none_more, resting_last}
use Rattle.orc_workers.proofs.work.run_taker.Goals as goal

-- one reply more is no more than the jobs
one_more : {X : Type 0} (xs : List X) (x : X) (len jobs many : ℕ) → len ≡ length xs → jobs ≡ many → len < jobs → length (xs ++ x ∷ []) ≤ many
one_more xs x len jobs many l j less = omega (arith, l, j, less, length-append xs (x ∷ []))

-- as many replies as jobs aren't fewer
no_fewer : (n len jobs many : ℕ) → len ≡ n → jobs ≡ many → jobs ≤ len → n < many → ⊥
no_fewer n len jobs many l j enough less = omega (arith, l, j, enough, less)

-- there is room for a reply while they are fewer than the jobs
some_spare : (n len jobs many spare room : ℕ) → len ≡ n → jobs ≡ many → len < jobs → n + spare ≡ room → many ≤ room → spare ≢ 0
some_spare n len jobs many spare room l j less is enough = omega (arith, l, j, less, is, enough)

pub loop-init : goal.loop-init
loop-init g c = record {
  desk = c.requires.desk;
  spare = let none : length c.args.replies.items ≡ 0 = ap length c.requires.none in omega (arith, none);
  few = let none : length c.args.replies.items ≡ 0 = ap length c.requires.none in omega (arith, none);
  taking = resting_none (queue_views g.Q.SharedQueue c.args.queue.now c.args.rush.now) (set_view g.S.SharedSet c.args.set.now) _ _ _ _ _ _ c.requires.none;
}

pub loop-preserved-in-Some-take_one : goal.loop-preserved-in-Some-take_one
loop-preserved-in-Some-take_one g c = record {
  desk = subst (λ (a : ℕ). IsDesk g.Q.SharedQueue g.S.SharedSet c.args.queue.now c.args.rush.now c.args.set.now a c.take_one.new.desk) c.loop.invariant.desk.queue_agent
      c.take_one.ensures.desk;
  spare = rw c.push.ensures.items
      (omega (arith, c.loop.invariant.spare, c.push.ensures.spare, length-append c.loop.replies.items (c.in-Some-take_one.reply ∷ [])));
  few = rw c.push.ensures.items
      (one_more c.loop.replies.items c.in-Some-take_one.reply _ _ _ c.len.ensures c.count_jobs-jobs.ensures c.if-len-jobs.false);
  taking = rw c.push.ensures.items
      (resting_more (queue_views g.Q.SharedQueue c.args.queue.now c.args.rush.now) (set_view g.S.SharedSet c.args.set.now) _ _ _ _ _ _ _ _ _ _ _ _ c.loop.invariant.taking
      c.loop.invariant.desk.queue_agent c.in-Some-take_one.ensures.reply c.in-Some-take_one.ensures.last c.in-Some-take_one.ensures.row);
}

pub loop-preserved : goal.loop-preserved
loop-preserved g c = record {
  desk = subst (λ (a : ℕ). IsDesk g.Q.SharedQueue g.S.SharedSet c.args.queue.now c.args.rush.now c.args.set.now a c.take_one.new.desk) c.loop.invariant.desk.queue_agent
      c.take_one.ensures.desk;
  spare = c.loop.invariant.spare;
  few = c.loop.invariant.few;
  taking = resting_none_more (queue_views g.Q.SharedQueue c.args.queue.now c.args.rush.now) (set_view g.S.SharedSet c.args.set.now) _ _ _ _ _ _ _ _ _ _ _
      c.loop.invariant.taking c.loop.invariant.desk.queue_agent c.in-None-take_one.ensures.row;
}

pub returns-then-len-jobs-clause-last : goal.returns-then-len-jobs-clause-last
returns-then-len-jobs-clause-last g c = λ less. absurd (no_fewer _ _ _ _ c.len.ensures c.count_jobs-jobs.ensures c.if-len-jobs.true less)

pub returns-then-none_left-clause-taking : goal.returns-then-none_left-clause-taking
returns-then-none_left-clause-taking g c =
    resting_none_more (queue_views g.Q.SharedQueue c.args.queue.now c.args.rush.now) (set_view g.S.SharedSet c.args.set.now) _ _ _ _ _ _ _ _ _ _ _ c.loop.invariant.taking
    c.loop.invariant.desk.queue_agent c.in-None-take_one.ensures.row

pub returns-then-none_left-clause-last : goal.returns-then-none_left-clause-last
returns-then-none_left-clause-last g c = λ less.
    resting_last (queue_views g.Q.SharedQueue c.args.queue.now c.args.rush.now) (set_view g.S.SharedSet c.args.set.now) _ _ _ _ _ _ _ _ _ _ c.loop.invariant.taking
    c.loop.invariant.desk.queue_agent c.in-None-take_one.ensures.last

pub take_one-requires-clause-desk : goal.take_one-requires-clause-desk
take_one-requires-clause-desk g c =
    let desk = c.loop.invariant.desk in
    subst (λ (a : ℕ). IsDesk g.Q.SharedQueue g.S.SharedSet c.args.queue.now c.args.rush.now c.args.set.now a c.loop.desk) (sym desk.queue_agent) desk

pub push-requires : goal.push-requires
push-requires g c = some_spare _ _ _ _ _ _ c.len.ensures c.count_jobs-jobs.ensures c.if-len-jobs.false c.loop.invariant.spare c.requires.room

pub returns-then-none_left-clause-desk : goal.returns-then-none_left-clause-desk
returns-then-none_left-clause-desk g c =
    subst (λ (a : ℕ). IsDesk g.Q.SharedQueue g.S.SharedSet c.args.queue.now c.args.rush.now c.args.set.now a c.take_one.new.desk)
    c.loop.invariant.desk.queue_agent c.take_one.ensures.desk
