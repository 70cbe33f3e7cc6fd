use Rattle.std.proofs.Common.{◌≡◌, ◌<◌, ℕ, length, ap, arith, refl, subst}
use Rattle.orc_board.specs.Desk.{IsDesk}
use Rattle.orc_board.specs.Stretches.{queue_views, set_view}
use Rattle.orc_workers.proofs.Resting.{did_take}
use Rattle.orc_workers.proofs.team.run_worker.Goals as goal

pub returns-else-agent-posters : goal.returns-else-agent-posters
returns-else-agent-posters g c =
    let r = c.requires.ready in
    let e = c.run_taker-desk.ensures in
    let none : length c.args.worker.replies.posts.items ≡ 0 = ap length r.no_posts in
    let more : c.args.posters < c.args.worker.agent = omega (arith, c.if-agent-posters.false) in
    record {
      agent_is = refl;
      no_caller = r.no_caller;
      desk = subst (λ (a : ℕ). IsDesk g.Q.SharedQueue g.S.SharedSet c.args.queue.now c.args.rush.now c.args.set.now a c.run_taker-desk.result.0) r.desk.queue_agent e.desk;
      posted = λ few. absurd (omega (arith, few, more));
      took = λ h. did_take (queue_views g.Q.SharedQueue c.args.queue.now c.args.rush.now) (set_view g.S.SharedSet c.args.set.now) _ _ _ _ _ _ _ _ _ _
          r.desk.queue_agent r.no_posts e.taking e.last;
    }
