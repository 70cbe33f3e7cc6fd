use Rattle.std.proofs.Common.{rules, ◌≡◌, ◌+◌, ◌≤◌, ◌++◌, ◌∷◌, [], ap, refl, sym, ◌∙◌, length, map, arith, List, false, true}
use Rattle.std.proofs.lemmas.List.{length-map}
use Rattle.std.proofs.lemmas.Result.{err_from_is_err_and}
use Rattle.orc_board.specs.declared.desk.Desk.{Desk}
use Rattle.orc_board.specs.declared.replies.PostReply.{PostReply}
use Rattle.orc_board.specs.declared.replies.TakeReply.{TakeReply}
use Rattle.orc_board.specs.Desk.{IsDesk}
use Rattle.orc_team.specs.Seats.{IsEmptyRoom, all_of}
use Rattle.orc_team.proofs.Numbered.{EachFrom-map, EachFrom-rest}
use Rattle.orc_team.proofs.Seats.{places_fit, seats_ready}
use Rattle.orc_workers.specs.Desks.{IsFreshDesk}
use Rattle.orc_workers.specs.CameBack.{IsNew}
use Rattle.orc_workers.specs.Team.{BoardWorker, IsReady}
use Rattle.orc_team.proofs.Teams.{for_both}
use Rattle.orc_workers.proofs.Over.{ran_of}
use Rattle.orc_workers.proofs.Seated.{ready_at}
use Rattle.orc_workers.proofs.board.run_at_desks.Goals as goal

pub seat-waiting-requires-clause-agents : goal.seat-waiting-requires-clause-agents
seat-waiting-requires-clause-agents g c =
    let F = IsFreshDesk g.Q.SharedQueue g.S.SharedSet c.args.queue.now c.args.rush.now c.args.set.now in
    EachFrom-map F (IsDesk g.Q.SharedQueue g.S.SharedSet c.args.queue.now c.args.rush.now c.args.set.now) (λ k d f. f.is_desk) 1 _
    (EachFrom-rest F 0 _ _ c.remove-desk.ensures.items c.requires.desks)

pub run_seated-desk-requires-clause-team : goal.run_seated-desk-requires-clause-team
run_seated-desk-requires-clause-team g c κs within =
    let queue = c.args.queue.now in
    let rush = c.args.rush.now in
    let set = c.args.set.now in
    let posters = c.args.posters in
    let lines = c.args.lines.now in
    let M = IsEmptyRoom posters c.len-many.result c.count_jobs-jobs.result in
    seats_ready (IsFreshDesk g.Q.SharedQueue g.S.SharedSet queue rush set) M (IsReady g.Q.SharedQueue g.S.SharedSet queue rush set lines posters)
    (IsNew g.Q.SharedQueue g.S.SharedSet queue rush set) (posters + c.args.takers) c.len.result c.args.desks.now.items _ _ _ _
    (λ k d r low high desk room. ready_at g.Q.SharedQueue g.S.SharedSet queue rush set lines posters c.len-many.result c.count_jobs-jobs.result k d r
    c.requires.good c.len-many.ensures c.count_jobs-jobs.ensures low desk room)
    c.requires.desks c.remove-desk.ensures.items (sym c.args.desks.now.ok.0 ∙ c.requires.count) (c.len.ensures ∙ c.requires.count)
    (EachFrom-map _ M (λ k r d. search rules) 1 _ c.in_ok-rooms.ensures.rooms) c.in_ok-rooms.ensures.all c.in_ok-rooms.ensures.nobody_is_done
    c.in_ok-rooms.ensures.done_room c.seat-waiting.ensures.seated

pub remove-desk-requires : goal.remove-desk-requires
remove-desk-requires g c = omega (arith, c.requires.count)

pub overflow_sub-len : goal.overflow_sub-len
overflow_sub-len g c = omega (arith, c.len.ensures, c.requires.count)

pub seat-waiting-requires-clause-nobody : goal.seat-waiting-requires-clause-nobody
seat-waiting-requires-clause-nobody g c = c.in_ok-rooms.ensures.nobody_waits

pub seat-waiting-requires-clause-capacity : goal.seat-waiting-requires-clause-capacity
seat-waiting-requires-clause-capacity g c = omega (arith, c.in_ok-rooms.ensures.waiting_room, c.remove-desk.ensures.len, c.len.ensures)

pub run_seated-desk-requires-clause-agents : goal.run_seated-desk-requires-clause-agents
run_seated-desk-requires-clause-agents g c κs within = c.requires.agents

pub run_seated-desk-requires-clause-none : goal.run_seated-desk-requires-clause-none
run_seated-desk-requires-clause-none g c κs within = c.in_ok-own.ensures.own.0

pub run_seated-desk-requires-clause-enough : goal.run_seated-desk-requires-clause-enough
run_seated-desk-requires-clause-enough g c κs within = omega (arith, c.in_ok-own.ensures.own.1, c.len-many.ensures)

pub returns-in_err-rooms : goal.returns-in_err-rooms
returns-in_err-rooms g c =
    let r = err_from_is_err_and c.from_residual.result c.from_residual.ensures.1 in
    rw r.1 (record { idle = tt; all = tt; seen = tt; follows = tt; queues_legal = tt; set_legal = tt; empty = tt; reportable = tt; kept = refl })

pub returns-in_err-own : goal.returns-in_err-own
returns-in_err-own g c =
    let r = err_from_is_err_and c.from_residual-in_err-own.result c.from_residual-in_err-own.ensures.1 in
    rw r.1 (record { idle = tt; all = tt; seen = tt; follows = tt; queues_legal = tt; set_legal = tt; empty = tt; reportable = tt; kept = refl })

pub append-requires : goal.append-requires
append-requires g c = omega (arith, c.run_seated-desk.ensures.few.1, c.in_ok-own.ensures.takes.1, c.len-many.ensures)

pub hand_back-requires : goal.hand_back-requires
hand_back-requires g c =
    let W : Type 0 = BoardWorker g.row.Q-Pass.Denot g.row.S-Pass.Denot in
    let posts : length (all_of (λ (w : W). w.replies.posts.items) c.run_seated-desk.result.workers.items) ≤ c.in_ok-own.replies.posts.spare =
    omega (arith, c.run_seated-desk.ensures.few.0, c.in_ok-own.ensures.posts.1, c.len-many.ensures) in
    let takes : length (all_of (λ (w : W). w.replies.takes.items) c.run_seated-desk.result.workers.items) ≤ c.append.new.self.spare =
    omega (arith, c.run_seated-desk.ensures.few.1, c.in_ok-own.ensures.takes.1, c.len-many.ensures, c.append.ensures.spare) in
    record {
      desks = places_fit c.args.desks.now.len c.args.desks.now.cap c.remove-desk.new.self.cap c.seat-waiting.new.desks.cap c.push.new.self.cap
          c.seat-waiting.new.desks.len _ c.push.new.self.len c.run_seated-desk.result.workers.len _ _ c.args.desks.now.ok.1 c.requires.count
          c.remove-desk.ensures.capacity c.seat-waiting.ensures.desks c.in-Ok.ensures.capacity c.seat-waiting.new.desks.ok.0
          (ap length c.seat-waiting.ensures.none) c.in-Ok.ensures.len c.run_seated-desk.result.workers.ok.0 c.run_seated-desk.ensures.back.many;
      replies = for_both _ posts takes;
    }

pub returns : goal.returns
returns g c =
    let W : Type 0 = BoardWorker g.row.Q-Pass.Denot g.row.S-Pass.Denot in
    let D : Type 0 = Desk g.row.Q-Pass.Denot g.row.S-Pass.Denot in
    let caller : D = c.run_seated-desk.result.desk in
    let ws : List W = c.run_seated-desk.result.workers.items in
    let first : c.push.new.self.items ≡ caller ∷ [] = c.in-Ok.ensures.items ∙ ap (λ (ds : List D). ds ++ caller ∷ []) c.seat-waiting.ensures.none in
    let desks : c.hand_back.new.desks.items ≡ caller ∷ map (λ (w : W). w.desk) ws =
    c.hand_back.ensures.desks ∙ ap (λ (ds : List D). ds ++ map (λ (w : W). w.desk) ws) first in
    let posts =
    c.hand_back.ensures.replies false ∙ ap (λ (rs : List PostReply). rs ++ all_of (λ (w : W). w.replies.posts.items) ws) c.in_ok-own.ensures.posts.0 in
    let takes = c.hand_back.ensures.replies true ∙ ap (λ (rs : List TakeReply). rs ++ all_of (λ (w : W). w.replies.takes.items) ws)
    (c.append.ensures.items ∙ ap (λ (rs : List TakeReply). rs ++ c.run_seated-desk.result.takes.items) c.in_ok-own.ensures.takes.0) in
    let back = c.run_seated-desk.ensures.back in
    let ran = ran_of g.Q.SharedQueue g.S.SharedSet c.args.queue.now c.args.rush.now c.args.set.now c.args.lines.now c.args.posters c.args.takers
    caller c.run_seated-desk.result.takes.items ws _ _ c.requires.posters c.requires.good.few (for_both _ c.requires.first.0 c.requires.first.1) back
    posts takes in
    rw desks (record {
      idle = (back.caller, back.idle);
      all = omega (arith, length-map ws (λ (w : W). w.desk), back.many);
      seen = (((λ b. refl), refl), back.seen);
      follows = ran.follows;
      queues_legal = ran.queues_legal;
      set_legal = ran.set_legal;
      empty = ran.empty;
      reportable = ran.reportable;
      kept = tt;
    })
