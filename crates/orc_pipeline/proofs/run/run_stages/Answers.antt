use Rattle.std.proofs.Common.{rules, ◌≡◌, ◌<◌, ◌≤◌, ◌+◌, ◌-◌, ◌*◌, ◌++◌, ◌∷◌, [], suc, ℕ, ap, sym, ◌∙◌, length, map, arith, List, false, true, refl, subst}
use Rattle.std.specs.Prelude.{slice_index_or}
use Rattle.std.proofs.lemmas.Result.{err_from_is_err_and}
use Rattle.orc_board.specs.declared.replies.PostReply.{PostReply}
use Rattle.orc_team.specs.Seats.{EachNumbered, IsEmptyRoom, all_of}
use Rattle.orc_team.proofs.Numbered.{EachFrom-map, EachFrom-rest}
use Rattle.orc_team.proofs.Seats.{places_fit, seats_ready}
use Rattle.orc_team.proofs.Teams.{for_both}
use Rattle.orc_pipeline.specs.Learning.{stage_site}
use Rattle.orc_pipeline.specs.Run.{Begins, IsNewDesk}
use Rattle.orc_pipeline.specs.Team.{IsReady}
use Rattle.orc_stages.specs.Desks.{StageWorker}
use Rattle.orc_stages.specs.declared.replies.StageDesk.{StageDesk}
use Rattle.orc_stages.specs.declared.replies.StageReply.{StageReply}
use Rattle.orc_pipeline.proofs.Over.{over}
use Rattle.orc_pipeline.proofs.Seated.{ready_at}
use Rattle.orc_pipeline.proofs.run.run_stages.Goals as goal

-- what holds of each item with its number holds of the first
first_of : {X : Type 0} (F : ℕ → X → Type 0) (k : ℕ) (xs : List X) (x : X) → 0 < length xs → x ≡ slice_index_or xs 0 x → EachNumbered F k xs → F k x
first_of F k [] x some is h = absurd (omega (arith, some))
first_of {X} F k (y ∷ ys) x some is h = subst (λ (z : X). F k z) (sym is) h.0

pub empty_lists-requires : goal.empty_lists-requires
empty_lists-requires g c = record { few = (omega (arith, c.requires.queues.1), omega (arith, c.len-many.ensures, c.requires.good.few)) }

pub seat-waiting-requires-clause-rooms : goal.seat-waiting-requires-clause-rooms
seat-waiting-requires-clause-rooms g c =
    omega (arith, c.in_ok-rooms.rooms.ok.0, c.in_ok-rooms.ensures.all, c.len.ensures, c.remove-desk.ensures.len)

pub seat-waiting-requires-clause-nobody : goal.seat-waiting-requires-clause-nobody
seat-waiting-requires-clause-nobody g c = c.in_ok-rooms.ensures.nobody_waits

pub seat-waiting-requires-clause-capacity : goal.seat-waiting-requires-clause-capacity
seat-waiting-requires-clause-capacity g c =
    omega (arith, c.in_ok-rooms.ensures.waiting_room, c.len.ensures, c.remove-desk.ensures.len)

pub run_seated-desk-requires-clause-desk : goal.run_seated-desk-requires-clause-desk
run_seated-desk-requires-clause-desk g c κs within =
    let some : 0 < length c.args.desks.now.items = omega (arith, c.args.desks.now.ok.0, c.requires.count, c.requires.posters) in
    (first_of (IsNewDesk g.Q.SharedQueue c.args.queues.now) 0 _ _ some c.remove-desk.ensures.value c.requires.desks).passes

pub run_seated-desk-requires-clause-new : goal.run_seated-desk-requires-clause-new
run_seated-desk-requires-clause-new g c κs within =
    let some : 0 < length c.args.desks.now.items = omega (arith, c.args.desks.now.ok.0, c.requires.count, c.requires.posters) in
    (first_of (IsNewDesk g.Q.SharedQueue c.args.queues.now) 0 _ _ some c.remove-desk.ensures.value c.requires.desks).new

pub seat-waiting-requires-clause-agents : goal.seat-waiting-requires-clause-agents
seat-waiting-requires-clause-agents g c =
    let F = IsNewDesk g.Q.SharedQueue c.args.queues.now in
    EachFrom-map F (stage_site g.Q.SharedQueue c.args.queues.now).usable (λ k d f. f.passes) 1 _
    (EachFrom-rest F 0 _ _ c.remove-desk.ensures.items c.requires.desks)

pub run_seated-desk-requires-clause-team : goal.run_seated-desk-requires-clause-team
run_seated-desk-requires-clause-team g c κs within =
    let q = g.Q.SharedQueue in
    let queues = c.args.queues.now in
    let lines = c.args.lines.now in
    let posters = c.args.posters in
    let stages : ℕ = length queues - 1 in
    let M = IsEmptyRoom posters c.len-many.result c.len-many.result in
    let run : posters + length queues ≡ 1 + (posters + stages) = omega (arith, c.requires.queues.0) in
    seats_ready (IsNewDesk q queues) M (IsReady q queues lines posters) (Begins q queues lines posters) (posters + stages) c.len.result
    c.args.desks.now.items _ _ _ _
    (λ k d r low high desk room. ready_at q queues lines posters c.len-many.result k d r c.requires.good c.requires.queues.0 c.requires.queues.1
    c.len-many.ensures low (omega (arith, high, run)) desk room)
    c.requires.desks c.remove-desk.ensures.items (sym c.args.desks.now.ok.0 ∙ (c.requires.count ∙ run)) (c.len.ensures ∙ (c.requires.count ∙ run))
    (EachFrom-map _ M (λ k r d. search rules) 1 _ c.in_ok-rooms.ensures.rooms) c.in_ok-rooms.ensures.all c.in_ok-rooms.ensures.nobody_is_done
    c.in_ok-rooms.ensures.done_room c.seat-waiting.ensures.seated

pub run_seated-desk-requires-clause-posters : goal.run_seated-desk-requires-clause-posters
run_seated-desk-requires-clause-posters g c κs within = c.requires.posters

pub run_seated-desk-requires-clause-good : goal.run_seated-desk-requires-clause-good
run_seated-desk-requires-clause-good g c κs within = c.requires.good

pub run_seated-desk-requires-clause-queues : goal.run_seated-desk-requires-clause-queues
run_seated-desk-requires-clause-queues g c κs within = c.requires.queues

pub run_seated-desk-requires-clause-agents : goal.run_seated-desk-requires-clause-agents
run_seated-desk-requires-clause-agents g c κs within = c.requires.agents

pub run_seated-desk-requires-clause-outs : goal.run_seated-desk-requires-clause-outs
run_seated-desk-requires-clause-outs g c κs within =
    (c.in_ok-replies.ensures.outs.0, omega (arith, c.in_ok-replies.ensures.outs.1, c.len-many.ensures))

pub hand_back-requires : goal.hand_back-requires
hand_back-requires g c =
    let W : Type 0 = StageWorker g.row.Q-Pass.Denot in
    let posts : length (all_of (λ (w : W). w.replies.posts.items) c.run_seated-desk.result.workers.items) ≤ c.in_ok-replies.replies.posts.spare =
    omega (arith, c.run_seated-desk.ensures.few.0, c.in_ok-replies.ensures.posts.1, c.len-many.ensures) in
    let moves : length (all_of (λ (w : W). w.replies.takes.items) c.run_seated-desk.result.workers.items) ≤ c.in_ok-replies.replies.takes.spare =
    omega (arith, c.run_seated-desk.ensures.few.1, c.in_ok-replies.ensures.moves.1, ap (λ (n : ℕ). (length c.args.queues.now - 1) * n) c.len-many.ensures) in
    record {
      desks = places_fit c.args.desks.now.len c.args.desks.now.cap c.remove-desk.new.self.cap c.seat-waiting.new.desks.cap c.push.new.self.cap
          c.seat-waiting.new.desks.len _ c.push.new.self.len c.run_seated-desk.result.workers.len _ _ c.args.desks.now.ok.1
          (omega (arith, c.requires.count, c.requires.queues.0)) c.remove-desk.ensures.capacity c.seat-waiting.ensures.desks c.in-Ok.ensures.capacity
          c.seat-waiting.new.desks.ok.0 (ap length c.seat-waiting.ensures.none) c.in-Ok.ensures.len c.run_seated-desk.result.workers.ok.0
          c.run_seated-desk.ensures.back.many;
      replies = for_both _ posts moves;
    }

pub returns : goal.returns
returns g c =
    let q = g.Q.SharedQueue in
    let queues = c.args.queues.now in
    let posters = c.args.posters in
    let stages : ℕ = length queues - 1 in
    let run : suc (posters + stages) ≡ posters + length queues = omega (arith, c.requires.queues.0) in
    let Passes = StageDesk g.row.Q-Pass.Denot in
    let first : c.push.new.self.items ≡ c.run_seated-desk.result.desk ∷ [] =
    c.in-Ok.ensures.items ∙ ap (λ (xs : List Passes). xs ++ c.run_seated-desk.result.desk ∷ []) c.seat-waiting.ensures.none in
    let desks : c.hand_back.new.desks.items
    ≡ (c.run_seated-desk.result.desk ∷ []) ++ map (λ (w : StageWorker g.row.Q-Pass.Denot). w.desk) c.run_seated-desk.result.workers.items =
    c.hand_back.ensures.desks
    ∙ ap (λ (xs : List Passes). xs ++ map (λ (w : StageWorker g.row.Q-Pass.Denot). w.desk) c.run_seated-desk.result.workers.items) first in
    let posts = c.hand_back.ensures.replies false
    ∙ ap (λ (xs : List PostReply). xs ++ all_of (λ (w : StageWorker g.row.Q-Pass.Denot). w.replies.posts.items) c.run_seated-desk.result.workers.items)
    c.in_ok-replies.ensures.posts.0 in
    let moves = c.hand_back.ensures.replies true
    ∙ ap (λ (xs : List StageReply). xs ++ all_of (λ (w : StageWorker g.row.Q-Pass.Denot). w.replies.takes.items) c.run_seated-desk.result.workers.items)
    c.in_ok-replies.ensures.moves.0 in
    let end = over q queues c.args.lines.now posters stages c.run_seated-desk.result.desk c.run_seated-desk.result.workers.items
    c.run_seated-desk.result.outs.items c.requires.posters c.requires.good.few c.run_seated-desk.ensures.back.many c.run_seated-desk.ensures.back _ _ _ desks posts moves in
    record { idle = end.0; all = end.1 ∙ run; seen = end.2; pipeline = end.3; kept = tt }

pub returns-in_err-rooms : goal.returns-in_err-rooms
returns-in_err-rooms g c =
    let r = err_from_is_err_and c.from_residual.result c.from_residual.ensures.1 in
    rw r.1 (record { idle = tt; all = tt; seen = tt; pipeline = tt; kept = refl })

pub returns-in_err-replies : goal.returns-in_err-replies
returns-in_err-replies g c =
    let r = err_from_is_err_and c.from_residual-in_err-replies.result c.from_residual-in_err-replies.ensures.1 in
    rw r.1 (record { idle = tt; all = tt; seen = tt; pipeline = tt; kept = refl })
