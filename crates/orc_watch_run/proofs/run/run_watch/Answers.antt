use Rattle.std.proofs.Common.{rules, ◌≡◌, ◌≤◌, ◌++◌, ◌∷◌, [], ap, refl, sym, ◌∙◌, length, map, arith, List}
use Rattle.std.proofs.lemmas.Result.{err_from_is_err_and}
use Rattle.orc_watch.specs.declared.reply.WatchReply.{WatchReply}
use Rattle.orc_team.specs.Seats.{all_of}
use Rattle.orc_team.proofs.Numbered.{EachFrom-map, EachFrom-rest}
use Rattle.orc_team.proofs.Seats.{places_fit, seats_ready}
use Rattle.orc_watch_run.specs.Passes.{IsFreshPass, IsUsablePassOf}
use Rattle.orc_watch_run.specs.CameBack.{IsNew}
use Rattle.orc_watch_run.specs.Team.{IsReady, IsRoom, Watcher}
use Rattle.orc_watch_run.proofs.Over.{over_of}
use Rattle.orc_watch_run.proofs.Rooms.{ready_at}
use Rattle.orc_watch_run.proofs.run.run_watch.Goals as goal

pub run_team-pass-requires-clause-team : goal.run_team-pass-requires-clause-team
run_team-pass-requires-clause-team g c κs within =
    let links = c.args.cell.now.links in
    let lines = c.args.lines.now in
    let workers = c.args.workers in
    seats_ready (IsFreshPass g.L.Links links) (λ k r. IsRoom c.len-many.result r) (IsReady g.L.Links links lines workers) (IsNew g.L.Links links) workers
    c.len.result c.args.passes.now.items _ _ _ _
    (λ k p r low high pass room. ready_at g.L.Links links lines workers c.len-many.result k p r c.requires.few c.len-many.ensures low high pass room)
    c.requires.passes c.remove-pass.ensures.items (sym c.args.passes.now.ok.0 ∙ c.requires.count) (c.len.ensures ∙ c.requires.count)
    (EachFrom-map _ (λ k r. IsRoom c.len-many.result r) (λ k r d. search rules) 1 _ c.in_ok-rooms.ensures.rooms) c.in_ok-rooms.ensures.all
    c.in_ok-rooms.ensures.nobody_is_done c.in_ok-rooms.ensures.done_room c.seat-waiting.ensures.seated

pub seat-waiting-requires-clause-agents : goal.seat-waiting-requires-clause-agents
seat-waiting-requires-clause-agents g c =
    EachFrom-map (IsFreshPass g.L.Links c.args.cell.now.links) (IsUsablePassOf g.L.Links c.args.cell.now.links) (λ k p f. f.is_pass) 1 _
    (EachFrom-rest (IsFreshPass g.L.Links c.args.cell.now.links) 0 _ _ c.remove-pass.ensures.items c.requires.passes)

pub remove-pass-requires : goal.remove-pass-requires
remove-pass-requires g c = omega (arith, c.requires.count)

pub overflow_sub-len : goal.overflow_sub-len
overflow_sub-len g c = omega (arith, c.len.ensures, c.requires.count)

pub seat-waiting-requires-clause-nobody : goal.seat-waiting-requires-clause-nobody
seat-waiting-requires-clause-nobody g c = c.in_ok-rooms.ensures.nobody_waits

pub seat-waiting-requires-clause-capacity : goal.seat-waiting-requires-clause-capacity
seat-waiting-requires-clause-capacity g c = omega (arith, c.in_ok-rooms.ensures.waiting_room, c.remove-pass.ensures.len, c.len.ensures)

pub run_team-pass-requires-clause-agents : goal.run_team-pass-requires-clause-agents
run_team-pass-requires-clause-agents g c κs within = c.requires.agents

pub returns-in_err-rooms : goal.returns-in_err-rooms
returns-in_err-rooms g c =
    let r = err_from_is_err_and c.from_residual.result c.from_residual.ensures.1 in
    rw r.1 (record { usable = tt; all = tt; seen = tt; follows = tt; kept = refl })

pub returns-in_err-replies : goal.returns-in_err-replies
returns-in_err-replies g c =
    let r = err_from_is_err_and c.from_residual-in_err-replies.result c.from_residual-in_err-replies.ensures.1 in
    rw r.1 (record { usable = tt; all = tt; seen = tt; follows = tt; kept = refl })

pub hand_back-requires : goal.hand_back-requires
hand_back-requires g c = record {
  desks = places_fit c.args.passes.now.len c.args.passes.now.cap c.remove-pass.new.self.cap c.seat-waiting.new.desks.cap c.push.new.self.cap
      c.seat-waiting.new.desks.len _ c.push.new.self.len c.run_team-pass.result.workers.len _ _ c.args.passes.now.ok.1 c.requires.count
      c.remove-pass.ensures.capacity c.seat-waiting.ensures.desks c.in-Ok.ensures.capacity c.seat-waiting.new.desks.ok.0
      (ap length c.seat-waiting.ensures.none) c.in-Ok.ensures.len c.run_team-pass.result.workers.ok.0 c.run_team-pass.ensures.back.many;
  replies =
      let few : length (all_of (λ (w : Watcher g.row.L-Pass.Denot). w.replies.items) c.run_team-pass.result.workers.items) ≤ c.in_ok-replies.replies.spare =
      omega (arith, c.run_team-pass.ensures.few, c.in_ok-replies.ensures.1, c.len-many.ensures) in
      λ kind. few;
}

pub returns : goal.returns
returns g c =
    let first : c.push.new.self.items ≡ c.run_team-pass.result.pass ∷ [] =
    c.in-Ok.ensures.items ∙ ap (λ (xs : List g.row.L-Pass.Denot). xs ++ c.run_team-pass.result.pass ∷ []) c.seat-waiting.ensures.none in
    let passes : c.hand_back.new.desks.items ≡ (c.run_team-pass.result.pass ∷ []) ++ map (λ (w : Watcher g.row.L-Pass.Denot). w.desk)
    c.run_team-pass.result.workers.items =
    c.hand_back.ensures.desks
    ∙ ap (λ (xs : List g.row.L-Pass.Denot). xs ++ map (λ (w : Watcher g.row.L-Pass.Denot). w.desk) c.run_team-pass.result.workers.items) first in
    let replies = c.hand_back.ensures.replies tt
    ∙ ap (λ (xs : List WatchReply). xs ++ all_of (λ (w : Watcher g.row.L-Pass.Denot). w.replies.items) c.run_team-pass.result.workers.items)
    c.in_ok-replies.ensures.0 in
    let over = over_of g.L.Links c.args.cell.now.links c.args.lines.now c.args.workers c.run_team-pass.result.pass c.run_team-pass.result.now_left
    c.run_team-pass.result.now_right c.run_team-pass.result.workers.items _ _ c.run_team-pass.ensures.back c.run_team-pass.ensures.back.many passes replies in
    record { usable = over.usable; all = over.all; seen = over.seen; follows = over.follows; kept = tt }
