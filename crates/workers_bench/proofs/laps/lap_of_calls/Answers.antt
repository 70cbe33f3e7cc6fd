-- Each desk may call, the last of which is the caller's.
use Rattle.std.proofs.Common.{List, [], ◌∷◌, arith, ℕ, suc}
use Rattle.std.specs.List.{AllByRecursion}
use Rattle.orc_team.proofs.Numbered.{EachFrom-to_last}
use Rattle.orc_team.specs.Seats.{EachNumbered}
use Rattle.orc_workers.specs.Desks.{IsFreshDesk}
use Rattle.workers_bench.proofs.laps.lap_of_calls.Goals as goal

-- what holds of each item at its number gives what holds of each
of_each : {X : Type 0} (P : ℕ → X → Type 0) (M : X → Type 0) → ((k : ℕ) (x : X) → P k x → M x) → (k : ℕ) (xs : List X) → EachNumbered P k xs
    → AllByRecursion M xs
of_each P M f k [] h = tt
of_each P M f k (x ∷ xs) h = (f k x h.0, of_each P M f (suc k) xs h.1)

pub run_workers-done-requires-clause-ready : goal.run_workers-done-requires-clause-ready
run_workers-done-requires-clause-ready g c κs within =
    let F = IsFreshDesk g.Q.SharedQueue g.S.SharedSet c.args.queue.now c.args.rush.now c.args.set.now in
    of_each F _ (λ k x f. ((f.is_desk.queue_pass, f.is_desk.set_pass), c.requires.threads)) 0 _
    (EachFrom-to_last F 0 _ _ _ c.in-Some.ensures.items c.requires.desks).0

pub run_workers-done-requires-clause-room : goal.run_workers-done-requires-clause-room
run_workers-done-requires-clause-room g c κs within =
    omega (arith, c.in_ok-done.ensures.len, c.in_ok-done.ensures.capacity, c.len.ensures, c.in-Some.ensures.cases)

pub take-jobs-requires : goal.take-jobs-requires
take-jobs-requires g c =
    let F = IsFreshDesk g.Q.SharedQueue g.S.SharedSet c.args.queue.now c.args.rush.now c.args.set.now in
    let own = (EachFrom-to_last F 0 _ _ _ c.in-Some.ensures.items c.requires.desks).1 in
    record { passes = (own.is_desk.queue_pass, own.is_desk.set_pass) }
