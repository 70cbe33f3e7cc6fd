-- What was handed over is taken in, slot by slot.
use Rattle.std.proofs.Common.{List, [], refl, subst, sym, ℕ, ◌++◌, ◌+◌, ◌<◌, ◌∙◌, ◌∷◌, ◌≡◌, arith, ◌≢◌, ◌≤◌}
use Rattle.std.proofs.Math.Decide.{dec_lt}
use mathlib.Core.List.{IsPrefix}
use mathlib.Core.Logic.{dite}
use Rattle.orc_machine_rest.specs.Drains.{Drains, TakesInOne, TakesInAndSettles, TakesInFrom}
use Rattle.orc_machine_rest.proofs.Joins.{adds_leaves, adds_none, adds_then}
use Rattle.orc_machine_rest.proofs.Makes.{added_adds}
use Rattle.orc_machine_rest.proofs.Passes.{Pass, StepOf, added, bounds_are, made, mine}
use Rattle.orc_machine_rest.proofs.TakenIn.{taken_since, taken_then}
use Rattle.orc_machine_rest.specs.OwnSteps.{HasTakenIn, LeavesNothing}
use Rattle.orc_machine_rest.specs.Parts.{SawSteps, NoEvents, Settles}
use Rattle.orc_machine_rest.specs.Passes.{IsPassOf, agent_record, state_of}
use Rattle.orc_core.specs.Allowed.{may}
use Rattle.orc_core.specs.Machine.{record_at}
use Rattle.orc_core.specs.declared.ops.Op.{Op}
use Rattle.orc_core.specs.declared.ops.Op.TheVariants.{TakeIn}
use Rattle.orc_core.specs.declared.records.Agent.{Agent}
use Rattle.orc_rest.proofs.Draining.{drained}
use Rattle.orc_rest.proofs.TakingIn.{made_between, take_slot, took_more, took_none}
use Rattle.orc_heap.proofs.Steps.{alone_later}
use Rattle.orc_heap.specs.declared.discipline.Discipline as discipline
use Rattle.orc_machine_board.specs.Kinds.{MayDo}
use Rattle.orc_machine_board.specs.Rules.{run_of}
use Rattle.orc_machine_board.specs.Views.{MachineView, board_bounds, shows}
use Rattle.orc_machine_board.specs.declared.board.MachineBoard.{MachineBoard}
use Rattle.orc_machine_board.specs.declared.machine.MachineShape.{MachineShape}
use Rattle.orc_machine_board.specs.declared.machine.Reclaiming.{Reclaiming}
use Rattle.orc_machine_board.specs.declared.machine.Request.{Request}
use Rattle.orc_rest.specs.Records.{IsBetweenRounds, IsDone}
use Rattle.orc_rest.specs.Turns.{IsReachedState, NoneHanded}
use Rattle.orc_shared_words.specs.declared.machine.Machine as machine
use Rattle.orc_sound.specs.declared.steps.Step.{Step}
use Rattle.orc_words.specs.Bounds.{Bounds}
use Rattle.orc_machine_rest.proofs.Alone.{Parts, alone_done, alone_parts}
use Rattle.orc_history.specs.Parts.{IsAlone}

module _ {D N : Type 0} {d : discipline.Ghosts D N} {m : machine.Ghosts Reclaiming N (MachineShape N) Request (Step N) Agent Agent}
    {board : MachineBoard D N} {a k : ℕ} {p : Pass d m} where
  pub may_take : IsPassOf board a p → IsBetweenRounds (agent_record board a p) → k < 8 → MayDo (board_bounds board) (shows p) (TakeIn k)
  may_take h between low =
      (λ i. may (sym (bounds_are board p) i) 0 (h.agent i) (TakeIn k) (sym (mine board a p h) i)) ∙ take_slot (state_of board p) a k h.low between low

  module _ {q : Pass d m} {n : ℕ} (e : StepOf board a (TakeIn k) p q n) where
    pub takes : TakesInOne (board_bounds board) a k (shows p) (shows q)
    takes = record {
      made = made e;
      adds = added_adds (board_bounds board) a _ (TakeIn k ∷ []) (shows p) (shows q) tt (added e (λ i w. refl));
    }

    pub taken_in : HasTakenIn a k (shows p).journal (shows q).journal
    taken_in =
        let one = added e (λ i w. refl) in
        record { earlier = []; later = []; done = record { part = one.part; is = one.journal; own = one.own } }

    pub still_between : IsBetweenRounds (agent_record board a p) → IsBetweenRounds (agent_record board a q)
    still_between between = made_between (state_of board p) (state_of board q) a k e.pass.reached e.pass.low between (made e)

module _ {N : Type 0} (b : Bounds) (a : ℕ) where
  pub takes_none : (s : MachineView N) → IsReachedState (run_of b s.journal) → TakesInFrom b a 8 s s
  takes_none s r = record { took = took_none (run_of b s.journal) a r; adds = adds_none b a s }

  pub takes_more : (k : ℕ) (s t u : MachineView N) → IsReachedState (run_of b s.journal) → a < (run_of b s.journal).bounds.agents
      → IsBetweenRounds (record_at (run_of b s.journal) a) → k < 8 → TakesInOne b a k s t → TakesInFrom b a (k + 1) t u → TakesInFrom b a k s u
  takes_more k s t u r low between l x y = record {
    took = took_more (run_of b s.journal) (run_of b t.journal) (run_of b u.journal) a k r low between l x.made y.took;
    adds = adds_then b a (x.made.others ++ (a, TakeIn k) ∷ []) y.took.steps s t u x.adds y.adds;
  }

  pub drains : (s t u v : MachineView N) → IsReachedState (run_of b s.journal) → a < (run_of b s.journal).bounds.agents → TakesInOne b a 0 s t
      → TakesInFrom b a 1 t u → Settles b a u v → Drains b a s v
  drains s t u v r low x y z = record {
    drained = drained (run_of b s.journal) (run_of b t.journal) (run_of b u.journal) (run_of b v.journal) a r low x.made y.took z.settled;
    adds = adds_then b a (x.made.others ++ (a, TakeIn 0) ∷ []) (y.took.steps ++ z.settled.steps) s t v x.adds
        (adds_then b a y.took.steps z.settled.steps t u v y.adds z.adds);
  }

module _ {N : Type 0} (a : ℕ) where
  -- beside slot k, and then beside each later one
  pub taken_more : (k : ℕ) (x y z : List (Step N)) → HasTakenIn a k x y → IsPrefix x y → IsPrefix y z
      → ((slot : ℕ) → k + 1 ≤ slot → slot < 8 → HasTakenIn a slot y z) → (slot : ℕ) → k ≤ slot → slot < 8 → HasTakenIn a slot x z
  taken_more k x y z first p q later slot from low = dite (dec_lt k slot)
      (λ after. taken_since a slot x y z p (later slot (omega (arith, after)) low))
      (λ same.
      let is : k ≡ slot = omega (arith, from, same) in
      subst (λ n. HasTakenIn a n x z) is (taken_then a k x y z first q))

pub below_eight : (k : ℕ) → k ≤ 8 → (k ≡ 8 → ⊥) → k < 8
below_eight k l n = let ne : k ≢ 8 = n in omega arith

-- where no other agent has a step in the part of a drain, nothing is left to the agent, and its handover words are 0
module _ {N : Type 0} (b : Bounds) (a : ℕ) (s t : MachineView N) (p : Drains b a s t) (alone : IsAlone (λ (x : Step N). x.agent) a s.journal t.journal) where
  parts : Parts a p.drained.steps
  parts = alone_parts b a p.drained.steps s t p.adds alone

  pub alone_drained : IsDone (record_at (run_of b t.journal) a)
  alone_drained = p.drained.done parts.before parts.after parts.is parts.others parts.mine

  pub alone_taken : NoneHanded a (run_of b t.journal)
  alone_taken = p.drained.hands parts.before parts.after parts.is parts.others parts.mine

-- what was handed over beside slot 0 is taken in, and then the agent settles
module _ {N : Type 0} (b : Bounds) (a : ℕ) (s t : MachineView N) (p : TakesInAndSettles b a s t) where
  abbrev both_steps : List (ℕ × Op)
  both_steps = (p.takes.made.others ++ (a, TakeIn 0) ∷ []) ++ p.settles.settled.steps

  adds_both : SawSteps b a both_steps s t
  adds_both = adds_then b a (p.takes.made.others ++ (a, TakeIn 0) ∷ []) p.settles.settled.steps s p.between t p.takes.adds p.settles.adds

  pub both_quiet : NoEvents b a s.journal t.journal
  both_quiet = adds_both.quiet

  pub both_leave : LeavesNothing a s.journal t.journal
  both_leave = adds_leaves b a both_steps s t adds_both

  -- where no other agent has a step in the part of both, nothing is left to the agent
  pub both_done : IsAlone (λ (x : Step N). x.agent) a s.journal t.journal → IsDone (record_at (run_of b t.journal) a)
  both_done alone =
      let one = p.takes.adds in
      let rest = p.settles.adds in
      alone_done b a p.between t p.settles (alone_later (λ (x : Step N). x.agent) a s.journal p.between.journal t.journal
      (one.part, sym one.journal) (rest.part, sym rest.journal) alone)
