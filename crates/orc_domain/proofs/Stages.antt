-- Points of a call: what a pass shows there, what is true of it, and what one step does from one to the next.
use Rattle.std.proofs.Common.{List, Option, [], ap, append_assoc, refl, subst, sym, ℕ, ◌++◌, ◌<◌, ◌∙◌, ◌≡◌, ◌∷◌}
use Rattle.std.specs.Prelude.{map}
use Rattle.orc_machine_rest.proofs.Joins.{takes_in_both}
use Rattle.orc_machine_rest.proofs.TakenIn.{done_none, done_then}
use Rattle.orc_machine_rest.specs.OwnSteps.{HasDone, LeavesNothing, TakesInCleared}
use Rattle.orc_core.specs.Machine.{new_machine, record_at}
use Rattle.orc_core.specs.declared.ops.Op.{Op}
use Rattle.orc_core.specs.declared.records.Agent.{Agent}
use Rattle.orc_heap.specs.Allowed.{AllAllowed}
use Rattle.orc_heap.specs.Seats.{Seat}
use Rattle.orc_heap.specs.declared.discipline.Discipline as discipline
use Rattle.orc_history.specs.Journals.{own_of}
use Rattle.orc_machine_board.proofs.Holds.{has_out, record_stays}
use Rattle.orc_machine_board.specs.Holding.{HasRow}
use Rattle.orc_machine_board.specs.Kinds.{MakesPlain}
use Rattle.orc_machine_board.specs.Laws.Steps.{in_range}
use Rattle.orc_machine_board.specs.Rules.{bounds_in, heap_numbers, run_of, step_of}
use Rattle.orc_machine_board.specs.Views.{Keeps, MachineView, Makes, view_of}
use Rattle.orc_machine_board.specs.declared.machine.MachineShape.{MachineShape}
use Rattle.orc_machine_board.specs.declared.machine.Request.{Request}
use Rattle.orc_projection.proofs.Mirrored.{StoresUnmarked-append}
use Rattle.orc_projection.specs.Projection.{StoresUnmarked, project}
use Rattle.orc_domain.specs.Passes.{IsFreshUntouched}
use Rattle.orc_domain.specs.Seats.{IsBetweenCalls, seat_by}
use Rattle.orc_shared_words.proofs.Runs.{by_own, own_of-append}
use Rattle.orc_shared_words.specs.declared.journal.View.{View}
use Rattle.orc_sound.proofs.Journals.{IsLawfulJournal-append}
use Rattle.orc_sound.specs.Journals.{IsLawfulJournal}
use Rattle.orc_sound.specs.Linked.{IsOut}
use Rattle.orc_sound.specs.declared.steps.Step.{Step}

module _ {N : Type 0} where
  pub leaves_none : (a : ℕ) (j : List (Step N)) → LeavesNothing a j j
  leaves_none a j = record { ops = []; done = done_none a j; taken_in = tt }

  pub leaves_then : (a : ℕ) (x y z : List (Step N)) → LeavesNothing a x y → LeavesNothing a y z → LeavesNothing a x z
  leaves_then a x y z p q = record {
    ops = p.ops ++ q.ops;
    done = done_then a x y z p.ops q.ops p.done q.done;
    taken_in = takes_in_both p.ops q.ops p.taken_in q.taken_in;
  }

module _ {D N : Type 0} where
  -- what a pass of a board shows at a point of a call, and what is true of it
  pub record Stage (d : discipline.Ghosts D N) (k : MachineShape N) : Type 0 where
    pub view : MachineView N
    pub number : view.agent < (bounds_in k).agents
    pub lawful : IsLawfulJournal (new_machine (bounds_in k)) view.journal
    pub unmarked : StoresUnmarked view.journal
    pub mine : record_at (run_of (bounds_in k) view.journal) view.agent ≡ view.record_is
    pub kept : d.holds (heap_numbers k) (project (bounds_in k) view.journal)
    pub each : AllAllowed (d.may (heap_numbers k)) [] (project (bounds_in k) view.journal)

  -- a pass of the board is at one
  abbrev pub stage : (d : discipline.Ghosts D N) (k : MachineShape N) (v : View (Step N) Agent) (a : ℕ)
      → Keeps k (d.holds (heap_numbers k)) (d.may (heap_numbers k)) v a → Stage d k
  stage d k v a kept = record {
    view = view_of a v;
    number = kept.number;
    lawful = kept.now.lawful.0;
    unmarked = kept.now.lawful.1;
    mine = kept.now.mine;
    kept = kept.now.kept;
    each = kept.now.each;
  }

  module _ {d : discipline.Ghosts D N} {k : MachineShape N} where
    -- what it shows to callers
    abbrev pub seat : Stage d k → Seat N
    seat s = seat_by (bounds_in k) s.view

    -- where a call begins or ends
    pub record Between (s : Stage d k) : Type 0 where
      pub ready : IsBetweenCalls s.view.record_is
      pub untouched : IsFreshUntouched (heap_numbers k) (seat s)

    -- a step without a wanted link and without a note
    abbrev pub Steps : Op → Stage d k → ℕ → Stage d k → Type 0
    Steps op s n t = MakesPlain (bounds_in k) op s.view n t.view

    module _ (q : Request) (note : Option N) (s t : Stage d k) (n : ℕ) (m : Makes (bounds_in k) q note s.view n t.view) where
      -- the journal right before the step, and the step
      abbrev pub before : List (Step N)
      before = s.view.journal ++ m.met

      abbrev pub its_step : Step N
      its_step = step_of s.view.agent q note

      pub whole_lawful : IsLawfulJournal (new_machine (bounds_in k)) (before ++ its_step ∷ [])
      whole_lawful = subst (IsLawfulJournal (new_machine (bounds_in k))) m.journal t.lawful

      pub before_lawful : IsLawfulJournal (new_machine (bounds_in k)) before
      before_lawful = ((IsLawfulJournal-append (new_machine (bounds_in k)) before (its_step ∷ [])).0 whole_lawful).0

      pub before_unmarked : StoresUnmarked before
      before_unmarked = ((StoresUnmarked-append before (its_step ∷ [])).0 (subst StoresUnmarked m.journal t.unmarked)).0

      pub before_record : record_at (run_of (bounds_in k) before) s.view.agent ≡ s.view.record_is
      before_record = record_stays (bounds_in k) s.view.journal m.met s.view.agent m.others ∙ s.mine

      -- what the agent has is out there
      pub before_out : (r : ℕ) → HasRow s.view.record_is r → IsOut (run_of (bounds_in k) before) r
      before_out r has = has_out (bounds_in k) before s.view.agent r (in_range k.shape) before_lawful s.number (subst (λ d. HasRow d r) (sym before_record) has)

      pub done_one : HasDone s.view.agent (q.op ∷ []) s.view.journal t.view.journal
      done_one = record {
        part = m.met ++ its_step ∷ [];
        is = m.journal ∙ append_assoc s.view.journal m.met (its_step ∷ []);
        own = ap (map (λ (x : Step N). x.op)) (own_of-append (λ (x : Step N). x.agent) s.view.agent m.met (its_step ∷ [])
            ∙ (ap (λ l. l ++ own_of (λ (x : Step N). x.agent) s.view.agent (its_step ∷ [])) m.others
            ∙ by_own (λ (x : Step N). x.agent) s.view.agent its_step [] refl));
      }

      -- one step leaves nothing, unless it clears a slot
      pub leaves_by : TakesInCleared (q.op ∷ []) → LeavesNothing s.view.agent s.view.journal t.view.journal
      leaves_by in_order = record { ops = q.op ∷ []; done = done_one; taken_in = in_order }
