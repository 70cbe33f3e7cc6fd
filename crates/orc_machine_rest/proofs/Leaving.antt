-- Slot 0 is cleared, and what was handed over beside it is taken in.
use Rattle.std.proofs.Common.{[], false, refl, ℕ, ◌++◌, ◌∷◌, ◌≡◌}
use Rattle.std.specs.Prelude.{None}
use Rattle.orc_machine_rest.proofs.Makes.{added_adds, added_then}
use Rattle.orc_machine_rest.proofs.Passes.{Pass, StepOf, added, made, may_do, next_pass}
use Rattle.orc_machine_rest.specs.Parts.{Goes}
use Rattle.orc_machine_rest.specs.Passes.{IsPassOf, agent_record, state_of}
use Rattle.orc_core.specs.RecordParts.{is_empty, slot_of}
use Rattle.orc_core.specs.declared.ops.Op.TheVariants.{Clear, TakeIn}
use Rattle.orc_core.specs.declared.records.Agent.{Agent}
use Rattle.orc_machine_board.specs.Kinds.{MayDo}
use Rattle.orc_machine_board.specs.Views.{board_bounds, shows}
use Rattle.orc_machine_board.specs.declared.board.MachineBoard.{MachineBoard}
use Rattle.orc_machine_board.specs.declared.machine.MachineShape.{MachineShape}
use Rattle.orc_machine_board.specs.declared.machine.Reclaiming.{Reclaiming}
use Rattle.orc_machine_board.specs.declared.machine.Request.{Request}
use Rattle.orc_rest.proofs.Stages.{StillKept, first_cleared, kept_join, made_went, take_allowed, take_made, went_join}
use Rattle.orc_rest.specs.Records.{IsSettling}
use Rattle.orc_sound.specs.declared.steps.Step.{Step}
use Rattle.orc_heap.specs.declared.discipline.Discipline as discipline
use Rattle.orc_shared_words.specs.declared.machine.Machine as machine

module _ {D N : Type 0} {d : discipline.Ghosts D N} {m : machine.Ghosts Reclaiming N (MachineShape N) Request (Step N) Agent Agent} where
  -- what both steps leave
  pub record Leaving (board : MachineBoard D N) (a : ℕ) (p r : Pass d m) : Type 0 where
    pub pass : IsPassOf board a r
    pub goes : Goes (board_bounds board) a 0 (shows p) (shows r)
    pub so : StillKept (agent_record board a p) (agent_record board a r)

  module _ {board : MachineBoard D N} {a : ℕ} {p : Pass d m} (h : IsPassOf board a p) (calm : IsSettling (agent_record board a p))
      (used : is_empty (slot_of (agent_record board a p) 0) ≡ false) (dec : (agent_record board a p).dec ≡ None) (due : (agent_record board a p).due ≡ None) where
    pub clear_may : MayDo (board_bounds board) (shows p) (Clear 0)
    clear_may = may_do board a p h (Clear 0) tt (first_cleared (state_of board p) a h.low calm used dec due).0

  module _ {board : MachineBoard D N} {a : ℕ} {p q : Pass d m} {x : ℕ} (one : StepOf board a (Clear 0) p q x) (calm : IsSettling (agent_record board a p))
      (used : is_empty (slot_of (agent_record board a p) 0) ≡ false) (dec : (agent_record board a p).dec ≡ None) (due : (agent_record board a p).due ≡ None) where
    pub take_may : MayDo (board_bounds board) (shows q) (TakeIn 0)
    take_may =
        let left = (first_cleared (state_of board p) a one.pass.low calm used dec due).1 (state_of board q) one.pass.reached (made one) in
        may_do board a q (next_pass one) (TakeIn 0) refl (take_allowed (state_of board q) a (next_pass one).low left.so.still)

    module _ {r : Pass d m} {y : ℕ} (two : StepOf board a (TakeIn 0) q r y) where
      pub leaving : Leaving board a p r
      leaving =
          let clear = first_cleared (state_of board p) a one.pass.low calm used dec due in
          let left = clear.1 (state_of board q) one.pass.reached (made one) in
          let take = take_allowed (state_of board q) a two.pass.low left.so.still in
          let taken = take_made (state_of board q) (state_of board r) a two.pass.reached two.pass.low left.so.still (made two) in
          record {
            pass = next_pass two;
            goes = record {
              went = went_join a 0 0 (state_of board p) (state_of board q) (state_of board r)
                  (made_went (state_of board p) (state_of board q) a (Clear 0) one.pass.reached clear.0 tt (made one))
                  (made_went (state_of board q) (state_of board r) a (TakeIn 0) two.pass.reached take refl (made two));
              adds = added_adds (board_bounds board) a (((made one).others ++ (a, Clear 0) ∷ []) ++ ((made two).others ++ (a, TakeIn 0) ∷ []))
                  (Clear 0 ∷ TakeIn 0 ∷ []) (shows p) (shows r) (refl, tt)
                  (added_then (board_bounds board) a ((made one).others ++ (a, Clear 0) ∷ []) ((made two).others ++ (a, TakeIn 0) ∷ []) (Clear 0 ∷ [])
                  (TakeIn 0 ∷ []) (shows p) (shows q) (shows r) (added one (λ i w. refl)) (added two (λ i w. refl)));
            };
            so = kept_join (agent_record board a p) (agent_record board a q) (agent_record board a r) left.so.kept taken.so;
          }
