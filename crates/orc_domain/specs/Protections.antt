-- A row that is published in a slot, with the second read of the link by which the slot comes to hold it.
use Rattle.std.specs.Prelude.{Bool, Some, false, suc, true, zero, ℕ, ◌≡◌, ◌≢◌}
use Rattle.orc_core.specs.declared.ops.Op.TheVariants.{Clear, LinkLoad, Publish}
use Rattle.orc_core.specs.declared.records.Agent.{Agent}
use Rattle.orc_heap.specs.declared.discipline.Discipline as discipline
use Rattle.orc_machine_board.specs.Kinds.{MakesPlain, MayDo}
use Rattle.orc_machine_board.specs.Views.{Belongs, board_bounds, shows}
use Rattle.orc_machine_board.specs.declared.board.MachineBoard.{MachineBoard}
use Rattle.orc_machine_board.specs.declared.board.MachineBoardPass.{MachineBoardPass}
use Rattle.orc_machine_board.specs.declared.machine.MachineShape.{MachineShape}
use Rattle.orc_machine_board.specs.declared.machine.Reclaiming.{Reclaiming}
use Rattle.orc_machine_board.specs.declared.machine.Request.{Request}
use Rattle.orc_domain.specs.Calls.{Unlocks}
use Rattle.orc_domain.specs.Seats.{IsCalm}
use Rattle.orc_shared_words.specs.declared.machine.Machine as machine
use Rattle.orc_sound.specs.declared.steps.Step.{Step}
use Rattle.orc_words.specs.Packed.{link_of, link_word}
use Rattle.orc_words.specs.Places.{link_at}
use Rattle.orc_words.specs.declared.packed.RowLink.{RowLink}
use Rattle.orc_words.specs.declared.place.Word.{Word}
use Rattle.orc_words.specs.declared.place.Word.TheVariants.{Root}

-- the link word that two numbers tell: a root, or the link of a row by its number, counted from 1 on
abbrev pub word_by : ℕ → ℕ → Word
word_by zero root = Root root
word_by (suc number) row = link_at number row

module _ {D N : Type 0} (d : discipline.Ghosts D N) (m : machine.Ghosts Reclaiming N (MachineShape N) Request (Step N) Agent Agent) where
  -- a pass of a board
  abbrev pub Pass : Type 0
  Pass = MachineBoardPass D N d m

module _ {D N : Type 0} {d : discipline.Ghosts D N} {m : machine.Ghosts Reclaiming N (MachineShape N) Request (Step N) Agent Agent}
    (board : MachineBoard D N) (w : Word) (slot : ℕ) where
  -- from p the pass published the row in the slot, and shows u
  pub record Published (r : ℕ) (p u : Pass d m) : Type 0 where
    pub belongs : Belongs board u
    pub number : ℕ
    pub made : MakesPlain (board_bounds board) (Publish slot r) (shows p) number (shows u)

  -- then it read the link again with the slot, found this one, and shows y
  pub record Reread (two : RowLink) (u y : Pass d m) : Type 0 where
    pub belongs : Belongs board y
    pub made : MakesPlain (board_bounds board) (LinkLoad w (Some slot)) (shows u) (link_word two) (shows y)
    pub is : link_of (link_word two) ≡ two

  -- then it read the link again with the slot, found `same` of this one, and shows y
  pub record ReadsAgain (one : RowLink) (same : Bool) (u y : Pass d m) : Type 0 where
    pub two : RowLink
    pub reread : Reread two u y
    pub stays : same ≡ true → two ≡ one
    pub moves : same ≡ false → two ≢ one

  -- the row may be published in the slot, the link may then be read again with it, and the slot may then be cleared
  pub record MayProtect (r : ℕ) (p : Pass d m) : Type 0 where
    pub publish : MayDo (board_bounds board) (shows p) (Publish slot r)
    pub again : (u : Pass d m) → Published r p u → MayDo (board_bounds board) (shows u) (LinkLoad w (Some slot))
    pub calm : (u y : Pass d m) (two : RowLink) → Published r p u → Reread two u y → IsCalm (shows y).record_is
    pub clear : (u y : Pass d m) (two : RowLink) → Published r p u → Reread two u y → MayDo (board_bounds board) (shows y) (Clear slot)

  -- the row was published, and the link was read again: where it was the same, nothing more was done, and where it moved, the slot was
  -- cleared
  pub record Protects (r : ℕ) (one : RowLink) (same : Bool) (p q : Pass d m) : Type 0 where
    pub u : Pass d m
    pub published : Published r p u
    pub two : RowLink
    pub y : Pass d m
    pub reread : Reread two u y
    pub stays : same ≡ true → (two ≡ one) × (q ≡ y)
    pub moves : same ≡ false → (two ≢ one) × Unlocks (board_bounds board) slot (shows y) (shows q)
