-- What the contracts of the board's calls say of a pass before a call, `old`, and after it, `new`.
use Rattle.std.specs.Prelude.{◌≡◌, ◌∷◌, None, Option, Some, [], ℕ}
use Rattle.orc_heap.specs.Calls.{ReadsValue}
use Rattle.orc_heap.specs.Journals.{event_by}
use Rattle.orc_heap.specs.declared.discipline.Discipline as discipline
use Rattle.orc_heap.specs.declared.events.Act.TheVariants.{Fill}
use Rattle.orc_shared_words.specs.declared.machine.Machine as machine
use Rattle.orc_plain_board.specs.Calls.{Absorbs, AddsOwn, MissesWanted, FindsLink, GivesNewRow, KnowsPlace as ViewKnowsPlace, KnowsRow as ViewKnowsRow, KnowsTarget, LearnsEvents, Loses, MayWhereFits, MayWhereShown, Misses, Replaces, aim_event, look_event, move_event, unless_linked}
use Rattle.orc_any_domain.specs.Rows.{index_of}
use Rattle.orc_plain_board.specs.Machine.{link_by, place_by}
use Rattle.orc_plain_board.specs.Views.{board_bounds, board_numbers, heap_of, shows}
use Rattle.orc_plain_board.specs.declared.machine.Plain.{Plain}
use Rattle.orc_plain_board.specs.declared.machine.PlainOp.{PlainOp}
use Rattle.orc_plain_board.specs.declared.machine.PlainStep.{PlainStep}
use Rattle.orc_plain_board.specs.declared.pass.PlainBoard.{PlainBoard}
use Rattle.orc_plain_board.specs.declared.pass.PlainBoardPass.{PlainBoardPass}
use Rattle.orc_plain_board.specs.declared.shape.PlainShape.{PlainShape}
use Rattle.orc_words.specs.declared.packed.RowLink.{RowLink}
use Rattle.orc_words.specs.declared.place.Word.{Word}

-- a pass to a board under this discipline
abbrev pub PassOf : (D N : Type 0) → discipline.Ghosts D N → machine.Ghosts Plain N (PlainShape N) PlainOp (PlainStep N) (Unit {0}) (Unit {0}) → Type 0
PassOf D N d m = PlainBoardPass D N (PlainShape N) PlainOp (PlainStep N) (Unit {0}) (Unit {0}) d m

module _ {D N : Type 0} {d : discipline.Ghosts D N} {m : machine.Ghosts Plain N (PlainShape N) PlainOp (PlainStep N) (Unit {0}) (Unit {0})} (board : PlainBoard D N) where
  -- this row is fresh
  abbrev pub IsFresh : PassOf D N d m → ℕ → Type 0
  IsFresh p row = (shows board p).fresh ≡ Some row

  -- no row is
  abbrev pub HasNoFresh : PassOf D N d m → Type 0
  HasNoFresh p = (shows board p).fresh ≡ None

  -- the pass's last look at a gate saw this row free
  abbrev pub SawFree : PassOf D N d m → ℕ → Type 0
  SawFree p row = (shows board p).looked ≡ Some row

  -- the agent knows the row's node
  abbrev pub KnowsRow : PassOf D N d m → ℕ → Type 0
  KnowsRow p row = ViewKnowsRow (board_bounds board) (shows board p) row

  -- the place is a root, or the first or second link of a row whose node the agent knows
  abbrev pub KnowsPlace : PassOf D N d m → Word → Type 0
  KnowsPlace p place = ViewKnowsPlace (board_bounds board) (shows board p) place

  -- the link is null, or its row's node is known to the agent
  abbrev pub KnowsLink : PassOf D N d m → RowLink → Type 0
  KnowsLink p link = KnowsTarget (board_bounds board) (shows board p) link

  -- the discipline allows a Look, wherever the place shows the link
  abbrev pub MayLook : PassOf D N d m → Word → RowLink → Option N → Type 0
  MayLook p place link note =
      MayWhereShown (d.may (board_numbers board)) (board_bounds board) (shows board p) place link (look_event (shows board p) place link note)

  -- it allows a Move, wherever the place shows the first link
  abbrev pub MayMove : PassOf D N d m → Word → RowLink → RowLink → Option N → Type 0
  MayMove p place from to note =
      MayWhereShown (d.may (board_numbers board)) (board_bounds board) (shows board p) place from (move_event (shows board p) place from to note)

  -- it allows an Aim of the first link of the row's node, or an AimSide of its second, wherever that fits
  abbrev pub MayAim : PassOf D N d m → ℕ → ℕ → RowLink → Type 0
  MayAim p row number link =
      MayWhereFits (d.may (board_numbers board)) (board_bounds board) (shows board p) (aim_event (shows board p) row number link)

  -- the call makes no event
  abbrev pub MakesNoEvent : PassOf D N d m → PassOf D N d m → Type 0
  MakesNoEvent old new = AddsOwn (d.may (board_numbers board)) [] (shows board old) (shows board new)

  -- it makes a Look at the place, which shows the link
  abbrev pub MakesLook : PassOf D N d m → PassOf D N d m → Word → RowLink → Option N → Type 0
  MakesLook old new place link note = AddsOwn (d.may (board_numbers board)) (look_event (shows board old) place link note ∷ []) (shows board old) (shows board new)

  -- it makes a Move of the place
  abbrev pub MakesMove : PassOf D N d m → PassOf D N d m → Word → RowLink → RowLink → Option N → Type 0
  MakesMove old new place from to note =
      AddsOwn (d.may (board_numbers board)) (move_event (shows board old) place from to note ∷ []) (shows board old) (shows board new)

  -- it makes a Fill of the row's node
  abbrev pub MakesFill : PassOf D N d m → PassOf D N d m → ℕ → ℕ → ℕ → Type 0
  MakesFill old new row which value =
      AddsOwn (d.may (board_numbers board)) (event_by (shows board old).agent (Fill (index_of row (shows board old).rows) which value) None ∷ [])
      (shows board old) (shows board new)

  -- the row is given: it was given to nobody before, and is fresh now
  abbrev pub GivesRow : PassOf D N d m → PassOf D N d m → ℕ → Type 0
  GivesRow old new row = GivesNewRow (d.may (board_numbers board)) row (shows board old) (shows board new)

  -- the row is out already
  abbrev pub LosesRow : PassOf D N d m → PassOf D N d m → ℕ → Type 0
  LosesRow old new row = Loses (d.may (board_numbers board)) row (shows board old) (shows board new)

  -- the place shows a link of this word
  abbrev pub FindsWord : PassOf D N d m → PassOf D N d m → Word → ℕ → Type 0
  FindsWord old new place word =
      FindsLink (d.may (board_numbers board)) (board_bounds board) (place_by (shows board old).rows place) word (shows board old) (shows board new)

  -- the place shows another link than the wanted one, and its word is this
  abbrev pub MissesLink : PassOf D N d m → PassOf D N d m → Word → RowLink → ℕ → Type 0
  MissesLink old new place wanted word =
      Misses (d.may (board_numbers board)) (board_bounds board) (place_by (shows board old).rows place) (link_by (shows board old).rows wanted) word
      (shows board old) (shows board new)

  -- the place shows another link than the wanted one, and nothing is changed
  abbrev pub FailsToMove : PassOf D N d m → PassOf D N d m → Word → RowLink → Type 0
  FailsToMove old new place wanted =
      MissesWanted (d.may (board_numbers board)) (place_by (shows board old).rows place) (link_by (shows board old).rows wanted) (shows board old) (shows board new)

  -- the row's first or second link was of this word, and is aimed at the link's target
  abbrev pub ReplacesWord : PassOf D N d m → PassOf D N d m → ℕ → ℕ → ℕ → RowLink → Type 0
  ReplacesWord old new row number word link =
      Replaces (d.may (board_numbers board)) (board_bounds board) row number word link (shows board old) (shows board new)

  -- the row's node has this value, as far as it was filled
  abbrev pub ReadsRow : PassOf D N d m → PassOf D N d m → ℕ → ℕ → ℕ → Type 0
  ReadsRow old new row which value = ReadsValue (heap_of (board_bounds board) (shows board new)) (index_of row (shows board old).rows) which value

  -- the fresh row stays
  abbrev pub KeepsFresh : PassOf D N d m → PassOf D N d m → Type 0
  KeepsFresh old new = (shows board new).fresh ≡ (shows board old).fresh

  -- it stays, unless it is the row that was linked
  abbrev pub KeepsFreshUnless : PassOf D N d m → PassOf D N d m → Option ℕ → Type 0
  KeepsFreshUnless old new linked = (shows board new).fresh ≡ unless_linked (shows board old).fresh linked

  -- what the last look at a gate saw stays
  abbrev pub KeepsLook : PassOf D N d m → PassOf D N d m → Type 0
  KeepsLook old new = (shows board new).looked ≡ (shows board old).looked

  -- the pass has given its fresh row up, and is the same otherwise
  abbrev pub GivesUp : PassOf D N d m → PassOf D N d m → Type 0
  GivesUp old new = shows board new ≡ record (shows board old) { fresh = None }

  -- two passes have each seen the events of the one that had seen more
  abbrev pub Learn : PassOf D N d m → PassOf D N d m → PassOf D N d m → PassOf D N d m → Type 0
  Learn into from into_new from_new = LearnsEvents (shows board into) (shows board from) (shows board into_new) (shows board from_new)

  -- the pass has taken in another one for good
  abbrev pub TakesIn : PassOf D N d m → PassOf D N d m → PassOf D N d m → Type 0
  TakesIn old from new = Absorbs (shows board old) (shows board from) (shows board new)
