-- Kinds whose event, if they have one, needs no licence of the discipline.
use Rattle.std.specs.Prelude.{Bool, None, Option, false, true, ℕ, ◌≡◌}
use Rattle.orc_core.specs.Allowed.{may}
use Rattle.orc_core.specs.declared.ops.Op.{Op}
use Rattle.orc_core.specs.declared.ops.Op.TheVariants.{Enroll, LinkCas, LinkStore}
use Rattle.orc_machine_board.specs.Views.{Makes, MachineView}
use Rattle.orc_machine_board.specs.declared.machine.Request.{Request}
use Rattle.orc_words.specs.Bounds.{Bounds}
use Rattle.orc_words.specs.declared.packed.RowLink.{RowLink}

-- neither an enrolment nor a change of a link
abbrev pub is_plain_kind : Op → Bool
is_plain_kind Enroll = false
is_plain_kind (LinkCas place from to) = false
is_plain_kind (LinkStore row link number) = false
is_plain_kind op = true

-- the request of an op that wants no link
abbrev pub asks : Op → Request
asks op = record { op = op; want = None }

-- the request of an op that may want a link
abbrev pub wants : Op → Option RowLink → Request
wants op want = record { op = op; want = want }

-- the record of the pass allows the op
abbrev pub MayDo : {N : Type 0} → Bounds → MachineView N → Op → Type 0
MayDo b s op = may b 0 s.agent op s.record_is ≡ true

-- the pass, which showed s and shows t, made this op, and the answer is n
abbrev pub MakesPlain : {N : Type 0} → Bounds → Op → MachineView N → ℕ → MachineView N → Type 0
MakesPlain b op s n t = Makes b (asks op) None s n t
