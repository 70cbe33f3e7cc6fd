use Rattle.std.proofs.Common.{refl, sym, ◌∙◌}
use Rattle.orc_machine_board.specs.Views.{shows}
use Rattle.orc_domain.proofs.Settling.{backlog_none, settle_can, settled_only, settled_pass}
use Rattle.orc_domain.proofs.Ending.{between_of, stage_of}
use Rattle.orc_domain.proofs.domain.OrcDomain.drain.Goals as goal

pub drain-requires-clause-belongs : goal.drain-requires-clause-belongs
drain-requires-clause-belongs g c = c.requires.pass.board

pub drain-requires-clause-between : goal.drain-requires-clause-between
drain-requires-clause-between g c = settle_can (stage_of c.requires.pass.board) (between_of c.requires.pass) c.requires.idle

pub returns-clause-pass : goal.returns-clause-pass
returns-clause-pass g c = let e = c.drain.ensures in settled_pass c.requires.pass c.requires.idle e.belongs e.between e.agent e.quiet

pub returns-clause-later : goal.returns-clause-later
returns-clause-later g c = let adds = c.drain.ensures.drains.adds in (adds.part, sym adds.journal)

pub returns-clause-nothing : goal.returns-clause-nothing
returns-clause-nothing g c = let e = c.drain.ensures in settled_only c.requires.pass c.requires.idle e.belongs e.between e.agent e.quiet

pub returns-clause-settled : goal.returns-clause-settled
returns-clause-settled g c alone = backlog_none (shows c.drain.new.p).record_is (c.drain.ensures.done alone)

pub returns-clause-idle : goal.returns-clause-idle
returns-clause-idle g c =
    let e = c.drain.ensures in
    let only = settled_only c.requires.pass c.requires.idle e.belongs e.between e.agent e.quiet in
    record { slots = only.slots ∙ c.requires.idle.slots; fresh = only.fresh ∙ c.requires.idle.fresh }

pub returns-clause-handovers : goal.returns-clause-handovers
returns-clause-handovers g c = c.drain.ensures.handovers

pub returns-clause-taken_in : goal.returns-clause-taken_in
returns-clause-taken_in g c = c.drain.ensures.taken_in

pub returns-clause-drains : goal.returns-clause-drains
returns-clause-drains g c = c.drain.ensures.drains

pub returns-clause-takes_all : goal.returns-clause-takes_all
returns-clause-takes_all g c = c.drain.ensures.takes_all

pub returns-clause-few : goal.returns-clause-few
returns-clause-few g c = c.drain.ensures.few

pub returns-clause-next : goal.returns-clause-next
returns-clause-next g c = refl
