use Rattle.orc_machine_board.specs.Views.{shows}
use Rattle.orc_domain.proofs.Settling.{backlog_none, settle_can, settled_only, settled_pass}
use Rattle.orc_domain.proofs.Ending.{between_of, stage_of}
use Rattle.orc_machine_rest.proofs.TakenIn.{done_later}
use Rattle.orc_domain.proofs.links.OrcDomainLinks.settle.Goals as goal

pub settle-requires-clause-between : goal.settle-requires-clause-between
settle-requires-clause-between g c = settle_can (stage_of c.requires.pass.board) (between_of c.requires.pass) c.requires.idle

pub returns-clause-pass : goal.returns-clause-pass
returns-clause-pass g c = let e = c.settle.ensures in settled_pass c.requires.pass c.requires.idle e.belongs e.between e.agent e.quiet

pub returns-clause-later : goal.returns-clause-later
returns-clause-later g c =
    let p = c.args.p.now in
    done_later (shows p.pass).agent (shows p.pass).journal (shows c.settle.new.p).journal _ c.settle.ensures.slot_0.done

pub returns-clause-nothing : goal.returns-clause-nothing
returns-clause-nothing g c = let e = c.settle.ensures in settled_only c.requires.pass c.requires.idle e.belongs e.between e.agent e.quiet

pub returns-clause-settled : goal.returns-clause-settled
returns-clause-settled g c alone = backlog_none (shows c.settle.new.p).record_is (c.settle.ensures.done alone)
