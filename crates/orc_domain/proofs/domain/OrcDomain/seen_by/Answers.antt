use Rattle.orc_core.specs.Machine.{new_machine}
use Rattle.orc_machine_board.specs.Laws.Steps.{in_range}
use Rattle.orc_machine_board.specs.Views.{shows}
use Rattle.orc_sound.proofs.ForRuns.{bound_kept, run_sound}
use Rattle.orc_sound.proofs.Journals.{plain_lawful}
use Rattle.orc_sound.specs.Journals.{plain}
use Rattle.orc_domain.specs.Passes.{domain_bounds}
use Rattle.orc_domain.proofs.domain.OrcDomain.seen_by.Goals as goal

pub returns : goal.returns
returns g c =
    let b = domain_bounds c.args.self.now in
    let j = (shows c.args.p.now.pass).journal in
    let l = c.requires.pass.board.keeps.now.lawful.0 in
    let shape = in_range c.args.self.now.board.words.shape.shape in
    let m = plain_lawful (new_machine b) j l in
    record { lawful = l; sound = run_sound b (plain j) shape m; bounded = bound_kept b (plain j) shape m }
