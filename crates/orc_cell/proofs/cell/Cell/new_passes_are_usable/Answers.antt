-- Before all events the roots are null.
use Rattle.orc_cell.proofs.Learned.{new_usable}
use Rattle.orc_cell.proofs.cell.Cell.new_passes_are_usable.Goals as goal

pub returns : goal.returns
returns g c =
    let d = c.args.self.now.links in
    new_usable g.L.Links d _ c.args.self.now.made c.requires.pass c.requires.idle (g.met.L.Links.agents_below d _ c.requires.pass).0 c.requires.new
