use Rattle.orc_watch_run.proofs.Known.{entries_below, entries_legal, history_grows}
use Rattle.orc_watch_run.proofs.at_cell.tell_laws.Goals as goal

pub returns : goal.returns
returns g c =
    let d = c.args.cell.now.links in
    let p = c.args.pass.now in
    let there = c.requires.usable.pass in
    record {
      grows = history_grows g.L.Links.agent_of (g.L.Links.events d) (g.met.L.Links.steps_add d);
      below = entries_below (g.L.Links.numbers d) (g.L.Links.agents d) _ _ (g.met.L.Links.allowed d p there) (g.met.L.Links.agents_below d p there).1
          (g.met.L.Links.seen_is d p there);
      legal = entries_legal (g.L.Links.numbers d) _ _ (g.met.L.Links.obeys d p there) (g.met.L.Links.seen_is d p there);
    }
