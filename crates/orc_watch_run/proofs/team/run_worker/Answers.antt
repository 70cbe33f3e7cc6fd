use Rattle.std.proofs.Common.{refl}
use Rattle.orc_watch_run.proofs.team.run_worker.Goals as goal

pub returns : goal.returns
returns g c = record {
  agent_is = refl;
  no_caller = c.requires.no_caller;
  is_pass = c.watch_lines.ensures.pass;
  watched = c.watch_lines.ensures.watched;
  in_file_order = c.watch_lines.ensures.in_file_order;
}
