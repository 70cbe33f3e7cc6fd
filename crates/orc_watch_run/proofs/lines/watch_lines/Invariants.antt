use Rattle.orc_watch.specs.declared.reply.WatchReply.{WatchReply}
use Rattle.orc_team.proofs.Replies.{IsThrough}
use Rattle.orc_watch_run.specs.Passes.{IsUsablePassOf}
use Rattle.orc_watch_run.specs.WatchCalls.{Watches}
use Rattle.orc_watch_run.proofs.lines.watch_lines.Given as goal

abbrev pub invariant-loop-index : goal.invariant-loop-index
invariant-loop-index g l = record {
  pass : IsUsablePassOf g.L.Links l.cell.links l.worker l.pass;
  watched : Watches g.L.Links l.cell.links l.initial.pass l.pass l.lines l.worker l.replies.items;
  through : IsThrough (λ (r : WatchReply). r.line) l.workers l.worker l.initial.replies.spare l.index l.replies;
}
