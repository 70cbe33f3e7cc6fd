use Rattle.std.proofs.Common.{◌≡◌}
use Rattle.orc_board.specs.declared.replies.PostReply.{PostReply}
use Rattle.orc_team.proofs.Replies.{IsThrough}
use Rattle.orc_stages.specs.Calls.{PostsItems}
use Rattle.orc_stages.proofs.poster.post_items.Given as goal

abbrev pub invariant-loop-index : goal.invariant-loop-index
invariant-loop-index g l = record {
  usable : g.Q.SharedQueue.usable l.queue l.pass;
  agent : g.Q.SharedQueue.agent_of l.queue l.pass ≡ l.poster;
  posted : PostsItems g.Q.SharedQueue l.queue l.lines l.poster l.initial.pass l.pass l.replies.items;
  through : IsThrough (λ (r : PostReply). r.line) l.posters l.poster l.initial.replies.spare l.index l.replies;
}
