use Rattle.std.proofs.Common.{◌∙◌, refl}
use Rattle.std.proofs.lemmas.Result.{on_ok_weaker}
use Rattle.orc_report.proofs.ReportedReplies.{post_pieces, posted_end}
use Rattle.orc_report.proofs.posts.push_post.Goals as goal

pub returns-in-Posted : goal.returns-in-Posted
returns-in-Posted c = on_ok_weaker c.writeln.result (λ e. e ∙ post_pieces _ c.args.put.now _ c.args.reply.now _ c.in-Posted.is (posted_end _ _)) c.writeln.ensures.bytes

pub returns-in-Rushed : goal.returns-in-Rushed
returns-in-Rushed c = on_ok_weaker c.writeln-in-Rushed.result (λ e. e ∙ post_pieces _ c.args.put.now _ c.args.reply.now _ c.in-Rushed.is refl) c.writeln-in-Rushed.ensures.bytes

pub returns-in-Busy : goal.returns-in-Busy
returns-in-Busy c = on_ok_weaker c.writeln-in-Busy.result (λ e. e ∙ post_pieces _ c.args.put.now _ c.args.reply.now _ c.in-Busy.is refl) c.writeln-in-Busy.ensures.bytes

pub returns-in-NoNode : goal.returns-in-NoNode
returns-in-NoNode c = on_ok_weaker c.writeln-in-NoNode.result (λ e. e ∙ post_pieces _ c.args.put.now _ c.args.reply.now _ c.in-NoNode.is refl) c.writeln-in-NoNode.ensures.bytes

pub returns-in-Positions : goal.returns-in-Positions
returns-in-Positions c = on_ok_weaker c.writeln-in-Positions.result (λ e. e ∙ post_pieces _ c.args.put.now _ c.args.reply.now _ c.in-Positions.is refl) c.writeln-in-Positions.ensures.bytes

pub returns-in-Spent : goal.returns-in-Spent
returns-in-Spent c = on_ok_weaker c.writeln-in-Spent.result (λ e. e ∙ post_pieces _ c.args.put.now _ c.args.reply.now _ c.in-Spent.is refl) c.writeln-in-Spent.ensures.bytes

pub returns-in-Dropped : goal.returns-in-Dropped
returns-in-Dropped c = on_ok_weaker c.writeln-in-Dropped.result (λ e. e ∙ post_pieces _ c.args.put.now _ c.args.reply.now _ c.in-Dropped.is refl) c.writeln-in-Dropped.ensures.bytes

pub returns-in-Unknown : goal.returns-in-Unknown
returns-in-Unknown c = on_ok_weaker c.writeln-in-Unknown.result (λ e. e ∙ post_pieces _ c.args.put.now _ c.args.reply.now _ c.in-Unknown.is refl) c.writeln-in-Unknown.ensures.bytes

pub returns-in-Skipped : goal.returns-in-Skipped
returns-in-Skipped c = on_ok_weaker c.writeln-in-Skipped.result (λ e. e ∙ post_pieces _ c.args.put.now _ c.args.reply.now _ c.in-Skipped.is refl) c.writeln-in-Skipped.ensures.bytes
