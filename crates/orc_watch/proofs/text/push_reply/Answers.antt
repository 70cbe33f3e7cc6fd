use Rattle.std.proofs.Common.{◌∙◌, codes, decimal, refl}
use Rattle.std.proofs.lemmas.Result.{on_ok_weaker}
use Rattle.orc_watch.proofs.Texts.{five, reply_pieces}
use Rattle.orc_watch.proofs.text.push_reply.Goals as goal

pub returns-in-Set : goal.returns-in-Set
returns-in-Set c =
    on_ok_weaker c.writeln.result (λ e. e ∙ reply_pieces _ _ c.args.reply.now _ c.in-Set.is (five (codes "set ") (decimal c.in-Set.left) (codes " ") (decimal c.in-Set.right) (codes "\n")))
    c.writeln.ensures.bytes

pub returns-in-Saw : goal.returns-in-Saw
returns-in-Saw c =
    on_ok_weaker c.writeln-in-Saw.result (λ e. e ∙ reply_pieces _ _ c.args.reply.now _ c.in-Saw.is (five (codes "saw ") (decimal c.in-Saw.left) (codes " ") (decimal c.in-Saw.right) (codes "\n")))
    c.writeln-in-Saw.ensures.bytes

pub returns-in-NoNode : goal.returns-in-NoNode
returns-in-NoNode c =
    on_ok_weaker c.writeln-in-NoNode.result (λ e. e ∙ reply_pieces _ _ c.args.reply.now _ c.in-NoNode.is refl)
    c.writeln-in-NoNode.ensures.bytes

pub returns-in-Spent : goal.returns-in-Spent
returns-in-Spent c =
    on_ok_weaker c.writeln-in-Spent.result (λ e. e ∙ reply_pieces _ _ c.args.reply.now _ c.in-Spent.is refl)
    c.writeln-in-Spent.ensures.bytes
