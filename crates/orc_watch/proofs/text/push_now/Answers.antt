use Rattle.std.proofs.Common.{◌∙◌}
use Rattle.std.proofs.lemmas.Result.{on_ok_weaker}
use Rattle.orc_watch.proofs.Texts.{now_pieces}
use Rattle.orc_watch.proofs.text.push_now.Goals as goal

pub returns : goal.returns
returns c = on_ok_weaker c.writeln.result (λ e. e ∙ now_pieces _ c.args.left c.args.right) c.writeln.ensures.bytes
