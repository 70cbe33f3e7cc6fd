use Rattle.std.proofs.Common.{◌∙◌}
use Rattle.std.proofs.lemmas.Result.{on_ok_weaker}
use Rattle.orc_watch.proofs.Texts.{cell_pieces}
use Rattle.orc_watch.proofs.text.push_cell.Goals as goal

pub returns : goal.returns
returns c = on_ok_weaker c.writeln.result (λ e. e ∙ cell_pieces _ c.args.given c.args.reused c.args.linked) c.writeln.ensures.bytes
