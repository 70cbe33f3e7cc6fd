use Rattle.std.proofs.Common.{◌∙◌, ◌++◌, append_assoc, ap, codes, string_bytes, List, ℕ}
use Rattle.std.proofs.lemmas.Result.{on_ok_weaker}
use Rattle.orc_watch.specs.WatchText.{cell_line}
use Rattle.orc_watch.proofs.text.push_rest.Goals as goal

pub returns : goal.returns
returns c =
    let n = c.args.numbers.now in
    let line : List ℕ = cell_line n.given n.reused n.linked in
    on_ok_weaker c.push_cell.result
    (λ e. e ∙ (ap (λ (t : List ℕ). t ++ line) c.in_ok-push_str.ensures.bytes ∙ append_assoc (string_bytes c.args.text.now) (codes "rest\n") line))
    c.push_cell.ensures
