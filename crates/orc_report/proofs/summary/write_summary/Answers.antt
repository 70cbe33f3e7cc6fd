use Rattle.std.proofs.Common.{◌≡◌, ◌∙◌, ◌++◌, Some, ap, append_assoc, codes, decimal, length, slice_get, sym, take}
use Rattle.std.specs.List.{flat_map}
use Rattle.orc_report.specs.Summary.{firsts, operations_of, total_line}
use Rattle.orc_report.specs.Totals.{operation_totals, line_of}
use Rattle.orc_report.proofs.Summaries.{lines-more, total-at}
use Rattle.orc_report.proofs.summary.write_summary.Goals as goal

pub loop-place-preserved : goal.loop-place-preserved
loop-place-preserved c =
    let jobs = c.args.jobs.now in
    let ops = firsts (operations_of jobs) in
    let at : slice_get (operation_totals jobs ops) c.loop-place.place ≡ Some (c.total_at.ensures.0, c.total_at.result) =
    rw c.in_ok-totals.ensures at c.total_at.ensures.1 in
    let (op, found, is) = total-at jobs ops c.loop-place.place c.total_at.ensures.0 c.total_at.result at in
    let front = codes "done " ++ decimal (length jobs) ++ codes "\n" in
    c.in_ok-push_total.ensures
    ∙ (ap (λ t. t ++ line_of c.total_at.result) c.loop-place.invariant
    ∙ (ap (λ t. front ++ flat_map (total_line jobs) (take c.loop-place.place ops) ++ line_of t) is
    ∙ (append_assoc front (flat_map (total_line jobs) (take c.loop-place.place ops)) (total_line jobs op)
    ∙ ap (λ t. front ++ t) (sym (lines-more jobs ops c.loop-place.place op found)))))
