use Rattle.std.proofs.Common.{◌∙◌, List, ap, sym, take, ℕ}
use Rattle.std.proofs.lemmas.List.{map_more, take_all}
use Rattle.orc_jobs.specs.declared.line.Job.{Job}
use Rattle.orc_report.specs.Summary.{firsts, operations_of}
use Rattle.orc_report.specs.Totals.{operation_totals}
use Rattle.orc_report.proofs.summary.totals_of.Goals as goal

pub loop-op-init : goal.loop-op-init
loop-op-init c = c.new-totals.ensures.empty

pub loop-op-preserved : goal.loop-op-preserved
loop-op-preserved c =
    let jobs = c.args.jobs.now in
    c.in_ok-note_total.ensures (operations_of (take c.loop-op.op-index jobs)) c.loop-op.invariant
    ∙ ap (λ (ops : List Job). operation_totals jobs (firsts ops))
    (sym (map_more (λ (j : Job × ℕ). j.0) jobs c.loop-op.op-index _ c.loop-op-test.true))

pub returns : goal.returns
returns c =
    let jobs = c.args.jobs.now in
    c.loop-op.invariant
    ∙ ap (λ (js : List (Job × ℕ)). operation_totals jobs (firsts (operations_of js))) (take_all c.loop-op.op-index jobs c.loop-op-test.false)
