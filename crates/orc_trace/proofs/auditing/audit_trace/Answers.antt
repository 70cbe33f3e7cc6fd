use Rattle.std.proofs.Common.{[], ap, subst, ◌∙◌}
use Rattle.orc_core.specs.Machine.{Machine}
use Rattle.orc_core.specs.Runs.{run}
use Rattle.orc_trace.specs.Audit.{lives_of}
use Rattle.orc_trace.specs.Replay.{BeginsWithSteps}
use Rattle.orc_words.specs.Bounds.{bounds_of}
use Rattle.orc_trace.proofs.auditing.audit_trace.Goals as goal

pub returns-clause-ok : goal.returns-clause-ok
returns-clause-ok c =
    let b = bounds_of c.in-Ok.found.0 in
    let lines = c.in-Ok.found.1.now in
    let seen = c.in_ok-seen.ensures.ok in
    let begins = subst (λ (m : Machine). BeginsWithSteps b m seen.0 [] lines) c.in_ok-state.ensures seen.1 in
    let left = seen.3 ∙ ap (λ (m : Machine). run m seen.0) c.in_ok-state.ensures in
    let lives = c.in_ok-lives.ensures ∙ ap lives_of left in
    (b, lines, seen.0, c.in-Ok.ensures.ok, begins, record { number = seen.2.number; worst = seen.2.worst; lives = lives; leak = seen.2.leak })
